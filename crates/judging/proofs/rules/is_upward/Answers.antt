use Rattle.rows.specs.RowsOf.{frame_of, model_of}
use Rattle.judging.specs.Tests.{closed}
use Rattle.judging.proofs.Everys.{tells_at, decides_upward}
use Rattle.judging.proofs.rules.is_upward.Goals as goal

pub returns : goal.returns
returns c =
    let r = c.args.rows.now in
    let F = frame_of r in
    let q = (model_of r).row c.args.atom.0 in
    tells_at c.closed_into.result (closed F q q) (c.closed_into.ensures q q c.atom-row.ensures c.atom-row.ensures) (decides_upward F q)
