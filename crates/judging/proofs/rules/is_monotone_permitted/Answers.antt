use Rattle.std.proofs.Common.{rules}
use Rattle.logic.specs.Models.{every}
use Rattle.rows.specs.RowsOf.{frame_of}
use Rattle.rows.proofs.Ranges.{every_from_all}
use Rattle.judging.specs.Tests.{allows}
use Rattle.judging.proofs.Everys.{tells_at, decides_permitted}
use Rattle.judging.proofs.rules.is_monotone_permitted.Goals as goal

pub returns : goal.returns
returns c =
    let F = frame_of c.args.rows.now in
    let p = allows F c.args.principal.0 in
    tells_at c.all.result (every F.worlds p) (every_from_all F.worlds p c.worlds.ensures.count _ _ _ c.all.ensures.ran (λ x b q k. search rules))
    (decides_permitted F c.args.principal.0)
