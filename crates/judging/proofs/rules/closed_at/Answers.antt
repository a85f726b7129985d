use Rattle.std.proofs.Common.{◌∙◌, ap₂}
use Rattle.logic.specs.Models.{◌⊃◌}
use Rattle.rows.specs.RowsOf.{frame_of}
use Rattle.judging.proofs.Everys.{within_same}
use Rattle.judging.proofs.rules.closed_at.Goals as goal

pub returns : goal.returns
returns c q mq =
    let F = frame_of c.args.rows.now in
    c.implies.ensures ∙ ap₂ ◌⊃◌ c.has.ensures
    (c.within.ensures F.worlds c.above.ensures.small ∙ within_same F.worlds c.above.result.0 c.args.into.0 (F.above c.args.z.0) q c.above.ensures mq.bits)
