use Rattle.std.proofs.Common.{◌∙◌, ap₂}
use Rattle.logic.specs.declared.terms.Modality.TheVariants.{Permitted}
use Rattle.logic.specs.Models.{◌⊃◌}
use Rattle.rows.specs.RowsOf.{frame_of}
use Rattle.judging.proofs.Everys.{within_same}
use Rattle.judging.proofs.rules.permits_at.Goals as goal

pub returns : goal.returns
returns c q mq =
    let F = frame_of c.args.rows.now in
    c.implies.ensures ∙ ap₂ ◌⊃◌ c.has.ensures
    (c.within.ensures F.worlds mq.small
    ∙ within_same F.worlds c.args.low.0 c.ends-ends.result.0 q (F.arrow Permitted c.args.principal.0 c.args.w.0) mq c.ends-ends.ensures.bits)
