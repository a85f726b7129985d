use Rattle.std.proofs.Common.{refl, ◌∙◌}
use Rattle.rows.specs.Masks.{bit}
use Rattle.rows.specs.RowsOf.{frame_of}
use Rattle.judging.proofs.Clauses.{at_ends_same}
use Rattle.judging.proofs.truth.modal_at.Goals as goal

pub returns : goal.returns
returns c =
    let F = frame_of c.args.rows.now in
    let k = c.args.modality in
    let part = bit c.args.part.0 in
    c.holds_at_ends.ensures F.worlds c.ends.ensures.small
    ∙ at_ends_same k F.worlds (bit c.ends.result.0) (F.arrow k c.args.principal.0 c.args.x.0) part part c.ends.ensures.bits (λ w h. refl)
