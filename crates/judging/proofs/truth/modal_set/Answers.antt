use Rattle.std.proofs.Common.{rules}
use Rattle.logic.specs.Models.{at_ends}
use Rattle.rows.specs.Masks.{bit}
use Rattle.rows.specs.RowsOf.{frame_of}
use Rattle.judging.proofs.truth.modal_set.Goals as goal

pub returns-in-Says : goal.returns-in-Says
returns-in-Says c =
    let F = frame_of c.args.rows.now in
    let k = c.args.modality in
    c.worlds_where-in-Says.ensures (λ x. at_ends k F.worlds (F.arrow k c.args.principal.0 x) (bit c.args.part.0)) (λ x b l h. search rules)

pub returns-in-Permitted : goal.returns-in-Permitted
returns-in-Permitted c =
    let F = frame_of c.args.rows.now in
    let k = c.args.modality in
    c.worlds_where.ensures (λ x. at_ends k F.worlds (F.arrow k c.args.principal.0 x) (bit c.args.part.0)) (λ x b l h. search rules)
