use Rattle.std.proofs.Common.{rules, ◌∙◌}
use Rattle.logic.specs.Models.{◌⊃◌}
use Rattle.rows.specs.Masks.{bit}
use Rattle.rows.specs.RowsOf.{frame_of}
use Rattle.rows.proofs.Ranges.{every_from_all}
use Rattle.judging.specs.Tests.{closed}
use Rattle.judging.proofs.Everys.{over_same}
use Rattle.judging.proofs.rules.leads_into.Goals as goal

pub returns : goal.returns
returns c p q mp mq =
    let F = frame_of c.args.rows.now in
    let e = F.arrow c.args.modality c.args.principal.0 in
    let up = bit c.args.up.0 in
    every_from_all F.worlds (λ y. up y ⊃ closed F (e y) q) c.worlds.ensures.count _ _ _ c.all.ensures.ran (λ x b f k. search (rules, mq))
    ∙ over_same F.worlds up p (λ y. closed F (e y) q) mp.bits
