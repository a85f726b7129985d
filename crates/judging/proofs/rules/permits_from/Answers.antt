use Rattle.std.proofs.Common.{rules, ◌∙◌}
use Rattle.logic.specs.Models.{◌⊃◌}
use Rattle.rows.specs.Masks.{bit}
use Rattle.rows.specs.RowsOf.{frame_of}
use Rattle.rows.proofs.Ranges.{every_from_all}
use Rattle.judging.specs.Tests.{permits_all}
use Rattle.judging.proofs.Everys.{over_same}
use Rattle.judging.proofs.rules.permits_from.Goals as goal

pub returns : goal.returns
returns c p q mp mq =
    let F = frame_of c.args.rows.now in
    let A = c.args.principal.0 in
    let up = bit c.args.up.0 in
    every_from_all F.worlds (λ w. up w ⊃ permits_all F A w q) c.worlds.ensures.count _ _ _ c.all.ensures.ran (λ x b f k. search (rules, mq))
    ∙ over_same F.worlds up p (λ w. permits_all F A w q) mp.bits
