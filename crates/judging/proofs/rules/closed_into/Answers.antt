use Rattle.std.proofs.Common.{rules, ◌∙◌}
use Rattle.logic.specs.Models.{◌⊃◌}
use Rattle.rows.specs.Masks.{bit}
use Rattle.rows.specs.RowsOf.{frame_of}
use Rattle.rows.proofs.Ranges.{every_from_all}
use Rattle.judging.specs.Tests.{all_above}
use Rattle.judging.proofs.Everys.{over_same}
use Rattle.judging.proofs.rules.closed_into.Goals as goal

pub returns : goal.returns
returns c p q mp mq =
    let F = frame_of c.args.rows.now in
    let from = bit c.args.from.0 in
    every_from_all F.worlds (λ z. from z ⊃ all_above F z q) c.worlds.ensures.count _ _ _ c.all.ensures.ran (λ x b f k. search (rules, mq))
    ∙ over_same F.worlds from p (λ z. all_above F z q) mp.bits
