use Rattle.std.proofs.Common.{rules}
use Rattle.logic.specs.Models.{every, ◌⊃◌}
use Rattle.rows.specs.Masks.{bit}
use Rattle.rows.specs.RowsOf.{frame_of}
use Rattle.judging.proofs.truth.implies_set.Goals as goal

pub returns : goal.returns
returns c =
    let F = frame_of c.args.rows.now in
    c.worlds_where.ensures (λ x. every F.worlds (λ y. F.above x y ⊃ (bit c.args.left.0 y ⊃ bit c.args.right.0 y))) (λ x b l k. search rules)
