use Rattle.std.proofs.Common.{◌≡◌, ℕ, ◌^◌, ◌<◌, sym, ◌∙◌, subst, lt_of_le_of_lt}
use lib.Bits.{and_le_l}
use Rattle.logic.specs.Models.{every, ◌⊃◌}
use Rattle.rows.specs.Masks.{bit}
use Rattle.rows.specs.RowsOf.{frame_of}
use Rattle.judging.proofs.Clauses.{implies_at}
use Rattle.judging.proofs.truth.implies_at.Goals as goal

pub returns : goal.returns
returns c =
    let F = frame_of c.args.rows.now in
    let left = c.args.left.0 in
    let right = c.args.right.0 in
    let up = c.above.result.0 in
    let e = c.bitand.ensures in
    let small : c.bitand.result.0 < 2 ^ F.worlds =
    subst (λ (m : ℕ). m < 2 ^ F.worlds) (sym e) (lt_of_le_of_lt (and_le_l up left) c.above.ensures.small) in
    subst (λ (m : ℕ). c.within.result ≡ every F.worlds (λ y. bit m y ⊃ bit right y)) e (c.within.ensures F.worlds small)
    ∙ implies_at F.worlds up left right (F.above c.args.x.0) c.above.ensures
