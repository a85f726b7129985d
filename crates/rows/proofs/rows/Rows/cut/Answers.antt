use Rattle.std.proofs.Common.{◌≡◌, ℕ, min, true, sym, subst, arith}
use Rattle.rows.specs.Masks.{bit, Mask}
use Rattle.rows.proofs.Bits.{mask_cut}
use Rattle.rows.proofs.rows.Rows.cut.Goals as goal

pub returns : goal.returns
returns c =
    let n = c.args.self.now.worlds in
    let s = c.args.set.0 in
    let e : min n 32 ≡ n = omega arith in
    subst (λ (m : ℕ). Mask n m (bit s)) (sym c.bitand.ensures)
    (mask_cut n s c.all_worlds.result.0
    (subst (λ (k : ℕ). Mask k c.all_worlds.result.0 (λ _. true)) e c.all_worlds.ensures))
