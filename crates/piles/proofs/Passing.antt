-- When a test passes. Assumes nothing.
use Rattle.std.proofs.Common.{◌≡◌, Bool, true, false, T, refl, sym, subst}

-- a test that is true passes, and the other way
pub T_true : (b : Bool) → b ≡ true → T b
T_true b e = subst (λ (c : Bool). T c) (sym e) tt

pub true_T : (b : Bool) → T b → b ≡ true
true_T true t = refl
true_T false t = absurd t

-- two tests are the same where one passes exactly if the other does
pub same_true : (b : Bool) → T b → true ≡ b
same_true b t = sym (true_T b t)

pub same_false : (b : Bool) → (T b → ⊥) → false ≡ b
same_false true h = absurd (h tt)
same_false false h = refl
