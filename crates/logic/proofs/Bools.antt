-- What the tests say in plain words. Assumes nothing.
use Rattle.std.proofs.Common.{ℕ, zero, suc, ◌<◌, Bool, not, ◌&&◌, ◌||◌, T, ◌⊎◌, ◌↔◌, List, [], ◌∷◌, arith}
use Rattle.std.specs.List.{AllByRecursion}
use Rattle.logic.specs.Models.{every, any, ◌⊃◌}
use Rattle.logic.specs.Facts.{Exists}

-- both pass
pub T_and : (a b : Bool) → T (a && b) ↔ (T a × T b)
T_and a b = grind arith

-- one of two passes
pub T_or : (a b : Bool) → T (a || b) ↔ (T a ⊎ T b)
T_or a b = grind arith

-- if one passes, then the other
pub T_if : (a b : Bool) → T (a ⊃ b) ↔ (T a → T b)
T_if a b = grind arith

-- it does not pass
pub T_not : (b : Bool) → T (not b) ↔ (T b → ⊥)
T_not b = grind arith

-- a test passes or fails
pub T_cases : (b : Bool) → T b ⊎ T (not b)
T_cases b = grind arith

-- it passes at each number below n
pub T_every : (n : ℕ) (p : ℕ → Bool) → T (every n p) ↔ ((y : ℕ) → y < n → T (p y))
T_every zero p = (λ t y h. absurd (omega arith), λ f. tt)
T_every (suc n) p = (λ t y h. grind (arith, T_and, T_every n p), λ f. grind (arith, T_and, T_every n p))

-- it passes at some number below n
pub T_any : (n : ℕ) (p : ℕ → Bool) → T (any n p) ↔ ((y : ℕ) × (y < n) × T (p y))
T_any zero p = (λ t. absurd t, λ f. absurd (omega arith))
T_any (suc n) p = (λ t. grind (arith, T_or, T_any n p), λ f. grind (arith, T_or, T_any n p))

-- what fails where a joint test fails
pub not_and : (a b : Bool) → T (not (a && b)) → T (not a) ⊎ T (not b)
not_and a b t = grind arith

-- .. and neither of two passes
pub not_or : (a b : Bool) → T (not (a || b)) → T (not a) × T (not b)
not_or a b t = grind arith

-- .. and the first passes, the second does not
pub not_if : (a b : Bool) → T (not (a ⊃ b)) → T a × T (not b)
not_if a b t = grind arith

-- .. and somewhere it does not pass
pub not_every : (n : ℕ) (p : ℕ → Bool) → T (not (every n p)) → (y : ℕ) × (y < n) × T (not (p y))
not_every zero p t = absurd t
not_every (suc n) p t = grind (arith, not_and, not_every n p)

-- the tests of which all must pass, one by one
pub and_three : (a b c : Bool) → T (a && b && c) → T a × T b × T c
and_three a b c t = grind arith

-- not every element passes: some element fails
pub some_fails : {X : Type 0} (p : X → Bool) (xs : List X) → (AllByRecursion (λ x. T (p x)) xs → ⊥) → Exists (λ x. T (not (p x))) xs
some_fails p [] h = h tt
some_fails p (x ∷ xs) h = grind (arith, T_cases (p x), some_fails p xs)

-- .. and the other way
pub not_all : {X : Type 0} (p : X → Bool) (xs : List X) → Exists (λ x. T (not (p x))) xs → AllByRecursion (λ x. T (p x)) xs → ⊥
not_all p [] s a = s
not_all p (x ∷ xs) s a = grind (arith, T_not (p x), not_all p xs)

-- if a then b: a fails or b passes
pub T_either : (a b : Bool) → (T a → T b) ↔ (T (not a) ⊎ T b)
T_either a b = grind arith
