-- The first element of a list that fails a test. Assumes nothing.
use Rattle.std.specs.Prelude.{ℕ, zero, suc, Bool, not, T, List, [], ◌∷◌, Some, None, Option}
use Rattle.std.specs.List.{AllByRecursion}
use Rattle.records.specs.declared.numbers.FactPosition.{FactPosition}

-- the element at a position fails, and all before it pass
abbrev pub FirstNot : {X : Type 0} → (X → Bool) → List X → ℕ → Type 0
FirstNot p [] i = ⊥
FirstNot p (x ∷ xs) zero = T (not (p x))
FirstNot p (x ∷ xs) (suc i) = T (p x) × FirstNot p xs i

-- none where all elements pass, else the position of the first that fails
abbrev pub FirstNotOf : {X : Type 0} → (X → Bool) → List X → Option FactPosition → Type 0
FirstNotOf p xs None = AllByRecursion (λ x. T (p x)) xs
FirstNotOf p xs (Some i) = FirstNot p xs i.0
