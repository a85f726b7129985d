-- The first fact of a list that fails a test. Assumes nothing.
use Rattle.std.proofs.Common.{◌≡◌, ℕ, suc, ◌+◌, ◌<◌, ◌≤◌, Bool, true, false, not, cond, ltb, T, List, [], ◌∷◌, map, length, Some, None, Option, sym, refl, ap, ◌∙◌, subst, arith}
use Rattle.std.proofs.lemmas.Bool.{ltb-true, ltb-false}
use Rattle.std.specs.List.{AllByRecursion, position_or_len}
use Rattle.std.specs.Option.{option_map}
use Rattle.records.specs.declared.numbers.FactPosition.{FactPosition}
use Rattle.records.specs.declared.numbers.FormulaNumber.{FormulaNumber}
use Rattle.logic.specs.declared.fact.Fact.{Fact}
use Rattle.logic.specs.declared.terms.FactView.{FactView}
use Rattle.logic.specs.Facts.{fact_map, facts_map}
use Rattle.logic.specs.Models.{Formula}
use Rattle.logic.specs.Stored.{stored}
use Rattle.models.specs.Firsts.{FirstNot, FirstNotOf}

-- as many elements as pass before the first that fails, and one that passes before them
more : (n : ℕ) → suc n ≡ 1 + n
more n = omega arith

module _ {X : Type 0} (p : X → Bool) where
  -- the place of the first element that fails
  abbrev pub place : List X → ℕ
  place xs = position_or_len (λ x. not (p x)) xs

  -- it is the first, if there is one
  fails_at : (xs : List X) → place xs < length xs → FirstNot p xs (place xs)
  fails_at [] l = absurd (omega arith)
  fails_at (x ∷ xs) l = go (p x) refl l (fails_at xs)
    where
      go : (b : Bool) → p x ≡ b → cond (not (not b)) (1 + place xs) 0 < suc (length xs) → (place xs < length xs → FirstNot p xs (place xs))
          → FirstNot p (x ∷ xs) (cond (not (not b)) (1 + place xs) 0)
      go true e l rest = subst (FirstNot p (x ∷ xs)) (more (place xs)) (subst (λ (b : Bool). T b) (sym e) tt, rest (omega (arith, l)))
      go false e l rest = subst (λ (b : Bool). T (not b)) (sym e) tt

  -- all pass, if there is none
  pass_all : (xs : List X) → length xs ≤ place xs → AllByRecursion (λ x. T (p x)) xs
  pass_all [] l = tt
  pass_all (x ∷ xs) l = go (p x) refl l (pass_all xs)
    where
      go : (b : Bool) → p x ≡ b → suc (length xs) ≤ cond (not (not b)) (1 + place xs) 0 → (length xs ≤ place xs → AllByRecursion (λ x. T (p x)) xs)
          → AllByRecursion (λ x. T (p x)) (x ∷ xs)
      go true e l rest = (subst (λ (b : Bool). T b) (sym e) tt, rest (omega (arith, l)))
      go false e l rest = absurd (omega (arith, l))

  -- the search for it
  pub first_of : (xs : List X) → FirstNotOf p xs (option_map (λ i. record { 0 = i }) (cond (ltb (place xs) (length xs)) (Some (place xs)) None))
  first_of xs = go (ltb (place xs) (length xs)) refl
    where
      go : (b : Bool) → ltb (place xs) (length xs) ≡ b → FirstNotOf p xs (option_map (λ i. record { 0 = i }) (cond b (Some (place xs)) None))
      go true e = fails_at xs (ltb-true (place xs) (length xs) e)
      go false e = pass_all xs (ltb-false (place xs) (length xs) e)

-- as many facts
length_facts : (t : FormulaNumber → Formula) (fs : List (FactView FormulaNumber)) → length (map stored fs) ≡ length (facts_map t fs)
length_facts t [] = refl
length_facts t (f ∷ fs) = ap suc (length_facts t fs)

-- the place that a search finds, as the answer tells it
abbrev pub found : {X : Type 0} → (X → Bool) → List X → Option ℕ
found p xs = cond (ltb (place p xs) (length xs)) (Some (place p xs)) None

-- a place as the position of a fact
abbrev pub position : ℕ → FactPosition
position i = record { 0 = i }

module _ (t : FormulaNumber → Formula) (seen : Fact → Bool) (p : FactView Formula → Bool) (same : (v : FactView FormulaNumber) → seen (stored v) ≡ p (fact_map t v)) where
  -- the same place among stored facts
  same_place : (fs : List (FactView FormulaNumber)) → place seen (map stored fs) ≡ place p (facts_map t fs)
  same_place [] = refl
  same_place (v ∷ fs) = λ j. cond (not (not (same v j))) (1 + same_place fs j) 0

  -- what is found among stored facts is the first that fails
  pub first_fact : (fs : List (FactView FormulaNumber)) (xs : List Fact) (r : Option ℕ) → xs ≡ map stored fs → r ≡ found seen xs → FirstNotOf p (facts_map t fs) (option_map position r)
  first_fact fs xs r e is =
      subst (λ (o : Option ℕ). FirstNotOf p (facts_map t fs) (option_map position o))
      (sym (is ∙ ap (found seen) e ∙ (λ j. cond (ltb (same_place fs j) (length_facts t fs j)) (Some (same_place fs j)) None)))
      (first_of p (facts_map t fs))
