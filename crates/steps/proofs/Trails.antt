-- The open branches by the stacks. Assumes nothing.
use Rattle.std.proofs.Common.{◌≡◌, ℕ, suc, ◌+◌, ◌≤◌, List, [], ◌∷◌, ◌++◌, map, reverse, length, take, Some, refl, ap, ◌∙◌, subst, ap₂, arith, length-append}
use lib.ListN.{length-map}
use Rattle.std.proofs.lemmas.List.{take-append-le, length-take-le}
use Rattle.records.specs.declared.numbers.FormulaNumber.{FormulaNumber}
use Rattle.logic.specs.declared.fact.Fact.{Fact}
use Rattle.logic.specs.declared.terms.FactView.{FactView}
use Rattle.logic.specs.Stored.{stored}
use Rattle.logic.proofs.Facts.{facts_stored}
use Rattle.rules.specs.declared.outcome.Few.{Few}
use Rattle.rules.specs.declared.outcome.Few.TheVariants.{One, Two, Three}
use Rattle.rules.specs.Outcomes.{listed}
use Rattle.steps.specs.declared.waiting.Waiting.{Waiting}
use Rattle.steps.specs.Memory.{waitings, branches, Kept}
use Rattle.steps.specs.Waits.{laid_by, laid_one, laid, added_of}

-- a stored fact is laid
laid_stored : (v : FactView FormulaNumber) → laid_one (stored v) ≡ stored v ∷ []
laid_stored v = ap (λ o. laid_by o (stored v)) (facts_stored.told v)

-- what a premise adds is laid, in order
pub laid_added : (fs : Few FormulaNumber) → laid (added_of fs) ≡ map stored (listed fs)
laid_added (One a) = ap (λ xs. xs ++ []) (laid_stored a)
laid_added (Two a b) = ap₂ (λ xs ys. xs ++ (ys ++ [])) (laid_stored a) (laid_stored b)
laid_added (Three a b c) = ap₂ (λ xs ys. xs ++ ys) (laid_stored a) (ap₂ (λ xs ys. xs ++ ys) (laid_stored b) (laid_stored c))

pub length_laid : (fs : Few FormulaNumber) → length (laid (added_of fs)) ≡ length (listed fs)
length_laid fs = ap length (laid_added fs) ∙ length-map (listed fs) stored

-- facts that are added leave what waits as it is
pub waitings_grown : (room : ℕ) (t u : List Fact) (ws : List Waiting) → Kept room (length t) ws → waitings (t ++ u) ws ≡ waitings t ws
waitings_grown room t u [] k = refl
waitings_grown room t u (w ∷ ws) k = rw (take-append-le w.trail t u k.0)

pub kept_more : (room m n : ℕ) (ws : List Waiting) → m ≤ n → Kept room m ws → Kept room n ws
kept_more room m n [] le k = tt
kept_more room m n (w ∷ ws) le k = (omega (arith, k.0), k.1, k.2)

pub length_waitings : (t : List Fact) (ws : List Waiting) → length (waitings t ws) ≡ length ws
length_waitings t [] = refl
length_waitings t (w ∷ ws) = ap suc (length_waitings (take w.trail t) ws)

-- the latest waiting branch is taken up
module _ (room : ℕ) (t : List Fact) (w : Waiting) (ws rest : List Waiting) (ends : reverse ws ≡ w ∷ reverse rest) (k : Kept room (length t) (reverse ws)) where
  abbrev split : Kept room (length t) (w ∷ reverse rest)
  split = subst (Kept room (length t)) ends k

  pub front_length : length (take w.trail t) ≡ w.trail
  front_length = length-take-le w.trail t split.0

  pub take_up_fits : (u : List Fact) → u ≡ take w.trail t → length u + length (laid w.facts) ≤ room
  take_up_fits u e = omega (arith, ap length e, front_length, split.1)

  abbrev front_kept : Kept room (length (take w.trail t)) (reverse rest)
  front_kept = rw front_length split.2

  pub taken_up : (u : List Fact) → u ≡ take w.trail t ++ laid w.facts → branches u rest (Some w.labels) ≡ waitings t (reverse ws)
  taken_up u e = rw (e, ends, waitings_grown room (take w.trail t) (laid w.facts) (reverse rest) front_kept)

  pub taken_up_kept : (u : List Fact) → u ≡ take w.trail t ++ laid w.facts → Kept room (length u) (reverse rest)
  taken_up_kept u e =
      kept_more room w.trail (length u) (reverse rest) (omega (arith, ap length e, length-append (take w.trail t) (laid w.facts), front_length)) split.2
