-- A branch that waits, as it lies in a lent slice, and its numbers. Assumes nothing.
use Rattle.std.specs.Prelude.{◌≡◌, ℕ, ◌↔◌, List, [], ◌∷◌, ◌++◌, Some, None, Option}
use Rattle.std.specs.List.{AllByRecursion}
use Rattle.records.specs.declared.numbers.FormulaNumber.{FormulaNumber}
use Rattle.logic.specs.declared.fact.Fact.{Fact}
use Rattle.logic.specs.declared.terms.FactView.{FactView}
use Rattle.logic.specs.Stored.{stored, view_of, no_fact, fact_numbers}
use Rattle.rules.specs.declared.outcome.Few.{Few}
use Rattle.rules.specs.declared.outcome.Few.TheVariants.{One, Two, Three}
use Rattle.steps.specs.declared.waiting.Added.{Added}
use Rattle.steps.specs.declared.waiting.Waiting.{Waiting}

-- the facts of a premise in three places
abbrev pub added_of : Few FormulaNumber → Added
added_of (One a) = record { first = stored a; second = no_fact; third = no_fact }
added_of (Two a b) = record { first = stored a; second = stored b; third = no_fact }
added_of (Three a b c) = record { first = stored a; second = stored b; third = stored c }

-- a place that says something is laid on the trail, a blank one is not
abbrev pub laid_by : Option (FactView FormulaNumber) → Fact → List Fact
laid_by None f = []
laid_by (Some v) f = f ∷ []

abbrev pub laid_one : Fact → List Fact
laid_one f = laid_by (view_of f) f

-- the facts that are laid on the trail
abbrev pub laid : Added → List Fact
laid a = laid_one a.first ++ (laid_one a.second ++ laid_one a.third)

-- what an unused place holds
abbrev pub no_waiting : Waiting
no_waiting = record { trail = 0; labels = 0; facts = record { first = no_fact; second = no_fact; third = no_fact } }

-- the numbers of a waiting branch: trail length, label count, and those of its three facts
abbrev pub waiting_numbers : Waiting → List ℕ
waiting_numbers w = w.trail ∷ w.labels ∷ (fact_numbers w.facts.first ++ (fact_numbers w.facts.second ++ fact_numbers w.facts.third))

-- the blank one is the one whose numbers are all 0
abbrev pub BlankIsZero : Type 0
BlankIsZero = (w : Waiting) → (w ≡ no_waiting) ↔ AllByRecursion (λ n. n ≡ 0) (waiting_numbers w)
