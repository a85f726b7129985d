-- Stored facts. Assumes nothing.
use Rattle.std.proofs.Common.{◌≡◌, ◌↔◌, Some, None, refl, arith}
use Rattle.std.specs.List.{AllByRecursion}
use Rattle.records.specs.declared.numbers.FormulaNumber.{FormulaNumber}
use Rattle.logic.specs.declared.terms.FactView.{FactView}
use Rattle.logic.specs.declared.fact.FactSort.{FactSort}
use Rattle.logic.specs.declared.fact.FactSort.TheVariants.{Blank}
use Rattle.logic.specs.declared.fact.Fact.{Fact}
use Rattle.logic.specs.Stored.{stored, says_of, view_of, no_fact, sort_number, fact_numbers, FactsStored}

-- a stored fact says what was stored
told : (v : FactView FormulaNumber) → view_of (stored v) ≡ Some v
told v = grind arith

-- only the sort `Blank` says nothing
silent : (s : FactSort) (f : Fact) → says_of s f ≡ None → s ≡ Blank
silent s f e = grind arith

-- the same of a fact
untold : (f : Fact) → (view_of f ≡ None) ↔ (f.sort ≡ Blank)
untold f = grind (arith, silent f.sort f)

-- only the sort `Blank` has the number 0
no_sort : (s : FactSort) → sort_number s ≡ 0 → s ≡ Blank
no_sort s e = grind arith

-- of the sort `Blank` and with no number but 0, it is the blank one
blank_by : (f : Fact) → f.sort ≡ Blank → f.principal.0 ≡ 0 → f.x.0 ≡ 0 → f.y.0 ≡ 0 → f.formula.0 ≡ 0 → f ≡ no_fact
blank_by f s a x y g = grind arith

-- the blank fact is the one whose numbers are all 0
zeros : (f : Fact) → (f ≡ no_fact) ↔ AllByRecursion (λ n. n ≡ 0) (fact_numbers f)
zeros f = (
  λ e. rw e (refl, (refl, (refl, (refl, (refl, (refl, tt)))))),
  λ h. blank_by f (no_sort f.sort h.0) h.1.1.0 h.1.1.1.0 h.1.1.1.1.0 h.1.1.1.1.1.0,
)

pub facts_stored : FactsStored
facts_stored = record { told = told; untold = untold; zeros = zeros }
