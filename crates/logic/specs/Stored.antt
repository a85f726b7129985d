-- A fact as it lies in lent slices: what it says, and its numbers. Assumes nothing.
use Rattle.std.specs.Prelude.{◌≡◌, ℕ, ◌↔◌, List, [], ◌∷◌, Some, None, Option}
use Rattle.std.specs.List.{AllByRecursion}
use Rattle.records.specs.declared.numbers.FormulaNumber.{FormulaNumber}
use Rattle.records.specs.declared.numbers.Label.{Label}
use Rattle.records.specs.declared.numbers.Principal.{Principal}
use Rattle.logic.specs.declared.terms.Link.TheVariants.{Order, Arrow}
use Rattle.logic.specs.declared.terms.FactView.{FactView}
use Rattle.logic.specs.declared.terms.FactView.TheVariants.{Left, Right, Linked}
use Rattle.logic.specs.declared.fact.FactSort.{FactSort}
use Rattle.logic.specs.declared.fact.FactSort.TheVariants.{Blank, Left as LeftSort, Right as RightSort, Order as OrderSort, Arrow as ArrowSort}
use Rattle.logic.specs.declared.fact.Fact.{Fact}
use Rattle.logic.specs.Modalities.{modality_number}

-- formula f at label x
abbrev pub stored_formula : FactSort → Label → FormulaNumber → Fact
stored_formula s x f = record { sort = s; principal = record { 0 = 0 }; x = x; y = record { 0 = 0 }; formula = f }

-- a link from label x to label y
abbrev pub stored_link : FactSort → Principal → Label → Label → Fact
stored_link s A x y = record { sort = s; principal = A; x = x; y = y; formula = record { 0 = 0 } }

-- the fact that says this
abbrev pub stored : FactView FormulaNumber → Fact
stored (Left x f) = stored_formula LeftSort x f
stored (Right x f) = stored_formula RightSort x f
stored (Linked (Order x y)) = stored_link OrderSort (record { 0 = 0 }) x y
stored (Linked (Arrow k A x y)) = stored_link (ArrowSort k) A x y

-- what a fact of this sort says, by its numbers
abbrev pub says_of : FactSort → Fact → Option (FactView FormulaNumber)
says_of Blank f = None
says_of LeftSort f = Some (Left f.x f.formula)
says_of RightSort f = Some (Right f.x f.formula)
says_of OrderSort f = Some (Linked (Order f.x f.y))
says_of (ArrowSort k) f = Some (Linked (Arrow k f.principal f.x f.y))

-- what a fact says, if it is one
abbrev pub view_of : Fact → Option (FactView FormulaNumber)
view_of f = says_of f.sort f

-- what an unused place holds
abbrev pub no_fact : Fact
no_fact = record { sort = Blank; principal = record { 0 = 0 }; x = record { 0 = 0 }; y = record { 0 = 0 }; formula = record { 0 = 0 } }

-- the number of a sort
abbrev pub sort_number : FactSort → ℕ
sort_number Blank = 0
sort_number LeftSort = 11
sort_number RightSort = 12
sort_number OrderSort = 13
sort_number (ArrowSort k) = 14

-- the number of an arrow's modality, and 0 of any other sort
abbrev pub arrow_number : FactSort → ℕ
arrow_number Blank = 0
arrow_number LeftSort = 0
arrow_number RightSort = 0
arrow_number OrderSort = 0
arrow_number (ArrowSort k) = modality_number k

-- the numbers of a fact: sort, modality, principal, labels, formula
abbrev pub fact_numbers : Fact → List ℕ
fact_numbers f = sort_number f.sort ∷ arrow_number f.sort ∷ f.principal.0 ∷ f.x.0 ∷ f.y.0 ∷ f.formula.0 ∷ []

-- a stored fact says what was stored; only the sort `Blank` says nothing; the blank fact is the one whose numbers are all 0
pub record FactsStored : Type 0 where
  pub told : (v : FactView FormulaNumber) → view_of (stored v) ≡ Some v
  pub untold : (f : Fact) → (view_of f ≡ None) ↔ (f.sort ≡ Blank)
  pub zeros : (f : Fact) → (f ≡ no_fact) ↔ AllByRecursion (λ n. n ≡ 0) (fact_numbers f)
