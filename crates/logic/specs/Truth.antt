-- What is shown of truth at a world, of sequents and of modality numbers, as statements. Assumes nothing.
use Rattle.std.specs.Prelude.{◌≡◌, ℕ, ◌<◌, not, T, ◌⊎◌, ◌↔◌, Some}
use Rattle.std.specs.List.{AllByRecursion}
use Rattle.logic.specs.declared.terms.Modality.{Modality}
use Rattle.logic.specs.declared.terms.Modality.TheVariants.{Permitted}
use Rattle.logic.specs.declared.terms.Link.{Link}
use Rattle.logic.specs.declared.terms.Link.TheVariants.{Order, Arrow}
use Rattle.logic.specs.declared.terms.FactView.{FactView}
use Rattle.logic.specs.declared.terms.FactView.TheVariants.{Left, Right, Linked}
use Rattle.logic.specs.Modalities.{modality_number, numbered_modality}
use Rattle.logic.specs.Models.{Formula, Model, holds, atom, falsity, and, or, implies, modal}
use Rattle.logic.specs.ModelRules.{Each, Upward, Keeps, universal}
use Rattle.logic.specs.Facts.{Sequent, Holds, Fails, Principals}

-- truth at a world x of a model, sign by sign
pub record Clauses (m : Model) : Type 0 where
  -- the atom's row has x
  pub of_atom : (a x : ℕ) → T (holds m (atom a) x) ↔ T (m.row a x)
  -- never
  pub of_falsity : (x : ℕ) → T (holds m falsity x) ↔ ⊥
  -- both hold
  pub of_and : (f g : Formula) (x : ℕ) → T (holds m (and f g) x) ↔ (T (holds m f x) × T (holds m g x))
  -- one of them holds
  pub of_or : (f g : Formula) (x : ℕ) → T (holds m (or f g) x) ↔ (T (holds m f x) ⊎ T (holds m g x))
  -- at every world above x, f fails or g holds
  pub of_implies : (f g : Formula) (x : ℕ) → T (holds m (implies f g) x) ↔ Each m.frame (λ y. T (m.frame.above x y) → T (not (holds m f y)) ⊎ T (holds m g y))
  -- says, controls, ratified: f holds at every end of an arrow from x
  pub of_universal : (k : Modality) → T (universal k) → (A : ℕ) (f : Formula) (x : ℕ) → T (holds m (modal k A f) x) ↔ Each m.frame (λ y. T (m.frame.arrow k A x y) → T (holds m f y))
  -- permitted: f holds at some end of an arrow from x
  pub of_permitted : (A : ℕ) (f : Formula) (x : ℕ) → T (holds m (modal Permitted A f) x) ↔ ((y : ℕ) × (y < m.frame.worlds) × T (m.frame.arrow Permitted A x y) × T (holds m f y))

-- truth reads so in every model
abbrev pub TruthReads : Type 0
TruthReads = (m : Model) → Clauses m

-- a formula that holds at a world holds at every world above it
abbrev pub Persistence : Type 0
Persistence = (P : ℕ) (m : Model) → Keeps P m → (f : Formula) → Principals P f → Upward m.frame (holds m f)

-- the labels of a link are below n
abbrev pub LinkLabels : ℕ → Link → Type 0
LinkLabels n (Order x y) = (x.0 < n) × (y.0 < n)
LinkLabels n (Arrow k A x y) = (x.0 < n) × (y.0 < n)

-- the labels of a fact are below n
abbrev pub FactLabels : ℕ → FactView Formula → Type 0
FactLabels n (Left x f) = x.0 < n
FactLabels n (Right x f) = x.0 < n
FactLabels n (Linked l) = LinkLabels n l

-- the facts of a sequent use only its own labels
abbrev pub Labelled : Sequent → Type 0
Labelled s = AllByRecursion (FactLabels s.labels) s.facts

-- a sequent never both holds and fails in a model; one that uses only its own labels does one of the two
pub record ExactlyOne : Type 0 where
  pub never_both : (m : Model) (s : Sequent) → Holds m s → Fails m s → ⊥
  pub one : (m : Model) (s : Sequent) → Labelled s → Holds m s ⊎ Fails m s

-- each modality is the one that its number names, and no other number names it
pub record NumbersName : Type 0 where
  pub named : (k : Modality) → numbered_modality (modality_number k) ≡ Some k
  pub only : (n : ℕ) (k : Modality) → numbered_modality n ≡ Some k → modality_number k ≡ n
