-- Facts about labels, sequents, and when a sequent holds or fails in a model. Assumes nothing.
use Rattle.std.specs.Prelude.{ℕ, ◌<◌, Bool, not, T, ◌⊎◌, List, [], ◌∷◌}
use Rattle.std.specs.List.{AllByRecursion}
use Rattle.records.specs.declared.numbers.Label.{Label}
use Rattle.records.specs.declared.numbers.World.{World}
use Rattle.logic.specs.declared.terms.Link.{Link}
use Rattle.logic.specs.declared.terms.Link.TheVariants.{Order, Arrow}
use Rattle.logic.specs.declared.terms.FactView.{FactView}
use Rattle.logic.specs.declared.terms.FactView.TheVariants.{Left, Right, Linked}
use Rattle.logic.specs.Models.{Formula, Frame, Model, holds, atom, falsity, and, or, implies, modal}

-- the same fact over other formulas
abbrev pub fact_map : {F G : Type 0} → (F → G) → FactView F → FactView G
fact_map t (Left x f) = Left x (t f)
fact_map t (Right x f) = Right x (t f)
fact_map t (Linked l) = Linked l

-- the same facts over other formulas
abbrev pub facts_map : {F G : Type 0} → (F → G) → List (FactView F) → List (FactView G)
facts_map t [] = []
facts_map t (f ∷ fs) = fact_map t f ∷ facts_map t fs

-- a sequent: labels 0 to labels − 1, and its facts by position
pub record Sequent : Type 0 where
  pub labels : ℕ
  pub facts : List (FactView Formula)

-- where each label stands: the only way from a label to a world
abbrev pub Standing : Type 0
Standing = Label → World

-- the labels below n stand at worlds of the frame
abbrev pub Placed : Frame → ℕ → Standing → Type 0
Placed F n σ = (x : Label) → x.0 < n → (σ x).0 < F.worlds

-- an order or an arrow is in the frame, under a standing
abbrev pub linked : Frame → Standing → Link → Bool
linked F σ (Order x y) = F.above (σ x).0 (σ y).0
linked F σ (Arrow k A x y) = F.arrow k A.0 (σ x).0 (σ y).0

-- a fact falsifies under a standing: a left formula, an order or an arrow that holds, a right formula that fails
abbrev pub falsifies : Model → Standing → FactView Formula → Bool
falsifies m σ (Left x f) = holds m f (σ x).0
falsifies m σ (Right x f) = not (holds m f (σ x).0)
falsifies m σ (Linked l) = linked m.frame σ l

-- some element of a list
abbrev pub Exists : {X : Type 0} → (X → Type 0) → List X → Type 0
Exists P [] = ⊥
Exists P (x ∷ xs) = P x ⊎ Exists P xs

-- the sequent holds: under every standing of its labels some order, arrow or left formula fails or some right formula holds
abbrev pub Holds : Model → Sequent → Type 0
Holds m s = (σ : Standing) → Placed m.frame s.labels σ → Exists (λ fact. T (not (falsifies m σ fact))) s.facts

-- it fails under a standing of its labels: every fact falsifies
pub record FailsUnder (m : Model) (s : Sequent) (σ : Standing) : Type 0 where
  pub placed : Placed m.frame s.labels σ
  pub falsify : AllByRecursion (λ fact. T (falsifies m σ fact)) s.facts

-- it fails: under some standing
abbrev pub Fails : Model → Sequent → Type 0
Fails m s = (σ : Standing) × FailsUnder m s σ

-- every principal of a formula is below P
abbrev pub Principals : ℕ → Formula → Type 0
Principals P (atom a) = Unit {0}
Principals P falsity = Unit {0}
Principals P (and f g) = Principals P f × Principals P g
Principals P (or f g) = Principals P f × Principals P g
Principals P (implies f g) = Principals P f × Principals P g
Principals P (modal k A f) = (A < P) × Principals P f

-- every label of a link is below n, every principal below P
abbrev pub LinkFits : ℕ → ℕ → Link → Type 0
LinkFits P n (Order x y) = (x.0 < n) × (y.0 < n)
LinkFits P n (Arrow k A x y) = (A.0 < P) × (x.0 < n) × (y.0 < n)

-- the same of a fact
abbrev pub Scoped : ℕ → ℕ → FactView Formula → Type 0
Scoped P n (Left x f) = (x.0 < n) × Principals P f
Scoped P n (Right x f) = (x.0 < n) × Principals P f
Scoped P n (Linked l) = LinkFits P n l

-- a sequent speaks of its own labels and of principals below P
abbrev pub WellScoped : ℕ → Sequent → Type 0
WellScoped P s = AllByRecursion (Scoped P s.labels) s.facts
