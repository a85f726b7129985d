-- The axioms that the published layers stand for, and when an axiom is valid. Assumes nothing.
use Rattle.std.specs.Prelude.{ℕ, ◌<◌, T}
use Rattle.logic.specs.declared.terms.Modality.TheVariants.{Says, Controls, Ratified, Permitted}
use Rattle.logic.specs.Models.{Formula, Model, holds, and, implies, modal}
use Rattle.logic.specs.ModelRules.{Keeps}
use Rattle.logic.specs.Facts.{Principals}
use Rattle.piles.specs.Packs.{Condition}

-- an axiom: a formula made of two principals (of which it may use one) and a formula
abbrev pub Scheme : Type 0
Scheme = ℕ → ℕ → Formula → Formula

-- A says f implies that B says that A says f
abbrev pub says_said : Scheme
says_said A B f = implies (modal Says A f) (modal Says B (modal Says A f))

-- A controls f implies that A is permitted f
abbrev pub controls_permitted : Scheme
controls_permitted A B f = implies (modal Controls A f) (modal Permitted A f)

-- A controls f, and A says that B controls f, imply that B controls f
abbrev pub delegation : Scheme
delegation A B f = implies (and (modal Controls A f) (modal Says A (modal Controls B f))) (modal Controls B f)

-- A ratified f implies that A says f
abbrev pub ratified_said : Scheme
ratified_said A B f = implies (modal Ratified A f) (modal Says A f)

-- the axiom holds at every world of the model, for all principals below P and every formula with such principals
abbrev pub ValidIn : Scheme → ℕ → Model → Type 0
ValidIn scheme P m =
    (A B : ℕ) → A < P → B < P → (f : Formula) → Principals P f → (x : ℕ) → x < m.frame.worlds → T (holds m (scheme A B f) x)

-- it does in every model that keeps the rules and meets the condition
abbrev pub Valid : Scheme → Condition → Type 0
Valid scheme condition = (P : ℕ) (m : Model) → Keeps P m → condition P m.frame → ValidIn scheme P m
