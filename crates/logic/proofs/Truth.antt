-- The clauses of truth in plain words. Assumes nothing.
use Rattle.std.proofs.Common.{arith, ℕ, ◌<◌, Bool, not, T, ◌⊎◌, ◌↔◌}
use mathlib.Core.Logic.Iff
use Rattle.logic.specs.declared.terms.Modality.{Modality}
use Rattle.logic.specs.declared.terms.Modality.TheVariants.{Permitted}
use Rattle.logic.specs.Models.{Formula, Model, every, ◌⊃◌, holds, implies, modal}
use Rattle.logic.specs.ModelRules.{Each, universal}
use Rattle.logic.specs.Truth.{TruthReads}
use Rattle.logic.proofs.Bools.{T_and, T_or, T_if, T_every, T_any, T_either}

-- a test at the ends of arrows
pub ends_every : (n : ℕ) (r p : ℕ → Bool) → T (every n (λ y. r y ⊃ p y)) ↔ ((y : ℕ) → y < n → T (r y) → T (p y))
ends_every n r p = grind (arith, T_if, T_every)

module _ (m : Model) where
  -- at every world above x where f holds, g does
  pub holds_implies : (f g : Formula) (x : ℕ) → T (holds m (implies f g) x) ↔ Each m.frame (λ y. T (m.frame.above x y) → T (holds m f y) → T (holds m g y))
  holds_implies f g x = grind (arith, T_if, ends_every m.frame.worlds (m.frame.above x) (λ z. holds m f z ⊃ holds m g z))

  -- at every world above x, f fails or g holds
  pub fails_or_holds : (f g : Formula) (x : ℕ) → T (holds m (implies f g) x) ↔ Each m.frame (λ y. T (m.frame.above x y) → T (not (holds m f y)) ⊎ T (holds m g y))
  fails_or_holds f g x = grind (arith, T_either, holds_implies)

  -- says, controls and ratified: at every end of an arrow from x
  pub holds_universal : (k : Modality) → T (universal k) → (A : ℕ) (f : Formula) (x : ℕ) → T (holds m (modal k A f) x) ↔ Each m.frame (λ y. T (m.frame.arrow k A x y) → T (holds m f y))
  holds_universal k u A f x = grind (arith, ends_every)

  -- permitted: at some end of an arrow from x
  pub holds_permitted : (A : ℕ) (f : Formula) (x : ℕ) → T (holds m (modal Permitted A f) x) ↔ ((y : ℕ) × (y < m.frame.worlds) × T (m.frame.arrow Permitted A x y) × T (holds m f y))
  holds_permitted A f x = grind (arith, T_any, T_and)

pub truth_reads : TruthReads
truth_reads m = record {
  of_atom = λ a x. Iff.rfl;
  of_falsity = λ x. Iff.rfl;
  of_and = λ f g x. T_and (holds m f x) (holds m g x);
  of_or = λ f g x. T_or (holds m f x) (holds m g x);
  of_implies = fails_or_holds m;
  of_universal = holds_universal m;
  of_permitted = holds_permitted m;
}
