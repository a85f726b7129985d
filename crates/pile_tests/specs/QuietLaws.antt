-- The quiet layer keeps its laws. Assumes nothing.
use Rattle.std.specs.Prelude.{◌≡◌, true, false, refl}
use Rattle.std.proofs.Common.{arith}
use Rattle.piles.specs.declared.terms.Arity.TheVariants.{One}
use Rattle.piles.specs.declared.terms.Reading.TheVariants.{Unknown, NoInstance}
use Rattle.piles.specs.Layers.{LayerLaws}
use Rattle.pile_tests.specs.declared.quiet.Quiet.{Quiet}

known : NoInstance ≡ Unknown → ⊥
known e = cc

pub quiet_laws : LayerLaws {L = Quiet} 67 (record { positions = One; label = false; principal = true }) (λ _ P F. Unit {0}) (λ _ o P n. NoInstance)
quiet_laws = record {
  sound = λ l P n o asked F regular c σ placed hold. tt;
  scope = λ l P n o asked. tt;
  one_world = λ l P some. tt;
  high = omega arith;
  known = λ l P n o asked. known;
  formulas = λ l P n o asked t. refl;
}
