-- Packs that break the first law. Assumes nothing.
use Rattle.std.proofs.Common.{Some, None, refl, arith}
use Rattle.logic.specs.declared.terms.Modality.TheVariants.{Ratified}
use Rattle.logic.specs.declared.terms.Link.TheVariants.{Arrow}
use Rattle.logic.specs.declared.terms.FactView.TheVariants.{Linked}
use Rattle.piles.specs.declared.terms.Named.TheVariants.{Nothing, Single}
use Rattle.piles.specs.declared.terms.Operands.{Operands}
use Rattle.axioms.specs.Unlawful.{FromNothing, RsTurned, label_and_principal}
use Rattle.axioms.specs.Written.{apart, apart_regular, silent}

-- label 0 and principal 0
abbrev zeros : Operands
zeros = record { named = Nothing; label = Some (record { 0 = 0 }); principal = Some (record { 0 = 0 }) }

-- the arrow 0 R_0 0
abbrev ratified_zero : Operands
ratified_zero = record { named = Single (Linked (Arrow Ratified (record { 0 = 0 }) (record { 0 = 0 }) (record { 0 = 0 }))); label = None; principal = None }

pub from_nothing_refuted : FromNothing
from_nothing_refuted laws =
    (laws.sound tt 1 1 64 label_and_principal zeros refl
    (record {
      asked = record { principals = (omega arith, omega arith); labels = (omega arith, omega arith); named = tt; label = omega arith; principal = omega arith };
      told = record { positions = refl; label = refl; principal = refl };
    })
    (apart 1 silent) (apart_regular 1 silent 1 (omega arith)) tt (λ x. record { 0 = 0 }) (λ x h. omega arith) tt).2

pub rs_turned_refuted : RsTurned
rs_turned_refuted laws =
    (laws.sound tt 1 1 ratified_zero
    (record {
      asked = record { principals = (omega arith, omega arith); labels = (omega arith, omega arith); named = (omega arith, omega arith, omega arith); label = tt; principal = tt };
      told = record { positions = refl; label = refl; principal = refl };
    })
    (apart 1 silent) (apart_regular 1 silent 1 (omega arith)) (λ A hA x hx y hy t. absurd t) (λ x. record { 0 = 0 }) (λ x h. omega arith) tt).2
