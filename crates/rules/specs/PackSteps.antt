-- What a pack's step names. Assumes nothing.
use Rattle.std.specs.Prelude.{Some, None, Option}
use Rattle.records.specs.declared.numbers.FactPosition.{FactPosition}
use Rattle.logic.specs.declared.terms.FactView.{FactView}
use Rattle.logic.specs.Facts.{fact_map}
use Rattle.piles.specs.declared.terms.Named.{Named}
use Rattle.piles.specs.declared.terms.Named.TheVariants.{Nothing, Single, Pair}
use Rattle.piles.specs.declared.terms.Operands.{Operands}
use Rattle.rules.specs.declared.step.Positions.{Positions}
use Rattle.rules.specs.declared.step.Positions.TheVariants.{Zero, One, Two}
use Rattle.rules.specs.declared.step.PackStep.{PackStep}

module _ {F : Type 0} where
  -- a fact with its formula hidden
  abbrev pub hidden : FactView F → FactView (Unit {0})
  hidden f = fact_map (λ _. tt) f

  -- one fact, if it is there
  abbrev pub one_named : Option (FactView F) → Option Named
  one_named None = None
  one_named (Some f) = Some (Single (hidden f))

  -- two facts, if they are there
  abbrev pub two_named : Option (FactView F) → Option (FactView F) → Option Named
  two_named None b = None
  two_named (Some f) None = None
  two_named (Some f) (Some g) = Some (Pair (hidden f) (hidden g))

  -- the facts at the positions, if they are all there
  abbrev pub named_at : (FactPosition → Option (FactView F)) → Positions → Option Named
  named_at at Zero = Some Nothing
  named_at at (One i) = one_named (at i)
  named_at at (Two i j) = two_named (at i) (at j)

-- what a pack is asked
abbrev pub operands_of : PackStep → Named → Operands
operands_of s named = record { named = named; label = s.label; principal = s.principal }
