-- Packs that are not lawful. Assumes nothing.
use Rattle.std.specs.Prelude.{true, cond, [], Some, None, ◌==◌}
use Rattle.logic.specs.declared.terms.Modality.TheVariants.{Says, Ratified}
use Rattle.logic.specs.declared.terms.Link.TheVariants.{Arrow}
use Rattle.piles.specs.declared.terms.Arity.TheVariants.{Zero}
use Rattle.piles.specs.declared.terms.Layout.{Layout}
use Rattle.piles.specs.declared.terms.Operands.{Operands}
use Rattle.piles.specs.declared.terms.Premise.TheVariants.{Adds}
use Rattle.piles.specs.declared.terms.Reading.{Reading}
use Rattle.piles.specs.declared.terms.Reading.TheVariants.{Unknown, Goes}
use Rattle.piles.specs.Instances.{of_none, of_label, of_principal, of_one, of_arrow}
use Rattle.piles.specs.Packs.{Laws}
use Rattle.piles.specs.Layers.{LayerLaws}
use Rattle.packs.specs.RsMeaning.{SaysRatified, rs_layout}

-- a body of a label and a principal
abbrev pub label_and_principal : Layout
label_and_principal = record { positions = Zero; label = true; principal = true }

-- from no fact to x S_A x
abbrev pub from_nothing : Operands → Reading
from_nothing o = of_none o.named (of_label o.label λ x. of_principal o.principal λ A. Goes (Adds (Arrow Says A x x)))

-- no condition, and one kind that reads an arrow of says from no fact: no pack
abbrev pub FromNothing : Type 0
FromNothing =
    Laws {K = Unit {0}} (λ _. []) (λ _ kind. cond (kind == 64) (Some label_and_principal) None) (λ _ kind o P n. cond (kind == 64) (from_nothing o) Unknown) → ⊥

-- from x R_A y to x S_A y
abbrev pub rs_turned : Operands → Reading
rs_turned o = of_one o.named λ f. of_arrow Ratified f λ A x y. Goes (Adds (Arrow Says A x y))

-- the condition of RS with its step turned about: no layer
abbrev pub RsTurned : Type 0
RsTurned = LayerLaws {L = Unit {0}} 67 rs_layout (λ _. SaysRatified) (λ _ o _ _. rs_turned o) → ⊥
