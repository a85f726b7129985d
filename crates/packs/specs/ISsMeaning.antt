-- I-SS: what A says, every B says that A says. From x S_B y and y S_A z to x S_A z. Assumes nothing.
use Rattle.std.specs.Prelude.{ℕ, ◌<◌, false, T}
use Rattle.logic.specs.declared.terms.Modality.TheVariants.{Says}
use Rattle.logic.specs.declared.terms.Link.TheVariants.{Arrow}
use Rattle.logic.specs.Models.{Frame}
use Rattle.logic.specs.ModelRules.{Each}
use Rattle.piles.specs.declared.terms.Arity.TheVariants.{Two}
use Rattle.piles.specs.declared.terms.Layout.{Layout}
use Rattle.piles.specs.declared.terms.Operands.{Operands}
use Rattle.piles.specs.declared.terms.Premise.TheVariants.{Adds}
use Rattle.piles.specs.declared.terms.Reading.{Reading}
use Rattle.piles.specs.declared.terms.Reading.TheVariants.{Goes}
use Rattle.piles.specs.Instances.{of_two, of_arrow, of_same}

-- where x S_B y: if y S_A z, also x S_A z
abbrev pub SaysThrough : Frame → ℕ → ℕ → ℕ → ℕ → Type 0
SaysThrough F A B x y = T (F.arrow Says B x y) → Each F λ z. T (F.arrow Says A y z) → T (F.arrow Says A x z)

-- the condition: so between all worlds, for all principals A and B
abbrev pub SaysSays : ℕ → Frame → Type 0
SaysSays P F = (A : ℕ) → A < P → (B : ℕ) → B < P → Each F λ x. Each F λ y. SaysThrough F A B x y

-- the body: two positions
abbrev pub i_ss_layout : Layout
i_ss_layout = record { positions = Two; label = false; principal = false }

-- the step: x S_B y and y S_A z add x S_A z
abbrev pub i_ss_reading : Operands → Reading
i_ss_reading o =
    of_two o.named λ f g. of_arrow Says f λ B x y. of_arrow Says g λ A u z. of_same u y (Goes (Adds (Arrow Says A x z)))
