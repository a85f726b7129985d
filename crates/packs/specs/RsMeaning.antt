-- RS: what A ratified, A says. From x S_A y to x R_A y. Assumes nothing.
use Rattle.std.specs.Prelude.{ℕ, ◌<◌, false, T}
use Rattle.logic.specs.declared.terms.Modality.TheVariants.{Says, Ratified}
use Rattle.logic.specs.declared.terms.Link.TheVariants.{Arrow}
use Rattle.logic.specs.Models.{Frame}
use Rattle.logic.specs.ModelRules.{Each}
use Rattle.piles.specs.declared.terms.Arity.TheVariants.{One}
use Rattle.piles.specs.declared.terms.Layout.{Layout}
use Rattle.piles.specs.declared.terms.Operands.{Operands}
use Rattle.piles.specs.declared.terms.Premise.TheVariants.{Adds}
use Rattle.piles.specs.declared.terms.Reading.{Reading}
use Rattle.piles.specs.declared.terms.Reading.TheVariants.{Goes}
use Rattle.piles.specs.Instances.{of_one, of_arrow}

-- from x: where x S_A y, also x R_A y
abbrev pub RatifiedAt : Frame → ℕ → ℕ → Type 0
RatifiedAt F A x = Each F λ y. T (F.arrow Says A x y) → T (F.arrow Ratified A x y)

-- the condition: so at every world, for every principal
abbrev pub SaysRatified : ℕ → Frame → Type 0
SaysRatified P F = (A : ℕ) → A < P → Each F λ x. RatifiedAt F A x

-- the body: one position
abbrev pub rs_layout : Layout
rs_layout = record { positions = One; label = false; principal = false }

-- the step: x S_A y adds x R_A y
abbrev pub rs_reading : Operands → Reading
rs_reading o = of_one o.named λ f. of_arrow Says f λ A x y. Goes (Adds (Arrow Ratified A x y))
