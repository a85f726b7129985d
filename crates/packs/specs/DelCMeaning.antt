-- del-C: what A controls, and says that B controls, B controls. From x C_B y to x C_A y, or to some z with x S_A z and z C_B y. Assumes nothing.
use Rattle.std.specs.Prelude.{ℕ, ◌<◌, true, false, T, ◌⊎◌}
use Rattle.logic.specs.declared.terms.Modality.TheVariants.{Says, Controls}
use Rattle.logic.specs.declared.terms.Link.TheVariants.{Arrow}
use Rattle.logic.specs.Models.{Frame}
use Rattle.logic.specs.ModelRules.{Each}
use Rattle.piles.specs.declared.terms.Arity.TheVariants.{One}
use Rattle.piles.specs.declared.terms.Layout.{Layout}
use Rattle.piles.specs.declared.terms.Operands.{Operands}
use Rattle.piles.specs.declared.terms.Premise.TheVariants.{Adds, AddsBoth}
use Rattle.piles.specs.declared.terms.Reading.{Reading}
use Rattle.piles.specs.declared.terms.Reading.TheVariants.{Splits}
use Rattle.piles.specs.Instances.{of_one, of_arrow, of_principal, new_label}

-- some z has x S_A z and z C_B y
abbrev pub Handed : Frame → ℕ → ℕ → ℕ → ℕ → Type 0
Handed F A B x y = (z : ℕ) × (z < F.worlds) × (T (F.arrow Says A x z) × T (F.arrow Controls B z y))

-- from x: where x C_B y, also x C_A y, or there is such a z
abbrev pub DelegatesAt : Frame → ℕ → ℕ → ℕ → Type 0
DelegatesAt F A B x = Each F λ y. T (F.arrow Controls B x y) → T (F.arrow Controls A x y) ⊎ Handed F A B x y

-- the condition: so at every world, for all principals A and B
abbrev pub Delegates : ℕ → Frame → Type 0
Delegates P F = (A : ℕ) → A < P → (B : ℕ) → B < P → Each F λ x. DelegatesAt F A B x

-- the body: one position and a principal
abbrev pub del_c_layout : Layout
del_c_layout = record { positions = One; label = false; principal = true }

-- the step: x C_B y and the principal A add x C_A y, or, on a branch, x S_A z and z C_B y for the new label z
abbrev pub del_c_reading : Operands → ℕ → Reading
del_c_reading o n =
    of_one o.named λ f. of_arrow Controls f λ B x y. of_principal o.principal λ A.
    Splits (Adds (Arrow Controls A x y)) (AddsBoth (Arrow Says A x (new_label n)) (Arrow Controls B (new_label n) y))
