-- C2P: what A controls, A is permitted. At a label x some y with x C_A y and x P_A y. Assumes nothing.
use Rattle.std.specs.Prelude.{ℕ, ◌<◌, true, T}
use Rattle.logic.specs.declared.terms.Modality.TheVariants.{Controls, Permitted}
use Rattle.logic.specs.declared.terms.Link.TheVariants.{Arrow}
use Rattle.logic.specs.Models.{Frame}
use Rattle.logic.specs.ModelRules.{Each}
use Rattle.piles.specs.declared.terms.Arity.TheVariants.{Zero}
use Rattle.piles.specs.declared.terms.Layout.{Layout}
use Rattle.piles.specs.declared.terms.Operands.{Operands}
use Rattle.piles.specs.declared.terms.Premise.TheVariants.{AddsBoth}
use Rattle.piles.specs.declared.terms.Reading.{Reading}
use Rattle.piles.specs.declared.terms.Reading.TheVariants.{Goes}
use Rattle.piles.specs.Instances.{of_none, of_label, of_principal, new_label}

-- some y has x C_A y and x P_A y
abbrev pub SharedEnd : Frame → ℕ → ℕ → Type 0
SharedEnd F A x = (y : ℕ) × (y < F.worlds) × (T (F.arrow Controls A x y) × T (F.arrow Permitted A x y))

-- the condition: so at every world, for every principal
abbrev pub ControlsPermits : ℕ → Frame → Type 0
ControlsPermits P F = (A : ℕ) → A < P → Each F λ x. SharedEnd F A x

-- the body: a label and a principal
abbrev pub c2p_layout : Layout
c2p_layout = record { positions = Zero; label = true; principal = true }

-- the step: the label x and the principal A add x C_A y and x P_A y for the new label y
abbrev pub c2p_reading : Operands → ℕ → Reading
c2p_reading o n =
    of_none o.named (of_label o.label λ x. of_principal o.principal λ A. Goes (AddsBoth (Arrow Controls A x (new_label n)) (Arrow Permitted A x (new_label n))))
