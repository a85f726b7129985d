-- One principal is believed: what it says is so. At a label x, x S_A x for that A. Assumes nothing.
use Rattle.std.specs.Prelude.{ℕ, ◌<◌, true, false, cond, T, nat_lt}
use Rattle.records.specs.declared.numbers.Principal.{Principal}
use Rattle.logic.specs.declared.terms.Modality.TheVariants.{Says}
use Rattle.logic.specs.declared.terms.Link.TheVariants.{Arrow}
use Rattle.logic.specs.Models.{Frame, Model, Formula, holds, implies, modal}
use Rattle.logic.specs.ModelRules.{Each, Keeps}
use Rattle.piles.specs.declared.terms.Arity.TheVariants.{Zero}
use Rattle.piles.specs.declared.terms.Layout.{Layout}
use Rattle.piles.specs.declared.terms.Operands.{Operands}
use Rattle.piles.specs.declared.terms.Premise.TheVariants.{Adds}
use Rattle.piles.specs.declared.terms.Reading.{Reading}
use Rattle.piles.specs.declared.terms.Reading.TheVariants.{NoInstance, Goes}
use Rattle.piles.specs.Instances.{of_none, of_label}

-- x S_A x at every world
abbrev pub SaysHere : Frame → ℕ → Type 0
SaysHere F A = Each F λ x. T (F.arrow Says A x x)

-- the condition: so for the believed principal, if it is one of the principals
abbrev pub SaysWhatIs : Principal → ℕ → Frame → Type 0
SaysWhatIs who P F = who.0 < P → SaysHere F who.0

-- the body: a label
abbrev pub believed_layout : Layout
believed_layout = record { positions = Zero; label = true; principal = false }

-- the step: the label x adds x S_A x
abbrev pub believed_reading : Principal → Operands → ℕ → Reading
believed_reading who o P =
    of_none o.named (of_label o.label λ x. cond (nat_lt who.0 P) (Goes (Adds (Arrow Says who x x))) NoInstance)

-- what the believed principal says holds, at every world of every model that keeps the rules and meets the condition
abbrev pub SaidIsSo : Principal → Type 0
SaidIsSo who =
    (P : ℕ) (m : Model) → Keeps P m → SaysWhatIs who P m.frame → who.0 < P → (f : Formula) (x : ℕ) → x < m.frame.worlds → T (holds m (implies (modal Says who.0 f) f) x)
