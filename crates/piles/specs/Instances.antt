-- Taking the operands of a step apart, one by one: where one is not as wanted, there is no instance. Assumes nothing.
use Rattle.std.specs.Prelude.{ℕ, Bool, cond, Some, None, Option, ◌==◌}
use Rattle.records.specs.declared.numbers.Label.{Label}
use Rattle.records.specs.declared.numbers.Principal.{Principal}
use Rattle.logic.specs.declared.terms.Modality.{Modality}
use Rattle.logic.specs.declared.terms.Link.TheVariants.{Order, Arrow}
use Rattle.logic.specs.declared.terms.FactView.{FactView}
use Rattle.logic.specs.declared.terms.FactView.TheVariants.{Left, Right, Linked}
use Rattle.logic.specs.Modalities.{modality_number}
use Rattle.piles.specs.declared.terms.Named.{Named}
use Rattle.piles.specs.declared.terms.Named.TheVariants.{Nothing, Single, Pair}
use Rattle.piles.specs.declared.terms.Reading.{Reading}
use Rattle.piles.specs.declared.terms.Reading.TheVariants.{NoInstance}

-- no fact is named
abbrev pub of_none : Named → Reading → Reading
of_none Nothing next = next
of_none (Single f) next = NoInstance
of_none (Pair f g) next = NoInstance

-- one fact is named
abbrev pub of_one : Named → (FactView (Unit {0}) → Reading) → Reading
of_one Nothing next = NoInstance
of_one (Single f) next = next f
of_one (Pair f g) next = NoInstance

-- two facts are named
abbrev pub of_two : Named → (FactView (Unit {0}) → FactView (Unit {0}) → Reading) → Reading
of_two Nothing next = NoInstance
of_two (Single f) next = NoInstance
of_two (Pair f g) next = next f g

-- a label is given
abbrev pub of_label : Option Label → (Label → Reading) → Reading
of_label None next = NoInstance
of_label (Some x) next = next x

-- a principal is given
abbrev pub of_principal : Option Principal → (Principal → Reading) → Reading
of_principal None next = NoInstance
of_principal (Some A) next = next A

-- two modalities are the same
abbrev pub same_modality : Modality → Modality → Bool
same_modality j k = modality_number j == modality_number k

-- the fact is an arrow of the modality j: its principal, where it starts and where it ends
abbrev pub of_arrow : Modality → FactView (Unit {0}) → (Principal → Label → Label → Reading) → Reading
of_arrow j (Left x f) next = NoInstance
of_arrow j (Right x f) next = NoInstance
of_arrow j (Linked (Order x y)) next = NoInstance
of_arrow j (Linked (Arrow k A x y)) next = cond (same_modality j k) (next A x y) NoInstance

-- two labels are the same
abbrev pub of_same : Label → Label → Reading → Reading
of_same x y next = cond (x.0 == y.0) next NoInstance

-- the label that a step opens: the label count
abbrev pub new_label : ℕ → Label
new_label n = record { 0 = n }
