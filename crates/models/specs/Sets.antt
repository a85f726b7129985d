-- The sets of worlds where the formulas of a table hold, by number. Assumes nothing.
use Rattle.std.specs.Prelude.{ℕ, ◌<◌, List, slice_index_or}
use Rattle.records.specs.declared.numbers.FormulaNumber.{FormulaNumber}
use Rattle.logic.specs.declared.terms.Node.{Node}
use Rattle.logic.specs.Formulas.{tree}
use Rattle.logic.specs.Models.{Model}
use Rattle.rows.specs.declared.masks.WorldSet.{WorldSet}
use Rattle.rows.specs.Masks.{no_set}
use Rattle.judging.specs.Truths.{Truth}

-- set f is where formula f holds, for the formulas below k
abbrev pub TrueBelow : Model → List (Node FormulaNumber) → ℕ → List WorldSet → Type 0
TrueBelow m ns k sets = (f : FormulaNumber) → f.0 < k → Truth m (slice_index_or sets f.0 no_set) (tree ns f)

-- for every formula: past the table's end a number stands for falsity
abbrev pub TrueSets : Model → List (Node FormulaNumber) → List WorldSet → Type 0
TrueSets m ns sets = (f : FormulaNumber) → Truth m (slice_index_or sets f.0 no_set) (tree ns f)
