-- What sets of truth are. Assumes nothing.
use Rattle.std.specs.Prelude.{◌≡◌, ℕ, ◌<◌, true, List, slice_index_or}
use Rattle.records.specs.declared.numbers.FormulaNumber.{FormulaNumber}
use Rattle.logic.specs.declared.terms.Node.{Node}
use Rattle.logic.specs.Formulas.{node_map, made, falls}
use Rattle.logic.specs.Models.{Formula, Model, holds}
use Rattle.rows.specs.declared.masks.WorldSet.{WorldSet}
use Rattle.rows.specs.Masks.{Mask, no_set}

-- s is the set of the worlds where f holds
abbrev pub Truth : Model → WorldSet → Formula → Type 0
Truth m s f = Mask m.frame.worlds s.0 (holds m f)

-- r is the set of a node, whatever formulas its parts stand for, if the sets are right at the numbers below some k above the parts
abbrev pub Carried : Model → List WorldSet → Node FormulaNumber → WorldSet → Type 0
Carried m sets n r =
    (t : FormulaNumber → Formula) (k : ℕ) → falls k n ≡ true → ((j : FormulaNumber) → j.0 < k → Truth m (slice_index_or sets j.0 no_set) (t j))
    → Truth m r (made (node_map t n))
