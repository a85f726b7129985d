-- What a step sees of its branch. Assumes nothing.
use Rattle.std.specs.Prelude.{ℕ, List, Some, None, Option, slice_index_or}
use Rattle.std.specs.List.{slice_get}
use Rattle.records.specs.declared.numbers.FactPosition.{FactPosition}
use Rattle.records.specs.declared.numbers.FormulaNumber.{FormulaNumber}
use Rattle.logic.specs.declared.fact.Fact.{Fact}
use Rattle.logic.specs.declared.terms.FactView.{FactView}
use Rattle.logic.specs.declared.terms.Node.{Node}
use Rattle.logic.specs.declared.terms.Node.TheVariants.{Falsity}
use Rattle.logic.specs.Stored.{view_of}
use Rattle.piles.specs.Packs.{Readings}

-- the fact at each position, what is seen of each formula, the label count, how the pile reads its kinds, the number of principals
pub record Scene (F : Type 0) : Type 0 where
  pub at : FactPosition → Option (FactView F)
  pub view : F → Node F
  pub labels : ℕ
  pub readings : Readings
  pub principals : ℕ

-- what a place says: nothing where there is none
abbrev pub told : {X F : Type 0} → (X → Option (FactView F)) → Option X → Option (FactView F)
told says None = None
told says (Some x) = says x

-- the fact at a position of a row of places, by what each place says
abbrev pub look : {X F : Type 0} → (X → Option (FactView F)) → List X → FactPosition → Option (FactView F)
look says places i = told says (slice_get places i.0)

-- the same where facts are stored; a blank place says nothing
abbrev pub facts_at : List Fact → FactPosition → Option (FactView FormulaNumber)
facts_at places i = look view_of places i

-- the node of a number; past the table's end it is falsity, as its tree is
abbrev pub node_of : List (Node FormulaNumber) → FormulaNumber → Node FormulaNumber
node_of ns f = slice_index_or ns f.0 Falsity

-- the scene of facts that lie in places, with their formulas in a table
abbrev pub scene_of : List (Node FormulaNumber) → List Fact → ℕ → Readings → ℕ → Scene FormulaNumber
scene_of ns places n readings P = record { at = facts_at places; view = node_of ns; labels = n; readings = readings; principals = P }
