-- What a list of facts, and a sequent, says. Assumes nothing.
use Rattle.std.specs.Prelude.{List}
use Rattle.std.specs.List.{filter_map}
use Rattle.records.specs.declared.numbers.FormulaNumber.{FormulaNumber}
use Rattle.lists.specs.Listed.{listed}
use Rattle.logic.specs.declared.fact.Fact.{Fact}
use Rattle.logic.specs.declared.terms.FactView.{FactView}
use Rattle.logic.specs.declared.terms.Node.{Node}
use Rattle.logic.specs.Facts.{facts_map, Sequent as SequentOfTrees}
use Rattle.logic.specs.Formulas.{tree}
use Rattle.logic.specs.Stored.{view_of}
use Rattle.sequents.specs.declared.list.FactList.{FactList}
use Rattle.sequents.specs.declared.sequent.Sequent.{Sequent}

-- what facts say, in order, without those that are blank
abbrev pub views : List Fact → List (FactView FormulaNumber)
views fs = filter_map view_of fs

-- what the facts of a list say, by position
abbrev pub facts_of : FactList → List (FactView FormulaNumber)
facts_of l = views (listed l.facts)

-- the sequent over formula trees that a sequent over a table stands for
abbrev pub sequent_of : List (Node FormulaNumber) → Sequent → SequentOfTrees
sequent_of nodes s = record { labels = s.labels.0; facts = facts_map (tree nodes) (facts_of s.facts) }
