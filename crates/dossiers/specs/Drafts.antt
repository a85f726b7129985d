-- A dossier while it is read, as a stage of its reading. Assumes nothing.
use Rattle.std.specs.Prelude.{◌≡◌, List, Some, None, Ok, Err, Option, Result}
use Rattle.records.specs.declared.numbers.FormulaNumber.{FormulaNumber}
use Rattle.records.specs.declared.refusal.Refusal.{Refusal}
use Rattle.logic.specs.declared.terms.Node.{Node}
use Rattle.logic.specs.Tables.{nodes_of}
use Rattle.dossiers.specs.declared.draft.Draft.{Draft}
use Rattle.dossiers.specs.Dossiers.{Stage, formulas, sequent}
use Rattle.sequents.specs.declared.sequent.Sequent.{Sequent}
use Rattle.sequents.specs.Sequents.{facts_of}

-- the stage of a draft: before or after its label count
abbrev pub staged : List (Node FormulaNumber) → Option Sequent → Stage
staged ns None = formulas ns
staged ns (Some s) = sequent ns s.labels (facts_of s.facts)

-- what of a dossier a draft has read
abbrev pub stage_of : Draft → Stage
stage_of d = staged (nodes_of d.table) d.sequent

-- something that is changed as the answer should be, or refused for the answer's reason
abbrev pub Takes : {X : Type 0} → Result X Refusal → Result (Unit {0}) Refusal → X → Type 0
Takes answer (Ok done) after = answer ≡ Ok after
Takes answer (Err e) after = answer ≡ Err e
