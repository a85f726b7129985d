-- What reading a dossier answers, on every list of bytes. Assumes nothing.
use Rattle.std.specs.Prelude.{◌≡◌, ℕ, List, Ok, Err, Result}
use Rattle.records.specs.declared.numbers.FormulaNumber.{FormulaNumber}
use Rattle.records.specs.declared.refusal.Refusal.{Refusal}
use Rattle.records.specs.Readers.{read_bytes}
use Rattle.logic.specs.declared.terms.Node.{Node}
use Rattle.logic.specs.Tables.{nodes_of}
use Rattle.sequents.specs.Sequents.{facts_of}
use Rattle.dossiers.specs.declared.draft.Draft.{Draft}
use Rattle.dossiers.specs.declared.read.Dossier.{Dossier}
use Rattle.dossiers.specs.Dossiers.{formulas, Kept, finished, dossier_reader}
use Rattle.dossiers.specs.Drafts.{stage_of}
use Rattle.dossiers.specs.Laws.{DossierLaw}

-- what a dossier keeps
abbrev pub kept_of : Dossier → Kept
kept_of d = record { nodes = nodes_of d.table; labels = d.sequent.labels; facts = facts_of d.sequent.facts }

-- the answer is this one
abbrev pub Answers : Result Kept Refusal → Result Dossier Refusal → Type 0
Answers answer (Ok d) = answer ≡ Ok (kept_of d)
Answers answer (Err e) = answer ≡ Err e

-- the answer where the file ends after i records
abbrev pub Finished : ℕ → Draft → Result Dossier Refusal → Type 0
Finished i d r = Answers (finished i (stage_of d)) r

-- the answer that the bytes determine, and the law that they are read by
pub record DossierRead (P : ℕ) (ns : List (Node FormulaNumber)) (bs : List ℕ) (r : Result Dossier Refusal) : Type 0 where
  pub answer : Answers (read_bytes (dossier_reader P) 0 (formulas ns) bs) r
  pub law : DossierLaw P ns bs
