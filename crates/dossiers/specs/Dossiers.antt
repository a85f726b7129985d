-- How a dossier is read: formulas, then the label count, then facts. Assumes nothing.
use Rattle.std.specs.Prelude.{ℕ, cond, List, [], ◌∷◌, ◌++◌, length, Ok, Err, Result, ◌==◌, nat_lt}
use Rattle.records.specs.declared.numbers.FormulaNumber.{FormulaNumber}
use Rattle.records.specs.declared.numbers.RecordNumber.{RecordNumber}
use Rattle.records.specs.declared.refusal.Refusal.{Refusal}
use Rattle.records.specs.declared.refusal.Refusal.TheVariants.{OutOfRange, Full, EndsEarly}
use Rattle.records.specs.Chains.{Record, broken_at}
use Rattle.records.specs.Kinds.{decoded}
use Rattle.records.specs.Readers.{Reader}
use Rattle.records.specs.declared.numbers.LabelCount.{LabelCount}
use Rattle.kinds.specs.Contents.{label_count_of}
use Rattle.logic.specs.declared.terms.Node.{Node}
use Rattle.logic.specs.declared.terms.FactView.{FactView}
use Rattle.dossiers.specs.Entries.{onward, formula_of, fits_formula, fact_of, fits_fact, count_fits}

-- what of a dossier is read so far: formulas, behind those of the table, or all of them, the label count and facts
pub data Stage : Type 0 where
  formulas : List (Node FormulaNumber) → Stage
  sequent : List (Node FormulaNumber) → LabelCount → List (FactView FormulaNumber) → Stage

-- what a dossier leaves: the table with its formulas, its label count and its facts
pub record Kept : Type 0 where
  pub nodes : List (Node FormulaNumber)
  pub labels : LabelCount
  pub facts : List (FactView FormulaNumber)

-- record i, as refusals name it
abbrev pub numbered : ℕ → RecordNumber
numbered i = record { 0 = i }

-- one formula more: in range, then room for it
abbrev pub with_formula : ℕ → RecordNumber → List (Node FormulaNumber) → Node FormulaNumber → Result (List (Node FormulaNumber)) Refusal
with_formula P at ns n =
    cond (fits_formula P (length ns) n) (cond (nat_lt (length ns) 256) (Ok (ns ++ (n ∷ []))) (Err (Full at))) (Err (OutOfRange at))

-- one fact more: in range, then room for it
abbrev pub with_fact : ℕ → ℕ → ℕ → RecordNumber → List (FactView FormulaNumber) → FactView FormulaNumber → Result (List (FactView FormulaNumber)) Refusal
with_fact P n len at fs v =
    cond (fits_fact P n len v) (cond (nat_lt (length fs) 16) (Ok (fs ++ (v ∷ []))) (Err (Full at))) (Err (OutOfRange at))

-- the label count of a record 10
abbrev pub labels_at : List ℕ → RecordNumber → Result LabelCount Refusal
labels_at body at = onward (decoded 2 label_count_of body at) λ n. cond (count_fits n.0) (Ok n) (Err (OutOfRange at))

-- the formulas with that of a record
abbrev pub formulas_at : ℕ → ℕ → List ℕ → RecordNumber → List (Node FormulaNumber) → Result (List (Node FormulaNumber)) Refusal
formulas_at P kind body at ns = onward (formula_of kind body at) λ n. with_formula P at ns n

-- the facts with that of a record
abbrev pub facts_at : ℕ → ℕ → ℕ → ℕ → List ℕ → RecordNumber → List (FactView FormulaNumber) → Result (List (FactView FormulaNumber)) Refusal
facts_at P n len kind body at fs = onward (fact_of kind body at) λ v. with_fact P n len at fs v

-- what record i does: before the label count a formula or the label count, after it a fact; any other kind is not in its place
abbrev pub entered : ℕ → ℕ → Record → Stage → Result Stage Refusal
entered P i r (formulas ns) =
    cond (r.kind == 10)
    (onward (labels_at r.body (numbered i)) λ n. Ok (sequent ns n []))
    (onward (formulas_at P r.kind r.body (numbered i) ns) λ ms. Ok (formulas ms))
entered P i r (sequent ns n fs) = onward (facts_at P n.0 (length ns) r.kind r.body (numbered i) fs) λ gs. Ok (sequent ns n gs)

-- the answer at the end: a dossier that has no label count ends too early
abbrev pub finished : ℕ → Stage → Result Kept Refusal
finished i (formulas ns) = Err (EndsEarly (numbered i))
finished i (sequent ns n fs) = Ok (record { nodes = ns; labels = n; facts = fs })

-- how a dossier is read, for P principals
abbrev pub dossier_reader : ℕ → Reader Stage Kept
dossier_reader P = record { step = entered P; end = finished; broken = λ i s. Err (broken_at i) }
