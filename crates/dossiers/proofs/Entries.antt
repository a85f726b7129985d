-- What a record enters whose kind is none of dossiers or models. Assumes nothing.
use Rattle.std.proofs.Common.{◌≡◌, ◌≢◌, ℕ, List, Err, arith}
use Rattle.records.specs.declared.numbers.RecordNumber.{RecordNumber}
use Rattle.records.specs.declared.refusal.Refusal.TheVariants.{Kind}
use Rattle.kinds.specs.declared.kind.Kind.{Kind as KindName}
use Rattle.kinds.specs.declared.kind.Kind.TheVariants as K
use Rattle.kinds.specs.Kinds.{number_of}
use Rattle.dossiers.specs.Entries.{formula_of, fact_of}

-- it enters no formula
pub no_formula : (n : ℕ) (body : List ℕ) (at : RecordNumber) → ((k : KindName) → number_of k ≢ n) → formula_of n body at ≡ Err (Kind at)
no_formula n body at none = grind (arith, none K.Atom, none K.Falsity, none K.And, none K.Or, none K.Implies, none K.Says, none K.Controls, none K.Ratified, none K.Permitted)

-- it enters no fact
pub no_fact : (n : ℕ) (body : List ℕ) (at : RecordNumber) → ((k : KindName) → number_of k ≢ n) → fact_of n body at ≡ Err (Kind at)
no_fact n body at none = grind (arith, none K.LeftFormula, none K.RightFormula, none K.Order, none K.Arrow)
