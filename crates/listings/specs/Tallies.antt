-- How records are counted, by what each is counted as. Assumes nothing.
use Rattle.std.specs.Prelude.{ℕ, ◌+◌, List, fold}
use Rattle.kinds.specs.declared.kind.Sort.{Sort}
use Rattle.kinds.specs.declared.kind.Sort.TheVariants.{Formula, Fact, Row, Unknown, WrongSize}
use Rattle.listings.specs.declared.tally.Tally.{Tally}

-- how many there are of each sort
pub record Counts : Type 0 where
  pub formulas : ℕ
  pub facts : ℕ
  pub rows : ℕ
  pub unknown : ℕ
  pub wrong_size : ℕ

-- what a tally counts
abbrev pub counts_of : Tally → Counts
counts_of t = record { formulas = t.formulas; facts = t.facts; rows = t.rows; unknown = t.unknown; wrong_size = t.wrong }

-- no records
abbrev pub nothing : Counts
nothing = record { formulas = 0; facts = 0; rows = 0; unknown = 0; wrong_size = 0 }

-- one more record of a sort
abbrev pub one_more : Sort → Counts → Counts
one_more Formula c = record { formulas = c.formulas + 1; facts = c.facts; rows = c.rows; unknown = c.unknown; wrong_size = c.wrong_size }
one_more Fact c = record { formulas = c.formulas; facts = c.facts + 1; rows = c.rows; unknown = c.unknown; wrong_size = c.wrong_size }
one_more Row c = record { formulas = c.formulas; facts = c.facts; rows = c.rows + 1; unknown = c.unknown; wrong_size = c.wrong_size }
one_more Unknown c = record { formulas = c.formulas; facts = c.facts; rows = c.rows; unknown = c.unknown + 1; wrong_size = c.wrong_size }
one_more WrongSize c = record { formulas = c.formulas; facts = c.facts; rows = c.rows; unknown = c.unknown; wrong_size = c.wrong_size + 1 }

-- the counts of records of these sorts, counted one after another on top of c
abbrev pub counted : Counts → List Sort → Counts
counted c ss = fold (λ d s. one_more s d) c ss

-- how many there are in all
abbrev pub total : Counts → ℕ
total c = c.formulas + c.facts + c.rows + c.unknown + c.wrong_size
