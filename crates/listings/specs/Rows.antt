-- The rows of a listing. Assumes nothing.
use Rattle.std.specs.Prelude.{◌≡◌, ℕ, ◌+◌, List, [], ◌∷◌, length, sum_by}
use Rattle.records.specs.Chains.{Record, record_of}
use Rattle.listings.specs.declared.row.Row.{Row}
use Rattle.readings.specs.Readings.{ReadsAs}

-- how many bytes a record takes: two of its length, two of its kind, and its body
abbrev pub span : Record → ℕ
span r = 4 + length r.body

-- how many bytes records take
abbrev pub spans : List Record → ℕ
spans rs = sum_by span rs

-- the row of a record that is number n and begins at byte o
pub record IsRow (r : Record) (n : ℕ) (o : ℕ) (row : Row) : Type 0 where
  pub record_is : record_of row.«record».raw ≡ r
  pub number_is : row.«record».at.0 ≡ n
  pub offset_is : row.offset ≡ o
  pub reads : ReadsAs r.kind r.body row.«record».at row.reading

-- a row for each record, in order: the first is number n and begins at byte o, and each begins where the one before ends
abbrev pub Rows : List Record → ℕ → ℕ → List Row → Type 0
Rows [] n o [] = Unit {0}
Rows [] n o (row ∷ rows) = ⊥
Rows (r ∷ rs) n o [] = ⊥
Rows (r ∷ rs) n o (row ∷ rows) = IsRow r n o row × Rows rs (n + 1) (o + span r) rows
