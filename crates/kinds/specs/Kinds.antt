-- The kinds of records: the number, the name and the size of each, and what it is counted as. Assumes nothing.
use Rattle.std.specs.Prelude.{◌≡◌, ℕ, List, Ok, Err, codes, Result, ◌≢◌}
use Rattle.kinds.specs.declared.kind.UnknownKind.{UnknownKind}
use Rattle.records.specs.declared.numbers.RecordNumber.{RecordNumber}
use Rattle.records.specs.declared.refusal.Refusal.{Refusal}
use Rattle.records.specs.declared.refusal.Refusal.TheVariants as refusal
use Rattle.kinds.specs.declared.kind.Kind.{Kind}
use Rattle.kinds.specs.declared.kind.Kind.TheVariants.{Atom, Falsity, And, Or, Implies, Says, Controls, Ratified, Permitted, Labels, LeftFormula, RightFormula, Order, Arrow, Worlds, WorldsAbove, ArrowEnds, AtomRow, Place}
use Rattle.kinds.specs.declared.kind.Sort.{Sort}
use Rattle.kinds.specs.declared.kind.Sort.TheVariants.{Formula, Fact, Row}

-- a line of the table of kinds
pub record Line : Type 0 where
  pub number : ℕ
  pub words : List ℕ
  pub size : ℕ
  pub sort : Sort

abbrev line : ℕ → List ℕ → ℕ → Sort → Line
line number words size sort = record { number = number; words = words; size = size; sort = sort }

-- the table of kinds
abbrev pub line_of : Kind → Line
line_of Atom = line 1 (codes "atom") 2 Formula
line_of Falsity = line 2 (codes "falsity") 0 Formula
line_of And = line 3 (codes "and") 4 Formula
line_of Or = line 4 (codes "or") 4 Formula
line_of Implies = line 5 (codes "implies") 4 Formula
line_of Says = line 6 (codes "says") 4 Formula
line_of Controls = line 7 (codes "controls") 4 Formula
line_of Ratified = line 8 (codes "ratified") 4 Formula
line_of Permitted = line 9 (codes "permitted") 4 Formula
line_of Labels = line 10 (codes "labels") 2 Fact
line_of LeftFormula = line 11 (codes "left formula") 4 Fact
line_of RightFormula = line 12 (codes "right formula") 4 Fact
line_of Order = line 13 (codes "order") 4 Fact
line_of Arrow = line 14 (codes "arrow") 8 Fact
line_of Worlds = line 20 (codes "worlds") 2 Row
line_of WorldsAbove = line 21 (codes "worlds above") 6 Row
line_of ArrowEnds = line 22 (codes "arrow ends") 10 Row
line_of AtomRow = line 23 (codes "atom row") 6 Row
line_of Place = line 24 (codes "place") 4 Row

-- the number of a kind
abbrev pub number_of : Kind → ℕ
number_of k = (line_of k).number

-- the name of a kind
abbrev pub words_of : Kind → List ℕ
words_of k = (line_of k).words

-- how many bytes the body of a kind has
abbrev pub size_of : Kind → ℕ
size_of k = (line_of k).size

-- what a record of a kind is counted as
abbrev pub sort_of : Kind → Sort
sort_of k = (line_of k).sort

-- the answer to a number that a kind may have: the kind that has it, or none where no kind has it
abbrev pub HasNumber : ℕ → Result Kind UnknownKind → Type 0
HasNumber n (Ok k) = number_of k ≡ n
HasNumber n (Err e) = (k : Kind) → number_of k ≢ n

-- a kind's number and the size of its body are those of k
abbrev pub IsOf : ℕ → ℕ → Kind → Type 0
IsOf number size k = (number ≡ number_of k) × (size ≡ size_of k)

-- the answer to the number of a record's kind: the kind that has it, or a refusal where no kind has it
abbrev pub OfKind : ℕ → RecordNumber → Result Kind Refusal → Type 0
OfKind n at (Ok k) = number_of k ≡ n
OfKind n at (Err e) = ((k : Kind) → number_of k ≢ n) × (e ≡ refusal.Kind at)
