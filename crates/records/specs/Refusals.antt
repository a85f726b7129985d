-- The number of each refusal, and the number beside it. Assumes nothing.
use Rattle.std.specs.Prelude.{ℕ}
use Rattle.records.specs.declared.refusal.Refusal.{Refusal}
use Rattle.records.specs.declared.refusal.Refusal.TheVariants.{PrincipalCount, FileTooLong, Frame, Kind, OutOfRange, Full, NoSequent, AlreadyOut, NotOut, NotAsNeeded, NoRoom, AfterClosed, EndsEarly, OrderBroken, AtomRowOpen, ConditionFails, DoesNotFalsify, GivenTwice, LabelUnplaced, LineTooLong}

-- a refusal as the two numbers that are printed of it
pub record Numbers : Type 0 where
  pub number : ℕ
  pub second : ℕ

abbrev alone : ℕ → Numbers
alone n = record { number = n; second = 0 }

abbrev beside : ℕ → ℕ → Numbers
beside n s = record { number = n; second = s }

-- the table of the refusals
abbrev pub numbers_of : Refusal → Numbers
numbers_of PrincipalCount = alone 1
numbers_of FileTooLong = alone 2
numbers_of (Frame record_at) = beside 3 record_at.0
numbers_of (Kind record_at) = beside 4 record_at.0
numbers_of (OutOfRange record_at) = beside 5 record_at.0
numbers_of (Full record_at) = beside 6 record_at.0
numbers_of NoSequent = alone 7
numbers_of AlreadyOut = alone 8
numbers_of NotOut = alone 9
numbers_of (NotAsNeeded record_at) = beside 10 record_at.0
numbers_of (NoRoom record_at) = beside 11 record_at.0
numbers_of (AfterClosed record_at) = beside 12 record_at.0
numbers_of (EndsEarly records_read) = beside 13 records_read.0
numbers_of OrderBroken = alone 14
numbers_of (AtomRowOpen atom) = beside 15 atom.0
numbers_of (ConditionFails place) = beside 16 place.0
numbers_of (DoesNotFalsify position) = beside 17 position.0
numbers_of (GivenTwice record_at) = beside 18 record_at.0
numbers_of (LabelUnplaced label) = beside 19 label.0
numbers_of LineTooLong = alone 20

abbrev pub number_of : Refusal → ℕ
number_of e = (numbers_of e).number

abbrev pub second_of : Refusal → ℕ
second_of e = (numbers_of e).second
