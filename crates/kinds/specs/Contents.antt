-- What the body of each kind of record holds. Assumes nothing.
use Rattle.std.specs.Prelude.{List, ℕ}
use Rattle.records.specs.Bytes.{word, long}
use Rattle.records.specs.declared.numbers.AtomNumber.{AtomNumber}
use Rattle.kinds.specs.declared.formulas.Parts.{Parts}
use Rattle.kinds.specs.declared.formulas.Modal.{Modal}
use Rattle.records.specs.declared.numbers.LabelCount.{LabelCount}
use Rattle.kinds.specs.declared.facts.Labelled.{Labelled}
use Rattle.kinds.specs.declared.facts.Ordered.{Ordered}
use Rattle.kinds.specs.declared.facts.Arrowed.{Arrowed}
use Rattle.records.specs.declared.numbers.WorldCount.{WorldCount}
use Rattle.kinds.specs.declared.rows.AboveRow.{AboveRow}
use Rattle.kinds.specs.declared.rows.EndsRow.{EndsRow}
use Rattle.kinds.specs.declared.rows.AtomRow.{AtomRow}
use Rattle.kinds.specs.declared.rows.Place.{Place}

-- an atom: its number
abbrev pub atom_of : List ℕ → AtomNumber
atom_of bs = record { 0 = word bs 0 }

-- falsity: nothing
abbrev pub nothing_of : List ℕ → Unit {0}
nothing_of bs = tt

-- and, or, implies: the numbers of the two parts
abbrev pub parts_of : List ℕ → Parts
parts_of bs = record { left = record { 0 = word bs 0 }; right = record { 0 = word bs 2 } }

-- a modality: its principal, then the number of the formula under it
abbrev pub modal_of : List ℕ → Modal
modal_of bs = record { principal = record { 0 = word bs 0 }; formula = record { 0 = word bs 2 } }

-- how many labels
abbrev pub label_count_of : List ℕ → LabelCount
label_count_of bs = record { 0 = word bs 0 }

-- a label, then a formula
abbrev pub labelled_of : List ℕ → Labelled
labelled_of bs = record { label = record { 0 = word bs 0 }; formula = record { 0 = word bs 2 } }

-- the lower label, then the upper
abbrev pub ordered_of : List ℕ → Ordered
ordered_of bs = record { lower = record { 0 = word bs 0 }; upper = record { 0 = word bs 2 } }

-- a modality's number, a principal, and the labels where the arrow begins and ends
abbrev pub arrowed_of : List ℕ → Arrowed
arrowed_of bs = record { modality = record { 0 = word bs 0 }; principal = record { 0 = word bs 2 }; from = record { 0 = word bs 4 }; to = record { 0 = word bs 6 } }

-- how many worlds
abbrev pub world_count_of : List ℕ → WorldCount
world_count_of bs = record { 0 = word bs 0 }

-- a world, then the mask of the worlds above it
abbrev pub above_of : List ℕ → AboveRow
above_of bs = record { world = record { 0 = word bs 0 }; mask = record { 0 = long bs 2 } }

-- a modality's number, a principal, a world, and the mask of the ends of the arrows from it
abbrev pub ends_of : List ℕ → EndsRow
ends_of bs = record { modality = record { 0 = word bs 0 }; principal = record { 0 = word bs 2 }; world = record { 0 = word bs 4 }; mask = record { 0 = long bs 6 } }

-- an atom, then the mask of the worlds where it holds
abbrev pub atom_row_of : List ℕ → AtomRow
atom_row_of bs = record { atom = record { 0 = word bs 0 }; mask = record { 0 = long bs 2 } }

-- a label, then the world where it stands
abbrev pub place_of : List ℕ → Place
place_of bs = record { label = record { 0 = word bs 0 }; world = record { 0 = word bs 2 } }
