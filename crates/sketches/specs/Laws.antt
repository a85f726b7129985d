-- When a model file is taken, in terms of its records. Assumes nothing.
use Rattle.std.specs.Prelude.{◌≡◌, ℕ, ◌<◌, true, false, ◌↔◌, List, [], ◌∷◌, ◌++◌, length, Some, Ok}
use Rattle.std.specs.List.{AllByRecursion}
use Rattle.records.specs.declared.numbers.Label.{Label}
use Rattle.records.specs.declared.numbers.World.{World}
use Rattle.records.specs.Chains.{Record, chain}
use Rattle.records.specs.Readers.{read_bytes, ReadsBy}
use Rattle.kinds.specs.Contents.{world_count_of, above_of, ends_of, atom_row_of, place_of}
use Rattle.logic.specs.declared.terms.Modality.{Modality}
use Rattle.logic.specs.Modalities.{modality_number}
use Rattle.sketches.specs.declared.entry.Entry.{Entry}
use Rattle.sketches.specs.declared.entry.Entry.TheVariants.{Above, Ends, Atom, Place}
use Rattle.sketches.specs.Entries.{fits_entry, worlds_fit}
use Rattle.sketches.specs.Described.{same_row, place_in}
use Rattle.sketches.specs.Readings.{nothing, Kept, model_reader}

-- a record of this kind and body
abbrev pub rec : ℕ → List ℕ → Record
rec kind body = record { kind = kind; body = body }

-- the record of an entry
pub data EntryRecord : Record → Entry → Type 0 where
  above : (b : List ℕ) → length b ≡ 6 → EntryRecord (rec 21 b) (Above (above_of b).world (record { 0 = (above_of b).mask.0 }))
  ends : (k : Modality) (b : List ℕ) → length b ≡ 10 → (ends_of b).modality.0 ≡ modality_number k
      → EntryRecord (rec 22 b) (Ends k (ends_of b).principal (ends_of b).world (record { 0 = (ends_of b).mask.0 }))
  atom : (b : List ℕ) → length b ≡ 6 → EntryRecord (rec 23 b) (Atom (atom_row_of b).atom (record { 0 = (atom_row_of b).mask.0 }))
  place : (b : List ℕ) → length b ≡ 4 → EntryRecord (rec 24 b) (Place (place_of b).label (place_of b).world)

-- an entry gives no row and no label's place that one of the others gives
abbrev pub Apart : Entry → List Entry → Type 0
Apart e es = AllByRecursion (λ d. same_row e d ≡ false) es

-- records of entries, each in range and apart from those before it, take a list of entries to another
pub data Entries (W P n : ℕ) : List Entry → List Record → List Entry → Type 0 where
  none : {es : List Entry} → Entries W P n es [] es
  more : {es fs : List Entry} {r : Record} {rs : List Record} (e : Entry) → EntryRecord r e → fits_entry W P n e ≡ true → Apart e es
      → Entries W P n (es ++ (e ∷ [])) rs fs → Entries W P n es (r ∷ rs) fs

-- the bytes are the records of one world count from 1 to 32 and of some entries, each in range and no two of the same row or label,
-- and nothing else, and every label below n has a place
pub record IsModelFile (P n : ℕ) (bs : List ℕ) (k : Kept) : Type 0 where
  pub first : List ℕ
  pub last : List Record
  pub parts : (chain bs).records ≡ rec 20 first ∷ last
  pub whole : (chain bs).rest ≡ []
  pub count_size : length first ≡ 2
  pub count_is : k.worlds ≡ (world_count_of first).0
  pub count_fits : worlds_fit k.worlds ≡ true
  pub listed : Entries k.worlds P n [] last k.entries
  pub placed : (x : Label) → x.0 < n → (w : World) × (place_in k.entries x ≡ Some w)

-- a model file is taken exactly when its bytes are such, and then that is what is kept;
-- it is refused at record i exactly when the records before i are good and record i is refused, or, where all are good, at its end
pub record ModelLaw (P n : ℕ) (bs : List ℕ) : Type 0 where
  pub taken : (k : Kept) → (read_bytes (model_reader P n) 0 nothing bs ≡ Ok k) ↔ IsModelFile P n bs k
  pub reads_by : ReadsBy (model_reader P n) nothing bs
