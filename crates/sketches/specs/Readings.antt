-- How a model file is read: the world count, then entries. Assumes nothing.
use Rattle.std.specs.Prelude.{ℕ, zero, suc, cond, List, [], ◌∷◌, ◌++◌, is_some, Some, None, Ok, Err, Option, Result}
use Rattle.std.specs.Option.{option_or}
use Rattle.records.specs.declared.numbers.Label.{Label}
use Rattle.records.specs.declared.numbers.World.{World}
use Rattle.records.specs.declared.numbers.RecordNumber.{RecordNumber}
use Rattle.records.specs.declared.refusal.Refusal.{Refusal}
use Rattle.records.specs.declared.refusal.Refusal.TheVariants.{OutOfRange, GivenTwice, EndsEarly, LabelUnplaced}
use Rattle.records.specs.Chains.{Record, broken_at}
use Rattle.records.specs.Readers.{Reader}
use Rattle.sketches.specs.declared.entry.Entry.{Entry}
use Rattle.sketches.specs.Entries.{onward, entry_of, fits_entry, worlds_at}
use Rattle.sketches.specs.Described.{given_before, place_in}

-- what of a model file is read so far: nothing, or the world count and entries
pub data Stage : Type 0 where
  nothing : Stage
  begun : ℕ → List Entry → Stage

-- what a model file leaves: its world count and its entries
pub record Kept : Type 0 where
  pub worlds : ℕ
  pub entries : List Entry

-- record i, as refusals name it
abbrev pub numbered : ℕ → RecordNumber
numbered i = record { 0 = i }

-- label x
abbrev pub label : ℕ → Label
label x = record { 0 = x }

-- one entry more: in range, and not given before
abbrev pub with_entry : ℕ → ℕ → ℕ → RecordNumber → List Entry → Entry → Result (List Entry) Refusal
with_entry W P n at es e =
    cond (fits_entry W P n e) (cond (given_before es e) (Err (GivenTwice at)) (Ok (es ++ (e ∷ [])))) (Err (OutOfRange at))

-- the entries with that of a record
abbrev pub entries_at : ℕ → ℕ → ℕ → ℕ → List ℕ → RecordNumber → List Entry → Result (List Entry) Refusal
entries_at W P n kind body at es = onward (entry_of kind body at) λ e. with_entry W P n at es e

-- what record i does: the first gives the world count, each later one an entry; any other kind is not in its place
abbrev pub entered : ℕ → ℕ → ℕ → Record → Stage → Result Stage Refusal
entered P n i r nothing = onward (worlds_at r.kind r.body (numbered i)) λ W. Ok (begun W.0 [])
entered P n i r (begun W es) = onward (entries_at W P n r.kind r.body (numbered i) es) λ fs. Ok (begun W fs)

-- the lowest label below n that has no place
abbrev pub unplaced : ℕ → (Label → Option World) → Option Label
unplaced zero place = None
unplaced (suc x) place = option_or (unplaced x place) (cond (is_some (place (label x))) None (Some (label x)))

-- the answer of a file whose lowest label without a place is this
abbrev pub placed : ℕ → List Entry → Option Label → Result Kept Refusal
placed W es None = Ok (record { worlds = W; entries = es })
placed W es (Some x) = Err (LabelUnplaced x)

-- the answer at the end: a file that has no world count ends too early, and every label below n needs a place
abbrev pub finished : ℕ → ℕ → Stage → Result Kept Refusal
finished n i nothing = Err (EndsEarly (numbered i))
finished n i (begun W es) = placed W es (unplaced n (place_in es))

-- how a model file is read, for P principals and a sequent of n labels
abbrev pub model_reader : ℕ → ℕ → Reader Stage Kept
model_reader P n = record { step = entered P n; end = finished n; broken = λ i s. Err (broken_at i) }
