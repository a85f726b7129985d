-- What each record of a model file gives, and when its numbers are in range. Assumes nothing.
use Rattle.std.specs.Prelude.{ℕ, ◌^◌, Bool, cond, ◌&&◌, List, Some, None, Ok, Err, Option, Result, ◌==◌, nat_le, nat_lt}
use Rattle.records.specs.declared.numbers.RecordNumber.{RecordNumber}
use Rattle.records.specs.declared.numbers.WorldCount.{WorldCount}
use Rattle.records.specs.declared.refusal.Refusal.{Refusal}
use Rattle.records.specs.declared.refusal.Refusal.TheVariants.{Kind, OutOfRange}
use Rattle.records.specs.Kinds.{decoded}
use Rattle.kinds.specs.declared.rows.EndsRow.{EndsRow}
use Rattle.kinds.specs.Contents.{world_count_of, above_of, ends_of, atom_row_of, place_of}
use Rattle.logic.specs.declared.terms.Modality.{Modality}
use Rattle.logic.specs.Modalities.{numbered_modality}
use Rattle.sketches.specs.declared.entry.Entry.{Entry}
use Rattle.sketches.specs.declared.entry.Entry.TheVariants.{Above, Ends, Atom, Place}

-- what was read, made into something else; a refusal stays
abbrev pub onward : {X Y : Type 0} → Result X Refusal → (X → Result Y Refusal) → Result Y Refusal
onward (Ok x) f = f x
onward (Err e) f = Err e

-- arrows whose modality's number names none are out of range
abbrev pub ends_named : Option Modality → EndsRow → RecordNumber → Result Entry Refusal
ends_named None r at = Err (OutOfRange at)
ends_named (Some k) r at = Ok (Ends k r.principal r.world (record { 0 = r.mask.0 }))

-- what a record of kind 21 to 24 gives; any other kind is not in its place
abbrev pub entry_of : ℕ → List ℕ → RecordNumber → Result Entry Refusal
entry_of kind body at =
    cond (kind == 21) (onward (decoded 6 above_of body at) λ r. Ok (Above r.world (record { 0 = r.mask.0 })))
    (cond (kind == 22) (onward (decoded 10 ends_of body at) λ r. ends_named (numbered_modality r.modality.0) r at)
    (cond (kind == 23) (onward (decoded 6 atom_row_of body at) λ r. Ok (Atom r.atom (record { 0 = r.mask.0 })))
    (cond (kind == 24) (onward (decoded 4 place_of body at) λ p. Ok (Place p.label p.world))
    (Err (Kind at)))))

-- an entry's numbers are in range: its worlds and its set's worlds below W, its principal below P, its atom below 64, its label below n;
-- and no model names more than 8 principals or labels
abbrev pub fits_entry : ℕ → ℕ → ℕ → Entry → Bool
fits_entry W P n (Above x m) = nat_lt x.0 W && nat_lt m.0 (2 ^ W)
fits_entry W P n (Ends k A x m) = nat_lt A.0 P && (nat_lt A.0 8 && (nat_lt x.0 W && nat_lt m.0 (2 ^ W)))
fits_entry W P n (Atom a m) = nat_lt a.0 64 && nat_lt m.0 (2 ^ W)
fits_entry W P n (Place x w) = nat_lt x.0 n && (nat_lt x.0 8 && nat_lt w.0 W)

-- a model has 1 to 32 worlds
abbrev pub worlds_fit : ℕ → Bool
worlds_fit W = nat_le 1 W && nat_le W 32

-- the world count that a record of kind 20 gives; any other kind is not in its place
abbrev pub count_of : ℕ → List ℕ → RecordNumber → Result WorldCount Refusal
count_of kind body at = cond (kind == 20) (decoded 2 world_count_of body at) (Err (Kind at))

-- the same, in range
abbrev pub worlds_at : ℕ → List ℕ → RecordNumber → Result WorldCount Refusal
worlds_at kind body at = onward (count_of kind body at) λ W. cond (worlds_fit W.0) (Ok W) (Err (OutOfRange at))
