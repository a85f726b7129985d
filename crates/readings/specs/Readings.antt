-- How a record reads, by its kind and its body. Assumes nothing.
use Rattle.std.specs.Prelude.{◌≡◌, ℕ, List, length, Ok, Err, Result, ◌≢◌}
use Rattle.records.specs.declared.numbers.RecordNumber.{RecordNumber}
use Rattle.records.specs.declared.refusal.Refusal.{Refusal}
use Rattle.records.specs.declared.refusal.Refusal.TheVariants.{Frame}
use Rattle.kinds.specs.declared.kind.Kind.{Kind}
use Rattle.kinds.specs.declared.kind.Sort.{Sort}
use Rattle.kinds.specs.declared.kind.Sort.TheVariants.{Unknown, WrongSize}
use Rattle.kinds.specs.declared.kind.UnknownKind.{UnknownKind}
use Rattle.kinds.specs.Kinds.{number_of, size_of, sort_of}
use Rattle.readings.specs.declared.fields.Fields.{Fields}
use Rattle.readings.specs.declared.reading.Reading.{Reading}
use Rattle.readings.specs.Fields.{fields_of}

-- the answer to record number at, of kind k, with body bs: the kind's fields where the body has its size, refused where not
abbrev pub GivesFields : Kind → List ℕ → RecordNumber → Result Fields Refusal → Type 0
GivesFields k bs at (Ok fields) = (length bs ≡ size_of k) × (fields ≡ fields_of k bs)
GivesFields k bs at (Err refusal) = (length bs ≢ size_of k) × (refusal ≡ Frame at)

-- how record number at, with kind n and body bs, reads: by the kind that has the number, or as unknown where none has it
abbrev pub ReadsAs : ℕ → List ℕ → RecordNumber → Result Reading UnknownKind → Type 0
ReadsAs n bs at (Ok r) = (number_of r.kind ≡ n) × GivesFields r.kind bs at r.fields
ReadsAs n bs at (Err e) = (k : Kind) → number_of k ≢ n

-- what a record that reads so is counted as
abbrev pub counted_as : Result Reading UnknownKind → Sort
counted_as (Ok r) = elim r.fields [ Ok fields ↦ sort_of r.kind | Err refusal ↦ WrongSize ]
counted_as (Err e) = Unknown
