-- Which byte lists are files. Assumes nothing.
use Rattle.std.specs.Prelude.{◌≡◌, ℕ, ◌<◌, ◌≤◌, List, length, Ok, Err, Result}
use Rattle.std.specs.Borrow.{Bor}
use Rattle.records.specs.declared.file.File.{File}
use Rattle.records.specs.declared.refusal.Refusal.{Refusal}
use Rattle.records.specs.declared.refusal.Refusal.TheVariants.{FileTooLong}

-- the bytes of a file
abbrev pub bytes_of : File → List ℕ
bytes_of f = f.bytes.now

-- the answer to bytes that are handed in as a file: taken up to 32,768, refused as too long beyond
abbrev pub Limited : List ℕ → Result (Unit {0}) Refusal → Type 0
Limited bs (Ok done) = length bs ≤ 32768
Limited bs (Err e) = (32768 < length bs) × (e ≡ FileTooLong)

-- the answer to bytes that are to be a file: a file of those bytes up to 32,768, refused as too long beyond
abbrev pub IsFile : Bor (List ℕ) → Result File Refusal → Type 0
IsFile bs (Ok f) = (length bs.now ≤ 32768) × (bytes_of f ≡ bs.now)
IsFile bs (Err e) = (32768 < length bs.now) × (e ≡ FileTooLong)
