-- The body of a record of a given kind. Assumes nothing.
use Rattle.std.specs.Prelude.{ℕ, cond, List, length, Ok, Err, Result, ◌==◌}
use Rattle.records.specs.declared.numbers.RecordNumber.{RecordNumber}
use Rattle.records.specs.declared.refusal.Refusal.{Refusal}
use Rattle.records.specs.declared.refusal.Refusal.TheVariants.{Frame}

-- what a body holds where it has the size of its kind; a body of another size is refused at its record
abbrev pub decoded : {X : Type 0} → ℕ → (List ℕ → X) → List ℕ → RecordNumber → Result X Refusal
decoded size content bs at = cond (length bs == size) (Ok (content bs)) (Err (Frame at))
