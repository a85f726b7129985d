-- The numbers by which records name the modalities. Assumes nothing.
use Rattle.std.specs.Prelude.{◌≡◌, ℕ, cond, Some, None, Ok, Err, Option, Result, ◌==◌}
use Rattle.logic.specs.declared.terms.Modality.{Modality}
use Rattle.logic.specs.declared.terms.UnknownModality.{UnknownModality}
use Rattle.logic.specs.declared.terms.Modality.TheVariants.{Says, Controls, Ratified, Permitted}

-- the number of each modality
abbrev pub modality_number : Modality → ℕ
modality_number Says = 6
modality_number Controls = 7
modality_number Ratified = 8
modality_number Permitted = 9

-- the modality of a number
abbrev pub numbered_modality : ℕ → Option Modality
numbered_modality n =
    cond (n == 6) (Some Says) (cond (n == 7) (Some Controls) (cond (n == 8) (Some Ratified) (cond (n == 9) (Some Permitted) None)))

-- the answer to a number that may name a modality: that one, or none has the number
abbrev pub Names : ℕ → Result Modality UnknownModality → Type 0
Names n (Ok k) = numbered_modality n ≡ Some k
Names n (Err e) = (numbered_modality n ≡ None) × (e.0 ≡ n)
