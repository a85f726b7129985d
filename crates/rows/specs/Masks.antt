-- Sets of worlds as numbers: bit w of a number stands for world w. Assumes nothing.
use Rattle.std.specs.Prelude.{◌≡◌, ℕ, ◌/◌, ◌%◌, ◌^◌, ◌<◌, Bool, ◌==◌}
use Rattle.rows.specs.declared.masks.WorldSet.{WorldSet}

-- whether world w is one of the set m
abbrev pub bit : ℕ → ℕ → Bool
bit m w = m / 2 ^ w % 2 == 1

-- m is the set of the worlds below n where p holds
pub record Mask (n m : ℕ) (p : ℕ → Bool) : Type 0 where
  pub small : m < 2 ^ n
  pub bits : (w : ℕ) → w < n → bit m w ≡ p w

-- the empty set, which stands where a list of sets ends
abbrev pub no_set : WorldSet
no_set = record { 0 = 0 }
