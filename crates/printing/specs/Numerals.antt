-- A number in decimal, said in words: digits that read back give the number, with no 0 in front. Assumes nothing.
use Rattle.std.specs.Prelude.{◌≡◌, ℕ, ◌+◌, ◌-◌, ◌*◌, ◌^◌, ◌<◌, ◌≤◌, List, [], ◌∷◌, length, decimal, slice_index_or}

-- each byte is one of the ten digits, 48 to 57
abbrev pub AllDigits : List ℕ → Type 0
AllDigits [] = Unit {0}
AllDigits (d ∷ ds) = (48 ≤ d) × (d ≤ 57) × AllDigits ds

-- the digits read from the left, after the number read so far
abbrev pub read_on : ℕ → List ℕ → ℕ
read_on so_far [] = so_far
read_on so_far (d ∷ ds) = read_on (so_far * 10 + (d - 48)) ds

-- the number that the digits give
abbrev pub read_back : List ℕ → ℕ
read_back ds = read_on 0 ds

-- ds is n in decimal
pub record InDecimal (n : ℕ) (ds : List ℕ) : Type 0 where
  pub some : 0 < length ds
  pub digits : AllDigits ds
  pub reads : read_back ds ≡ n
  pub first : slice_index_or ds 0 0 ≡ 48 → length ds ≡ 1

-- of each number of two bytes, decimal gives the number in decimal, and nothing else is
abbrev pub DecimalsAreRight : Type 0
DecimalsAreRight = (n : ℕ) → n < 2 ^ 16 → InDecimal n (decimal n) × ((ds : List ℕ) → InDecimal n ds → ds ≡ decimal n)
