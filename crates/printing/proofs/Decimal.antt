-- The digits of a number, written from the last to the first. Assumes nothing.
use Rattle.std.proofs.Common.{◌≡◌, ℕ, ◌+◌, ◌/◌, ◌%◌, ◌^◌, ◌<◌, ◌≤◌, List, [], ◌∷◌, ◌++◌, length, decimal, sym, ap, ◌∙◌, arith}
use Rattle.std.proofs.lemmas.Fmt.{decimal_digit, decimal_step, length-decimal-le}
use Rattle.std.proofs.lemmas.List.{length_push, nil_from_length}

-- a number under 10 has one digit
pub one_digit : (n : ℕ) → n < 10 → length (decimal n) ≡ 1
one_digit n small = ap length (decimal_digit n small)

-- any other has one more than its tenth
pub more_digits : (n : ℕ) → 10 ≤ n → n < 2 ^ 64 → length (decimal n) ≡ length (decimal (n / 10)) + 1
more_digits n large fits = ap length (decimal_step n large fits) ∙ length_push (decimal (n / 10)) (48 + n % 10)

-- a number of two bytes has five digits at most
pub few_digits : (n : ℕ) → n < 65536 → length (decimal n) ≤ 5
few_digits n small = length-decimal-le 5 n (omega arith) (omega arith) (omega arith)

-- the digits of the tenth, and then the last one
pub last_behind : (n d : ℕ) (ds : List ℕ) → 10 ≤ n → n < 65536 → d ≡ 48 + n % 10 → ds ≡ decimal (n / 10) → ds ++ d ∷ [] ≡ decimal n
last_behind n d ds large small digit others =
    (λ i. others i ++ digit i ∷ []) ∙ sym (decimal_step n large (omega arith))

-- the one digit of a number under 10
pub last_alone : (n d : ℕ) (ds : List ℕ) → n < 10 → d ≡ 48 + n % 10 → length ds ≡ 0 → ds ++ d ∷ [] ≡ decimal n
last_alone n d ds small digit none =
    let whole : d ≡ 48 + n = omega arith in
    (λ i. nil_from_length ds none i ++ whole i ∷ []) ∙ sym (decimal_digit n small)
