-- The digits of a number, read back. Assumes nothing.
use Rattle.std.proofs.Common.{◌≡◌, ℕ, ◌^◌, ◌<◌, List, length, get_or, decimal, sym, ap, ◌∙◌, subst, ⊎_elim, arith, rules}
use Rattle.std.proofs.lemmas.Fmt.{decimal_nonempty, first_decimal, digits_decimal, digits_value-decimal, decimal-digits_value}
use Rattle.std.proofs.lemmas.Str.Parse.{IsNumeralModel, numerals_by_fold}
use Rattle.std.proofs.lemmas.Bool.{cases_lt}
use Rattle.printing.proofs.Decimal.{one_digit}
use Rattle.printing.specs.Numerals.{AllDigits, read_on, read_back, InDecimal, DecimalsAreRight}

-- our words for digits and for the number that they give are the library's
own : IsNumeralModel AllDigits read_back
own = numerals_by_fold AllDigits (search rules) read_on (search rules)

-- only 0 begins with the digit 0
first_of : (n : ℕ) → n < 2 ^ 64 → get_or (decimal n) 0 0 ≡ 48 → length (decimal n) ≡ 1
first_of n fits zero = ⊎_elim (λ none. one_digit n (omega arith)) (λ some. absurd (omega (arith, zero, first_decimal n (omega arith) fits))) (cases_lt n 1)

-- what is written of a number is the number in decimal
pub in_decimal : (n : ℕ) → n < 2 ^ 64 → InDecimal n (decimal n)
in_decimal n fits = record {
  some = decimal_nonempty n fits;
  digits = digits_decimal own n fits;
  reads = digits_value-decimal own n fits;
  first = first_of n fits;
}

-- and nothing else is
only_decimal : (n : ℕ) → n < 2 ^ 64 → (ds : List ℕ) → InDecimal n ds → ds ≡ decimal n
only_decimal n fits ds is =
    sym (decimal-digits_value own ds is.digits is.some is.first (subst (λ k. k < 2 ^ 64) (sym is.reads) fits)) ∙ ap decimal is.reads

pub decimals_are_right : DecimalsAreRight
decimals_are_right n small = let fits : n < 2 ^ 64 = omega arith in (in_decimal n fits, only_decimal n fits)
