use Rattle.std.proofs.Common.{sym, subst, arith}
use Rattle.printing.proofs.Decimal.{last_behind, last_alone, one_digit}
use Rattle.printing.proofs.Reading.{in_decimal}
use Rattle.printing.specs.Numerals.{InDecimal}
use Rattle.printing.proofs.digits.+write_digits.Goals as goal

pub returns-then-n-ge10 : goal.returns-then-n-ge10
returns-then-n-ge10 t c =
    let whole = last_behind c.args.n _ c.write_digits.new.part (omega arith) (omega arith) c.last_digit.ensures c.write_digits.ensures.bytes in
    record { bytes = whole; law = subst (InDecimal c.args.n) (sym whole) (in_decimal c.args.n (omega arith)) }

pub returns-else-n-ge10 : goal.returns-else-n-ge10
returns-else-n-ge10 t c =
    let whole = last_alone c.args.n _ c.in-Some.others.now (omega arith) c.last_digit.ensures (omega (arith, c.in-Some.ensures.cases.1, one_digit c.args.n)) in
    record { bytes = whole; law = subst (InDecimal c.args.n) (sym whole) (in_decimal c.args.n (omega arith)) }
