-- The words of a refused open. Assumes nothing.
use Rattle.std.proofs.Common.{◌≡◌, ◌∷◌, ◌++◌, codes, arith}
use Rattle.std.proofs.lemmas.Fmt.{decimal_digit}
use Rattle.records.specs.declared.refusal.Refusal.TheVariants.{PrincipalCount}
use Rattle.printing.specs.Lines.{refusal_of}

-- the two numbers of a refused open
pub count_refused : refusal_of PrincipalCount ≡ codes " 1 0"
count_refused = λ i. (32 ∷ decimal_digit 1 (omega arith) i) ++ (32 ∷ decimal_digit 0 (omega arith) i)
