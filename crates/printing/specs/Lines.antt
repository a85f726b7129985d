-- The lines that are printed, as bytes, and where they stand in a buffer. Assumes nothing.
use Rattle.std.specs.Prelude.{◌≡◌, ℕ, ◌+◌, ◌<◌, ◌≤◌, List, [], ◌∷◌, ◌++◌, length, take, drop, Ok, Err, codes, decimal, Result}
use Rattle.records.specs.Refusals.{number_of, second_of}
use Rattle.records.specs.declared.refusal.Refusal.{Refusal}
use Rattle.records.specs.declared.refusal.Refusal.TheVariants.{LineTooLong}
use Rattle.printing.specs.declared.line.WrongCount.{WrongCount}
use Rattle.printing.specs.declared.line.Line.{Line}
use Rattle.printing.specs.declared.line.Line.TheVariants.{Open, Enter, Prove, Refute, Stop}

-- a number, after a space
abbrev pub spaced : ℕ → List ℕ
spaced n = codes " " ++ decimal n

-- a refusal's number and the number beside it
abbrev pub refusal_of : Refusal → List ℕ
refusal_of e = spaced (number_of e) ++ spaced (second_of e)

-- how a call ended
abbrev pub outcome_of : Result (Unit {0}) Refusal → List ℕ
outcome_of (Ok _) = codes " ok"
outcome_of (Err e) = refusal_of e

-- how an open ended
abbrev pub opening_of : Result (Unit {0}) WrongCount → List ℕ
opening_of (Ok _) = codes " ok"
opening_of (Err _) = codes " 1 0"

-- a line without the byte that ends it
abbrev pub words_of : Line → List ℕ
words_of (Open p done) = codes "open" ++ spaced p ++ opening_of done
words_of (Enter (Ok m)) = codes "enter" ++ spaced m.0 ++ codes " ok"
words_of (Enter (Err e)) = codes "enter -" ++ refusal_of e
words_of (Prove m done) = codes "prove" ++ spaced m.0 ++ outcome_of done
words_of (Refute m done) = codes "refute" ++ spaced m.0 ++ outcome_of done
words_of Stop = codes "stop"

-- a line's bytes; 10 ends it
abbrev pub line_of : Line → List ℕ
line_of l = words_of l ++ 10 ∷ []

-- what a buffer holds after xs was written into it from the place at
abbrev pub written : List ℕ → ℕ → List ℕ → List ℕ
written buf at xs = take at buf ++ (xs ++ drop (at + length xs) buf)

-- xs was to be written from the place at: the next free place, or nothing written where it does not fit
abbrev pub Fitted : List ℕ → ℕ → List ℕ → Result ℕ Refusal → List ℕ → Type 0
Fitted before at xs (Ok end) after = (at + length xs ≤ length before) × (end ≡ at + length xs) × (after ≡ written before at xs)
Fitted before at xs (Err e) after = (length before < at + length xs) × (e ≡ LineTooLong) × (after ≡ before)
