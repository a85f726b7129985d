-- Something said of an option by its cases. Assumes nothing.
use Rattle.std.proofs.Common.{◌≡◌, Some, None, Option, refl}
use Rattle.std.specs.Option.{MatchOption}

-- what follows in either case
pub by_cases : {A : Type 0} {P S : Type 0} {Q : A → Type 0} (o : Option A) → MatchOption o P Q → (o ≡ None → P → S) → ((x : A) → o ≡ Some x → Q x → S) → S
by_cases None h none some = none refl h
by_cases (Some x) h none some = some x refl h
