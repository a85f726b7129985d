-- What a slice's `get` and `last` answer, as elements of a list. Assumes nothing.
use Rattle.std.proofs.Common.{◌≡◌, ℕ, ◌-◌, ◌<◌, ◌≤◌, List, length, Some, None, Option, sym, refl, ap, ◌∙◌, arith, Bor}
use Rattle.std.specs.List.{slice_get}
use Rattle.std.specs.Option.{option_map}
use Rattle.std.specs.Slice.{IsGetResult}
use Rattle.std.proofs.lemmas.Option.{slice_get_past, slice_get_read}
use Rattle.stack.specs.Stacks.{latest}

-- a lent element that is there exactly where i is within the list, read, is the element at i
pub item_at : {X : Type 0} (xs : List X) (low i : ℕ) (r : Option (Bor X)) → IsGetResult xs low i r → (length xs ≤ low → length xs ≤ i) → (low < length xs → i < length xs) → option_map (λ x. x.now) r ≡ slice_get xs i
item_at xs low i None h past within = sym (slice_get_past xs i (past h.3))
item_at xs low i (Some x) h past within =
    sym (slice_get_read xs (length xs) i x.now refl (within h.3.0) h.1)

-- what `get` and a copy answer, of a slice that shows the list xs
pub got_at : {X : Type 0} (xs seen : List X) (i : ℕ) (r : Option (Bor X)) (t : Option X) → t ≡ option_map (λ x. x.now) r → IsGetResult seen i i r → seen ≡ xs → t ≡ slice_get xs i
got_at xs seen i r t copied h is =
    copied ∙ item_at seen i i r h (λ p. p) (λ p. p) ∙ ap (λ ys. slice_get ys i) is

-- what `last` and a copy answer, of a slice that shows the list xs
pub got_latest : {X : Type 0} (xs seen : List X) (r : Option (Bor X)) (t : Option X) → t ≡ option_map (λ x. x.now) r → IsGetResult seen 0 (length seen - 1) r → seen ≡ xs → t ≡ latest xs
got_latest xs seen r t copied h is =
    copied ∙ item_at seen 0 (length seen - 1) r h (λ p. omega arith) (λ p. omega arith) ∙ ap latest is
