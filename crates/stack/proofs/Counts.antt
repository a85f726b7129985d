-- How many items a stack holds, what it has room for, and what it leaves. Assumes nothing.
use Rattle.std.proofs.Common.{◌≡◌, ℕ, ◌-◌, ◌<◌, min, List, [], length, get_or, take, set, replicate, Some, sym, refl, ap, ◌∙◌, arith, length-take, MutBor}
use Rattle.std.proofs.lemmas.Option.{slice_get-get_or}
use Rattle.std.proofs.lemmas.List.{get_or-take, take-set, take-take}
use Rattle.stack.specs.declared.stack.Stack.{Stack}
use Rattle.stack.specs.Places.{Blanked, Cleared}
use Rattle.stack.specs.Stacks.{items, room, latest, before_latest, Same, Made}

-- there are as many items as places in use
pub count : {X : Type 0} (s : Stack X) → length (items s) ≡ s.len
count s = let w = s.within in simp length-take (omega arith)

-- the latest item lies in the last place in use
pub latest_in_use : {X : Type 0} (s : Stack X) (d : X) → 0 < s.len → Some (get_or s.places.now (s.len - 1) d) ≡ latest (items s)
latest_in_use s d some =
    rw (count s)
    (let under : s.len - 1 < s.len = omega arith in
    let used : s.len - 1 < length (items s) = omega (arith, count s) in
    sym (slice_get-get_or (items s) (s.len - 1) d used ∙ ap Some (get_or-take s.len s.places.now (s.len - 1) d under)))

-- all items but the latest stand in the places before the last in use, whatever is written there
pub but_latest : {X : Type 0} (s : Stack X) (x : X) → take (s.len - 1) (set s.places.now (s.len - 1) x) ≡ before_latest (items s)
but_latest s x =
    rw (count s) (take-set s.places.now (s.len - 1) x ∙ sym (take-take (s.len - 1) s.len s.places.now (omega arith)))

-- a stack keeps all with itself
pub same_refl : {X : Type 0} (s : Stack X) → Same s s
same_refl s = record { lent = refl; places = refl; limit = refl; blank = refl }

-- what two changes keep, one after the other keeps
pub same_then : {X : Type 0} {s t u : Stack X} → Same s t → Same t u → Same s u
same_then p q =
    record {
      lent = q.lent ∙ p.lent;
      places = q.places ∙ p.places;
      limit = q.limit ∙ p.limit;
      blank = q.blank ∙ p.blank;
    }

-- the room stays the same
pub same_room : {X : Type 0} {s t : Stack X} → Same s t → room t ≡ room s
same_room e = rw (e.limit, e.places)

-- the room of a new stack: the limit, or the places where they are fewer
pub made_room : {X : Type 0} {p : MutBor (List X)} {n : ℕ} {b : X} {s : Stack X} → Made p n b s → room s ≡ min n (length p.now)
made_room e = rw (e.limit, e.places)

-- a stack with no item leaves every place blank
pub emptied : {X : Type 0} (xs : List X) (s : Stack X) (b : X) → items s ≡ [] → s.blank ≡ b → xs ≡ s.places.now → Blanked b xs
emptied xs s b none blank is =
    let zero : s.len ≡ 0 = sym (count s) ∙ ap length none in
    rw (is, ← blank) (rw zero at s.free)

-- a stack with no item leaves as many places as were brought, and every one blank
pub cleared : {X : Type 0} (brought left : List X) (s : Stack X) (b : X) → items s ≡ [] → s.blank ≡ b → length s.places.now ≡ length brought → left ≡ s.places.now → Cleared b brought left
cleared brought left s b none blank many is =
    emptied left s b none blank is ∙ ap (λ n. replicate n b) (ap length is ∙ many)
