-- What a stack holds, and what it keeps of the places that it is over. Assumes nothing.
--
-- How one who was lent a slice, and made a stack over it, shows in what state it goes back. `over` says that the stack is over
-- these places (`Made`); every call that changes the stack keeps them (`Same`), and a loop or a function that is handed the stack
-- passes `Same` on. After `cut(0)` or `blank_all` no item is left. From these the lemma `cleared` of proofs/Counts.antt gives
-- that as many places are left as were brought, used or not, also beyond the limit, and every one is blank (`Cleared`);
-- `emptied` gives the last alone (`Blanked`). The answer is `search (rules, cleared)`; a loop's invariant is
-- `Same l.initial.s l.s`. It goes so where the type of the elements is a given one: a function that is itself generic in it
-- is told only how many places come back.
use Rattle.std.specs.Prelude.{◌≡◌, ℕ, ◌-◌, ◌<◌, ◌≤◌, min, List, [], ◌∷◌, ◌++◌, length, take, Ok, Err, Option, Result}
use Rattle.std.specs.Borrow.{MutBor}
use Rattle.std.specs.List.{slice_get}
use Rattle.stack.specs.declared.stack.NoRoom.{NoRoom}
use Rattle.stack.specs.declared.stack.Stack.{Stack}

-- the items in use, the oldest first
abbrev pub items : {X : Type 0} → Stack X → List X
items s = take s.len s.places.now

-- how many items there is room for: the limit, or the lent places where they are fewer
abbrev pub room : {X : Type 0} → Stack X → ℕ
room s = min s.limit (length s.places.now)

-- the latest of a list of items, if there is one
abbrev pub latest : {X : Type 0} → List X → Option X
latest xs = slice_get xs (length xs - 1)

-- all of a list of items but the latest
abbrev pub before_latest : {X : Type 0} → List X → List X
before_latest xs = take (length xs - 1) xs

-- one item more, behind the others, where fewer are there than there is room for; else refused, with the items as they were
abbrev pub Pushed : {X : Type 0} → ℕ → X → List X → Result (Unit {0}) NoRoom → List X → Type 0
Pushed n x before (Ok _) after = (length before < n) × (after ≡ before ++ x ∷ [])
Pushed n x before (Err _) after = (n ≤ length before) × (after ≡ before)

-- t is over the same lent places as s, as many, with the same limit and the same blank value
pub record Same {X : Type 0} (s t : Stack X) : Type 0 where
  pub lent : t.places.ghost_name ≡ s.places.ghost_name
  pub places : length t.places.now ≡ length s.places.now
  pub limit : t.limit ≡ s.limit
  pub blank : t.blank ≡ s.blank

-- s is over the lent places p, as many, with the limit n and the blank value b
pub record Made {X : Type 0} (p : MutBor (List X)) (n : ℕ) (b : X) (s : Stack X) : Type 0 where
  pub lent : s.places.ghost_name ≡ p.ghost_name
  pub places : length s.places.now ≡ length p.now
  pub limit : s.limit ≡ n
  pub blank : s.blank ≡ b
