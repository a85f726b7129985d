-- One record of a walk over bytes. Assumes nothing.
use Rattle.std.proofs.Common.{◌≡◌, ℕ, ◌+◌, List, [], Some, Ok, Err, Option, Result, sym, refl, ap, ◌∙◌}
use Rattle.stack.specs.Stacks.{items}
use Rattle.stack.proofs.Counts.{same_room, same_then}
use Rattle.records.specs.declared.numbers.FormulaNumber.{FormulaNumber}
use Rattle.records.specs.declared.numbers.RecordNumber.{RecordNumber}
use Rattle.records.specs.declared.refusal.Refusal.{Refusal}
use Rattle.records.specs.declared.refusal.Refusal.TheVariants.{AfterClosed}
use Rattle.records.specs.Chains.{Record, Front, whole, cut, front}
use Rattle.records.specs.Readers.{read_bytes}
use Rattle.records.proofs.Readers.{read_more, read_bad, read_broken}
use Rattle.logic.specs.declared.fact.Fact.{Fact}
use Rattle.piles.specs.declared.terms.Layout.{Layout}
use Rattle.piles.specs.Packs.{Readings}
use Rattle.rules.specs.declared.setting.Setting.{Setting as Given}
use Rattle.steps.specs.declared.memory.Memory.{Memory}
use Rattle.steps.specs.Branches.{Branch, Setting, branch, number, stepped, reader}
use Rattle.steps.specs.Held.{open_in, waiting_in, SamePlaces, setting_of}

-- with no branch open, any byte is one too many
pub none_open : {X F : Type 0} (S : Setting X F) (i : ℕ) (bytes : List ℕ) → (bytes ≡ [] → ⊥) → read_bytes (reader S) i [] bytes ≡ Err (AfterClosed (number i))
none_open S i bytes some = go (front bytes) refl
  where
    go : (f : Front) → front bytes ≡ f → read_bytes (reader S) i [] bytes ≡ Err (AfterClosed (number i))
    go cut e = read_broken (reader S) i [] bytes some e
    go (whole r rest) e = read_bad (reader S) i [] bytes r rest (AfterClosed (number i)) e refl

-- what two changes of a memory keep, one after the other keeps
pub same_places_then : {l m n : Memory} → SamePlaces l m → SamePlaces m n → SamePlaces l n
same_places_then p q = record { trail_lent = q.trail_lent ∙ p.trail_lent; waiting_lent = q.waiting_lent ∙ p.waiting_lent; trail = same_then p.trail q.trail; waiting = same_then p.waiting q.waiting }

-- a changed memory has the same room
pub same_setting : {K : Type 0} (layouts : K → ℕ → Option Layout) (readings : K → Readings) (s : Given K) {m n : Memory} → SamePlaces m n → setting_of layouts readings s n ≡ setting_of layouts readings s m
same_setting layouts readings s p = rw (same_room p.trail, same_room p.waiting)

-- a turn of the loop, where the rooms and the current branch are as the loop has them
module _ (S S' : Setting Fact FormulaNumber) (same : S' ≡ S) (i : ℕ) (at : RecordNumber) (at_is : at.0 ≡ i) (bytes : List ℕ) (m : Memory) (current : Option ℕ) (count : ℕ) (is : current ≡ Some count)
    (r : Record) (rest : List ℕ) (e : front bytes ≡ whole r rest) where
  abbrev does : Setting Fact FormulaNumber → ℕ → Result (List (Branch Fact)) Refusal
  does T k = stepped T (number k) r (branch (items m.trail.now) count) (waiting_in m)

  abbrev moves : (o : Result (List (Branch Fact)) Refusal) → o ≡ does S' at.0 → (reader S).step i r (open_in m current) ≡ o
  moves o a = ap (λ c. (reader S).step i r (open_in m c)) is ∙ ap (λ T. does T i) (sym same) ∙ ap (does S') (sym at_is) ∙ sym a

  pub turn_on : (cs : List (Branch Fact)) → Ok cs ≡ does S' at.0 → (j : ℕ) → j ≡ i + 1 → read_bytes (reader S) j cs rest ≡ read_bytes (reader S) i (open_in m current) bytes
  turn_on cs a j j_is = ap (λ k. read_bytes (reader S) k cs rest) j_is ∙ sym (read_more (reader S) i (open_in m current) cs bytes r rest e (moves (Ok cs) a))

  pub turn_bad : (x : Refusal) → Err x ≡ does S' at.0 → Err x ≡ read_bytes (reader S) i (open_in m current) bytes
  turn_bad x a = sym (read_bad (reader S) i (open_in m current) bytes r rest x e (moves (Err x) a))

-- the walk stops where no branch is open
module _ {X F : Type 0} (S : Setting X F) (i : ℕ) (bytes : List ℕ) where
  pub stops_after : (at : RecordNumber) → at.0 ≡ i → (bs : List (Branch X)) → bs ≡ [] → (bytes ≡ [] → ⊥) → Err (AfterClosed at) ≡ read_bytes (reader S) i bs bytes
  stops_after at at_is bs none some = sym (ap (λ cs. read_bytes (reader S) i cs bytes) none ∙ none_open S i bytes some ∙ ap (λ k. Err (AfterClosed (number k))) (sym at_is))
