-- The open branches by a memory of two stacks. Assumes nothing.
use Rattle.std.specs.Prelude.{◌≡◌, ℕ, List, reverse, Ok, Err, Option, Result}
use Rattle.stack.specs.Stacks.{items, room, Same}
use Rattle.records.specs.declared.numbers.FormulaNumber.{FormulaNumber}
use Rattle.records.specs.declared.refusal.Refusal.{Refusal}
use Rattle.logic.specs.declared.fact.Fact.{Fact}
use Rattle.logic.specs.Tables.{nodes_of}
use Rattle.piles.specs.declared.terms.Layout.{Layout}
use Rattle.piles.specs.Packs.{Readings}
use Rattle.rules.specs.declared.setting.Setting.{Setting as Given}
use Rattle.steps.specs.declared.memory.Memory.{Memory}
use Rattle.steps.specs.Branches.{Branch, Room, Setting}
use Rattle.steps.specs.Memory.{waitings, branches, rooms, stored_setting}

-- the branches that wait, the latest first
abbrev pub waiting_in : Memory → List (Branch Fact)
waiting_in m = waitings (items m.trail.now) (reverse (items m.waiting.now))

-- the open branches: the current one, if any, by its label count, then what waits
abbrev pub open_in : Memory → Option ℕ → List (Branch Fact)
open_in m c = branches (items m.trail.now) (items m.waiting.now) c

-- how many facts, and how many waiting branches, there is room for
abbrev pub rooms_of : Memory → Room
rooms_of m = rooms (room m.trail.now) (room m.waiting.now)

-- what a memory and an answer after a record show: the branches that are open then, or the refusal
abbrev pub shown : Memory → Result (Option ℕ) Refusal → Result (List (Branch Fact)) Refusal
shown m (Ok c) = Ok (open_in m c)
shown m (Err e) = Err e

-- both stacks are over the same lent places, with the same limits
pub record SamePlaces (m n : Memory) : Type 0 where
  pub trail_lent : n.trail.ghost_name ≡ m.trail.ghost_name
  pub waiting_lent : n.waiting.ghost_name ≡ m.waiting.ghost_name
  pub trail : Same m.trail.now n.trail.now
  pub waiting : Same m.waiting.now n.waiting.now

-- what a derivation is read by, with its facts in a memory
abbrev pub setting_of : {K : Type 0} → (K → ℕ → Option Layout) → (K → Readings) → Given K → Memory → Setting Fact FormulaNumber
setting_of layouts readings s m = stored_setting (nodes_of s.table.now) (layouts s.pile.now) (readings s.pile.now) s.principals (room m.trail.now) (room m.waiting.now)
