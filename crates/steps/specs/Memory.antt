-- The open branches by the two stacks. Assumes nothing.
use Rattle.std.specs.Prelude.{ℕ, ◌+◌, ◌≤◌, List, [], ◌∷◌, ◌++◌, reverse, length, take, Some, None, Option}
use Rattle.std.specs.Coded.{Unit-prop, le_prop}
use Rattle.records.specs.declared.numbers.FormulaNumber.{FormulaNumber}
use Rattle.logic.specs.declared.fact.Fact.{Fact}
use Rattle.logic.specs.declared.terms.Node.{Node}
use Rattle.logic.specs.Stored.{stored, view_of}
use Rattle.piles.specs.declared.terms.Layout.{Layout}
use Rattle.piles.specs.Packs.{Readings}
use Rattle.rules.specs.Scenes.{node_of}
use Rattle.steps.specs.declared.waiting.Waiting.{Waiting}
use Rattle.steps.specs.Branches.{Branch, Room, Setting, branch}
use Rattle.steps.specs.Waits.{laid}

-- the waiting branches, the latest first, by the trail of the branch that is current: each has a front of it, and its own facts
abbrev pub waitings : List Fact → List Waiting → List (Branch Fact)
waitings trail [] = []
waitings trail (w ∷ ws) = branch (take w.trail trail ++ laid w.facts) w.labels ∷ waitings (take w.trail trail) ws

-- the open branches: the current one, if any, by the trail and its label count, then what waits, the oldest first in memory
abbrev pub branches : List Fact → List Waiting → Option ℕ → List (Branch Fact)
branches trail ws None = []
branches trail ws (Some n) = branch trail n ∷ waitings trail (reverse ws)

-- each waiting branch, the latest first, begins with a front of the trail before it, and fits
abbrev pub Kept : ℕ → ℕ → List Waiting → Type 0
Kept room n [] = Unit {0}
Kept room n (w ∷ ws) = (w.trail ≤ n) × (w.trail + length (laid w.facts) ≤ room) × Kept room w.trail ws

-- it is known in one way
pub Kept-prop : (room n : ℕ) (ws : List Waiting) → IsProp (Kept room n ws)
Kept-prop room n [] = Unit-prop
Kept-prop room n (w ∷ ws) = hlevel (le_prop, Kept-prop room w.trail ws)

-- how many facts, and how many waiting branches
abbrev pub rooms : ℕ → ℕ → Room
rooms m n = record { trail = m; waiting = n }

-- read from stored facts, with their formulas in a table
abbrev pub stored_setting : List (Node FormulaNumber) → (ℕ → Option Layout) → Readings → ℕ → ℕ → ℕ → Setting Fact FormulaNumber
stored_setting ns layouts readings P m n = record {
  says = view_of;
  lays = stored;
  view = node_of ns;
  layouts = layouts;
  readings = readings;
  principals = P;
  room = rooms m n;
}
