-- A table's nodes after a call that may have taken one more. Assumes nothing.
use Rattle.std.proofs.Common.{◌≡◌, true, List, [], ◌∷◌, Ok, Err, Result, length, refl, zero-add}
use Rattle.stack.specs.declared.stack.NoRoom.{NoRoom}
use Rattle.stack.specs.Stacks.{Pushed}
use Rattle.records.specs.declared.numbers.FormulaNumber.{FormulaNumber}
use Rattle.logic.specs.declared.terms.Node.{Node}
use Rattle.logic.specs.Formulas.{falls, all_fall}
use Rattle.logic.specs.Tables.{TreesKept}
use Rattle.logic.proofs.Falling.{all_fall_push}
use Rattle.logic.proofs.Trees.{trees_stand}

-- the parts of each node still have smaller numbers
pub push_falls : (ns ms : List (Node FormulaNumber)) (n : Node FormulaNumber) (r : Result (Unit {0}) NoRoom)
    → Pushed 256 n ns r ms → falls (length ns) n ≡ true → all_fall 0 ns ≡ true → all_fall 0 ms ≡ true
push_falls ns ms n (Ok _) p f h = rw p.1 (all_fall_push ns 0 n h (rw zero-add f))
push_falls ns ms n (Err _) p f h = rw p.1 h

-- the numbers that were there stand for the same formulas as before
pub push_trees : (ns ms : List (Node FormulaNumber)) (n : Node FormulaNumber) (r : Result (Unit {0}) NoRoom) → Pushed 256 n ns r ms → TreesKept ns ms
push_trees ns ms n (Ok _) p i h = rw p.1 (trees_stand ns (n ∷ []) i h)
push_trees ns ms n (Err _) p i h = rw p.1 refl
