-- What keeps the parts of each node below the node: one node more, and a shorter list. Assumes nothing.
use Rattle.std.proofs.Common.{◌≡◌, ℕ, zero, suc, arith, ◌+◌, ◌<◌, true, List, [], ◌∷◌, ◌++◌, length, get_or, take, refl, not-suc-le-zero, zero-add}
use Rattle.std.proofs.lemmas.Bool.{and_parts, and_from}
use Rattle.std.proofs.lemmas.Grind.{common_steps}
use Rattle.records.specs.declared.numbers.FormulaNumber.{FormulaNumber}
use Rattle.logic.specs.declared.terms.Node.{Node}
use Rattle.logic.specs.Formulas.{falls, all_fall}

-- one node more
pub all_fall_push : (ns : List (Node FormulaNumber)) (i : ℕ) (n : Node FormulaNumber) → all_fall i ns ≡ true → falls (i + length ns) n ≡ true → all_fall i (ns ++ (n ∷ [])) ≡ true
all_fall_push [] i n h p = grind (arith, common_steps, and_from)
all_fall_push (m ∷ ns) i n h p = grind (arith, common_steps, and_parts, and_from, all_fall_push ns (suc i) n)

-- the first k nodes
pub all_fall_take : (k : ℕ) (ns : List (Node FormulaNumber)) (i : ℕ) → all_fall i ns ≡ true → all_fall i (take k ns) ≡ true
all_fall_take zero ns i h = refl
all_fall_take (suc k) [] i h = refl
all_fall_take (suc k) (m ∷ ns) i h = grind (arith, common_steps, and_parts, and_from, all_fall_take k ns (suc i))

-- the parts of the node k places on have numbers below its own
fall_from : (ns : List (Node FormulaNumber)) (i k : ℕ) (d : Node FormulaNumber) → all_fall i ns ≡ true → k < length ns → falls (i + k) (get_or ns k d) ≡ true
fall_from [] i k d h l = absurd (not-suc-le-zero l)
fall_from (m ∷ ns) i zero d h l = grind (arith, common_steps, and_parts)
fall_from (m ∷ ns) i (suc k) d h l = grind (arith, common_steps, and_parts, fall_from ns (suc i) k d)

-- the parts of node k have numbers below k
pub fall_at : (ns : List (Node FormulaNumber)) (k : ℕ) (d : Node FormulaNumber) → all_fall 0 ns ≡ true → k < length ns → falls k (get_or ns k d) ≡ true
fall_at ns k d h l = rw zero-add at (fall_from ns 0 k d h l)
