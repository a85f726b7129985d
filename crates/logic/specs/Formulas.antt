-- The formula that a number of the table stands for. Assumes nothing.
use Rattle.std.specs.Prelude.{◌≡◌, ℕ, suc, ◌<◌, Bool, true, ◌&&◌, List, [], ◌∷◌, ◌++◌, length, get_or, nat_lt, slice_index_or}
use Rattle.records.specs.declared.numbers.FormulaNumber.{FormulaNumber}
use Rattle.logic.specs.declared.terms.Node.{Node}
use Rattle.logic.specs.declared.terms.Node.TheVariants.{Atom, Falsity, And, Or, Implies, Modal}
use Rattle.logic.specs.Models.{Formula, atom, falsity, and, or, implies, modal}

-- the same sign over other parts
abbrev pub node_map : {F G : Type 0} → (F → G) → Node F → Node G
node_map t (Atom a) = Atom a
node_map t Falsity = Falsity
node_map t (And f g) = And (t f) (t g)
node_map t (Or f g) = Or (t f) (t g)
node_map t (Implies f g) = Implies (t f) (t g)
node_map t (Modal k A f) = Modal k A (t f)

-- a formula by its outermost sign and its parts
abbrev pub shape : Formula → Node Formula
shape (atom a) = Atom (record { 0 = a })
shape falsity = Falsity
shape (and f g) = And f g
shape (or f g) = Or f g
shape (implies f g) = Implies f g
shape (modal k A f) = Modal k (record { 0 = A }) f

-- and back
abbrev pub made : Node Formula → Formula
made (Atom a) = atom a.0
made Falsity = falsity
made (And f g) = and f g
made (Or f g) = or f g
made (Implies f g) = implies f g
made (Modal k A f) = modal k A.0 f

-- the trees of nodes, one after the other, behind those that are done
abbrev pub grow : List Formula → List (Node FormulaNumber) → List Formula
grow done [] = done
grow done (n ∷ ns) = grow (done ++ (made (node_map (λ i. get_or done i.0 falsity) n) ∷ [])) ns

-- the formulas of a table, by number
abbrev pub trees : List (Node FormulaNumber) → List Formula
trees ns = grow [] ns

-- the formula that number i stands for
abbrev pub tree : List (Node FormulaNumber) → FormulaNumber → Formula
tree ns i = slice_index_or (trees ns) i.0 falsity

-- the parts of a node have numbers below i
abbrev pub falls : ℕ → Node FormulaNumber → Bool
falls i (Atom a) = true
falls i Falsity = true
falls i (And f g) = nat_lt f.0 i && nat_lt g.0 i
falls i (Or f g) = nat_lt f.0 i && nat_lt g.0 i
falls i (Implies f g) = nat_lt f.0 i && nat_lt g.0 i
falls i (Modal k A f) = nat_lt f.0 i

-- the same of each node of a list that begins at number i
abbrev pub all_fall : ℕ → List (Node FormulaNumber) → Bool
all_fall i [] = true
all_fall i (n ∷ ns) = falls i n && all_fall (suc i) ns

-- more nodes at the end change no tree
abbrev pub TreesStand : Type 0
TreesStand = (ns ms : List (Node FormulaNumber)) (i : FormulaNumber) → i.0 < length ns → tree (ns ++ ms) i ≡ tree ns i
