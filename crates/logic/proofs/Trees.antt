-- The tree of a number: it stands when nodes are appended, and it is made of the trees of its parts. Assumes nothing.
use Rattle.std.proofs.Common.{◌≡◌, ℕ, zero, suc, ◌+◌, ◌<◌, ◌≤◌, true, List, [], ◌∷◌, ◌++◌, length, get_or, take, drop, sym, refl, ap, ◌∙◌, not-suc-le-zero, zero-add, arith}
use Rattle.std.proofs.lemmas.List.{length_push, get_or_push, get_or_append_left, take-append-drop, get_or_past}
use Rattle.std.proofs.lemmas.Bool.{and_parts, ltb-true}
use Rattle.std.proofs.lemmas.Grind.{common_steps}
use Rattle.records.specs.declared.numbers.FormulaNumber.{FormulaNumber}
use Rattle.logic.specs.declared.terms.Node.{Node}
use Rattle.logic.specs.declared.terms.Node.TheVariants.{Atom, Falsity, And, Or, Implies, Modal}
use Rattle.logic.specs.Models.{Formula, falsity}
use Rattle.logic.specs.Formulas.{node_map, shape, made, grow, trees, tree, falls, all_fall, TreesStand}
use Rattle.logic.proofs.Falling.{fall_at}

-- the tree of a node over the trees that are done
abbrev over : List Formula → Node FormulaNumber → Formula
over done n = made (node_map (λ i. get_or done i.0 falsity) n)

-- one tree for each node
pub length_grow : (ns : List (Node FormulaNumber)) (done : List Formula) → length (grow done ns) ≡ length done + length ns
length_grow [] done = grind (arith, common_steps)
length_grow (n ∷ ns) done = grind (arith, common_steps, length_push, length_grow ns (done ++ (over done n ∷ [])))

-- more nodes grow on what the first have grown to
grow_append : (ns ms : List (Node FormulaNumber)) (done : List Formula) → grow done (ns ++ ms) ≡ grow (grow done ns) ms
grow_append [] ms done = refl
grow_append (n ∷ ns) ms done = grow_append ns ms (done ++ (over done n ∷ []))

-- trees that are done stay
grow_keeps : (ns : List (Node FormulaNumber)) (done : List Formula) (i : ℕ) → i < length done → get_or (grow done ns) i falsity ≡ get_or done i falsity
grow_keeps [] done i h = refl
grow_keeps (n ∷ ns) done i h = grind (arith, common_steps, length_push, get_or_append_left, grow_keeps ns (done ++ (over done n ∷ [])) i)

-- appending nodes does not change the tree of an old number
pub trees_stand : TreesStand
trees_stand ns ms i h =
    let l : i.0 < length (trees ns) = omega (arith, length_grow ns []) in
    ap (λ (ts : List Formula). get_or ts i.0 falsity) (grow_append ns ms []) ∙ grow_keeps ms (trees ns) i.0 l

-- node k grows over the trees of the nodes before it
grow_at : (ns : List (Node FormulaNumber)) (done : List Formula) (k : ℕ) → k < length ns
    → get_or (grow done ns) (length done + k) falsity ≡ over (grow done (take k ns)) (get_or ns k Falsity)
grow_at [] done k h = absurd (not-suc-le-zero h)
grow_at (n ∷ ns) done zero h = grind (arith, common_steps, length_push, get_or_push, grow_keeps ns (done ++ (over done n ∷ [])) (length done + 0))
grow_at (n ∷ ns) done (suc k) h = grind (arith, common_steps, length_push, grow_at ns (done ++ (over done n ∷ [])) k)

-- a node asks only for the parts below it
node_same : (k : ℕ) (t u : FormulaNumber → Formula) (n : Node FormulaNumber) → falls k n ≡ true → ((j : FormulaNumber) → j.0 < k → t j ≡ u j) → node_map t n ≡ node_map u n
node_same k t u (Atom a) h e = refl
node_same k t u Falsity h e = refl
node_same k t u (And f g) h e = grind (arith, and_parts, ltb-true, e f, e g)
node_same k t u (Or f g) h e = grind (arith, and_parts, ltb-true, e f, e g)
node_same k t u (Implies f g) h e = grind (arith, and_parts, ltb-true, e f, e g)
node_same k t u (Modal m p f) h e = grind (arith, ltb-true, e f)

-- the trees below k are those of the first k nodes
tree_take : (ns : List (Node FormulaNumber)) (k : ℕ) (j : FormulaNumber) → k ≤ length ns → j.0 < k → tree (take k ns) j ≡ tree ns j
tree_take ns k j h l = grind (arith, common_steps, take-append-drop k ns, trees_stand (take k ns) (drop k ns) j)

-- the tree of a number is made of the trees of its parts
pub tree_is : (ns : List (Node FormulaNumber)) (k : FormulaNumber) → all_fall 0 ns ≡ true → k.0 < length ns → tree ns k ≡ made (node_map (tree ns) (get_or ns k.0 Falsity))
tree_is ns k f h =
    ap (λ (j : ℕ). get_or (trees ns) j falsity) (sym (zero-add k.0)) ∙ grow_at ns [] k.0 h
    ∙ ap made (node_same k.0 (tree (take k.0 ns)) (tree ns) (get_or ns k.0 Falsity) (fall_at ns k.0 Falsity f h) (λ j l. tree_take ns k.0 j (omega arith) l))

-- the same past the table's end, where both are falsity
pub tree_means : (ns : List (Node FormulaNumber)) → all_fall 0 ns ≡ true → (k : FormulaNumber) → tree ns k ≡ made (node_map (tree ns) (get_or ns k.0 Falsity))
tree_means ns f k = grind (arith, common_steps, tree_is ns k f, length_grow ns [], get_or_past)

-- the outermost sign and the parts of what was made of them
pub shape_made : (n : Node Formula) → shape (made n) ≡ n
shape_made (Atom a) = refl
shape_made Falsity = refl
shape_made (And f g) = refl
shape_made (Or f g) = refl
shape_made (Implies f g) = refl
shape_made (Modal k A f) = refl

-- what is seen of a number's tree is what the table has at the number
pub tree_views : (ns : List (Node FormulaNumber)) → all_fall 0 ns ≡ true → (k : FormulaNumber) → shape (tree ns k) ≡ node_map (tree ns) (get_or ns k.0 Falsity)
tree_views ns f k = grind (arith, tree_means, shape_made)
