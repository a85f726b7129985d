-- Where the formulas of a table hold, one after the other. Assumes nothing.
use Rattle.std.proofs.Common.{◌≡◌, ℕ, ◌+◌, ◌<◌, ◌≤◌, Bool, true, false, cond, ltb, ◌≢◌, ◌⊎◌, List, [], length, get_or, set, replicate, Some, None, sym, refl, ap, ◌∙◌, subst, inl, inr, ⊎_elim, not-suc-le-zero, arith, length-set, get_or-set_other, get_or-set_same, pow_pos}
use Rattle.std.proofs.lemmas.List.{get_or_past, length-replicate}
use Rattle.std.proofs.lemmas.Bool.{cases_lt, ltb-true, lt-ltb}
use Rattle.records.specs.declared.numbers.FormulaNumber.{FormulaNumber}
use Rattle.logic.specs.declared.terms.Node.{Node}
use Rattle.logic.specs.declared.terms.Node.TheVariants.{Falsity}
use Rattle.logic.specs.Formulas.{tree, trees, node_map, made, all_fall}
use Rattle.logic.specs.Models.{Formula, Model, falsity}
use Rattle.logic.specs.Tables.{node_at}
use Rattle.logic.proofs.Falling.{fall_at}
use Rattle.logic.proofs.Trees.{tree_is, length_grow}
use Rattle.rows.specs.declared.masks.WorldSet.{WorldSet}
use Rattle.rows.specs.Masks.{no_set}
use Rattle.rows.proofs.Bits.{bit_zero}
use Rattle.rows.proofs.Blank.{of_repeat}
use Rattle.judging.specs.Truths.{Truth, Carried}
use Rattle.models.specs.Sets.{TrueBelow, TrueSets}

-- falsity holds nowhere
pub nowhere : (m : Model) → Truth m no_set falsity
nowhere m = record { small = pow_pos m.frame.worlds; bits = λ w h. bit_zero w }

-- a number past the table's end stands for falsity
pub past_end : (ns : List (Node FormulaNumber)) (f : FormulaNumber) → length ns ≤ f.0 → tree ns f ≡ falsity
past_end ns f h = get_or_past (trees ns) f.0 falsity (omega (arith, length_grow ns []))

-- the node of a number that the table has
pub node_there : (ns : List (Node FormulaNumber)) (f : FormulaNumber) (n : Node FormulaNumber) → Some n ≡ node_at ns f → (f.0 < length ns) × (n ≡ get_or ns f.0 Falsity)
node_there ns f n e = go (ltb f.0 (length ns)) refl e
  where
    go : (b : Bool) → ltb f.0 (length ns) ≡ b → Some n ≡ cond b (Some (get_or ns f.0 Falsity)) None → (f.0 < length ns) × (n ≡ get_or ns f.0 Falsity)
    go true l e = (ltb-true f.0 (length ns) l, cc)
    go false l e = let z : ◌≡◌ {A = ℕ} 0 1 = cc in absurd (omega arith)

-- one set more
pub next_true : (m : Model) (ns : List (Node FormulaNumber)) (f : FormulaNumber) (n : Node FormulaNumber) (sets : List WorldSet) (r : WorldSet)
    → all_fall 0 ns ≡ true → Some n ≡ node_at ns f → Carried m sets n r → TrueBelow m ns f.0 sets → Truth m r (tree ns f)
next_true m ns f n sets r falling e carried below =
    let at = node_there ns f n e in
    let d : Node FormulaNumber = get_or ns f.0 Falsity in
    subst (λ (t : Formula). Truth m r t)
    (ap (λ (k : Node FormulaNumber). made (node_map (tree ns) k)) at.1 ∙ sym (tree_is ns f falling at.0))
    (carried (tree ns) f.0 (rw at.1 (fall_at ns f.0 Falsity falling at.0)) below)

-- a number that the table does not have
pub node_not_there : (m : Model) (ns : List (Node FormulaNumber)) (f : FormulaNumber) → None ≡ node_at ns f → Truth m no_set (tree ns f)
node_not_there m ns f e = go (cases_lt f.0 (length ns))
  where
    go : (f.0 < length ns) ⊎ (length ns ≤ f.0) → Truth m no_set (tree ns f)
    go (inl l) = let t : ltb f.0 (length ns) ≡ true = lt-ltb f.0 (length ns) l in
        let z : ◌≡◌ {A = ℕ} 0 1 = cc (ap (λ (b : Bool). cond b (Some (get_or ns f.0 Falsity)) None) t) in absurd (omega arith)
    go (inr l) = subst (λ (t : Formula). Truth m no_set t) (sym (past_end ns f l)) (nowhere m)

-- the sets so far: right below k, and empty from k on
pub record SoFar (m : Model) (ns : List (Node FormulaNumber)) (k : ℕ) (sets : List WorldSet) : Type 0 where
  pub whole : length sets ≡ 256
  pub below : TrueBelow m ns k sets
  pub beyond : (j : ℕ) → k ≤ j → get_or sets j no_set ≡ no_set

-- one set more
pub so_far_more : (m : Model) (ns : List (Node FormulaNumber)) (k : ℕ) (sets : List WorldSet) (r : WorldSet) → k < 256
    → SoFar m ns k sets → Truth m r (tree ns (record { 0 = k })) → SoFar m ns (k + 1) (set sets k r)
so_far_more m ns k sets r l so t =
    let there : k < length sets = omega (arith, so.whole) in
    record {
      whole = simp length-set so.whole;
      below = λ f h. ⊎_elim
          (λ (j : f.0 < k). let ne : f.0 ≢ k = omega arith in rw get_or-set_other (so.below f j))
          (λ (j : k ≤ f.0). let e : f.0 ≡ k = omega arith in
          subst (λ (i : ℕ). Truth m (get_or (set sets k r) i no_set) (tree ns (record { 0 = i }))) (sym e) (rw get_or-set_same t))
          (cases_lt f.0 k);
      beyond = λ j h. let ne : j ≢ k = omega arith in rw get_or-set_other (so.beyond j (omega arith));
    }

-- all of them
pub so_far_all : (m : Model) (ns : List (Node FormulaNumber)) (k : ℕ) (sets : List WorldSet) → length ns ≤ k → SoFar m ns k sets → TrueSets m ns sets
so_far_all m ns k sets l so f = go (cases_lt f.0 k)
  where
    go : (f.0 < k) ⊎ (k ≤ f.0) → Truth m (get_or sets f.0 no_set) (tree ns f)
    go (inl h) = so.below f h
    go (inr h) =
        subst (λ (s : WorldSet). Truth m s (tree ns f)) (sym (so.beyond f.0 h))
        (subst (λ (t : Formula). Truth m no_set t) (sym (past_end ns f (omega arith))) (nowhere m))

-- none yet
pub so_far_none : (m : Model) (ns : List (Node FormulaNumber)) → SoFar m ns 0 (replicate 256 no_set)
so_far_none m ns = record {
  whole = length-replicate 256 no_set;
  below = λ f h. absurd (not-suc-le-zero h);
  beyond = λ j h. of_repeat (λ (s : WorldSet). s ≡ no_set) 256 j no_set no_set refl refl;
}
