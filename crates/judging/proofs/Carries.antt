-- The set of each kind of node, from the sets of its parts. Assumes nothing.
use Rattle.std.proofs.Common.{◌≡◌, ℕ, ltb, List, get_or, sym, refl, subst}
use lib.Bits.{bit_and, bit_or}
use Rattle.std.proofs.lemmas.Bool.{and_parts, ltb-true}
use Rattle.records.specs.declared.numbers.FormulaNumber.{FormulaNumber}
use Rattle.records.specs.declared.numbers.Principal.{Principal}
use Rattle.logic.specs.declared.terms.Modality.{Modality}
use Rattle.logic.specs.declared.terms.Node.{Node}
use Rattle.logic.specs.declared.terms.Node.TheVariants.{And, Or, Implies, Modal}
use Rattle.logic.specs.Models.{Model, every, at_ends, holds, ◌⊃◌}
use Rattle.rows.specs.declared.masks.WorldSet.{WorldSet}
use Rattle.rows.specs.Masks.{bit, Mask, no_set}
use Rattle.rows.proofs.Bits.{mask_same}
use Rattle.judging.specs.Truths.{Carried, Truth}
use Rattle.judging.proofs.Clauses.{mask_and, mask_or, implies_same, at_ends_same}

module _ (m : Model) (sets : List WorldSet) (r : WorldSet) where
  -- the set of a part
  abbrev pub part : FormulaNumber → WorldSet
  part f = get_or sets f.0 no_set

  pub and_carried : (n : Node FormulaNumber) (f g : FormulaNumber) (a b : WorldSet) → n ≡ And f g → a ≡ part f → b ≡ part g → r.0 ≡ bit_and a.0 b.0 → Carried m sets n r
  and_carried n f g a b e ea eb er =
      subst (λ (x : Node FormulaNumber). Carried m sets x r) (sym e)
      (λ t k h all. let p = and_parts (ltb f.0 k) (ltb g.0 k) h in
      subst (λ (s : ℕ). Mask m.frame.worlds s (holds m (Rattle.logic.specs.Models.and (t f) (t g)))) (sym er)
      (mask_and m.frame.worlds a.0 b.0 (holds m (t f)) (holds m (t g))
      (subst (λ (s : WorldSet). Truth m s (t f)) (sym ea) (all f (ltb-true f.0 k p.0)))
      (subst (λ (s : WorldSet). Truth m s (t g)) (sym eb) (all g (ltb-true g.0 k p.1)))))

  pub or_carried : (n : Node FormulaNumber) (f g : FormulaNumber) (a b : WorldSet) → n ≡ Or f g → a ≡ part f → b ≡ part g → r.0 ≡ bit_or a.0 b.0 → Carried m sets n r
  or_carried n f g a b e ea eb er =
      subst (λ (x : Node FormulaNumber). Carried m sets x r) (sym e)
      (λ t k h all. let p = and_parts (ltb f.0 k) (ltb g.0 k) h in
      subst (λ (s : ℕ). Mask m.frame.worlds s (holds m (Rattle.logic.specs.Models.or (t f) (t g)))) (sym er)
      (mask_or m.frame.worlds a.0 b.0 (holds m (t f)) (holds m (t g))
      (subst (λ (s : WorldSet). Truth m s (t f)) (sym ea) (all f (ltb-true f.0 k p.0)))
      (subst (λ (s : WorldSet). Truth m s (t g)) (sym eb) (all g (ltb-true g.0 k p.1)))))

  pub implies_carried : (n : Node FormulaNumber) (f g : FormulaNumber) (a b : WorldSet) → n ≡ Implies f g → a ≡ part f → b ≡ part g
      → Mask m.frame.worlds r.0 (λ x. every m.frame.worlds (λ y. m.frame.above x y ⊃ (bit a.0 y ⊃ bit b.0 y)))
      → Carried m sets n r
  implies_carried n f g a b e ea eb s =
      subst (λ (x : Node FormulaNumber). Carried m sets x r) (sym e)
      (λ t k h all. let p = and_parts (ltb f.0 k) (ltb g.0 k) h in
      mask_same m.frame.worlds r.0
      (λ x. every m.frame.worlds (λ y. m.frame.above x y ⊃ (bit a.0 y ⊃ bit b.0 y)))
      (λ x. every m.frame.worlds (λ y. m.frame.above x y ⊃ (holds m (t f) y ⊃ holds m (t g) y)))
      (λ x l. implies_same m.frame.worlds (m.frame.above x) (bit a.0) (bit b.0) (holds m (t f)) (holds m (t g))
      (subst (λ (s : WorldSet). Truth m s (t f)) (sym ea) (all f (ltb-true f.0 k p.0))).bits
      (subst (λ (s : WorldSet). Truth m s (t g)) (sym eb) (all g (ltb-true g.0 k p.1))).bits)
      s)

  pub modal_carried : (n : Node FormulaNumber) (c : Modality) (A : Principal) (f : FormulaNumber) (a : WorldSet) → n ≡ Modal c A f → a ≡ part f
      → Mask m.frame.worlds r.0 (λ x. at_ends c m.frame.worlds (m.frame.arrow c A.0 x) (bit a.0))
      → Carried m sets n r
  modal_carried n c A f a e ea s =
      subst (λ (x : Node FormulaNumber). Carried m sets x r) (sym e)
      (λ t k h all.
      mask_same m.frame.worlds r.0
      (λ x. at_ends c m.frame.worlds (m.frame.arrow c A.0 x) (bit a.0))
      (λ x. at_ends c m.frame.worlds (m.frame.arrow c A.0 x) (holds m (t f)))
      (λ x l. at_ends_same c m.frame.worlds (m.frame.arrow c A.0 x) (m.frame.arrow c A.0 x) (bit a.0) (holds m (t f))
      (λ w h'. refl) (subst (λ (s : WorldSet). Truth m s (t f)) (sym ea) (all f (ltb-true f.0 k h))).bits)
      s)
