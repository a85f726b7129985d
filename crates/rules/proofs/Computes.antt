-- What is computed of a step is what the rules say. Assumes nothing.
use Rattle.std.proofs.Common.{◌≡◌, ℕ, Bool, true, false, cond, not, ◌&&◌, T, eqb, Some, None, Option, sym, refl, ap, ◌∙◌, subst, ap₂}
use Rattle.std.proofs.lemmas.Bool.{eq-eqb}
use Rattle.records.specs.declared.numbers.Label.{Label}
use Rattle.logic.specs.declared.terms.Modality.{Modality}
use Rattle.logic.specs.declared.terms.Modality.TheVariants.{Permitted}
use Rattle.logic.specs.declared.terms.Link.{Link}
use Rattle.logic.specs.declared.terms.Link.TheVariants.{Order, Arrow}
use Rattle.logic.specs.declared.terms.FactView.TheVariants.{Left, Linked}
use Rattle.logic.specs.declared.terms.Node.TheVariants.{Atom}
use Rattle.logic.specs.Modalities.{modality_number}
use Rattle.logic.specs.ModelRules.{universal}
use Rattle.logic.proofs.Bools.{T_and}
use Rattle.piles.specs.declared.terms.Reading.{Reading}
use Rattle.piles.specs.declared.terms.Reading.TheVariants.{Unknown, NoInstance, Goes as PackGoes, Splits as PackSplits}
use Rattle.piles.specs.declared.terms.Named.{Named}
use Rattle.rules.specs.declared.contents.OrderArrowOrder.{OrderArrowOrder}
use Rattle.rules.specs.declared.outcome.Few.TheVariants.{One, Two}
use Rattle.rules.specs.declared.outcome.Outcome.{Outcome}
use Rattle.rules.specs.declared.outcome.Outcome.TheVariants.{Goes}
use Rattle.rules.specs.declared.outcome.ArrowParts.{ArrowParts}
use Rattle.rules.specs.declared.step.PackStep.{PackStep}
use Rattle.rules.specs.declared.step.Step.{Step}
use Rattle.rules.specs.declared.step.Step.TheVariants.{AtomsClose, FalsityCloses, AndLeft, AndRight, OrLeft, OrRight, ImpliesLeft, ImpliesRight, ModalLeft, ModalRight, PermittedLeft, PermittedRight, Reflexive, Transitive, Monotone, OfPack}
use Rattle.rules.specs.Outcomes.{adds, opens_with}
use Rattle.rules.specs.PackSteps.{named_at, operands_of}
use Rattle.rules.specs.Scenes.{Scene}
use Rattle.rules.specs.Rules.{new, Rule, atoms_close, falsity_closes, and_left, and_right, or_left, or_right, implies_left, implies_right, modal_left, modal_right, permitted_left, permitted_right, reflexive, transitive, monotone, monotone_permitted, pack_goes, pack_forks}
use Rattle.rules.specs.Applying.{given, only_if, same_label, left_of, right_of, order_of, arrow_of, atom_of, falsity_of, and_of, or_of, implies_of, universal_of, permitted_of, end_of, along, against, shifted, of_reading, applied, ComputesRules}
use Rattle.rules.proofs.Inversions.{only_some, label_same, atom_same, permitted_only, arrow_link, left_is, right_is, order_is, arrow_is, atom_is, falsity_is, and_is, or_is, implies_is, universal_is, permitted_is, end_is}

module _ {F : Type 0} (E : Scene F) (step : Step) where
  -- the rules have what is computed
  abbrev Ruled : Option (Outcome F) → Type 0
  Ruled None = Unit {0}
  Ruled (Some o) = Rule E step o

  on_given : {X : Type 0} (o : Option X) (k : X → Option (Outcome F)) → ((x : X) → o ≡ Some x → Ruled (k x)) → Ruled (given o k)
  on_given None k g = tt
  on_given (Some x) k g = g x refl

  on_only : (b : Bool) (k : Option (Outcome F)) → (T b → Ruled k) → Ruled (only_if b k)
  on_only true k g = g tt
  on_only false k g = tt

module _ {F : Type 0} (E : Scene F) where
  -- 46, by the arrow's kind
  module _ (c : OrderArrowOrder) (a b : Label × Label) (w : ArrowParts) (ha : E.at c.first ≡ Some (Linked (Order a.0 a.1))) (hw : E.at c.arrow ≡ Some (Linked (arrow_link w))) (hb : E.at c.second ≡ Some (Linked (Order b.0 b.1))) where
    abbrev Shifts : Link → Type 0
    Shifts l = Rule E (Monotone c) (Goes (adds (One (Linked l))))

    along_ruled : universal w.modality ≡ true → (l : Link) → along a w b ≡ Some l → Shifts l
    along_ruled u l e =
        let o = only_some (same_label w.from a.1 && same_label b.0 w.to) _ l e in
        let t = (T_and (same_label w.from a.1) (same_label b.0 w.to)).0 o.0 in
        let is : Arrow w.modality w.principal a.0 b.1 ≡ l = let q = o.1 in cc in
        subst Shifts is
        (monotone (subst T (sym u) tt) ha
        (hw ∙ ap (λ (x : Label). Some (Linked (Arrow w.modality w.principal x w.to))) (label_same w.from a.1 t.0))
        (hb ∙ ap (λ (x : Label). Some (Linked (Order x b.1))) (label_same b.0 w.to t.1)))

    against_ruled : universal w.modality ≡ false → (l : Link) → against a w b ≡ Some l → Shifts l
    against_ruled u l e =
        let o = only_some (same_label w.to a.1 && same_label b.0 w.from) _ l e in
        let t = (T_and (same_label w.to a.1) (same_label b.0 w.from)).0 o.0 in
        let kind : w.modality ≡ Permitted = permitted_only w.modality (subst (λ v. T (not v)) (sym u) tt) in
        let is : Arrow w.modality w.principal b.1 a.0 ≡ l = let q = o.1 in cc in
        subst Shifts (ap (λ (k : Modality). Arrow k w.principal b.1 a.0) (sym kind) ∙ is)
        (monotone_permitted ha
        (hw ∙ ap₂ (λ (k : Modality) (x : Label). Some (Linked (Arrow k w.principal w.from x))) kind (label_same w.to a.1 t.0))
        (hb ∙ ap (λ (x : Label). Some (Linked (Order x b.1))) (label_same b.0 w.from t.1)))

    shifted_ruled : (v : Bool) → universal w.modality ≡ v → (l : Link) → cond v (along a w b) (against a w b) ≡ Some l → Shifts l
    shifted_ruled true u l e = along_ruled u l e
    shifted_ruled false u l e = against_ruled u l e

  reading_ruled : (s : PackStep) (named : Named) → named_at E.at s.positions ≡ Some named → (r : Reading) → E.readings s.kind (operands_of s named) E.principals E.labels ≡ r → Ruled E (OfPack s) (of_reading E.labels r)
  reading_ruled s named h Unknown e = tt
  reading_ruled s named h NoInstance e = tt
  reading_ruled s named h (PackGoes q) e = pack_goes h e
  reading_ruled s named h (PackSplits q r) e = pack_forks h e

  ruled : (step : Step) → Ruled E step (applied E step)
  ruled (AtomsClose c) =
      on_given E (AtomsClose c) (left_of (E.at c.left)) _ λ a ha. on_given E (AtomsClose c) (atom_of (E.view a.1)) _ λ p hp.
      on_given E (AtomsClose c) (right_of (E.at c.right)) _ λ b hb. on_given E (AtomsClose c) (atom_of (E.view b.1)) _ λ q hq.
      on_given E (AtomsClose c) (order_of (E.at c.order)) _ λ o ho.
      on_only E (AtomsClose c) (eqb p.0 q.0 && (same_label o.0 a.0 && same_label o.1 b.0)) _ λ t.
      let s = (T_and (eqb p.0 q.0) (same_label o.0 a.0 && same_label o.1 b.0)).0 t in
      let d = (T_and (same_label o.0 a.0) (same_label o.1 b.0)).0 s.1 in
      atoms_close (left_is _ a ha) (atom_is _ p hp) (right_is _ b hb) (atom_is _ q hq ∙ ap Atom (sym (atom_same p q s.0)))
      (order_is _ o ho ∙ ap₂ (λ (x y : Label). Some (Linked (Order x y))) (label_same o.0 a.0 d.0) (label_same o.1 b.0 d.1))
  ruled (FalsityCloses l) =
      on_given E (FalsityCloses l) (left_of (E.at l)) _ λ a ha. on_given E (FalsityCloses l) (falsity_of (E.view a.1)) _ λ p hp.
      falsity_closes (left_is _ a ha) (falsity_is _ p hp)
  ruled (AndLeft l) =
      on_given E (AndLeft l) (left_of (E.at l)) _ λ a ha. on_given E (AndLeft l) (and_of (E.view a.1)) _ λ p hp.
      and_left (left_is _ a ha) (and_is _ p hp)
  ruled (AndRight r) =
      on_given E (AndRight r) (right_of (E.at r)) _ λ a ha. on_given E (AndRight r) (and_of (E.view a.1)) _ λ p hp.
      and_right (right_is _ a ha) (and_is _ p hp)
  ruled (OrLeft l) =
      on_given E (OrLeft l) (left_of (E.at l)) _ λ a ha. on_given E (OrLeft l) (or_of (E.view a.1)) _ λ p hp.
      or_left (left_is _ a ha) (or_is _ p hp)
  ruled (OrRight r) =
      on_given E (OrRight r) (right_of (E.at r)) _ λ a ha. on_given E (OrRight r) (or_of (E.view a.1)) _ λ p hp.
      or_right (right_is _ a ha) (or_is _ p hp)
  ruled (ImpliesLeft c) =
      on_given E (ImpliesLeft c) (left_of (E.at c.left)) _ λ a ha. on_given E (ImpliesLeft c) (implies_of (E.view a.1)) _ λ p hp.
      on_given E (ImpliesLeft c) (order_of (E.at c.order)) _ λ o ho.
      on_only E (ImpliesLeft c) (same_label o.0 a.0) _ λ t.
      implies_left (left_is _ a ha) (implies_is _ p hp) (order_is _ o ho ∙ ap (λ (x : Label). Some (Linked (Order x o.1))) (label_same o.0 a.0 t))
  ruled (ImpliesRight r) =
      on_given E (ImpliesRight r) (right_of (E.at r)) _ λ a ha. on_given E (ImpliesRight r) (implies_of (E.view a.1)) _ λ p hp.
      implies_right (right_is _ a ha) (implies_is _ p hp)
  ruled (ModalLeft c) =
      on_given E (ModalLeft c) (left_of (E.at c.left)) _ λ a ha. on_given E (ModalLeft c) (universal_of (E.view a.1)) _ λ u hu.
      on_given E (ModalLeft c) (arrow_of (E.at c.arrow)) _ λ w hw. on_given E (ModalLeft c) (end_of u a.0 w) _ λ y hy.
      let is = universal_is _ u hu in
      modal_left is.1 (left_is _ a ha) is.0 (arrow_is _ w hw ∙ ap (λ (l : Link). Some (Linked l)) (end_is u a.0 w y hy))
  ruled (ModalRight r) =
      on_given E (ModalRight r) (right_of (E.at r)) _ λ a ha. on_given E (ModalRight r) (universal_of (E.view a.1)) _ λ u hu.
      let is = universal_is _ u hu in
      modal_right is.1 (right_is _ a ha) is.0
  ruled (PermittedLeft l) =
      on_given E (PermittedLeft l) (left_of (E.at l)) _ λ a ha. on_given E (PermittedLeft l) (permitted_of (E.view a.1)) _ λ u hu.
      let is = permitted_is _ u hu in
      subst (λ (k : Modality). Rule E (PermittedLeft l) (Goes (opens_with (Two (Linked (Arrow k u.principal a.0 (new E))) (Left (new E) u.part))))) (sym is.1)
      (permitted_left (left_is _ a ha) is.0)
  ruled (PermittedRight c) =
      on_given E (PermittedRight c) (right_of (E.at c.right)) _ λ a ha. on_given E (PermittedRight c) (permitted_of (E.view a.1)) _ λ u hu.
      on_given E (PermittedRight c) (arrow_of (E.at c.arrow)) _ λ w hw. on_given E (PermittedRight c) (end_of u a.0 w) _ λ y hy.
      let is = permitted_is _ u hu in
      permitted_right (right_is _ a ha) is.0
      (arrow_is _ w hw ∙ ap (λ (l : Link). Some (Linked l)) (end_is u a.0 w y hy ∙ ap (λ (k : Modality). Arrow k u.principal a.0 y) is.1))
  ruled (Reflexive x) = reflexive
  ruled (Transitive c) =
      on_given E (Transitive c) (order_of (E.at c.first)) _ λ a ha. on_given E (Transitive c) (order_of (E.at c.second)) _ λ b hb.
      on_only E (Transitive c) (same_label b.0 a.1) _ λ t.
      transitive (order_is _ a ha) (order_is _ b hb ∙ ap (λ (x : Label). Some (Linked (Order x b.1))) (label_same b.0 a.1 t))
  ruled (Monotone c) =
      on_given E (Monotone c) (order_of (E.at c.first)) _ λ a ha. on_given E (Monotone c) (arrow_of (E.at c.arrow)) _ λ w hw.
      on_given E (Monotone c) (order_of (E.at c.second)) _ λ b hb.
      on_given E (Monotone c) (shifted a w b) _ λ l hl.
      shifted_ruled c a b w (order_is _ a ha) (arrow_is _ w hw) (order_is _ b hb) (universal w.modality) refl l hl
  ruled (OfPack s) =
      on_given E (OfPack s) (named_at E.at s.positions) _ λ named hn.
      reading_ruled s named hn (E.readings s.kind (operands_of s named) E.principals E.labels) refl

  truth : (b : Bool) → T b → b ≡ true
  truth true t = refl
  truth false t = absurd t

  same : (n : ℕ) → eqb n n ≡ true
  same n = eq-eqb n n refl

  -- a rule that applies is computed
  computed : {step : Step} {o : Outcome F} → Rule E step o → applied E step ≡ Some o
  computed (atoms_close {x = x} {y = y} {p = p} l v r w o) = rw (l, v, r, w, o, same p.0, same x.0, same y.0)
  computed (falsity_closes l v) = rw (l, v)
  computed (and_left l v) = rw (l, v)
  computed (and_right r v) = rw (r, v)
  computed (or_left l v) = rw (l, v)
  computed (or_right r v) = rw (r, v)
  computed (implies_left {x = x} l v o) = rw (l, v, o, same x.0)
  computed (implies_right r v) = rw (r, v)
  computed (modal_left {k = k} {A = A} {x = x} u l v a) = rw (l, v, truth (universal k) u, a, same (modality_number k), same A.0, same x.0)
  computed (modal_right {k = k} u r v) = rw (r, v, truth (universal k) u)
  computed (permitted_left l v) = rw (l, v)
  computed (permitted_right {A = A} {x = x} r v a) = rw (r, v, a, same A.0, same x.0)
  computed reflexive = refl
  computed (transitive {y = y} a b) = rw (a, b, same y.0)
  computed (monotone {k = k} {y = y} {z = z} u a w b) = rw (a, w, b, truth (universal k) u, same y.0, same z.0)
  computed (monotone_permitted {y = y} {z = z} a w b) = rw (a, w, b, same y.0, same z.0)
  computed (pack_goes h e) = rw (h, e)
  computed (pack_forks h e) = rw (h, e)

pub computes_rules : {F : Type 0} → ComputesRules F
computes_rules E step o = (λ e. subst (Ruled E step) e (ruled E step), computed E)
