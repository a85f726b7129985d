-- What a step does, does not depend on what formulas are given by. Assumes nothing.
use Rattle.std.proofs.Common.{◌≡◌, ℕ, Bool, true, false, not, ◌&&◌, eqb, Some, None, Option, refl, ap, ◌∙◌, ap₂}
use Rattle.records.specs.declared.numbers.FactPosition.{FactPosition}
use Rattle.records.specs.declared.numbers.Label.{Label}
use Rattle.logic.specs.declared.terms.Link.TheVariants.{Order, Arrow}
use Rattle.logic.specs.declared.terms.FactView.{FactView}
use Rattle.logic.specs.declared.terms.FactView.TheVariants.{Left, Right, Linked}
use Rattle.logic.specs.declared.terms.Node.{Node}
use Rattle.logic.specs.declared.terms.Node.TheVariants.{Atom, Falsity, And, Or, Implies, Modal}
use Rattle.logic.specs.Formulas.{node_map}
use Rattle.logic.specs.Facts.{fact_map}
use Rattle.logic.specs.ModelRules.{universal}
use Rattle.piles.specs.declared.terms.Premise.{Premise}
use Rattle.piles.specs.declared.terms.Premise.TheVariants.{Adds, AddsBoth}
use Rattle.piles.specs.declared.terms.Reading.{Reading}
use Rattle.piles.specs.declared.terms.Reading.TheVariants.{Unknown, NoInstance, Goes as PackGoes, Splits as PackSplits}
use Rattle.rules.specs.declared.outcome.Boxed.{Boxed}
use Rattle.rules.specs.declared.outcome.Few.{Few}
use Rattle.rules.specs.declared.outcome.Few.TheVariants.{One, Two, Three}
use Rattle.rules.specs.declared.outcome.Growth.{Growth}
use Rattle.rules.specs.declared.outcome.Outcome.{Outcome}
use Rattle.rules.specs.declared.outcome.Outcome.TheVariants.{Closes, Goes, Forks}
use Rattle.rules.specs.declared.step.Positions.{Positions}
use Rattle.rules.specs.declared.step.Positions.TheVariants.{Zero, One as OnePosition, Two as TwoPositions}
use Rattle.rules.specs.declared.step.Step.{Step}
use Rattle.rules.specs.declared.step.Step.TheVariants.{AtomsClose, FalsityCloses, AndLeft, AndRight, OrLeft, OrRight, ImpliesLeft, ImpliesRight, ModalLeft, ModalRight, PermittedLeft, PermittedRight, Reflexive, Transitive, Monotone, OfPack}
use Rattle.rules.specs.Applying.{given, only_if, same_label, left_of, right_of, order_of, arrow_of, atom_of, falsity_of, and_of, or_of, implies_of, universal_of, permitted_of, end_of, shifted, of_reading, applied}
use Rattle.rules.specs.Outcomes.{adds, pack_adds}
use Rattle.rules.specs.PackSteps.{hidden, one_named, two_named, named_at, operands_of}
use Rattle.rules.specs.Scenes.{Scene}

abbrev pub opt_map : {X Y : Type 0} → (X → Y) → Option X → Option Y
opt_map u None = None
opt_map u (Some x) = Some (u x)

only_map : {X Y : Type 0} (u : X → Y) (b : Bool) (x : X) → only_if b (Some (u x)) ≡ opt_map u (only_if b (Some x))
only_map u true x = refl
only_map u false x = refl

module _ {F G : Type 0} (t : F → G) where
  abbrev pub few_map : Few F → Few G
  few_map (One a) = One (fact_map t a)
  few_map (Two a b) = Two (fact_map t a) (fact_map t b)
  few_map (Three a b c) = Three (fact_map t a) (fact_map t b) (fact_map t c)

  abbrev pub growth_map : Growth F → Growth G
  growth_map p = record { facts = few_map p.facts; opens = p.opens }

  abbrev pub out_map : Outcome F → Outcome G
  out_map Closes = Closes
  out_map (Goes p) = Goes (growth_map p)
  out_map (Forks p q) = Forks (growth_map p) (growth_map q)

  abbrev pair_map : Label × F → Label × G
  pair_map a = (a.0, t a.1)

  abbrev parts_map : F × F → G × G
  parts_map a = (t a.0, t a.1)

  abbrev box_map : Boxed F → Boxed G
  box_map u = record { modality = u.modality; principal = u.principal; part = t u.part }

  left_nat : (o : Option (FactView F)) → left_of (opt_map (fact_map t) o) ≡ opt_map pair_map (left_of o)
  left_nat None = refl
  left_nat (Some (Left x f)) = refl
  left_nat (Some (Right x f)) = refl
  left_nat (Some (Linked l)) = refl

  right_nat : (o : Option (FactView F)) → right_of (opt_map (fact_map t) o) ≡ opt_map pair_map (right_of o)
  right_nat None = refl
  right_nat (Some (Left x f)) = refl
  right_nat (Some (Right x f)) = refl
  right_nat (Some (Linked l)) = refl

  order_nat : (o : Option (FactView F)) → order_of (opt_map (fact_map t) o) ≡ order_of o
  order_nat None = refl
  order_nat (Some (Left x f)) = refl
  order_nat (Some (Right x f)) = refl
  order_nat (Some (Linked (Order x y))) = refl
  order_nat (Some (Linked (Arrow k A x y))) = refl

  arrow_nat : (o : Option (FactView F)) → arrow_of (opt_map (fact_map t) o) ≡ arrow_of o
  arrow_nat None = refl
  arrow_nat (Some (Left x f)) = refl
  arrow_nat (Some (Right x f)) = refl
  arrow_nat (Some (Linked (Order x y))) = refl
  arrow_nat (Some (Linked (Arrow k A x y))) = refl

  atom_nat : (n : Node F) → atom_of (node_map t n) ≡ atom_of n
  atom_nat (Atom a) = refl
  atom_nat Falsity = refl
  atom_nat (And f g) = refl
  atom_nat (Or f g) = refl
  atom_nat (Implies f g) = refl
  atom_nat (Modal k A f) = refl

  falsity_nat : (n : Node F) → falsity_of (node_map t n) ≡ falsity_of n
  falsity_nat (Atom a) = refl
  falsity_nat Falsity = refl
  falsity_nat (And f g) = refl
  falsity_nat (Or f g) = refl
  falsity_nat (Implies f g) = refl
  falsity_nat (Modal k A f) = refl

  and_nat : (n : Node F) → and_of (node_map t n) ≡ opt_map parts_map (and_of n)
  and_nat (Atom a) = refl
  and_nat Falsity = refl
  and_nat (And f g) = refl
  and_nat (Or f g) = refl
  and_nat (Implies f g) = refl
  and_nat (Modal k A f) = refl

  or_nat : (n : Node F) → or_of (node_map t n) ≡ opt_map parts_map (or_of n)
  or_nat (Atom a) = refl
  or_nat Falsity = refl
  or_nat (And f g) = refl
  or_nat (Or f g) = refl
  or_nat (Implies f g) = refl
  or_nat (Modal k A f) = refl

  implies_nat : (n : Node F) → implies_of (node_map t n) ≡ opt_map parts_map (implies_of n)
  implies_nat (Atom a) = refl
  implies_nat Falsity = refl
  implies_nat (And f g) = refl
  implies_nat (Or f g) = refl
  implies_nat (Implies f g) = refl
  implies_nat (Modal k A f) = refl

  universal_nat : (n : Node F) → universal_of (node_map t n) ≡ opt_map box_map (universal_of n)
  universal_nat (Atom a) = refl
  universal_nat Falsity = refl
  universal_nat (And f g) = refl
  universal_nat (Or f g) = refl
  universal_nat (Implies f g) = refl
  universal_nat (Modal k A f) = only_map box_map (universal k) (record { modality = k; principal = A; part = f })

  permitted_nat : (n : Node F) → permitted_of (node_map t n) ≡ opt_map box_map (permitted_of n)
  permitted_nat (Atom a) = refl
  permitted_nat Falsity = refl
  permitted_nat (And f g) = refl
  permitted_nat (Or f g) = refl
  permitted_nat (Implies f g) = refl
  permitted_nat (Modal k A f) = only_map box_map (not (universal k)) (record { modality = k; principal = A; part = f })

  hidden_nat : (f : FactView F) → hidden (fact_map t f) ≡ hidden f
  hidden_nat (Left x f) = refl
  hidden_nat (Right x f) = refl
  hidden_nat (Linked l) = refl

  one_nat : (o : Option (FactView F)) → one_named (opt_map (fact_map t) o) ≡ one_named o
  one_nat None = refl
  one_nat (Some a) = rw (hidden_nat a)

  two_nat : (o q : Option (FactView F)) → two_named (opt_map (fact_map t) o) (opt_map (fact_map t) q) ≡ two_named o q
  two_nat None q = refl
  two_nat (Some a) None = refl
  two_nat (Some a) (Some b) = rw (hidden_nat a, hidden_nat b)

  -- a need that is met at both
  given_nat : {X Y : Type 0} (u : X → Y) (p : Option Y) (o : Option X) → p ≡ opt_map u o → (k : X → Option (Outcome F)) (j : Y → Option (Outcome G)) → ((x : X) → j (u x) ≡ opt_map out_map (k x)) → given p j ≡ opt_map out_map (given o k)
  given_nat u p None e k j h = ap (λ q. given q j) e
  given_nat u p (Some x) e k j h = ap (λ q. given q j) e ∙ h x

  given_same : {X : Type 0} (p o : Option X) → p ≡ o → (k : X → Option (Outcome F)) (j : X → Option (Outcome G)) → ((x : X) → j x ≡ opt_map out_map (k x)) → given p j ≡ opt_map out_map (given o k)
  given_same p None e k j h = ap (λ q. given q j) e
  given_same p (Some x) e k j h = ap (λ q. given q j) e ∙ h x

  only_nat : (b : Bool) (k : Option (Outcome F)) (j : Option (Outcome G)) → j ≡ opt_map out_map k → only_if b j ≡ opt_map out_map (only_if b k)
  only_nat true k j e = e
  only_nat false k j e = refl

  adds_nat : (n : ℕ) (q : Premise) → pack_adds {F = G} n q ≡ growth_map (pack_adds n q)
  adds_nat n (Adds a) = refl
  adds_nat n (AddsBoth a b) = refl

  reading_nat : (n : ℕ) (r : Reading) → of_reading {F = G} n r ≡ opt_map out_map (of_reading n r)
  reading_nat n Unknown = refl
  reading_nat n NoInstance = refl
  reading_nat n (PackGoes q) = ap (λ p. Some (Goes p)) (adds_nat n q)
  reading_nat n (PackSplits q r) = ap₂ (λ a b. Some (Forks a b)) (adds_nat n q) (adds_nat n r)

  module _ (E : Scene F) (at : FactPosition → Option (FactView G)) (at_nat : (i : FactPosition) → at i ≡ opt_map (fact_map t) (E.at i))
      (sight : G → Node G) (sees : (f : F) → sight (t f) ≡ node_map t (E.view f)) where
    abbrev pub image_scene : Scene G
    image_scene = record { at = at; view = sight; labels = E.labels; readings = E.readings; principals = E.principals }

    left_at : (i : FactPosition) → left_of (at i) ≡ opt_map pair_map (left_of (E.at i))
    left_at i = ap left_of (at_nat i) ∙ left_nat (E.at i)

    right_at : (i : FactPosition) → right_of (at i) ≡ opt_map pair_map (right_of (E.at i))
    right_at i = ap right_of (at_nat i) ∙ right_nat (E.at i)

    order_at : (i : FactPosition) → order_of (at i) ≡ order_of (E.at i)
    order_at i = ap order_of (at_nat i) ∙ order_nat (E.at i)

    arrow_at : (i : FactPosition) → arrow_of (at i) ≡ arrow_of (E.at i)
    arrow_at i = ap arrow_of (at_nat i) ∙ arrow_nat (E.at i)

    atom_at : (f : F) → atom_of (sight (t f)) ≡ atom_of (E.view f)
    atom_at f = ap atom_of (sees f) ∙ atom_nat (E.view f)

    and_at : (f : F) → and_of (sight (t f)) ≡ opt_map parts_map (and_of (E.view f))
    and_at f = ap and_of (sees f) ∙ and_nat (E.view f)

    or_at : (f : F) → or_of (sight (t f)) ≡ opt_map parts_map (or_of (E.view f))
    or_at f = ap or_of (sees f) ∙ or_nat (E.view f)

    implies_at : (f : F) → implies_of (sight (t f)) ≡ opt_map parts_map (implies_of (E.view f))
    implies_at f = ap implies_of (sees f) ∙ implies_nat (E.view f)

    universal_at : (f : F) → universal_of (sight (t f)) ≡ opt_map box_map (universal_of (E.view f))
    universal_at f = ap universal_of (sees f) ∙ universal_nat (E.view f)

    permitted_at : (f : F) → permitted_of (sight (t f)) ≡ opt_map box_map (permitted_of (E.view f))
    permitted_at f = ap permitted_of (sees f) ∙ permitted_nat (E.view f)

    named_nat : (places : Positions) → named_at at places ≡ named_at E.at places
    named_nat Zero = refl
    named_nat (OnePosition i) = ap one_named (at_nat i) ∙ one_nat (E.at i)
    named_nat (TwoPositions i j) = ap₂ two_named (at_nat i) (at_nat j) ∙ two_nat (E.at i) (E.at j)

    pub applied_nat : (step : Step) → applied image_scene step ≡ opt_map out_map (applied E step)
    applied_nat (AtomsClose c) =
        given_nat pair_map _ (left_of (E.at c.left)) (left_at c.left) _ _ λ a.
        given_same _ (atom_of (E.view a.1)) (atom_at a.1) _ _ λ p.
        given_nat pair_map _ (right_of (E.at c.right)) (right_at c.right) _ _ λ b.
        given_same _ (atom_of (E.view b.1)) (atom_at b.1) _ _ λ q.
        given_same _ (order_of (E.at c.order)) (order_at c.order) _ _ λ o.
        only_nat (eqb p.0 q.0 && (same_label o.0 a.0 && same_label o.1 b.0)) (Some Closes) (Some Closes) refl
    applied_nat (FalsityCloses l) =
        given_nat pair_map _ (left_of (E.at l)) (left_at l) _ _ λ a.
        given_same _ (falsity_of (E.view a.1)) (ap falsity_of (sees a.1) ∙ falsity_nat (E.view a.1)) _ _ λ e. refl
    applied_nat (AndLeft l) =
        given_nat pair_map _ (left_of (E.at l)) (left_at l) _ _ λ a.
        given_nat parts_map _ (and_of (E.view a.1)) (and_at a.1) _ _ λ e. refl
    applied_nat (AndRight r) =
        given_nat pair_map _ (right_of (E.at r)) (right_at r) _ _ λ a.
        given_nat parts_map _ (and_of (E.view a.1)) (and_at a.1) _ _ λ e. refl
    applied_nat (OrLeft l) =
        given_nat pair_map _ (left_of (E.at l)) (left_at l) _ _ λ a.
        given_nat parts_map _ (or_of (E.view a.1)) (or_at a.1) _ _ λ e. refl
    applied_nat (OrRight r) =
        given_nat pair_map _ (right_of (E.at r)) (right_at r) _ _ λ a.
        given_nat parts_map _ (or_of (E.view a.1)) (or_at a.1) _ _ λ e. refl
    applied_nat (ImpliesLeft c) =
        given_nat pair_map _ (left_of (E.at c.left)) (left_at c.left) _ _ λ a.
        given_nat parts_map _ (implies_of (E.view a.1)) (implies_at a.1) _ _ λ e.
        given_same _ (order_of (E.at c.order)) (order_at c.order) _ _ λ o.
        only_nat (same_label o.0 a.0) (Some (Forks (adds (One (Right o.1 e.0))) (adds (One (Left o.1 e.1))))) _ refl
    applied_nat (ImpliesRight r) =
        given_nat pair_map _ (right_of (E.at r)) (right_at r) _ _ λ a.
        given_nat parts_map _ (implies_of (E.view a.1)) (implies_at a.1) _ _ λ e. refl
    applied_nat (ModalLeft c) =
        given_nat pair_map _ (left_of (E.at c.left)) (left_at c.left) _ _ λ a.
        given_nat box_map _ (universal_of (E.view a.1)) (universal_at a.1) _ _ λ u.
        given_same _ (arrow_of (E.at c.arrow)) (arrow_at c.arrow) _ _ λ w.
        given_same _ (end_of u a.0 w) refl _ _ λ y. refl
    applied_nat (ModalRight r) =
        given_nat pair_map _ (right_of (E.at r)) (right_at r) _ _ λ a.
        given_nat box_map _ (universal_of (E.view a.1)) (universal_at a.1) _ _ λ u. refl
    applied_nat (PermittedLeft l) =
        given_nat pair_map _ (left_of (E.at l)) (left_at l) _ _ λ a.
        given_nat box_map _ (permitted_of (E.view a.1)) (permitted_at a.1) _ _ λ e. refl
    applied_nat (PermittedRight c) =
        given_nat pair_map _ (right_of (E.at c.right)) (right_at c.right) _ _ λ a.
        given_nat box_map _ (permitted_of (E.view a.1)) (permitted_at a.1) _ _ λ u.
        given_same _ (arrow_of (E.at c.arrow)) (arrow_at c.arrow) _ _ λ w.
        given_same _ (end_of u a.0 w) refl _ _ λ y. refl
    applied_nat (Reflexive x) = refl
    applied_nat (Transitive c) =
        given_same _ (order_of (E.at c.first)) (order_at c.first) _ _ λ a.
        given_same _ (order_of (E.at c.second)) (order_at c.second) _ _ λ b.
        only_nat (same_label b.0 a.1) (Some (Goes (adds (One (Linked (Order a.0 b.1)))))) _ refl
    applied_nat (Monotone c) =
        given_same _ (order_of (E.at c.first)) (order_at c.first) _ _ λ a.
        given_same _ (arrow_of (E.at c.arrow)) (arrow_at c.arrow) _ _ λ w.
        given_same _ (order_of (E.at c.second)) (order_at c.second) _ _ λ b.
        given_same _ (shifted a w b) refl _ _ λ l. refl
    applied_nat (OfPack s) =
        given_same _ (named_at E.at s.positions) (named_nat s.positions) _ _ λ named.
        reading_nat E.labels (E.readings s.kind (operands_of s named) E.principals E.labels)
