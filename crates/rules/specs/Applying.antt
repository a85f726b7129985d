-- What a step does, computed; a theorem says that it is what the rules say. Assumes nothing.
use Rattle.std.specs.Prelude.{◌≡◌, ℕ, Bool, cond, not, ◌&&◌, ◌↔◌, Some, None, Option, ◌==◌}
use Rattle.records.specs.declared.numbers.AtomNumber.{AtomNumber}
use Rattle.records.specs.declared.numbers.FactPosition.{FactPosition}
use Rattle.records.specs.declared.numbers.Label.{Label}
use Rattle.logic.specs.declared.terms.Link.{Link}
use Rattle.logic.specs.declared.terms.Link.TheVariants.{Order, Arrow}
use Rattle.logic.specs.declared.terms.FactView.{FactView}
use Rattle.logic.specs.declared.terms.FactView.TheVariants.{Left, Right, Linked}
use Rattle.logic.specs.declared.terms.Node.{Node}
use Rattle.logic.specs.declared.terms.Node.TheVariants.{Atom, Falsity, And, Or, Implies, Modal}
use Rattle.logic.specs.ModelRules.{universal}
use Rattle.piles.specs.declared.terms.Reading.{Reading}
use Rattle.piles.specs.declared.terms.Reading.TheVariants.{Unknown, NoInstance, Goes as PackGoes, Splits as PackSplits}
use Rattle.piles.specs.Instances.{new_label, same_modality}
use Rattle.piles.specs.Packs.{Readings}
use Rattle.rules.specs.declared.contents.Closing.{Closing}
use Rattle.rules.specs.declared.contents.LeftOrder.{LeftOrder}
use Rattle.rules.specs.declared.contents.LeftArrow.{LeftArrow}
use Rattle.rules.specs.declared.contents.RightArrow.{RightArrow}
use Rattle.rules.specs.declared.contents.TwoOrders.{TwoOrders}
use Rattle.rules.specs.declared.contents.OrderArrowOrder.{OrderArrowOrder}
use Rattle.rules.specs.declared.outcome.Few.TheVariants.{One, Two, Three}
use Rattle.rules.specs.declared.outcome.Outcome.{Outcome}
use Rattle.rules.specs.declared.outcome.Outcome.TheVariants.{Closes, Goes, Forks}
use Rattle.rules.specs.declared.outcome.ArrowParts.{ArrowParts}
use Rattle.rules.specs.declared.outcome.Boxed.{Boxed}
use Rattle.rules.specs.declared.step.PackStep.{PackStep}
use Rattle.rules.specs.declared.step.Step.{Step}
use Rattle.rules.specs.declared.step.Step.TheVariants.{AtomsClose, FalsityCloses, AndLeft, AndRight, OrLeft, OrRight, ImpliesLeft, ImpliesRight, ModalLeft, ModalRight, PermittedLeft, PermittedRight, Reflexive, Transitive, Monotone, OfPack}
use Rattle.rules.specs.Outcomes.{adds, opens_with, pack_adds}
use Rattle.rules.specs.PackSteps.{named_at, operands_of}
use Rattle.rules.specs.Scenes.{Scene}
use Rattle.rules.specs.Rules.{Rule}

-- on with what is there
abbrev pub given : {X Y : Type 0} → Option X → (X → Option Y) → Option Y
given None next = None
given (Some x) next = next x

-- on where a test passes
abbrev pub only_if : {Y : Type 0} → Bool → Option Y → Option Y
only_if b next = cond b next None

-- two labels are the same
abbrev pub same_label : Label → Label → Bool
same_label x y = x.0 == y.0

module _ {F : Type 0} where
  -- a left formula: its label, and the formula
  abbrev pub left_of : Option (FactView F) → Option (Label × F)
  left_of None = None
  left_of (Some (Left x f)) = Some (x, f)
  left_of (Some (Right x f)) = None
  left_of (Some (Linked l)) = None

  -- a right formula
  abbrev pub right_of : Option (FactView F) → Option (Label × F)
  right_of None = None
  right_of (Some (Left x f)) = None
  right_of (Some (Right x f)) = Some (x, f)
  right_of (Some (Linked l)) = None

  -- an order: its lower and its upper label
  abbrev pub order_of : Option (FactView F) → Option (Label × Label)
  order_of None = None
  order_of (Some (Left x f)) = None
  order_of (Some (Right x f)) = None
  order_of (Some (Linked (Order x y))) = Some (x, y)
  order_of (Some (Linked (Arrow k A x y))) = None

  -- an arrow
  abbrev pub arrow_of : Option (FactView F) → Option ArrowParts
  arrow_of None = None
  arrow_of (Some (Left x f)) = None
  arrow_of (Some (Right x f)) = None
  arrow_of (Some (Linked (Order x y))) = None
  arrow_of (Some (Linked (Arrow k A x y))) = Some (record { modality = k; principal = A; from = x; to = y })

  -- an atom
  abbrev pub atom_of : Node F → Option AtomNumber
  atom_of (Atom a) = Some a
  atom_of Falsity = None
  atom_of (And f g) = None
  atom_of (Or f g) = None
  atom_of (Implies f g) = None
  atom_of (Modal k A f) = None

  -- falsity
  abbrev pub falsity_of : Node F → Option (Unit {0})
  falsity_of (Atom a) = None
  falsity_of Falsity = Some tt
  falsity_of (And f g) = None
  falsity_of (Or f g) = None
  falsity_of (Implies f g) = None
  falsity_of (Modal k A f) = None

  -- a conjunction's parts
  abbrev pub and_of : Node F → Option (F × F)
  and_of (Atom a) = None
  and_of Falsity = None
  and_of (And f g) = Some (f, g)
  and_of (Or f g) = None
  and_of (Implies f g) = None
  and_of (Modal k A f) = None

  -- a disjunction's parts
  abbrev pub or_of : Node F → Option (F × F)
  or_of (Atom a) = None
  or_of Falsity = None
  or_of (And f g) = None
  or_of (Or f g) = Some (f, g)
  or_of (Implies f g) = None
  or_of (Modal k A f) = None

  -- an implication's parts
  abbrev pub implies_of : Node F → Option (F × F)
  implies_of (Atom a) = None
  implies_of Falsity = None
  implies_of (And f g) = None
  implies_of (Or f g) = None
  implies_of (Implies f g) = Some (f, g)
  implies_of (Modal k A f) = None

  -- a formula under a modality
  abbrev pub modal_of : Node F → Option (Boxed F)
  modal_of (Atom a) = None
  modal_of Falsity = None
  modal_of (And f g) = None
  modal_of (Or f g) = None
  modal_of (Implies f g) = None
  modal_of (Modal k A f) = Some (record { modality = k; principal = A; part = f })

  -- under says, controls or ratified
  abbrev pub universal_of : Node F → Option (Boxed F)
  universal_of n = given (modal_of n) λ u. only_if (universal u.modality) (Some u)

  -- under permitted
  abbrev pub permitted_of : Node F → Option (Boxed F)
  permitted_of n = given (modal_of n) λ u. only_if (not (universal u.modality)) (Some u)

  -- an arrow of the modality and the principal of u that starts at x: where it ends
  abbrev pub end_of : Boxed F → Label → ArrowParts → Option Label
  end_of u x a = only_if (same_modality a.modality u.modality && (a.principal.0 == u.principal.0 && same_label a.from x)) (Some a.to)

  -- what a pack's reading does in a branch with n labels
  abbrev pub of_reading : ℕ → Reading → Option (Outcome F)
  of_reading n Unknown = None
  of_reading n NoInstance = None
  of_reading n (PackGoes q) = Some (Goes (pack_adds n q))
  of_reading n (PackSplits q r) = Some (Forks (pack_adds n q) (pack_adds n r))

module _ {F : Type 0} (at : FactPosition → Option (FactView F)) (view : F → Node F) where
  abbrev pub atoms_close : Closing → Option (Outcome F)
  atoms_close c =
      given (left_of (at c.left)) λ a. given (atom_of (view a.1)) λ p.
      given (right_of (at c.right)) λ b. given (atom_of (view b.1)) λ q.
      given (order_of (at c.order)) λ o.
      only_if (p.0 == q.0 && (same_label o.0 a.0 && same_label o.1 b.0)) (Some Closes)

  abbrev pub falsity_closes : FactPosition → Option (Outcome F)
  falsity_closes l = given (left_of (at l)) λ a. given (falsity_of (view a.1)) λ _. Some Closes

  abbrev pub and_left : FactPosition → Option (Outcome F)
  and_left l =
      given (left_of (at l)) λ a. given (and_of (view a.1)) λ p.
      Some (Goes (adds (Two (Left a.0 p.0) (Left a.0 p.1))))

  abbrev pub and_right : FactPosition → Option (Outcome F)
  and_right r =
      given (right_of (at r)) λ a. given (and_of (view a.1)) λ p.
      Some (Forks (adds (One (Right a.0 p.0))) (adds (One (Right a.0 p.1))))

  abbrev pub or_left : FactPosition → Option (Outcome F)
  or_left l =
      given (left_of (at l)) λ a. given (or_of (view a.1)) λ p.
      Some (Forks (adds (One (Left a.0 p.0))) (adds (One (Left a.0 p.1))))

  abbrev pub or_right : FactPosition → Option (Outcome F)
  or_right r =
      given (right_of (at r)) λ a. given (or_of (view a.1)) λ p.
      Some (Goes (adds (Two (Right a.0 p.0) (Right a.0 p.1))))

  abbrev pub implies_left : LeftOrder → Option (Outcome F)
  implies_left c =
      given (left_of (at c.left)) λ a. given (implies_of (view a.1)) λ p.
      given (order_of (at c.order)) λ o.
      only_if (same_label o.0 a.0) (Some (Forks (adds (One (Right o.1 p.0))) (adds (One (Left o.1 p.1)))))

  abbrev pub implies_right : ℕ → FactPosition → Option (Outcome F)
  implies_right n r =
      given (right_of (at r)) λ a. given (implies_of (view a.1)) λ p.
      Some (Goes (opens_with (Three (Linked (Order a.0 (new_label n))) (Left (new_label n) p.0) (Right (new_label n) p.1))))

  abbrev pub modal_left : LeftArrow → Option (Outcome F)
  modal_left c =
      given (left_of (at c.left)) λ a. given (universal_of (view a.1)) λ u.
      given (arrow_of (at c.arrow)) λ w. given (end_of u a.0 w) λ y.
      Some (Goes (adds (One (Left y u.part))))

  abbrev pub modal_right : ℕ → FactPosition → Option (Outcome F)
  modal_right n r =
      given (right_of (at r)) λ a. given (universal_of (view a.1)) λ u.
      Some (Goes (opens_with (Two (Linked (Arrow u.modality u.principal a.0 (new_label n))) (Right (new_label n) u.part))))

  abbrev pub permitted_left : ℕ → FactPosition → Option (Outcome F)
  permitted_left n l =
      given (left_of (at l)) λ a. given (permitted_of (view a.1)) λ u.
      Some (Goes (opens_with (Two (Linked (Arrow u.modality u.principal a.0 (new_label n))) (Left (new_label n) u.part))))

  abbrev pub permitted_right : RightArrow → Option (Outcome F)
  permitted_right c =
      given (right_of (at c.right)) λ a. given (permitted_of (view a.1)) λ u.
      given (arrow_of (at c.arrow)) λ w. given (end_of u a.0 w) λ y.
      Some (Goes (adds (One (Right y u.part))))

module _ {F : Type 0} (at : FactPosition → Option (FactView F)) where
  abbrev pub transitive : TwoOrders → Option (Outcome F)
  transitive c =
      given (order_of (at c.first)) λ a. given (order_of (at c.second)) λ b.
      only_if (same_label b.0 a.1) (Some (Goes (adds (One (Linked (Order a.0 b.1))))))

-- for says, controls and ratified, from x ≤ y, an arrow from y to z and z ≤ w: the arrow from x to w
abbrev pub along : Label × Label → ArrowParts → Label × Label → Option Link
along a w b = only_if (same_label w.from a.1 && same_label b.0 w.to) (Some (Arrow w.modality w.principal a.0 b.1))

-- for permitted, from x ≤ y, an arrow from z to y and z ≤ w: the arrow from w to x
abbrev pub against : Label × Label → ArrowParts → Label × Label → Option Link
against a w b = only_if (same_label w.to a.1 && same_label b.0 w.from) (Some (Arrow w.modality w.principal b.1 a.0))

-- the arrow, moved out along two orders
abbrev pub shifted : Label × Label → ArrowParts → Label × Label → Option Link
shifted a w b = cond (universal w.modality) (along a w b) (against a w b)

module _ {F : Type 0} (at : FactPosition → Option (FactView F)) where
  abbrev pub monotone : OrderArrowOrder → Option (Outcome F)
  monotone c =
      given (order_of (at c.first)) λ a. given (arrow_of (at c.arrow)) λ w. given (order_of (at c.second)) λ b.
      given (shifted a w b) λ l. Some (Goes (adds (One (Linked l))))

  abbrev pub of_pack : Readings → ℕ → ℕ → PackStep → Option (Outcome F)
  of_pack readings P n s =
      given (named_at at s.positions) λ named. of_reading n (readings s.kind (operands_of s named) P n)

-- x ≤ x
abbrev pub reflexive : {F : Type 0} → Label → Outcome F
reflexive x = Goes (adds (One (Linked (Order x x))))

-- what a step does in a scene; nothing where the facts are not as needed
abbrev pub applied : {F : Type 0} → Scene F → Step → Option (Outcome F)
applied E (AtomsClose c) = atoms_close E.at E.view c
applied E (FalsityCloses l) = falsity_closes E.at E.view l
applied E (AndLeft l) = and_left E.at E.view l
applied E (AndRight r) = and_right E.at E.view r
applied E (OrLeft l) = or_left E.at E.view l
applied E (OrRight r) = or_right E.at E.view r
applied E (ImpliesLeft c) = implies_left E.at E.view c
applied E (ImpliesRight r) = implies_right E.at E.view E.labels r
applied E (ModalLeft c) = modal_left E.at E.view c
applied E (ModalRight r) = modal_right E.at E.view E.labels r
applied E (PermittedLeft l) = permitted_left E.at E.view E.labels l
applied E (PermittedRight c) = permitted_right E.at E.view c
applied E (Reflexive x) = Some (reflexive x)
applied E (Transitive c) = transitive E.at c
applied E (Monotone c) = monotone E.at c
applied E (OfPack s) = of_pack E.at E.readings E.principals E.labels s

-- what is computed is what the rules say, both ways: of formulas as trees, and of formulas by their numbers
abbrev pub ComputesRules : Type 0 → Type 0
ComputesRules F = (E : Scene F) (step : Step) (o : Outcome F) → (applied E step ≡ Some o) ↔ Rule E step o
