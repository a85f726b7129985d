-- The rules, a row for each kind of step: what the named facts must be, and what each premise adds. Assumes nothing.
use Rattle.std.specs.Prelude.{◌≡◌, T, Some}
use Rattle.records.specs.declared.numbers.AtomNumber.{AtomNumber}
use Rattle.records.specs.declared.numbers.FactPosition.{FactPosition}
use Rattle.records.specs.declared.numbers.Label.{Label}
use Rattle.records.specs.declared.numbers.Principal.{Principal}
use Rattle.logic.specs.declared.terms.Modality.{Modality}
use Rattle.logic.specs.declared.terms.Modality.TheVariants.{Permitted}
use Rattle.logic.specs.declared.terms.Link.TheVariants.{Order, Arrow}
use Rattle.logic.specs.declared.terms.FactView.TheVariants.{Left, Right, Linked}
use Rattle.logic.specs.declared.terms.Node.TheVariants.{Atom, Falsity, And, Or, Implies, Modal}
use Rattle.logic.specs.ModelRules.{universal}
use Rattle.piles.specs.declared.terms.Named.{Named}
use Rattle.piles.specs.declared.terms.Premise.{Premise}
use Rattle.piles.specs.declared.terms.Reading.TheVariants.{Goes as PackGoes, Splits as PackSplits}
use Rattle.piles.specs.Instances.{new_label}
use Rattle.rules.specs.declared.contents.Closing.{Closing}
use Rattle.rules.specs.declared.contents.LeftOrder.{LeftOrder}
use Rattle.rules.specs.declared.contents.LeftArrow.{LeftArrow}
use Rattle.rules.specs.declared.contents.RightArrow.{RightArrow}
use Rattle.rules.specs.declared.contents.TwoOrders.{TwoOrders}
use Rattle.rules.specs.declared.contents.OrderArrowOrder.{OrderArrowOrder}
use Rattle.rules.specs.declared.outcome.Few.TheVariants.{One, Two, Three}
use Rattle.rules.specs.declared.outcome.Outcome.{Outcome}
use Rattle.rules.specs.declared.outcome.Outcome.TheVariants.{Closes, Goes, Forks}
use Rattle.rules.specs.declared.step.PackStep.{PackStep}
use Rattle.rules.specs.declared.step.Step.{Step}
use Rattle.rules.specs.declared.step.Step.TheVariants.{AtomsClose, FalsityCloses, AndLeft, AndRight, OrLeft, OrRight, ImpliesLeft, ImpliesRight, ModalLeft, ModalRight, PermittedLeft, PermittedRight, Reflexive, Transitive, Monotone, OfPack}
use Rattle.rules.specs.Outcomes.{adds, opens_with, pack_adds}
use Rattle.rules.specs.PackSteps.{named_at, operands_of}
use Rattle.rules.specs.Scenes.{Scene}

module _ {F : Type 0} (E : Scene F) where
  -- the label that a step may open: the label count
  abbrev pub new : Label
  new = new_label E.labels

  -- the step applies in this scene, and does this
  pub data Rule : Step → Outcome F → Type 0 where
    -- 32: an atom at x on the left, the same at y on the right, x ≤ y
    atoms_close : {c : Closing} {x y : Label} {f g : F} {p : AtomNumber}
        → E.at c.left ≡ Some (Left x f) → E.view f ≡ Atom p
        → E.at c.right ≡ Some (Right y g) → E.view g ≡ Atom p
        → E.at c.order ≡ Some (Linked (Order x y))
        → Rule (AtomsClose c) Closes
    -- 33: falsity on the left
    falsity_closes : {l : FactPosition} {x : Label} {f : F}
        → E.at l ≡ Some (Left x f) → E.view f ≡ Falsity
        → Rule (FalsityCloses l) Closes
    -- 34: g and h at x on the left: both on the left
    and_left : {l : FactPosition} {x : Label} {f g h : F}
        → E.at l ≡ Some (Left x f) → E.view f ≡ And g h
        → Rule (AndLeft l) (Goes (adds (Two (Left x g) (Left x h))))
    -- 35: g and h at x on the right: g on the right, or h on the right
    and_right : {r : FactPosition} {x : Label} {f g h : F}
        → E.at r ≡ Some (Right x f) → E.view f ≡ And g h
        → Rule (AndRight r) (Forks (adds (One (Right x g))) (adds (One (Right x h))))
    -- 36: g or h at x on the left: g on the left, or h on the left
    or_left : {l : FactPosition} {x : Label} {f g h : F}
        → E.at l ≡ Some (Left x f) → E.view f ≡ Or g h
        → Rule (OrLeft l) (Forks (adds (One (Left x g))) (adds (One (Left x h))))
    -- 37: g or h at x on the right: both on the right
    or_right : {r : FactPosition} {x : Label} {f g h : F}
        → E.at r ≡ Some (Right x f) → E.view f ≡ Or g h
        → Rule (OrRight r) (Goes (adds (Two (Right x g) (Right x h))))
    -- 38: g implies h at x on the left, x ≤ y: g at y on the right, or h at y on the left
    implies_left : {c : LeftOrder} {x y : Label} {f g h : F}
        → E.at c.left ≡ Some (Left x f) → E.view f ≡ Implies g h
        → E.at c.order ≡ Some (Linked (Order x y))
        → Rule (ImpliesLeft c) (Forks (adds (One (Right y g))) (adds (One (Left y h))))
    -- 39: g implies h at x on the right: for a new y, x ≤ y, g at y on the left, h at y on the right
    implies_right : {r : FactPosition} {x : Label} {f g h : F}
        → E.at r ≡ Some (Right x f) → E.view f ≡ Implies g h
        → Rule (ImpliesRight r) (Goes (opens_with (Three (Linked (Order x new)) (Left new g) (Right new h))))
    -- 40: A says, controls or ratified g at x on the left, its arrow from x to y: g at y on the left
    modal_left : {c : LeftArrow} {k : Modality} {A : Principal} {x y : Label} {f g : F}
        → T (universal k)
        → E.at c.left ≡ Some (Left x f) → E.view f ≡ Modal k A g
        → E.at c.arrow ≡ Some (Linked (Arrow k A x y))
        → Rule (ModalLeft c) (Goes (adds (One (Left y g))))
    -- 41: A says, controls or ratified g at x on the right: for a new y, its arrow from x to y, g at y on the right
    modal_right : {r : FactPosition} {k : Modality} {A : Principal} {x : Label} {f g : F}
        → T (universal k)
        → E.at r ≡ Some (Right x f) → E.view f ≡ Modal k A g
        → Rule (ModalRight r) (Goes (opens_with (Two (Linked (Arrow k A x new)) (Right new g))))
    -- 42: A permitted g at x on the left: for a new y, x P_A y, g at y on the left
    permitted_left : {l : FactPosition} {A : Principal} {x : Label} {f g : F}
        → E.at l ≡ Some (Left x f) → E.view f ≡ Modal Permitted A g
        → Rule (PermittedLeft l) (Goes (opens_with (Two (Linked (Arrow Permitted A x new)) (Left new g))))
    -- 43: A permitted g at x on the right, x P_A y: g at y on the right
    permitted_right : {c : RightArrow} {A : Principal} {x y : Label} {f g : F}
        → E.at c.right ≡ Some (Right x f) → E.view f ≡ Modal Permitted A g
        → E.at c.arrow ≡ Some (Linked (Arrow Permitted A x y))
        → Rule (PermittedRight c) (Goes (adds (One (Right y g))))
    -- 44: x ≤ x
    reflexive : {x : Label}
        → Rule (Reflexive x) (Goes (adds (One (Linked (Order x x)))))
    -- 45: x ≤ y and y ≤ z: x ≤ z
    transitive : {c : TwoOrders} {x y z : Label}
        → E.at c.first ≡ Some (Linked (Order x y)) → E.at c.second ≡ Some (Linked (Order y z))
        → Rule (Transitive c) (Goes (adds (One (Linked (Order x z)))))
    -- 46, for says, controls and ratified: x ≤ y, y K_A z, z ≤ w: x K_A w
    monotone : {c : OrderArrowOrder} {k : Modality} {A : Principal} {x y z w : Label}
        → T (universal k)
        → E.at c.first ≡ Some (Linked (Order x y)) → E.at c.arrow ≡ Some (Linked (Arrow k A y z)) → E.at c.second ≡ Some (Linked (Order z w))
        → Rule (Monotone c) (Goes (adds (One (Linked (Arrow k A x w)))))
    -- 46, for permitted: x ≤ y, z P_A y, z ≤ w: w P_A x
    monotone_permitted : {c : OrderArrowOrder} {A : Principal} {x y z w : Label}
        → E.at c.first ≡ Some (Linked (Order x y)) → E.at c.arrow ≡ Some (Linked (Arrow Permitted A z y)) → E.at c.second ≡ Some (Linked (Order z w))
        → Rule (Monotone c) (Goes (adds (One (Linked (Arrow Permitted A w x)))))
    -- a pack's kind, where its step reads as one premise
    pack_goes : {s : PackStep} {named : Named} {q : Premise}
        → named_at E.at s.positions ≡ Some named
        → E.readings s.kind (operands_of s named) E.principals E.labels ≡ PackGoes q
        → Rule (OfPack s) (Goes (pack_adds E.labels q))
    -- a pack's kind, where its step reads as two premises
    pack_forks : {s : PackStep} {named : Named} {q r : Premise}
        → named_at E.at s.positions ≡ Some named
        → E.readings s.kind (operands_of s named) E.principals E.labels ≡ PackSplits q r
        → Rule (OfPack s) (Forks (pack_adds E.labels q) (pack_adds E.labels r))
