-- A fact or a formula that is seen as what a step needs is just that. Assumes nothing.
use Rattle.std.proofs.Common.{◌≡◌, ℕ, Bool, true, false, cond, not, ◌&&◌, T, eqb, ltb, List, length, Some, None, Option, sym, refl, ap, ◌∙◌, subst, arith, eqb→eq}
use Rattle.std.proofs.lemmas.List.{get_or_past}
use Rattle.std.proofs.lemmas.Bool.{ltb-false}
use Rattle.records.specs.declared.numbers.AtomNumber.{AtomNumber}
use Rattle.records.specs.declared.numbers.FormulaNumber.{FormulaNumber}
use Rattle.records.specs.declared.numbers.Label.{Label}
use Rattle.records.specs.declared.numbers.Principal.{Principal}
use Rattle.logic.specs.declared.terms.Modality.{Modality}
use Rattle.logic.specs.declared.terms.Modality.TheVariants.{Says, Controls, Ratified, Permitted}
use Rattle.logic.specs.declared.terms.Link.{Link}
use Rattle.logic.specs.declared.terms.Link.TheVariants.{Order, Arrow}
use Rattle.logic.specs.declared.terms.FactView.{FactView}
use Rattle.logic.specs.declared.terms.FactView.TheVariants.{Left, Right, Linked}
use Rattle.logic.specs.declared.terms.Node.{Node}
use Rattle.logic.specs.declared.terms.Node.TheVariants.{Atom, Falsity, And, Or, Implies, Modal}
use Rattle.logic.specs.ModelRules.{universal}
use Rattle.logic.specs.Tables.{node_at}
use Rattle.logic.proofs.Bools.{T_and}
use Rattle.piles.specs.Instances.{same_modality}
use Rattle.rules.specs.declared.outcome.ArrowParts.{ArrowParts}
use Rattle.rules.specs.declared.outcome.Boxed.{Boxed}
use Rattle.rules.specs.Applying.{given, only_if, same_label, left_of, right_of, order_of, arrow_of, atom_of, falsity_of, and_of, or_of, implies_of, modal_of, universal_of, permitted_of, end_of}
use Rattle.rules.specs.Scenes.{node_of}

pub never : {X : Type 0} {A : Type 0} (x : X) → None ≡ Some x → A
never x e = let z : ◌≡◌ {A = ℕ} 0 1 = cc in absurd (omega arith)

-- past the table's end there is falsity
pub node_past : (ns : List (Node FormulaNumber)) (f : FormulaNumber) → None ≡ node_at ns f → Falsity ≡ node_of ns f
node_past ns f e = go (ltb f.0 (length ns)) refl e
  where
    go : (b : Bool) → ltb f.0 (length ns) ≡ b → None ≡ cond b (Some (node_of ns f)) None → Falsity ≡ node_of ns f
    go true h e = never (node_of ns f) e
    go false h e = sym (get_or_past ns f.0 Falsity (ltb-false f.0 (length ns) h))

-- what is given is there
pub given_some : {X Y : Type 0} (o : Option X) (k : X → Option Y) (y : Y) → given o k ≡ Some y → (x : X) × (o ≡ Some x) × (k x ≡ Some y)
given_some None k y e = never y e
given_some (Some x) k y e = (x, refl, e)

-- a test that is asked for passes
pub only_some : {Y : Type 0} (b : Bool) (k : Option Y) (y : Y) → only_if b k ≡ Some y → T b × (k ≡ Some y)
only_some true k y e = (tt, e)
only_some false k y e = never y e

pub label_same : (x y : Label) → T (same_label x y) → x ≡ y
label_same x y t = let make : ℕ → Label = λ n. record { 0 = n } in ap make (eqb→eq x.0 y.0 t)

pub principal_same : (a b : Principal) → T (eqb a.0 b.0) → a ≡ b
principal_same a b t = let make : ℕ → Principal = λ n. record { 0 = n } in ap make (eqb→eq a.0 b.0 t)

pub atom_same : (a b : AtomNumber) → T (eqb a.0 b.0) → a ≡ b
atom_same a b t = let make : ℕ → AtomNumber = λ n. record { 0 = n } in ap make (eqb→eq a.0 b.0 t)

pub modality_same : (j k : Modality) → T (same_modality j k) → j ≡ k
modality_same Says Says t = refl
modality_same Says Controls t = absurd t
modality_same Says Ratified t = absurd t
modality_same Says Permitted t = absurd t
modality_same Controls Says t = absurd t
modality_same Controls Controls t = refl
modality_same Controls Ratified t = absurd t
modality_same Controls Permitted t = absurd t
modality_same Ratified Says t = absurd t
modality_same Ratified Controls t = absurd t
modality_same Ratified Ratified t = refl
modality_same Ratified Permitted t = absurd t
modality_same Permitted Says t = absurd t
modality_same Permitted Controls t = absurd t
modality_same Permitted Ratified t = absurd t
modality_same Permitted Permitted t = refl

-- only permitted is not universal
pub permitted_only : (k : Modality) → T (not (universal k)) → k ≡ Permitted
permitted_only Says t = absurd t
permitted_only Controls t = absurd t
permitted_only Ratified t = absurd t
permitted_only Permitted t = refl

-- an arrow as a link
abbrev pub arrow_link : ArrowParts → Link
arrow_link w = Arrow w.modality w.principal w.from w.to

module _ {F : Type 0} where
  pub left_is : (o : Option (FactView F)) (a : Label × F) → left_of o ≡ Some a → o ≡ Some (Left a.0 a.1)
  left_is None a e = never a e
  left_is (Some (Left x f)) a e = let p : ◌≡◌ {A = Label × F} (x, f) a = cc in ap (λ (z : Label × F). Some (Left z.0 z.1)) p
  left_is (Some (Right x f)) a e = never a e
  left_is (Some (Linked l)) a e = never a e

  pub right_is : (o : Option (FactView F)) (a : Label × F) → right_of o ≡ Some a → o ≡ Some (Right a.0 a.1)
  right_is None a e = never a e
  right_is (Some (Left x f)) a e = never a e
  right_is (Some (Right x f)) a e = let p : ◌≡◌ {A = Label × F} (x, f) a = cc in ap (λ (z : Label × F). Some (Right z.0 z.1)) p
  right_is (Some (Linked l)) a e = never a e

  pub order_is : (o : Option (FactView F)) (a : Label × Label) → order_of o ≡ Some a → o ≡ Some (Linked (Order a.0 a.1))
  order_is None a e = never a e
  order_is (Some (Left x f)) a e = never a e
  order_is (Some (Right x f)) a e = never a e
  order_is (Some (Linked (Order x y))) a e = let p : ◌≡◌ {A = Label × Label} (x, y) a = cc in ap (λ (z : Label × Label). Some (Linked (Order z.0 z.1))) p
  order_is (Some (Linked (Arrow k A x y))) a e = never a e

  pub arrow_is : (o : Option (FactView F)) (w : ArrowParts) → arrow_of o ≡ Some w → o ≡ Some (Linked (arrow_link w))
  arrow_is None a e = never a e
  arrow_is (Some (Left x f)) a e = never a e
  arrow_is (Some (Right x f)) a e = never a e
  arrow_is (Some (Linked (Order x y))) a e = never a e
  arrow_is (Some (Linked (Arrow k A x y))) a e =
      let p : ◌≡◌ {A = ArrowParts} (record { modality = k; principal = A; from = x; to = y }) a = cc in
      ap (λ (z : ArrowParts). Some (Linked (arrow_link z))) p

  pub atom_is : (n : Node F) (a : AtomNumber) → atom_of n ≡ Some a → n ≡ Atom a
  atom_is (Atom b) a e = let p : b ≡ a = cc in ap Atom p
  atom_is Falsity a e = never a e
  atom_is (And f g) a e = never a e
  atom_is (Or f g) a e = never a e
  atom_is (Implies f g) a e = never a e
  atom_is (Modal k A f) a e = never a e

  pub falsity_is : (n : Node F) (a : Unit {0}) → falsity_of n ≡ Some a → n ≡ Falsity
  falsity_is (Atom b) a e = never a e
  falsity_is Falsity a e = refl
  falsity_is (And f g) a e = never a e
  falsity_is (Or f g) a e = never a e
  falsity_is (Implies f g) a e = never a e
  falsity_is (Modal k A f) a e = never a e

  pub and_is : (n : Node F) (a : F × F) → and_of n ≡ Some a → n ≡ And a.0 a.1
  and_is (Atom b) a e = never a e
  and_is Falsity a e = never a e
  and_is (And f g) a e = let p : ◌≡◌ {A = F × F} (f, g) a = cc in ap (λ (z : F × F). And z.0 z.1) p
  and_is (Or f g) a e = never a e
  and_is (Implies f g) a e = never a e
  and_is (Modal k A f) a e = never a e

  pub or_is : (n : Node F) (a : F × F) → or_of n ≡ Some a → n ≡ Or a.0 a.1
  or_is (Atom b) a e = never a e
  or_is Falsity a e = never a e
  or_is (And f g) a e = never a e
  or_is (Or f g) a e = let p : ◌≡◌ {A = F × F} (f, g) a = cc in ap (λ (z : F × F). Or z.0 z.1) p
  or_is (Implies f g) a e = never a e
  or_is (Modal k A f) a e = never a e

  pub implies_is : (n : Node F) (a : F × F) → implies_of n ≡ Some a → n ≡ Implies a.0 a.1
  implies_is (Atom b) a e = never a e
  implies_is Falsity a e = never a e
  implies_is (And f g) a e = never a e
  implies_is (Or f g) a e = never a e
  implies_is (Implies f g) a e = let p : ◌≡◌ {A = F × F} (f, g) a = cc in ap (λ (z : F × F). Implies z.0 z.1) p
  implies_is (Modal k A f) a e = never a e

  pub modal_is : (n : Node F) (u : Boxed F) → modal_of n ≡ Some u → n ≡ Modal u.modality u.principal u.part
  modal_is (Atom b) a e = never a e
  modal_is Falsity a e = never a e
  modal_is (And f g) a e = never a e
  modal_is (Or f g) a e = never a e
  modal_is (Implies f g) a e = never a e
  modal_is (Modal k A f) a e =
      let p : ◌≡◌ {A = Boxed F} (record { modality = k; principal = A; part = f }) a = cc in
      ap (λ (z : Boxed F). Modal z.modality z.principal z.part) p

  -- a modal formula that passes a test of its modality
  tested_is : (test : Modality → Bool) (n : Node F) (u : Boxed F) → given (modal_of n) (λ v. only_if (test v.modality) (Some v)) ≡ Some u → (n ≡ Modal u.modality u.principal u.part) × T (test u.modality)
  tested_is test n u e =
      let g = given_some (modal_of n) (λ v. only_if (test v.modality) (Some v)) u e in
      let o = only_some (test g.0.modality) (Some g.0) u g.2 in
      let p : g.0 ≡ u = let s = o.1 in cc in
      (modal_is n u (g.1 ∙ o.1), subst (λ (v : Boxed F). T (test v.modality)) p o.0)

  pub universal_is : (n : Node F) (u : Boxed F) → universal_of n ≡ Some u → (n ≡ Modal u.modality u.principal u.part) × T (universal u.modality)
  universal_is n u e = tested_is universal n u e

  pub permitted_is : (n : Node F) (u : Boxed F) → permitted_of n ≡ Some u → (n ≡ Modal Permitted u.principal u.part) × (u.modality ≡ Permitted)
  permitted_is n u e =
      let t = tested_is (λ k. not (universal k)) n u e in
      let is = permitted_only u.modality t.1 in
      (t.0 ∙ ap (λ (k : Modality). Modal k u.principal u.part) is, is)

  -- an arrow that belongs to the modality, and starts at x
  pub end_is : (u : Boxed F) (x : Label) (w : ArrowParts) (y : Label) → end_of u x w ≡ Some y → arrow_link w ≡ Arrow u.modality u.principal x y
  end_is u x w y e =
      let o = only_some (same_modality w.modality u.modality && (eqb w.principal.0 u.principal.0 && same_label w.from x)) (Some w.to) y e in
      let s = (T_and (same_modality w.modality u.modality) (eqb w.principal.0 u.principal.0 && same_label w.from x)).0 o.0 in
      let r = (T_and (eqb w.principal.0 u.principal.0) (same_label w.from x)).0 s.1 in
      let ends : w.to ≡ y = let q = o.1 in cc in
      ap (λ (k : Modality). Arrow k w.principal w.from w.to) (modality_same w.modality u.modality s.0)
      ∙ ap (λ (a : Principal). Arrow u.modality a w.from w.to) (principal_same w.principal u.principal r.0)
      ∙ ap (λ (v : Label). Arrow u.modality u.principal v w.to) (label_same w.from x r.1)
      ∙ ap (λ (v : Label). Arrow u.modality u.principal x v) ends
