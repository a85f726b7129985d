-- Soundness: a standing that falsifies a branch goes on to some premise of every step, and no step closes the branch. Assumes nothing.
use Rattle.std.proofs.Common.{◌≡◌, ℕ, zero, suc, ◌+◌, ◌<◌, ◌≤◌, Bool, true, false, cond, not, ◌||◌, T, eqb, ◌⊎◌, List, [], ◌∷◌, ◌++◌, map, Some, None, Option, sym, refl, ap, ◌∙◌, subst, inl, inr, arith}
use mathlib.Core.Logic.{⊎_map}
use Rattle.std.specs.List.{slice_get, AllByRecursion}
use Rattle.std.proofs.lemmas.Bool.{eq-eqb, ne_eqb, cases_eq, eqb-false, or_parts}
use Rattle.std.proofs.ByRecursion.{All-append, All-weaker}
use Rattle.records.specs.declared.numbers.FactPosition.{FactPosition}
use Rattle.records.specs.declared.numbers.Label.{Label}
use Rattle.records.specs.declared.numbers.World.{World}
use Rattle.records.specs.Chains.{Record}
use Rattle.logic.specs.declared.terms.Modality.{Modality}
use Rattle.logic.specs.declared.terms.Modality.TheVariants.{Says, Controls, Ratified, Permitted}
use Rattle.logic.specs.declared.terms.Link.{Link}
use Rattle.logic.specs.declared.terms.Link.TheVariants.{Order, Arrow}
use Rattle.logic.specs.declared.terms.FactView.{FactView}
use Rattle.logic.specs.declared.terms.FactView.TheVariants.{Left, Right, Linked}
use Rattle.logic.specs.declared.terms.Node.{Node}
use Rattle.logic.specs.declared.terms.Node.TheVariants.{Atom, Falsity, And, Or, Implies, Modal}
use Rattle.logic.specs.Models.{Formula, atom, falsity, and, or, implies, modal, Model, Frame, holds, every, ◌⊃◌}
use Rattle.logic.specs.ModelRules.{Keeps, universal}
use Rattle.logic.specs.Formulas.{shape, made}
use Rattle.logic.specs.Facts.{Sequent, Standing, Placed, falsifies, LinkFits, Scoped}
use Rattle.logic.proofs.Bools.{T_and, T_or, T_not, T_cases, not_and, not_or, not_every, not_if, some_fails}
use Rattle.logic.proofs.Truth.{holds_universal, holds_implies, holds_permitted}
use Rattle.logic.proofs.Persistence.{persistence}
use Rattle.piles.specs.declared.terms.Layout.{Layout}
use Rattle.piles.specs.declared.terms.Named.{Named}
use Rattle.piles.specs.declared.terms.Named.TheVariants.{Nothing, Single, Pair}
use Rattle.piles.specs.declared.terms.Operands.{Operands}
use Rattle.piles.specs.declared.terms.Premise.{Premise}
use Rattle.piles.specs.declared.terms.Premise.TheVariants.{Adds, AddsBoth}
use Rattle.piles.specs.declared.terms.Reading.{Reading}
use Rattle.piles.specs.declared.terms.Reading.TheVariants.{Goes as PackGoes, Splits as PackSplits}
use Rattle.piles.specs.Asked.{SomePrincipals, SomeLabels, arity, FactFits, NamedFit, LabelFits, AskedAs}
use Rattle.piles.specs.Instances.{new_label}
use Rattle.piles.specs.Packs.{Condition, Readings, Laws}
use Rattle.piles.specs.Readings.{FactHolds, NamedHold, extend, Opens, Follows, Respects, LinkHas, FactHas, NamedHas, GivenIs, Usable, LinkUses, PremiseUses, ReadingUses}
use Rattle.rules.specs.declared.outcome.Few.{Few}
use Rattle.rules.specs.declared.outcome.Growth.{Growth}
use Rattle.rules.specs.declared.outcome.Outcome.{Outcome}
use Rattle.rules.specs.declared.outcome.Outcome.TheVariants.{Closes, Goes, Forks}
use Rattle.rules.specs.declared.step.PackStep.{PackStep}
use Rattle.rules.specs.declared.step.Positions.{Positions}
use Rattle.rules.specs.declared.step.Positions.TheVariants.{Zero, One as OnePosition, Two as TwoPositions}
use Rattle.rules.specs.declared.step.Step.{Step}
use Rattle.rules.specs.Outcomes.{listed, adds, opens_with, uses, pack_adds}
use Rattle.rules.specs.PackSteps.{hidden, one_named, two_named, named_at, operands_of}
use Rattle.rules.specs.Scenes.{Scene, told}
use Rattle.rules.specs.Rules.{Rule, atoms_close, falsity_closes, and_left, and_right, or_left, or_right, implies_left, implies_right, modal_left, modal_right, permitted_left, permitted_right, reflexive, transitive, monotone, monotone_permitted, pack_goes, pack_forks}
use Rattle.rules.proofs.Inversions.{never}
use Rattle.steps.specs.Branches.{Branch, Setting, number, labels_after}
use Rattle.steps.specs.Derivations.{Closed, leaf, grow, fork}
use Rattle.steps.specs.Verdicts.{tree_setting, root, Proper, Valid}
use Rattle.steps.proofs.Told.{arity_of, PackTold, Told, step_told}

-- standings
extend_new : (σ : Standing) (n : ℕ) (w : World) → extend σ n w (new_label n) ≡ w
extend_new σ n w = ap (λ (b : Bool). cond b w (σ (new_label n))) (eq-eqb n n refl)

extend_old : (σ : Standing) (n : ℕ) (w : World) (x : Label) → x.0 < n → extend σ n w x ≡ σ x
extend_old σ n w x h = ap (λ (b : Bool). cond b w (σ x)) (ne_eqb x.0 n (λ e. omega arith))

at_new : (σ : Standing) (n : ℕ) (w : World) (p : ℕ → Bool) → T (p w.0) → T (p (extend σ n w (new_label n)).0)
at_new σ n w p t = subst (λ (u : World). T (p u.0)) (sym (extend_new σ n w)) t

at_old : (σ : Standing) (n : ℕ) (w : World) (x : Label) → x.0 < n → (p : ℕ → Bool) → T (p (σ x).0) → T (p (extend σ n w x).0)
at_old σ n w x h p t = subst (λ (u : World). T (p u.0)) (sym (extend_old σ n w x h)) t

extend_placed : (F : Frame) (σ : Standing) (n : ℕ) (w : World) → Placed F n σ → w.0 < F.worlds → Placed F (n + 1) (extend σ n w)
extend_placed F σ n w placed h x l = go (cases_eq x.0 n)
  where
    go : (x.0 ≡ n) ⊎ (x.0 ≡ n → ⊥) → (extend σ n w x).0 < F.worlds
    go (inl e) = subst (λ (u : World). u.0 < F.worlds) (sym (ap (λ (b : Bool). cond b w (σ x)) (eq-eqb x.0 n e))) h
    go (inr d) = subst (λ (u : World). u.0 < F.worlds) (sym (extend_old σ n w x (omega arith))) (placed x (omega arith))

-- a formula is made of what is seen of it
made_shape : (f : Formula) → made (shape f) ≡ f
made_shape (atom a) = refl
made_shape falsity = refl
made_shape (and f g) = refl
made_shape (or f g) = refl
made_shape (implies f g) = refl
made_shape (modal k A f) = refl

pub seen_as : (f : Formula) (n : Node Formula) → shape f ≡ n → f ≡ made n
seen_as f n e = sym (made_shape f) ∙ ap made e

-- where a formula fails
ends_fail : (n : ℕ) (r p : ℕ → Bool) → T (not (every n (λ y. r y ⊃ p y))) → (y : ℕ) × (y < n) × (T (r y) × T (not (p y)))
ends_fail n r p t = let e = not_every n (λ y. r y ⊃ p y) t in (e.0, e.1, not_if (r e.0) (p e.0) e.2)

universal_fails : (m : Model) (k : Modality) → T (universal k) → (A : ℕ) (f : Formula) (x : ℕ) → T (not (holds m (modal k A f) x)) → (y : ℕ) × (y < m.frame.worlds) × (T (m.frame.arrow k A x y) × T (not (holds m f y)))
universal_fails m Says u A f x t = ends_fail m.frame.worlds (λ y. m.frame.arrow Says A x y) (λ y. holds m f y) t
universal_fails m Controls u A f x t = ends_fail m.frame.worlds (λ y. m.frame.arrow Controls A x y) (λ y. holds m f y) t
universal_fails m Ratified u A f x t = ends_fail m.frame.worlds (λ y. m.frame.arrow Ratified A x y) (λ y. holds m f y) t
universal_fails m Permitted u A f x t = absurd u

implies_fails : (m : Model) (f g : Formula) (x : ℕ) → T (not (holds m (implies f g) x)) → (y : ℕ) × (y < m.frame.worlds) × (T (m.frame.above x y) × T (holds m f y) × T (not (holds m g y)))
implies_fails m f g x t =
    let e = not_every m.frame.worlds (λ z. m.frame.above x z ⊃ (holds m f z ⊃ holds m g z)) t in
    let h = not_if (m.frame.above x e.0) (holds m f e.0 ⊃ holds m g e.0) e.2 in
    let k = not_if (holds m f e.0) (holds m g e.0) h.1 in
    (e.0, e.1, (h.0, k.0, k.1))

permitted_fails : (m : Model) (A : ℕ) (f : Formula) (x : ℕ) → T (not (holds m (modal Permitted A f) x)) → (y : ℕ) → y < m.frame.worlds → T (m.frame.arrow Permitted A x y) → T (not (holds m f y))
permitted_fails m A f x t y h a = (T_not (holds m f y)).1 (λ v. (T_not (holds m (modal Permitted A f) x)).0 t ((holds_permitted m A f x).1 (y, h, a, v)))

swap : {A B : Type 0} → A ⊎ B → B ⊎ A
swap (inl a) = inr a
swap (inr b) = inl b

-- labels of a pack's premise: at most the new one
link_under : (P n : ℕ) (l : Link) → LinkFits P n l → (x : Label) → LinkHas x l → x.0 < n + 1
link_under P n (Order y z) h x (inl e) = omega (arith, h.0, ap (λ (v : Label). v.0) e)
link_under P n (Order y z) h x (inr e) = omega (arith, h.1, ap (λ (v : Label). v.0) e)
link_under P n (Arrow k A y z) h x (inl e) = omega (arith, h.1, ap (λ (v : Label). v.0) e)
link_under P n (Arrow k A y z) h x (inr e) = omega (arith, h.2, ap (λ (v : Label). v.0) e)

fact_under : (P n : ℕ) (f : FactView (Unit {0})) → FactFits P n f → (x : Label) → FactHas x f → x.0 < n + 1
fact_under P n (Left y f) h x e = omega (arith, h, ap (λ (v : Label). v.0) e)
fact_under P n (Right y f) h x e = omega (arith, h, ap (λ (v : Label). v.0) e)
fact_under P n (Linked l) h x e = link_under P n l h x e

named_under : (P n : ℕ) (o : Named) → NamedFit P n o → (x : Label) → NamedHas x o → x.0 < n + 1
named_under P n Nothing h x e = absurd e
named_under P n (Single f) h x e = fact_under P n f h x e
named_under P n (Pair f g) h x (inl e) = fact_under P n f h.0 x e
named_under P n (Pair f g) h x (inr e) = fact_under P n g h.1 x e

given_under : (n : ℕ) (o : Option Label) → LabelFits n o → (x : Label) → GivenIs x o → x.0 < n + 1
given_under n None h x e = absurd e
given_under n (Some y) h x e = omega (arith, h, ap (λ (v : Label). v.0) e)

usable_under : (P n : ℕ) (o : Operands) → NamedFit P n o.named → LabelFits n o.label → (x : Label) → Usable o n x → x.0 < n + 1
usable_under P n o h l x (inl e) = omega arith
usable_under P n o h l x (inr (inl e)) = given_under n o.label l x e
usable_under P n o h l x (inr (inr e)) = named_under P n o.named h x e

link_fits : (P n : ℕ) (U : Label → Type 0) → ((x : Label) → U x → x.0 < n) → (l : Link) → LinkUses P U l → LinkFits P n l
link_fits P n U h (Order x y) u = (h x u.0, h y u.1)
link_fits P n U h (Arrow k A x y) u = (u.0, h x u.1, h y u.2)

-- labels up to n, and n not used: labels below n
unused_fits : (P n : ℕ) (l : Link) → uses n l ≡ false → LinkFits P (n + 1) l → LinkFits P n l
unused_fits P n (Order x y) e h = let d = or_parts (eqb x.0 n) (eqb y.0 n) e in (omega (arith, h.0, eqb-false x.0 n d.0), omega (arith, h.1, eqb-false y.0 n d.1))
unused_fits P n (Arrow k A x y) e h = let d = or_parts (eqb x.0 n) (eqb y.0 n) e in (h.0, omega (arith, h.1, eqb-false x.0 n d.0), omega (arith, h.2, eqb-false y.0 n d.1))

fits_after : (P n : ℕ) (l : Link) (b : Bool) → (b ≡ false → uses n l ≡ false) → LinkFits P (n + 1) l → LinkFits P (labels_after n b) l
fits_after P n l true e h = h
fits_after P n l false e h = unused_fits P n l (e refl) h

placed_after : (F : Frame) (n : ℕ) (τ : Standing) (b : Bool) → Placed F (n + 1) τ → Placed F (labels_after n b) τ
placed_after F n τ true h = h
placed_after F n τ false h = λ x l. h x (omega arith)

more_after : (n : ℕ) (b : Bool) → n ≤ labels_after n b
more_after n true = omega arith
more_after n false = omega arith

few_after : (n : ℕ) (b : Bool) → (T b → n < 32) → SomeLabels n → SomeLabels (labels_after n b)
few_after n true h s = (omega (arith, s.0), omega (arith, h tt))
few_after n false h s = s

module _ (P : ℕ) (m : Model) where
  -- what is known of each fact of a branch that a standing falsifies
  abbrev Known : ℕ → Standing → FactView Formula → Type 0
  Known n σ fact = T (falsifies m σ fact) × Scoped P n fact

  -- the standing goes on to a premise: it agrees on the labels so far, and falsifies what is added
  record Next (n : ℕ) (σ : Standing) (p : Growth Formula) : Type 0 where
    standing : Standing
    agrees : (x : Label) → x.0 < n → standing x ≡ σ x
    placed : Placed m.frame (labels_after n p.opens) standing
    added : AllByRecursion (Known (labels_after n p.opens) standing) (listed p.facts)

  -- the standing goes on to some premise; so no step closes the branch
  abbrev Passes : ℕ → Standing → Outcome Formula → Type 0
  Passes n σ Closes = ⊥
  Passes n σ (Goes p) = Next n σ p
  Passes n σ (Forks p q) = Next n σ p ⊎ Next n σ q

  same_below : (n n' : ℕ) (σ τ : Standing) → ((x : Label) → x.0 < n → τ x ≡ σ x) → n ≤ n' → (fact : FactView Formula) → Known n σ fact → Known n' τ fact
  same_below n n' σ τ agrees more (Left x f) k = (subst (λ (u : World). T (holds m f u.0)) (sym (agrees x k.1.0)) k.0, (omega (arith, k.1.0), k.1.1))
  same_below n n' σ τ agrees more (Right x f) k = (subst (λ (u : World). T (not (holds m f u.0))) (sym (agrees x k.1.0)) k.0, (omega (arith, k.1.0), k.1.1))
  same_below n n' σ τ agrees more (Linked (Order x y)) k = (
    subst (λ (u : World). T (m.frame.above u.0 (τ y).0)) (sym (agrees x k.1.0)) (subst (λ (u : World). T (m.frame.above (σ x).0 u.0)) (sym (agrees y k.1.1)) k.0),
    (omega (arith, k.1.0), omega (arith, k.1.1)),
  )
  same_below n n' σ τ agrees more (Linked (Arrow j A x y)) k = (
    subst (λ (u : World). T (m.frame.arrow j A.0 u.0 (τ y).0)) (sym (agrees x k.1.1)) (subst (λ (u : World). T (m.frame.arrow j A.0 (σ x).0 u.0)) (sym (agrees y k.1.2)) k.0),
    (k.1.0, omega (arith, k.1.1), omega (arith, k.1.2)),
  )

  all_laid : (Q : FactView Formula → Type 0) (xs : List (FactView Formula)) → AllByRecursion Q xs → AllByRecursion Q (map (λ v. v) xs)
  all_laid Q [] h = tt
  all_laid Q (x ∷ xs) h = (h.0, all_laid Q xs h.1)

  known_next : (n : ℕ) (σ : Standing) (facts : List (FactView Formula)) (p : Growth Formula) → AllByRecursion (Known n σ) facts → (next : Next n σ p) → AllByRecursion (Known (labels_after n p.opens) next.standing) (facts ++ map (λ v. v) (listed p.facts))
  known_next n σ facts p known next =
      let l = labels_after n p.opens in
      All-append (Known l next.standing) facts (map (λ v. v) (listed p.facts))
      (All-weaker (Known n σ) (Known l next.standing) (same_below n l σ next.standing next.agrees (more_after n p.opens)) facts known)
      (all_laid (Known l next.standing) (listed p.facts) next.added)

  module _ (n : ℕ) (σ : Standing) (placed : Placed m.frame n σ) where
    -- a premise that opens no label
    kept : (facts : Few Formula) → AllByRecursion (Known n σ) (listed facts) → Next n σ (adds facts)
    kept facts known = record { standing = σ; agrees = λ x h. refl; placed = placed; added = known }

    -- a premise that opens the label n, at the world w
    opened : (facts : Few Formula) (w : World) → w.0 < m.frame.worlds → AllByRecursion (Known (n + 1) (extend σ n w)) (listed facts) → Next n σ (opens_with facts)
    opened facts w h known = record { standing = extend σ n w; agrees = extend_old σ n w; placed = extend_placed m.frame σ n w placed h; added = known }

    pack_next : (q : Premise) → Opens m.frame σ n q → (U : Label → Type 0) → ((x : Label) → U x → x.0 < n + 1) → PremiseUses P U q → Next n σ (pack_adds n q)
    pack_next (Adds a) (w, h, links) U under u = record {
      standing = extend σ n w;
      agrees = extend_old σ n w;
      placed = placed_after m.frame n (extend σ n w) (uses n a) (extend_placed m.frame σ n w placed h);
      added = ((links, fits_after P n a (uses n a) (λ e. e) (link_fits P (n + 1) U under a u)), tt);
    }
    pack_next (AddsBoth a b) (w, h, links) U under u = record {
      standing = extend σ n w;
      agrees = extend_old σ n w;
      placed = placed_after m.frame n (extend σ n w) (uses n a || uses n b) (extend_placed m.frame σ n w placed h);
      added = (
        (links.0, fits_after P n a (uses n a || uses n b) (λ e. (or_parts (uses n a) (uses n b) e).0) (link_fits P (n + 1) U under a u.0)),
        ((links.1, fits_after P n b (uses n a || uses n b) (λ e. (or_parts (uses n a) (uses n b) e).1) (link_fits P (n + 1) U under b u.1)), tt),
      );
    }

    hidden_fits : (f : FactView Formula) → Known n σ f → FactFits P n (hidden f) × FactHolds m.frame σ (hidden f)
    hidden_fits (Left x f) k = (k.1.0, tt)
    hidden_fits (Right x f) k = (k.1.0, tt)
    hidden_fits (Linked l) k = (k.1, k.0)

    module _ (at : FactPosition → Option (FactView Formula)) (known : (i : FactPosition) (f : FactView Formula) → at i ≡ Some f → Known n σ f) where
      record NamedKnown (positions : Positions) (o : Named) : Type 0 where
        as_many : arity o ≡ arity_of positions
        fit : NamedFit P n o
        hold : NamedHold m.frame σ o

      one_known : (i : FactPosition) (a : Option (FactView Formula)) → at i ≡ a → (named : Named) → one_named a ≡ Some named → NamedKnown (OnePosition i) named
      one_known i None h named e = never named e
      one_known i (Some f) h named e =
          let p : Single (hidden f) ≡ named = cc in
          let u = hidden_fits f (known i f h) in
          subst (NamedKnown (OnePosition i)) p (record { as_many = refl; fit = u.0; hold = u.1 })

      two_known : (i j : FactPosition) (a b : Option (FactView Formula)) → at i ≡ a → at j ≡ b → (named : Named) → two_named a b ≡ Some named → NamedKnown (TwoPositions i j) named
      two_known i j None b h k named e = never named e
      two_known i j (Some f) None h k named e = never named e
      two_known i j (Some f) (Some g) h k named e =
          let p : Pair (hidden f) (hidden g) ≡ named = cc in
          let u = hidden_fits f (known i f h) in
          let v = hidden_fits g (known j g k) in
          subst (NamedKnown (TwoPositions i j)) p (record { as_many = refl; fit = (u.0, v.0); hold = (u.1, v.1) })

      named_known : (positions : Positions) (named : Named) → named_at at positions ≡ Some named → NamedKnown positions named
      named_known Zero named e = let p : Nothing ≡ named = cc in subst (NamedKnown Zero) p (record { as_many = refl; fit = tt; hold = tt })
      named_known (OnePosition i) named e = one_known i (at i) refl named e
      named_known (TwoPositions i j) named e = two_known i j (at i) (at j) refl refl named e

      module _ (some_n : SomeLabels n) (some_P : SomePrincipals P) (keeps : Keeps P m) (layouts : ℕ → Option Layout) (readings : Readings)
          (pack_sound : (kind : ℕ) (b : Layout) (o : Operands) → layouts kind ≡ Some b → AskedAs b P n o → Respects m.frame n o.named (readings kind o P n))
          (pack_scope : (kind : ℕ) (b : Layout) (o : Operands) → layouts kind ≡ Some b → AskedAs b P n o → ReadingUses P (Usable o n) (readings kind o P n)) where
        abbrev E : Scene Formula
        E = record { at = at; view = shape; labels = n; readings = readings; principals = P }

        -- a left or a right formula, as it is seen
        left_as : (i : FactPosition) (x : Label) (f : Formula) (v : Node Formula) → at i ≡ Some (Left x f) → shape f ≡ v → Known n σ (Left x (made v))
        left_as i x f v e s = subst (λ (g : Formula). Known n σ (Left x g)) (seen_as f v s) (known i (Left x f) e)

        right_as : (i : FactPosition) (x : Label) (f : Formula) (v : Node Formula) → at i ≡ Some (Right x f) → shape f ≡ v → Known n σ (Right x (made v))
        right_as i x f v e s = subst (λ (g : Formula). Known n σ (Right x g)) (seen_as f v s) (known i (Right x f) e)

        -- a formula on the left, the same on the right, and an order between their labels: this cannot be
        closes : (f : Formula) (x y : Label) → Known n σ (Left x f) → Known n σ (Right y f) → Known n σ (Linked (Order x y)) → ⊥
        closes f x y l r o =
            (T_not (holds m f (σ y).0)).0 r.0
            (persistence P m keeps f l.1.1 (σ x).0 (placed x o.1.0) (σ y).0 (placed y o.1.1) o.0 l.0)

        asked : (s : PackStep) (named : Named) (t : PackTold layouts P n s) → NamedKnown s.positions named → AskedAs t.layout P n (operands_of s named)
        asked s named t k = record {
          asked = record { principals = some_P; labels = some_n; named = k.fit; label = t.label_fits; principal = t.principal_fits };
          told = record { positions = k.as_many ∙ t.positions; label = t.label; principal = t.principal };
        }

        follows : (s : PackStep) (named : Named) → NamedKnown s.positions named → PackTold layouts P n s → (r : Reading) → readings s.kind (operands_of s named) P n ≡ r → Follows m.frame σ n r × ReadingUses P (Usable (operands_of s named) n) r
        follows s named k t r e =
            let a = asked s named t k in
            let o = operands_of s named in (
              subst (Follows m.frame σ n) e (pack_sound s.kind t.layout o t.told a σ placed k.hold),
              subst (ReadingUses P (Usable o n)) e (pack_scope s.kind t.layout o t.told a),
            )

        passes : {step : Step} {o : Outcome Formula} → Rule E step o → Told layouts P n step → Passes n σ o
        passes (atoms_close {c = c} {x = x} {y = y} {f = f} {g = g} {p = p} l v r w o) t =
            closes (atom p.0) x y (left_as c.left x f (Atom p) l v) (right_as c.right y g (Atom p) r w) (known c.order (Linked (Order x y)) o)
        passes (falsity_closes {l = i} {x = x} {f = f} l v) t = (left_as i x f Falsity l v).0
        passes (and_left {l = i} {x = x} {f = f} {g = g} {h = h} l v) t =
            let k = left_as i x f (And g h) l v in
            let b = (T_and (holds m g (σ x).0) (holds m h (σ x).0)).0 k.0 in
            kept _ ((b.0, (k.1.0, k.1.1.0)), ((b.1, (k.1.0, k.1.1.1)), tt))
        passes (and_right {r = i} {x = x} {f = f} {g = g} {h = h} r v) t =
            let k = right_as i x f (And g h) r v in
            ⊎_map (λ b. kept _ ((b, (k.1.0, k.1.1.0)), tt)) (λ b. kept _ ((b, (k.1.0, k.1.1.1)), tt))
            (not_and (holds m g (σ x).0) (holds m h (σ x).0) k.0)
        passes (or_left {l = i} {x = x} {f = f} {g = g} {h = h} l v) t =
            let k = left_as i x f (Or g h) l v in
            ⊎_map (λ b. kept _ ((b, (k.1.0, k.1.1.0)), tt)) (λ b. kept _ ((b, (k.1.0, k.1.1.1)), tt))
            ((T_or (holds m g (σ x).0) (holds m h (σ x).0)).0 k.0)
        passes (or_right {r = i} {x = x} {f = f} {g = g} {h = h} r v) t =
            let k = right_as i x f (Or g h) r v in
            let b = not_or (holds m g (σ x).0) (holds m h (σ x).0) k.0 in
            kept _ ((b.0, (k.1.0, k.1.1.0)), ((b.1, (k.1.0, k.1.1.1)), tt))
        passes (implies_left {c = c} {x = x} {y = y} {f = f} {g = g} {h = h} l v o) t =
            let k = left_as c.left x f (Implies g h) l v in
            let u = known c.order (Linked (Order x y)) o in
            ⊎_map (λ b. kept _ ((b, (u.1.1, k.1.1.0)), tt))
            (λ b. kept _ (((holds_implies m g h (σ x).0).0 k.0 (σ y).0 (placed y u.1.1) u.0 b, (u.1.1, k.1.1.1)), tt))
            (swap (T_cases (holds m g (σ y).0)))
        passes (implies_right {r = i} {x = x} {f = f} {g = g} {h = h} r v) t =
            let k = right_as i x f (Implies g h) r v in
            let e = implies_fails m g h (σ x).0 k.0 in
            let w : World = record { 0 = e.0 } in
            opened _ w e.1 (
              (at_old σ n w x k.1.0 (λ z. m.frame.above z (extend σ n w (new_label n)).0) (at_new σ n w (λ z. m.frame.above (σ x).0 z) e.2.0), (omega (arith, k.1.0), omega arith)),
              (
                (at_new σ n w (λ z. holds m g z) e.2.1, (omega arith, k.1.1.0)),
                ((at_new σ n w (λ z. not (holds m h z)) e.2.2, (omega arith, k.1.1.1)), tt),
              ),
            )
        passes (modal_left {c = c} {k = j} {A = A} {x = x} {y = y} {f = f} {g = g} all l v a) t =
            let k = left_as c.left x f (Modal j A g) l v in
            let u = known c.arrow (Linked (Arrow j A x y)) a in
            kept _ (((holds_universal m j all A.0 g (σ x).0).0 k.0 (σ y).0 (placed y u.1.2) u.0, (u.1.2, k.1.1.1)), tt)
        passes (modal_right {r = i} {k = j} {A = A} {x = x} {f = f} {g = g} all r v) t =
            let k = right_as i x f (Modal j A g) r v in
            let e = universal_fails m j all A.0 g (σ x).0 k.0 in
            let w : World = record { 0 = e.0 } in
            opened _ w e.1 (
              (at_old σ n w x k.1.0 (λ z. m.frame.arrow j A.0 z (extend σ n w (new_label n)).0) (at_new σ n w (λ z. m.frame.arrow j A.0 (σ x).0 z) e.2.0), (k.1.1.0, omega (arith, k.1.0), omega arith)),
              ((at_new σ n w (λ z. not (holds m g z)) e.2.1, (omega arith, k.1.1.1)), tt),
            )
        passes (permitted_left {l = i} {A = A} {x = x} {f = f} {g = g} l v) t =
            let k = left_as i x f (Modal Permitted A g) l v in
            let e = (holds_permitted m A.0 g (σ x).0).0 k.0 in
            let w : World = record { 0 = e.0 } in
            opened _ w e.1 (
              (at_old σ n w x k.1.0 (λ z. m.frame.arrow Permitted A.0 z (extend σ n w (new_label n)).0) (at_new σ n w (λ z. m.frame.arrow Permitted A.0 (σ x).0 z) e.2), (k.1.1.0, omega (arith, k.1.0), omega arith)),
              ((at_new σ n w (λ z. holds m g z) e.3, (omega arith, k.1.1.1)), tt),
            )
        passes (permitted_right {c = c} {A = A} {x = x} {y = y} {f = f} {g = g} r v a) t =
            let k = right_as c.right x f (Modal Permitted A g) r v in
            let u = known c.arrow (Linked (Arrow Permitted A x y)) a in
            kept _ ((permitted_fails m A.0 g (σ x).0 k.0 (σ y).0 (placed y u.1.2) u.0, (u.1.2, k.1.1.1)), tt)
        passes (reflexive {x = x}) t = kept _ ((keeps.regular.reflexive (σ x).0 (placed x t), (t, t)), tt)
        passes (transitive {c = c} {x = x} {y = y} {z = z} a b) t =
            let u = known c.first (Linked (Order x y)) a in
            let v = known c.second (Linked (Order y z)) b in
            kept _ ((keeps.regular.transitive (σ x).0 (placed x u.1.0) (σ y).0 (placed y u.1.1) (σ z).0 (placed z v.1.1) u.0 v.0, (u.1.0, v.1.1)), tt)
        passes (monotone {c = c} {k = j} {A = A} {x = x} {y = y} {z = z} {w = w} all a r b) t =
            let u = known c.first (Linked (Order x y)) a in
            let s = known c.arrow (Linked (Arrow j A y z)) r in
            let v = known c.second (Linked (Order z w)) b in
            kept _ ((keeps.regular.monotone j all A.0 s.1.0 (σ x).0 (placed x u.1.0) (σ y).0 (placed y u.1.1) (σ z).0 (placed z v.1.0) (σ w).0 (placed w v.1.1) u.0 s.0 v.0, (s.1.0, u.1.0, v.1.1)), tt)
        passes (monotone_permitted {c = c} {A = A} {x = x} {y = y} {z = z} {w = w} a r b) t =
            let u = known c.first (Linked (Order x y)) a in
            let s = known c.arrow (Linked (Arrow Permitted A z y)) r in
            let v = known c.second (Linked (Order z w)) b in
            kept _ ((keeps.regular.monotone_permitted A.0 s.1.0 (σ x).0 (placed x u.1.0) (σ y).0 (placed y u.1.1) (σ z).0 (placed z v.1.0) (σ w).0 (placed w v.1.1) u.0 s.0 v.0, (s.1.0, v.1.1, u.1.0)), tt)
        passes (pack_goes {s = s} {named = named} {q = q} h e) t =
            let k = named_known s.positions named h in
            let f = follows s named k t (PackGoes q) e in
            pack_next q f.0 (Usable (operands_of s named) n) (usable_under P n (operands_of s named) k.fit t.label_fits) f.1
        passes (pack_forks {s = s} {named = named} {q = q} {r = r} h e) t =
            let k = named_known s.positions named h in
            let f = follows s named k t (PackSplits q r) e in
            let under = usable_under P n (operands_of s named) k.fit t.label_fits in
            ⊎_map (λ o. pack_next q o (Usable (operands_of s named) n) under f.1.0) (λ o. pack_next r o (Usable (operands_of s named) n) under f.1.1) f.0

-- what is known of the fact at a position
look_known : (Q : FactView Formula → Type 0) (facts : List (FactView Formula)) → AllByRecursion Q facts → (i : ℕ) (f : FactView Formula) → told Some (slice_get facts i) ≡ Some f → Q f
look_known Q [] h i f e = never f e
look_known Q (g ∷ gs) h zero f e = let p : g ≡ f = cc in subst Q p h.0
look_known Q (g ∷ gs) h (suc i) f e = look_known Q gs h.1 i f e

-- no standing falsifies a branch that steps close
module _ (P : ℕ) (m : Model) (some_P : SomePrincipals P) (keeps : Keeps P m) (layouts : ℕ → Option Layout) (readings : Readings)
    (pack_sound : (n kind : ℕ) (b : Layout) (o : Operands) → layouts kind ≡ Some b → AskedAs b P n o → Respects m.frame n o.named (readings kind o P n))
    (pack_scope : (n kind : ℕ) (b : Layout) (o : Operands) → layouts kind ≡ Some b → AskedAs b P n o → ReadingUses P (Usable o n) (readings kind o P n))
    (trail waiting : ℕ) where
  abbrev S : Setting (FactView Formula) Formula
  S = tree_setting layouts readings P trail waiting

  steps_on : (b : Branch (FactView Formula)) (σ : Standing) → SomeLabels b.labels → Placed m.frame b.labels σ → AllByRecursion (Known P m b.labels σ) b.facts
      → {step : Step} {o : Outcome Formula} → Rule (record { at = λ i. told Some (slice_get b.facts i.0); view = shape; labels = b.labels; readings = readings; principals = P }) step o → Told layouts P b.labels step → Passes P m b.labels σ o
  steps_on b σ some placed known rule t =
      passes P m b.labels σ placed (λ i. told Some (slice_get b.facts i.0)) (λ i f e. look_known (Known P m b.labels σ) b.facts known i.0 f e) some some_P keeps layouts readings (pack_sound b.labels) (pack_scope b.labels) rule t

  impossible : {w : ℕ} {b : Branch (FactView Formula)} {rs : List Record} → Closed S w b rs → (σ : Standing) → SomeLabels b.labels → Placed m.frame b.labels σ → AllByRecursion (Known P m b.labels σ) b.facts → ⊥
  impossible (leaf {b = b} {step = step} r asks rule) σ some placed known = steps_on b σ some placed known rule (step_told layouts P b.labels r (number 0) step (asks (number 0)))
  impossible (grow {b = b} {step = step} r p asks rule fit d) σ some placed known =
      let next = steps_on b σ some placed known rule (step_told layouts P b.labels r (number 0) step (asks (number 0))) in
      impossible d next.standing (few_after b.labels p.opens fit.label some) next.placed (known_next P m b.labels σ b.facts p known next)
  impossible (fork {b = b} {step = step} r p q asks rule fit fit' few d d') σ some placed known =
      elim (steps_on b σ some placed known rule (step_told layouts P b.labels r (number 0) step (asks (number 0)))) [
        | inl next ↦ impossible d next.standing (few_after b.labels p.opens fit.label some) next.placed (known_next P m b.labels σ b.facts p known next)
        | inr next ↦ impossible d' next.standing (few_after b.labels q.opens fit'.label some) next.placed (known_next P m b.labels σ b.facts q known next)
      ]

-- the facts of a sequent under a standing that falsifies them all
sequent_known : (P : ℕ) (m : Model) (n : ℕ) (σ : Standing) (facts : List (FactView Formula)) → AllByRecursion (Scoped P n) facts → AllByRecursion (λ fact. T (falsifies m σ fact)) facts → AllByRecursion (Known P m n σ) facts
sequent_known P m n σ [] scoped all = tt
sequent_known P m n σ (f ∷ fs) scoped all = ((all.0, scoped.0), sequent_known P m n σ fs scoped.1 all.1)

-- a sequent with a closed derivation holds in every model that the pile admits
pub sound : {K : Type 0} (conditions : K → List Condition) (layouts : K → ℕ → Option Layout) (readings : K → Readings) → Laws conditions layouts readings
    → (k : K) (P trail waiting : ℕ) (s : Sequent) (w : ℕ) (rs : List Record) → Closed (tree_setting (layouts k) (readings k) P trail waiting) w (root s) rs → Proper P s → Valid (conditions k) P s
sound conditions layouts readings laws k P trail waiting s w rs closed proper m admits σ placed =
    some_fails (falsifies m σ) s.facts (λ all.
    impossible P m proper.principals admits.keeps (layouts k) (readings k)
    (λ n kind b o e a. laws.sound k P n kind b o e a m.frame admits.keeps.regular admits.meets)
    (λ n kind b o e a. laws.scope k P n kind b o e a)
    trail waiting closed σ proper.labels placed (sequent_known P m s.labels σ s.facts proper.scoped all))
