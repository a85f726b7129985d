-- No step closes a branch with no left formula and none but falsity on the right. Assumes nothing.
use Rattle.std.proofs.Common.{◌≡◌, ℕ, zero, suc, List, [], ◌∷◌, ◌++◌, map, Some, Option, sym, refl, ap, ◌∙◌, subst, arith}
use Rattle.std.specs.List.{slice_get, AllByRecursion}
use Rattle.std.proofs.ByRecursion.{All-append}
use Rattle.records.specs.declared.numbers.FactPosition.{FactPosition}
use Rattle.records.specs.Chains.{Record}
use Rattle.records.specs.declared.numbers.Principal.{Principal}
use Rattle.logic.specs.declared.terms.Modality.{Modality}
use Rattle.logic.specs.declared.terms.Modality.TheVariants.{Permitted}
use Rattle.logic.specs.declared.terms.FactView.{FactView}
use Rattle.logic.specs.declared.terms.FactView.TheVariants.{Left, Right}
use Rattle.logic.specs.declared.terms.Node.{Node}
use Rattle.logic.specs.declared.terms.Node.TheVariants.{Falsity, And, Or, Implies, Modal}
use Rattle.logic.specs.Models.{Formula, falsity}
use Rattle.logic.specs.Formulas.{shape}
use Rattle.piles.specs.declared.terms.Layout.{Layout}
use Rattle.piles.specs.declared.terms.Premise.{Premise}
use Rattle.piles.specs.declared.terms.Premise.TheVariants.{Adds, AddsBoth}
use Rattle.piles.specs.Packs.{Readings}
use Rattle.rules.specs.declared.outcome.Growth.{Growth}
use Rattle.rules.specs.declared.outcome.Outcome.{Outcome}
use Rattle.rules.specs.declared.outcome.Outcome.TheVariants.{Closes, Goes, Forks}
use Rattle.rules.specs.declared.step.Step.{Step}
use Rattle.rules.specs.Outcomes.{listed, pack_adds}
use Rattle.rules.specs.Scenes.{Scene, told}
use Rattle.rules.specs.Rules.{Rule, atoms_close, falsity_closes, and_left, and_right, or_left, or_right, implies_left, implies_right, modal_left, modal_right, permitted_left, permitted_right, reflexive, transitive, monotone, monotone_permitted, pack_goes, pack_forks}
use Rattle.rules.proofs.Inversions.{never}
use Rattle.steps.specs.Branches.{Branch, Setting}
use Rattle.steps.specs.Derivations.{Closed, leaf, grow, fork}
use Rattle.steps.specs.Verdicts.{tree_setting, Unsupported}

-- falsity is seen as nothing but falsity
not_and : (f g h : Formula) {A : Type 0} → f ≡ falsity → shape f ≡ And g h → A
not_and f g h e v = let s : ◌≡◌ {A = Node Formula} Falsity (And g h) = sym (ap shape e) ∙ v in let z : ◌≡◌ {A = ℕ} 0 1 = cc in absurd (omega arith)

not_or : (f g h : Formula) {A : Type 0} → f ≡ falsity → shape f ≡ Or g h → A
not_or f g h e v = let s : ◌≡◌ {A = Node Formula} Falsity (Or g h) = sym (ap shape e) ∙ v in let z : ◌≡◌ {A = ℕ} 0 1 = cc in absurd (omega arith)

not_implies : (f g h : Formula) {A : Type 0} → f ≡ falsity → shape f ≡ Implies g h → A
not_implies f g h e v = let s : ◌≡◌ {A = Node Formula} Falsity (Implies g h) = sym (ap shape e) ∙ v in let z : ◌≡◌ {A = ℕ} 0 1 = cc in absurd (omega arith)

not_modal : (f : Formula) (k : Modality) (a : Principal) (g : Formula) {A : Type 0} → f ≡ falsity → shape f ≡ Modal k a g → A
not_modal f k a g e v = let s : ◌≡◌ {A = Node Formula} Falsity (Modal k a g) = sym (ap shape e) ∙ v in let z : ◌≡◌ {A = ℕ} 0 1 = cc in absurd (omega arith)

-- what is added supports nothing either, and nothing closes
abbrev Weak : Growth Formula → Type 0
Weak p = AllByRecursion Unsupported (listed p.facts)

abbrev Stays : Outcome Formula → Type 0
Stays Closes = ⊥
Stays (Goes p) = Weak p
Stays (Forks p q) = Weak p

pack_weak : (n : ℕ) (q : Premise) → Weak (pack_adds n q)
pack_weak n (Adds l) = (tt, tt)
pack_weak n (AddsBoth l k) = (tt, (tt, tt))

module _ (E : Scene Formula) (sees : (f : Formula) → E.view f ≡ shape f) (weak : (i : FactPosition) (f : FactView Formula) → E.at i ≡ Some f → Unsupported f) where
  stays : {step : Step} {o : Outcome Formula} → Rule E step o → Stays o
  stays (atoms_close {c = c} {x = x} {f = f} l v r w o) = weak c.left (Left x f) l
  stays (falsity_closes {l = i} {x = x} {f = f} l v) = weak i (Left x f) l
  stays (and_left {l = i} {x = x} {f = f} l v) = absurd (weak i (Left x f) l)
  stays (and_right {r = i} {x = x} {f = f} {g = g} {h = h} r v) = not_and f g h (weak i (Right x f) r) (sym (sees f) ∙ v)
  stays (or_left {l = i} {x = x} {f = f} l v) = absurd (weak i (Left x f) l)
  stays (or_right {r = i} {x = x} {f = f} {g = g} {h = h} r v) = not_or f g h (weak i (Right x f) r) (sym (sees f) ∙ v)
  stays (implies_left {c = c} {x = x} {f = f} l v o) = absurd (weak c.left (Left x f) l)
  stays (implies_right {r = i} {x = x} {f = f} {g = g} {h = h} r v) = not_implies f g h (weak i (Right x f) r) (sym (sees f) ∙ v)
  stays (modal_left {c = c} {x = x} {f = f} all l v a) = absurd (weak c.left (Left x f) l)
  stays (modal_right {r = i} {k = k} {A = a} {x = x} {f = f} {g = g} all r v) = not_modal f k a g (weak i (Right x f) r) (sym (sees f) ∙ v)
  stays (permitted_left {l = i} {x = x} {f = f} l v) = absurd (weak i (Left x f) l)
  stays (permitted_right {c = c} {A = a} {x = x} {f = f} {g = g} r v w) = not_modal f Permitted a g (weak c.right (Right x f) r) (sym (sees f) ∙ v)
  stays reflexive = (tt, tt)
  stays (transitive a b) = (tt, tt)
  stays (monotone all a r b) = (tt, tt)
  stays (monotone_permitted a r b) = (tt, tt)
  stays (pack_goes {q = q} h e) = pack_weak E.labels q
  stays (pack_forks {q = q} h e) = pack_weak E.labels q

look_weak : (facts : List (FactView Formula)) → AllByRecursion Unsupported facts → (i : ℕ) (f : FactView Formula) → told Some (slice_get facts i) ≡ Some f → Unsupported f
look_weak [] h i f e = never f e
look_weak (g ∷ gs) h zero f e = let p : g ≡ f = cc in subst Unsupported p h.0
look_weak (g ∷ gs) h (suc i) f e = look_weak gs h.1 i f e

weak_laid : (xs : List (FactView Formula)) → AllByRecursion Unsupported xs → AllByRecursion Unsupported (map (λ v. v) xs)
weak_laid [] h = tt
weak_laid (x ∷ xs) h = (h.0, weak_laid xs h.1)

module _ (layouts : ℕ → Option Layout) (readings : Readings) (P trail waiting : ℕ) where
  abbrev S : Setting (FactView Formula) Formula
  S = tree_setting layouts readings P trail waiting

  on : (b : Branch (FactView Formula)) → AllByRecursion Unsupported b.facts → {step : Step} {o : Outcome Formula}
      → Rule (record { at = λ i. told Some (slice_get b.facts i.0); view = shape; labels = b.labels; readings = readings; principals = P }) step o → Stays o
  on b weak rule = stays _ (λ f. refl) (λ i f e. look_weak b.facts weak i.0 f e) rule

  grown_weak : (b : Branch (FactView Formula)) (p : Growth Formula) → AllByRecursion Unsupported b.facts → Weak p → AllByRecursion Unsupported (b.facts ++ map (λ v. v) (listed p.facts))
  grown_weak b p weak w = All-append Unsupported b.facts (map (λ v. v) (listed p.facts)) weak (weak_laid (listed p.facts) w)

  -- such a branch has no closed derivation
  pub never_closed : {w : ℕ} {b : Branch (FactView Formula)} {rs : List Record} → Closed S w b rs → AllByRecursion Unsupported b.facts → ⊥
  never_closed (leaf {b = b} r asks rule) weak = on b weak rule
  never_closed (grow {b = b} r p asks rule fit d) weak = never_closed d (grown_weak b p weak (on b weak rule))
  never_closed (fork {b = b} r p q asks rule fit fit' few d d') weak = never_closed d (grown_weak b p weak (on b weak rule))
