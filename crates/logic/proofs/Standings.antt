-- A search through all standings of a sequent's labels. Assumes nothing.
use Rattle.std.proofs.Common.{◌≡◌, ℕ, zero, suc, ◌<◌, ◌≤◌, Bool, cond, not, T, eqb, ◌⊎◌, List, [], ◌∷◌, sym, refl, ap, ◌∙◌, inl, inr, arith}
use Rattle.std.specs.List.{AllByRecursion}
use Rattle.std.proofs.lemmas.Bool.{cases_eq}
use Rattle.std.proofs.lemmas.Bool.Decides.{nat_tests}
use Rattle.records.specs.declared.numbers.Label.{Label}
use Rattle.logic.specs.declared.terms.Link.{Link}
use Rattle.logic.specs.declared.terms.Link.TheVariants.{Order, Arrow}
use Rattle.logic.specs.declared.terms.FactView.{FactView}
use Rattle.logic.specs.declared.terms.FactView.TheVariants.{Left, Right, Linked}
use Rattle.logic.specs.Models.{Formula, Frame, Model, holds}
use Rattle.logic.specs.Facts.{Sequent, Standing, Placed, linked, falsifies, Exists, Holds, Fails}
use Rattle.logic.specs.Truth.{LinkLabels, FactLabels, Labelled, ExactlyOne}
use Rattle.logic.proofs.Bools.{T_cases, not_all}

-- of two choices at every number below n: somewhere the first, or everywhere the second
pub search_below : (n : ℕ) (P Q : ℕ → Type 0) → ((w : ℕ) → w < n → P w ⊎ Q w) → ((w : ℕ) × (w < n) × P w) ⊎ ((w : ℕ) → w < n → Q w)
search_below zero P Q choose = inr (λ w h. absurd (omega arith))
search_below (suc n) P Q choose = grind (arith, choose n, search_below n P Q)

-- the standing with label n at world w
abbrev pub extend : Standing → ℕ → ℕ → Standing
extend σ n w x = cond (eqb x.0 n) (record { 0 = w }) (σ x)

-- it has that label there
pub extend_new : (σ : Standing) (n w : ℕ) (x : Label) → x.0 ≡ n → (extend σ n w x).0 ≡ w
extend_new σ n w x e = grind (arith, nat_tests)

-- and every other label where it was
pub extend_old : (σ : Standing) (n w : ℕ) (x : Label) → (x.0 ≡ n → ⊥) → (extend σ n w x).0 ≡ (σ x).0
extend_old σ n w x d = grind (arith, nat_tests)

-- two standings put the labels from k to n − 1 at the same worlds
abbrev pub Agree : ℕ → ℕ → Standing → Standing → Type 0
Agree k n σ τ = (x : Label) → k ≤ x.0 → x.0 < n → (τ x).0 ≡ (σ x).0

-- a link reads only the worlds of its own labels
linked_same : (F : Frame) (n : ℕ) (σ τ : Standing) → Agree 0 n σ τ → (l : Link) → LinkLabels n l → linked F τ l ≡ linked F σ l
linked_same F n σ τ agree (Order x y) h = grind (arith, agree x, agree y)
linked_same F n σ τ agree (Arrow k A x y) h = grind (arith, agree x, agree y)

-- a fact reads only the worlds of its own labels
pub falsifies_same : (m : Model) (n : ℕ) (σ τ : Standing) → Agree 0 n σ τ → (fact : FactView Formula) → FactLabels n fact → falsifies m τ fact ≡ falsifies m σ fact
falsifies_same m n σ τ agree (Left x f) h = grind (arith, agree x)
falsifies_same m n σ τ agree (Right x f) h = grind (arith, agree x)
falsifies_same m n σ τ agree (Linked l) h = linked_same m.frame n σ τ agree l h

-- so a standing that some fact does not falsify tells the same of each that agrees with it
exists_same : (m : Model) (n : ℕ) (σ τ : Standing) → Agree 0 n σ τ → (facts : List (FactView Formula)) → AllByRecursion (FactLabels n) facts
    → Exists (λ fact. T (not (falsifies m σ fact))) facts → Exists (λ fact. T (not (falsifies m τ fact))) facts
exists_same m n σ τ agree [] h e = e
exists_same m n σ τ agree (fact ∷ facts) h (inl t) = inl (rw (falsifies_same m n σ τ agree fact h.0) t)
exists_same m n σ τ agree (fact ∷ facts) h (inr e) = inr (exists_same m n σ τ agree facts h.1 e)

-- every element passes, or some fails
all_or_some : {X : Type 0} (p : X → Bool) (xs : List X) → AllByRecursion (λ x. T (p x)) xs ⊎ Exists (λ x. T (not (p x))) xs
all_or_some p [] = inl tt
all_or_some p (x ∷ xs) = grind (arith, T_cases (p x), all_or_some p xs)

module _ (m : Model) (s : Sequent) (own : Labelled s) where
  -- the standing falsifies every fact
  abbrev Falsify : Standing → Type 0
  Falsify τ = AllByRecursion (λ fact. T (falsifies m τ fact)) s.facts

  -- some fact does not falsify under the standing
  abbrev Escapes : Standing → Type 0
  Escapes τ = Exists (λ fact. T (not (falsifies m τ fact))) s.facts

  -- a standing found: it places the labels below k, and leaves those from k on where σ has them
  record Found (k : ℕ) (σ : Standing) : Type 0 where
    pub standing : Standing
    pub placed : Placed m.frame k standing
    pub agree : Agree k s.labels σ standing
    pub falsify : Falsify standing

  -- none is to be found
  abbrev None : ℕ → Standing → Type 0
  None k σ = (τ : Standing) → Placed m.frame k τ → Agree k s.labels σ τ → Escapes τ

  -- what is found with label k at a world is found with label k placed too
  found_more : (k : ℕ) (σ : Standing) (w : ℕ) → w < m.frame.worlds → Found k (extend σ k w) → k < s.labels → Found (suc k) σ
  found_more k σ w h f inside = record {
    standing = f.standing;
    placed = λ x l. go x l (cases_eq x.0 k);
    agree = λ x l below. f.agree x (omega arith) below ∙ extend_old σ k w x (λ e. omega arith);
    falsify = f.falsify;
  }
    where
      go : (x : Label) → x.0 < suc k → (x.0 ≡ k) ⊎ (x.0 ≡ k → ⊥) → (f.standing x).0 < m.frame.worlds
      go x l (inl e) = let same = f.agree x (omega arith) (omega arith) ∙ extend_new σ k w x e in omega (arith, same, h)
      go x l (inr d) = f.placed x (omega arith)

  -- and if there is none with label k at any world, there is none with label k placed
  none_more : (k : ℕ) (σ : Standing) → ((w : ℕ) → w < m.frame.worlds → None k (extend σ k w)) → None (suc k) σ
  none_more k σ none τ placed agree =
      let at : Label = record { 0 = k } in
      none (τ at).0 (placed at (omega arith)) τ (λ x l. placed x (omega arith)) (λ x l below. go x l below (cases_eq x.0 k))
    where
      go : (x : Label) → k ≤ x.0 → x.0 < s.labels → (x.0 ≡ k) ⊎ (x.0 ≡ k → ⊥) → (τ x).0 ≡ (extend σ k (τ (record { 0 = k })).0 x).0
      go x l below (inl e) = ap (λ (j : ℕ). (τ (record { 0 = j })).0) e ∙ sym (extend_new σ k (τ (record { 0 = k })).0 x e)
      go x l below (inr d) = agree x (omega arith) below ∙ sym (extend_old σ k (τ (record { 0 = k })).0 x d)

  -- the search, label by label
  search_standings : (k : ℕ) → k ≤ s.labels → (σ : Standing) → Found k σ ⊎ None k σ
  search_standings zero h σ = go (all_or_some (falsifies m σ) s.facts)
    where
      go : Falsify σ ⊎ Escapes σ → Found zero σ ⊎ None zero σ
      go (inl a) = inl (record { standing = σ; placed = λ x l. absurd (omega arith); agree = λ x l below. refl; falsify = a })
      go (inr e) = inr (λ τ placed agree. exists_same m s.labels σ τ agree s.facts own e)
  search_standings (suc k) h σ =
      go (search_below m.frame.worlds (λ w. Found k (extend σ k w)) (λ w. None k (extend σ k w)) (λ w l. search_standings k (omega arith) (extend σ k w)))
    where
      go : ((w : ℕ) × (w < m.frame.worlds) × Found k (extend σ k w)) ⊎ ((w : ℕ) → w < m.frame.worlds → None k (extend σ k w)) → Found (suc k) σ ⊎ None (suc k) σ
      go (inl f) = inl (found_more k σ f.0 f.1 f.2 h)
      go (inr none) = inr (none_more k σ none)

  -- a standing found is one under which the sequent fails
  pub holds_or_fails : Holds m s ⊎ Fails m s
  holds_or_fails = go (search_standings s.labels (omega arith) (λ x. record { 0 = 0 }))
    where
      go : Found s.labels (λ x. record { 0 = 0 }) ⊎ None s.labels (λ x. record { 0 = 0 }) → Holds m s ⊎ Fails m s
      go (inl f) = inr (f.standing, record { placed = f.placed; falsify = f.falsify })
      go (inr none) = inl (λ σ placed. none σ placed (λ x l below. absurd (omega arith)))

-- under one standing, no fact both falsifies and does not
pub never_both : (m : Model) (s : Sequent) → Holds m s → Fails m s → ⊥
never_both m s holds fails = not_all (falsifies m fails.0) s.facts (holds fails.0 fails.1.placed) fails.1.falsify

pub exactly_one : ExactlyOne
exactly_one = record { never_both = never_both; one = holds_or_fails }
