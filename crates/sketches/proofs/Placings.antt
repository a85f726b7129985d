-- Which label has no place. Assumes nothing.
use Rattle.std.proofs.Common.{◌≡◌, ℕ, zero, suc, ◌<◌, Bool, true, false, not, cond, [], ◌∷◌, map, is_some, Some, None, Option, sym, refl, ap, ◌∙◌, subst, ⊎_elim, add-one, arith}
use Rattle.std.proofs.lemmas.Bool.{cond-true, cases_eq, true≢false}
use Rattle.std.proofs.lemmas.List.Folds.{find-append}
use Rattle.std.proofs.lemmas.List.FromFn.{map-range_with_len_more}
use Rattle.std.specs.List.{find, range_with_len}
use Rattle.std.specs.Option.{option_or}
use Rattle.records.specs.declared.numbers.Label.{Label}
use Rattle.records.specs.declared.numbers.World.{World}
use Rattle.sketches.specs.Readings.{label, unplaced}

neither : {X : Type 0} (o p : Option X) → option_or o p ≡ None → (o ≡ None) × (p ≡ None)
neither None p h = (refl, h)
neither (Some x) p h = absurd (true≢false (ap is_some h))

-- a place, or a label without one
found : (o : Option World) (y : Label) → cond (is_some o) None (Some y) ≡ None → (w : World) × (o ≡ Some w)
found None y h = absurd (true≢false (ap is_some h))
found (Some w) y h = (w, refl)

-- a test turned about
turned : {X : Type 0} (b : Bool) (o p : Option X) → cond (not b) o p ≡ cond b p o
turned true o p = refl
turned false o p = refl

module _ (place : Label → Option World) where
  -- the search of the labels below n, in their order
  pub searched : (n : ℕ) → find (λ x. not (is_some (place x))) (map label (range_with_len 0 n)) ≡ unplaced n place
  searched zero = refl
  searched (suc k) =
      ap (find (λ x. not (is_some (place x)))) (ap (λ n. map label (range_with_len 0 n)) (sym (add-one k)) ∙ map-range_with_len_more label 0 k k (omega arith))
      ∙ find-append (λ x. not (is_some (place x))) (map label (range_with_len 0 k)) (label k ∷ [])
      ∙ ap (option_or (find (λ x. not (is_some (place x))) (map label (range_with_len 0 k)))) (turned (is_some (place (label k))) (Some (label k)) None)
      ∙ ap (λ o. option_or o (cond (is_some (place (label k))) None (Some (label k)))) (searched k)

  -- where no label is unplaced, each has a place
  pub all_placed : (n x : ℕ) → x < n → unplaced n place ≡ None → (w : World) × (place (label x) ≡ Some w)
  all_placed zero x low none = absurd (omega arith)
  all_placed (suc k) x low none =
      let both = neither (unplaced k place) (cond (is_some (place (label k))) None (Some (label k))) none in
      ⊎_elim
      (λ (eq : x ≡ k). subst (λ n. (w : World) × (place (label n) ≡ Some w)) (sym eq) (found (place (label k)) (label k) both.1))
      (λ (ne : x ≡ k → ⊥). all_placed k x (omega (arith, low, ne)) both.0)
      (cases_eq x k)

  -- where each label has a place, none is unplaced
  pub none_unplaced : (n : ℕ) → ((x : Label) → x.0 < n → (w : World) × (place x ≡ Some w)) → unplaced n place ≡ None
  none_unplaced zero all = refl
  none_unplaced (suc k) all =
      let at = all (label k) (omega arith) in
      ap (λ p. option_or p (cond (is_some (place (label k))) None (Some (label k)))) (none_unplaced k (λ x low. all x (omega (arith, low))))
      ∙ cond-true (is_some (place (label k))) None (Some (label k)) (ap is_some at.1)
