-- Lists whose elements are all one value. Assumes nothing.
use Rattle.std.proofs.Common.{◌≡◌, ℕ, ◌+◌, ◌-◌, ◌<◌, ◌≤◌, List, [], ◌∷◌, ◌++◌, length, take, drop, set, replicate, sym, refl, ap, ◌∙◌, arith, length-drop}
use Rattle.std.proofs.lemmas.List.{drop_at, length-replicate, length-take-le, replicate-append-replicate, drop-drop, drop-replicate, drop-set, take_more_set, replicate_more, take_all}
use Rattle.stack.specs.Places.{Blanked}

module _ {X : Type 0} (blank : X) where
  -- a part of blank places is blank
  pub blanked_drop : (m : ℕ) (xs : List X) → Blanked blank xs → Blanked blank (drop m xs)
  blanked_drop m xs h =
      ap (drop m) h ∙ drop-replicate m (length xs) blank ∙ ap (λ n. replicate n blank) (sym (length-drop m xs))

  -- after the place before blank ones is made blank, all from that place on are
  pub blanked_from : (i n : ℕ) (xs : List X) → i + 1 ≡ n → i < length xs → Blanked blank (drop n xs) → Blanked blank (drop i (set xs i blank))
  blanked_from i n xs e within h = rw (drop-set xs i blank within, e) (ap (λ ys. blank ∷ ys) h)

  -- copies of the blank value, whatever their number, are blank places
  copies_blank : (n : ℕ) (xs : List X) → xs ≡ replicate n blank → Blanked blank xs
  copies_blank n xs h = rw (h, length-replicate n blank) refl

  -- after the places from a to n are made blank, and those from n on are, all from a on are
  pub blanked_between : (a n : ℕ) (xs ys : List X) → a ≤ n → n ≤ length xs → ys ≡ replicate (length (take (n - a) (drop a xs))) blank → Blanked blank (drop n xs) → Blanked blank (drop a (take a xs ++ (ys ++ drop (n - a) (drop a xs))))
  blanked_between a n xs ys low within made free =
      let after : drop (n - a) (drop a xs) ≡ drop n xs = drop-drop (n - a) a xs ∙ ap (λ m. drop m xs) (omega arith) in
      let joined : ys ++ drop (n - a) (drop a xs) ≡ replicate (length (take (n - a) (drop a xs)) + length (drop n xs)) blank =
      ap (λ zs. zs ++ drop (n - a) (drop a xs)) made
      ∙ ap (λ zs. replicate (length (take (n - a) (drop a xs))) blank ++ zs) (after ∙ free)
      ∙ replicate-append-replicate (length (take (n - a) (drop a xs))) (length (drop n xs)) blank in
      copies_blank _ _ (drop_at _ _ a (length-take-le a xs (omega arith)) ∙ joined)

  -- after the place behind i blank ones is made blank, the first i + 1 are blank
  pub one_more_blank : (i : ℕ) (xs : List X) → i < length xs → take i xs ≡ replicate i blank → take (i + 1) (set xs i blank) ≡ replicate (i + 1) blank
  one_more_blank i xs within h = take_more_set xs i blank within ∙ ap (λ ys. ys ++ (blank ∷ [])) h ∙ replicate_more i blank

  -- where the first i places are blank, and there are no more than i, all are
  pub all_blank : (i n : ℕ) (xs : List X) → length xs ≤ i → i ≡ n → take i xs ≡ replicate i blank → xs ≡ replicate n blank
  all_blank i n xs few e h = sym (take_all i xs few) ∙ h ∙ ap (λ m. replicate m blank) e
