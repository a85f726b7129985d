-- What a record does to the branches, by the stacks. Assumes nothing.
use Rattle.std.proofs.Common.{◌≡◌, ℕ, ◌+◌, ◌<◌, ◌≤◌, true, leb, List, [], ◌∷◌, ◌++◌, map, reverse, length, take, Some, Ok, Err, sym, ap, ◌∙◌, subst, arith, length-append}
use Rattle.std.proofs.lemmas.List.{take_at, reverse-append, length-reverse}
use Rattle.std.proofs.lemmas.Bool.{and_parts, leb-true, lt-ltb, le-ltb}
use Rattle.records.specs.declared.numbers.FormulaNumber.{FormulaNumber}
use Rattle.records.specs.declared.numbers.RecordNumber.{RecordNumber}
use Rattle.records.specs.declared.refusal.Refusal.TheVariants.{NoRoom}
use Rattle.logic.specs.declared.fact.Fact.{Fact}
use Rattle.logic.specs.Stored.{stored}
use Rattle.rules.specs.declared.outcome.Growth.{Growth}
use Rattle.rules.specs.declared.outcome.Outcome.TheVariants.{Goes, Forks}
use Rattle.rules.specs.Outcomes.{listed}
use Rattle.steps.specs.declared.waiting.Added.{Added}
use Rattle.steps.specs.declared.waiting.Waiting.{Waiting}
use Rattle.steps.specs.Branches.{branch, grown, fits, label_fits, labels_after, moved}
use Rattle.steps.specs.Memory.{rooms, waitings, branches, Kept}
use Rattle.steps.specs.Waits.{laid, added_of}
use Rattle.steps.proofs.Trails.{waitings_grown, kept_more, length_waitings, laid_added, length_laid}

module _ (room used n : ℕ) (p : Growth FormulaNumber) (fit : true ≡ fits room used n p) where
  abbrev parts : (leb (used + length (listed p.facts)) room ≡ true) × (label_fits n p.opens ≡ true)
  parts = and_parts (leb (used + length (listed p.facts)) room) (label_fits n p.opens) (sym fit)

  pub fits_trail : used + length (listed p.facts) ≤ room
  fits_trail = leb-true _ _ parts.0

  pub fits_laid : (a : Added) → a ≡ added_of p.facts → used + length (laid a) ≤ room
  fits_laid a is = omega (arith, fits_trail, ap (λ b. length (laid b)) is, length_laid p.facts)

module _ (room : ℕ) (t : List Fact) (n : ℕ) (ws : List Waiting) (p : Growth FormulaNumber) (fit : true ≡ fits room (length t) n p) where
  -- what the stacks hold once the premise's facts are laid
  module _ (a : Added) (a_is : a ≡ added_of p.facts) (u : List Fact) (is : u ≡ t ++ laid a) (kept : Kept room (length t) (reverse ws)) where
    abbrev longer : length t ≤ length u
    longer = omega (arith, ap length is, length-append t (laid a))

    abbrev stored_is : u ≡ t ++ map stored (listed p.facts)
    stored_is = is ∙ ap (λ b. t ++ laid b) a_is ∙ ap (λ xs. t ++ xs) (laid_added p.facts)

    abbrev same_waitings : waitings u (reverse ws) ≡ waitings t (reverse ws)
    same_waitings = rw is (waitings_grown room t (laid a) (reverse ws) kept)

    pub one_kept : Kept room (length u) (reverse ws)
    one_kept = kept_more room (length t) (length u) (reverse ws) longer kept

    pub one_shows : (waits : ℕ) (at : RecordNumber) (count : ℕ) → count ≡ labels_after n p.opens
        → Ok (branches u ws (Some count)) ≡ moved stored (rooms room waits) at (Some (Goes p)) (branch t n) (waitings t (reverse ws))
    one_shows waits at count count_is = rw (← fit, ← stored_is, ← count_is, ← same_waitings)

    module _ (q : Growth FormulaNumber) (fit' : true ≡ fits room (length t) n q)
        (w : Waiting) (all : w.trail ≡ length t) (b_is : w.facts ≡ added_of q.facts) (l_is : w.labels ≡ labels_after n q.opens) (vs : List Waiting) (grew : vs ≡ ws ++ w ∷ []) where
      abbrev turned : reverse vs ≡ w ∷ reverse ws
      turned = ap reverse grew ∙ reverse-append ws (w ∷ [])

      pub two_kept : Kept room (length u) (reverse vs)
      two_kept =
          subst (Kept room (length u)) (sym turned)
          (omega (arith, longer, all), omega (arith, all, ap (λ b. length (laid b)) b_is, length_laid q.facts, fits_trail room (length t) n q fit'), subst (λ k. Kept room k (reverse ws)) (sym all) kept)

      pub two_shows : (waits : ℕ) (at : RecordNumber) (count : ℕ) → count ≡ labels_after n p.opens → length ws < waits
          → Ok (branches u vs (Some count)) ≡ moved stored (rooms room waits) at (Some (Forks p q)) (branch t n) (waitings t (reverse ws))
      two_shows waits at count count_is some =
          let front : take w.trail u ≡ t = ap (take w.trail) is ∙ take_at t (laid a) w.trail (sym all) in
          let waits_so : branch (take w.trail u ++ laid w.facts) w.labels ∷ waitings (take w.trail u) (reverse ws) ≡ grown stored (rooms room waits) (branch t n) q ∷ waitings t (reverse ws) =
          ap (λ f. branch (f ++ laid w.facts) w.labels ∷ waitings f (reverse ws)) front
          ∙ ap (λ b. branch (t ++ laid b) w.labels ∷ waitings t (reverse ws)) b_is
          ∙ ap (λ xs. branch (t ++ xs) w.labels ∷ waitings t (reverse ws)) (laid_added q.facts)
          ∙ ap (λ l. branch (t ++ map stored (listed q.facts)) l ∷ waitings t (reverse ws)) l_is in
          let goes : branches u vs (Some count) ≡ grown stored (rooms room waits) (branch t n) p ∷ grown stored (rooms room waits) (branch t n) q ∷ waitings t (reverse ws) =
          ap (λ xs. branch u count ∷ waitings u xs) turned
          ∙ ap (λ bs. branch u count ∷ bs) waits_so
          ∙ ap (λ f. branch f count ∷ grown stored (rooms room waits) (branch t n) q ∷ waitings t (reverse ws)) stored_is
          ∙ ap (λ l. branch (t ++ map stored (listed p.facts)) l ∷ grown stored (rooms room waits) (branch t n) q ∷ waitings t (reverse ws)) count_is in
          rw (← fit, ← fit', length_waitings t (reverse ws), length-reverse ws, lt-ltb (length ws) waits some) (ap Ok goes)

  -- where no branch more may wait
  pub two_full : (q : Growth FormulaNumber) → true ≡ fits room (length t) n q → (waits : ℕ) (at : RecordNumber) → waits ≤ length ws
      → Err (NoRoom at) ≡ moved stored (rooms room waits) at (Some (Forks p q)) (branch t n) (waitings t (reverse ws))
  two_full q fit' waits at full = rw (← fit, ← fit', length_waitings t (reverse ws), length-reverse ws, le-ltb (length ws) waits full)
