-- Each model has exactly one answer. Assumes nothing.
use Rattle.std.proofs.Common.{◌≡◌, ℕ, zero, suc, ◌<◌, ◌≤◌, min, Bool, true, false, not, T, List, [], ◌∷◌, Some, None, Ok, Err, sym, refl, ap, ◌∙◌, subst, ⊎_elim, arith}
use Rattle.std.proofs.lemmas.Bool.{cases_lt}
use Rattle.std.specs.List.{AllByRecursion}
use Rattle.records.specs.declared.numbers.AtomNumber.{AtomNumber}
use Rattle.records.specs.declared.numbers.ConditionPlace.{ConditionPlace}
use Rattle.records.specs.declared.numbers.FactPosition.{FactPosition}
use Rattle.records.specs.declared.refusal.Refusal.{Refusal}
use Rattle.records.specs.declared.refusal.Refusal.TheVariants.{OrderBroken, AtomRowOpen, ConditionFails, DoesNotFalsify}
use Rattle.logic.specs.Facts.{Sequent, Standing, Placed, FailsUnder, falsifies}
use Rattle.logic.specs.Models.{Frame, Model}
use Rattle.logic.specs.ModelRules.{Regular}
use Rattle.piles.specs.Packs.{Condition, Meets, FirstFails, Judged, Admits}
use Rattle.judging.specs.Tests.{Tells, LowestOpen, OpenRow}
use Rattle.models.specs.Firsts.{FirstNot, FirstNotOf}
use Rattle.models.specs.Judgements.{Refuses, Judgement, order_broken, row_open, condition_fails, does_not_falsify}

pass_and_fail : (b : Bool) → T b → T (not b) → ⊥
pass_and_fail true t f = f
pass_and_fail false t f = t

-- an element that fails, where all pass
not_and_all : {X : Type 0} (p : X → Bool) (xs : List X) (i : ℕ) → FirstNot p xs i → AllByRecursion (λ x. T (p x)) xs → ⊥
not_and_all p [] i h a = h
not_and_all p (x ∷ xs) zero h a = pass_and_fail (p x) a.0 h
not_and_all p (x ∷ xs) (suc i) h a = not_and_all p xs i h.1 a.1

-- there is one first element that fails
one_first : {X : Type 0} (p : X → Bool) (xs : List X) (i j : ℕ) → FirstNot p xs i → FirstNot p xs j → i ≡ j
one_first p [] i j h k = absurd h
one_first p (x ∷ xs) zero zero h k = refl
one_first p (x ∷ xs) zero (suc j) h k = absurd (pass_and_fail (p x) k.0 h)
one_first p (x ∷ xs) (suc i) zero h k = absurd (pass_and_fail (p x) h.0 k)
one_first p (x ∷ xs) (suc i) (suc j) h k = ap suc (one_first p xs i j h.1 k.1)

-- a condition that fails, where all are met
fails_and_meets : (cs : List Condition) (P : ℕ) (F : Frame) (i : ℕ) → FirstFails cs P F i → Meets cs P F → ⊥
fails_and_meets [] P F i h a = h
fails_and_meets (c ∷ cs) P F zero h a = h a.0
fails_and_meets (c ∷ cs) P F (suc i) h a = fails_and_meets cs P F i h.1 a.1

-- there is one first condition that fails
one_condition : (cs : List Condition) (P : ℕ) (F : Frame) (i j : ℕ) → FirstFails cs P F i → FirstFails cs P F j → i ≡ j
one_condition [] P F i j h k = absurd h
one_condition (c ∷ cs) P F zero zero h k = refl
one_condition (c ∷ cs) P F zero (suc j) h k = absurd (h k.0)
one_condition (c ∷ cs) P F (suc i) zero h k = absurd (k h.0)
one_condition (c ∷ cs) P F (suc i) (suc j) h k = ap suc (one_condition cs P F i j h.1 k.1)

-- there is one lowest open row
one_row : (m : Model) (a b : ℕ) → LowestOpen m a → LowestOpen m b → a ≡ b
one_row m a b h k =
    ⊎_elim (λ (l : a < b). absurd (h.not_closed (k.below a l)))
    (λ (l : b ≤ a). ⊎_elim (λ (g : b < a). absurd (k.not_closed (h.below b g))) (λ (g : a ≤ b). let e : a ≡ b = omega arith in e) (cases_lt b a))
    (cases_lt a b)

module _ (cs : List Condition) (P : ℕ) (s : Sequent) (m : Model) (σ : Standing) where
  -- what is admitted and falsified has no cause
  no_cause : (e : Refusal) → Admits cs P m → FailsUnder m s σ → Refuses cs P s m σ e → ⊥
  no_cause e a f (order_broken n) = n a.keeps.regular
  no_cause e a f (row_open r o) = o.not_closed (a.keeps.rows_up _)
  no_cause e a f (condition_fails i k h q) = fails_and_meets cs P m.frame i h a.meets
  no_cause e a f (does_not_falsify b h) = not_and_all (falsifies m σ) s.facts _ h f.falsify

  -- there is one first cause
  one_cause : (e d : Refusal) → Refuses cs P s m σ e → Refuses cs P s m σ d → e ≡ d
  one_cause e d (order_broken n) (order_broken l) = refl
  one_cause e d (order_broken n) (row_open r o) = absurd (n r)
  one_cause e d (order_broken n) (condition_fails i k h q) = absurd (n k.regular)
  one_cause e d (order_broken n) (does_not_falsify b h) = absurd (n b.keeps.regular)
  one_cause e d (row_open r o) (order_broken l) = absurd (l r)
  one_cause e d (row_open {a = a} r o) (row_open {a = b} t u) = ap (λ (n : ℕ). AtomRowOpen (record { 0 = n })) (one_row m a.0 b.0 o u)
  one_cause e d (row_open r o) (condition_fails i k h q) = absurd (o.not_closed (k.rows_up _))
  one_cause e d (row_open r o) (does_not_falsify b h) = absurd (o.not_closed (b.keeps.rows_up _))
  one_cause e d (condition_fails i k h q) (order_broken l) = absurd (l k.regular)
  one_cause e d (condition_fails i k h q) (row_open t u) = absurd (u.not_closed (k.rows_up _))
  one_cause e d (condition_fails i k h q) (condition_fails j l g w) =
      ap (λ (n : ℕ). ConditionFails (record { 0 = n })) (q ∙ ap (λ (n : ℕ). min n 65535) (one_condition cs P m.frame i j h g) ∙ sym w)
  one_cause e d (condition_fails i k h q) (does_not_falsify b g) = absurd (fails_and_meets cs P m.frame i h b.meets)
  one_cause e d (does_not_falsify b h) (order_broken l) = absurd (l b.keeps.regular)
  one_cause e d (does_not_falsify b h) (row_open t u) = absurd (u.not_closed (b.keeps.rows_up _))
  one_cause e d (does_not_falsify b h) (condition_fails j l g w) = absurd (fails_and_meets cs P m.frame j g b.meets)
  one_cause e d (does_not_falsify {i = i} b h) (does_not_falsify {i = j} c g) =
      ap (λ (n : ℕ). DoesNotFalsify (record { 0 = n })) (one_first (falsifies m σ) s.facts i.0 j.0 h g)

  -- a model that is admitted and falsifies is taken
  judged_taken : Admits cs P m → FailsUnder m s σ → Judgement cs P s m σ (Ok tt)
  judged_taken a f = record {
    taken = (λ _. (a, f), λ _. refl);
    refused = λ e. (λ q. let z : ◌≡◌ {A = ℕ} 0 1 = cc in absurd (omega arith), λ c. absurd (no_cause e a f c));
  }

  -- one with a cause is refused
  judged_refused : (e : Refusal) → Refuses cs P s m σ e → Judgement cs P s m σ (Err e)
  judged_refused e c = record {
    taken = (λ q. let z : ◌≡◌ {A = ℕ} 0 1 = cc in absurd (omega arith), λ af. absurd (no_cause e af.0 af.1 c));
    refused = λ d. (λ q. let k : e ≡ d = cc in subst (λ (x : Refusal). Refuses cs P s m σ x) k c, λ b. ap Err (one_cause e d c b));
  }

  -- the answer after each test, in their order
  module _ (regular : Bool) (tested : Tells regular (Regular P m.frame)) where
    pub judged_broken : regular ≡ false → Judgement cs P s m σ (Err OrderBroken)
    judged_broken e = judged_refused OrderBroken (order_broken λ h. subst (λ (b : Bool). T b) e (tested.1 h))

    kept : regular ≡ true → Regular P m.frame
    kept e = tested.0 (subst (λ (b : Bool). T b) (sym e) tt)

    pub judged_row : (a : AtomNumber) → regular ≡ true → LowestOpen m a.0 → Judgement cs P s m σ (Err (AtomRowOpen a))
    judged_row a e o = judged_refused (AtomRowOpen a) (row_open (kept e) o)

    pub judged_condition : (place : ConditionPlace) → regular ≡ true → OpenRow m None → Judged cs P m.frame (Some place) → Judgement cs P s m σ (Err (ConditionFails place))
    judged_condition place e up h =
        judged_refused (ConditionFails place) (condition_fails h.0 (record { regular = kept e; rows_up = up }) h.1 h.2)

    admitted : regular ≡ true → OpenRow m None → Judged cs P m.frame None → Admits cs P m
    admitted e up h = record { keeps = record { regular = kept e; rows_up = up }; meets = h }

    pub judged_fact : (i : FactPosition) → regular ≡ true → OpenRow m None → Judged cs P m.frame None → FirstNotOf (falsifies m σ) s.facts (Some i)
        → Judgement cs P s m σ (Err (DoesNotFalsify i))
    judged_fact i e up h f = judged_refused (DoesNotFalsify i) (does_not_falsify (admitted e up h) f)

    pub judged_all : regular ≡ true → OpenRow m None → Judged cs P m.frame None → FirstNotOf (falsifies m σ) s.facts None → Placed m.frame s.labels σ
        → Judgement cs P s m σ (Ok tt)
    judged_all e up h f within = judged_taken (admitted e up h) (record { placed = within; falsify = f })
