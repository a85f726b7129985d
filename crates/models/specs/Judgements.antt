-- When a model is taken as one that a pile admits and in which a sequent fails, and why it is refused. Assumes nothing.
use Rattle.std.specs.Prelude.{◌≡◌, ℕ, min, ◌↔◌, List, Ok, Err, Result}
use Rattle.records.specs.declared.numbers.AtomNumber.{AtomNumber}
use Rattle.records.specs.declared.numbers.ConditionPlace.{ConditionPlace}
use Rattle.records.specs.declared.numbers.FactPosition.{FactPosition}
use Rattle.records.specs.declared.refusal.Refusal.{Refusal}
use Rattle.records.specs.declared.refusal.Refusal.TheVariants.{OrderBroken, AtomRowOpen, ConditionFails, DoesNotFalsify}
use Rattle.logic.specs.Facts.{Sequent, Standing, FailsUnder, falsifies}
use Rattle.logic.specs.Models.{Model}
use Rattle.logic.specs.ModelRules.{Regular, Keeps}
use Rattle.piles.specs.Packs.{Condition, FirstFails, Admits}
use Rattle.judging.specs.Tests.{LowestOpen}
use Rattle.models.specs.Firsts.{FirstNot}

-- taken, or refused for a cause
abbrev pub Answer : Type 0
Answer = Result (Unit {0}) Refusal

module _ (conditions : List Condition) (P : ℕ) (s : Sequent) where
  -- why a model, with labels standing so, is refused: each cause where no earlier one is there, at its lowest place
  pub data Refuses (m : Model) (σ : Standing) : Refusal → Type 0 where
    -- 14: the order is not reflexive or not transitive, or an arrow is not monotone
    order_broken : (Regular P m.frame → ⊥) → Refuses m σ OrderBroken
    -- 15: the row of an atom is not closed upward
    row_open : {a : AtomNumber} → Regular P m.frame → LowestOpen m a.0 → Refuses m σ (AtomRowOpen a)
    -- 16: a condition of the pile fails; a place beyond 65,535 is told as 65,535
    condition_fails : {place : ConditionPlace} (i : ℕ) → Keeps P m → FirstFails conditions P m.frame i → place.0 ≡ min i 65535 → Refuses m σ (ConditionFails place)
    -- 17: a fact of the sequent does not falsify
    does_not_falsify : {i : FactPosition} → Admits conditions P m → FirstNot (falsifies m σ) s.facts i.0 → Refuses m σ (DoesNotFalsify i)

  -- a model is taken exactly where the pile admits it and the sequent fails where its labels stand; it is refused exactly with its first cause
  pub record Judgement (m : Model) (σ : Standing) (r : Answer) : Type 0 where
    pub taken : (r ≡ Ok tt) ↔ (Admits conditions P m × FailsUnder m s σ)
    pub refused : (e : Refusal) → (r ≡ Err e) ↔ Refuses m σ e
