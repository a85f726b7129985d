-- What is judged of a laid pack, from what is judged of the pack below. Assumes nothing.
use Rattle.std.proofs.Common.{◌≡◌, ℕ, suc, ◌+◌, min, List, ◌∷◌, Some, None, Option, subst, sym, arith}
use Rattle.std.specs.Option.{MatchOption, IsSomeAnd}
use Rattle.records.specs.declared.numbers.ConditionPlace.{ConditionPlace}
use Rattle.logic.specs.Models.{Frame}
use Rattle.piles.specs.Packs.{Condition, Judged}

-- a condition more before the list, which holds: the place is one further, and at most 65535
pub judged_later : (c : Condition) (cs : List Condition) (P : ℕ) (F : Frame) (r q : Option ConditionPlace) (Further : ConditionPlace → ConditionPlace → Type 0) →
    ((place later : ConditionPlace) → Further place later → later.0 ≡ min (place.0 + 1) 65535) → c P F → Judged cs P F r → MatchOption r (q ≡ None) (λ place. IsSomeAnd q (Further place)) → Judged (c ∷ cs) P F q
judged_later c cs P F None q Further counted h judged e = subst (λ (o : Option ConditionPlace). Judged (c ∷ cs) P F o) (sym e) (h, judged)
judged_later c cs P F (Some p) (Some later) Further counted h judged e =
    let same = judged.2 in let one = counted p later e in (suc judged.0, (h, judged.1), omega arith)
judged_later c cs P F (Some p) None Further counted h judged e = absurd e
