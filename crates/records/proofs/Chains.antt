-- The chain of a file, read record by record. Assumes nothing.
use Rattle.std.proofs.Common.{◌≡◌, ℕ, zero, suc, ◌+◌, ◌-◌, ◌*◌, ◌≤◌, List, [], ◌∷◌, ◌++◌, map, length, Some, None, Option, Result, sym, refl, ap, ◌∙◌, subst, append_assoc, append-nil, arith}
use lib.ListN.{length-map}
use Rattle.std.proofs.lemmas.List.{map_push, length_push}
use Rattle.records.specs.declared.record.RawRecord.{RawRecord}
use Rattle.records.specs.declared.record.Numbered.{Numbered}
use Rattle.records.specs.declared.refusal.Refusal.{Refusal}
use Rattle.records.specs.Chains.{Record, whole, cut, front, put, stopped, chain_by, chain, record_of, broken_at, ending, Next}
use Rattle.records.proofs.Fronts.{front_parts}
use Rattle.records.proofs.Laws.{go_on}

-- rs are the first records of bs, and rest is what is left
pub record Sofar (bs : List ℕ) (rs : List Record) (rest : List ℕ) : Type 0 where
  pub records_are : (chain bs).records ≡ rs ++ (chain_by (length bs - length rs) rest).records
  pub rest_is : (chain bs).rest ≡ (chain_by (length bs - length rs) rest).rest
  pub few : length rs * 4 + length rest ≤ length bs

pub sofar_none : (bs : List ℕ) → Sofar bs [] bs
sofar_none bs =
    let all : length bs ≡ length bs - 0 = omega arith in
    record { records_are = ap (λ n. (chain_by n bs).records) all; rest_is = ap (λ n. (chain_by n bs).rest) all; few = omega arith }

-- one record more
pub sofar_more : (bs : List ℕ) (rs : List Record) (rest : List ℕ) (r : Record) (after : List ℕ) → Sofar bs rs rest → front rest ≡ whole r after → Sofar bs (rs ++ r ∷ []) after
sofar_more bs rs rest r after h e =
    let parts = front_parts rest r after e in
    let longer = length_push rs r in
    let n : ℕ = length bs - length (rs ++ r ∷ []) in
    let fuel : length bs - length rs ≡ suc n = omega (arith, parts.length_is, h.few) in
    let left : chain_by (length bs - length rs) rest ≡ put r (chain_by n after) = ap (λ k. chain_by k rest) fuel ∙ ap (go_on n rest) e in
    record {
      records_are = h.records_are ∙ ap (λ c. rs ++ c.records) left ∙ sym (append_assoc rs (r ∷ []) (chain_by n after).records);
      rest_is = h.rest_is ∙ ap (λ c. c.rest) left;
      few = omega (arith, parts.length_is, parts.long, h.few);
    }

-- where the front is cut, nothing follows
stops_at : (n : ℕ) (bs : List ℕ) → front bs ≡ cut → chain_by n bs ≡ stopped bs
stops_at zero bs e = refl
stops_at (suc n) bs e = ap (go_on n bs) e

-- the records read so far, as code holds them
abbrev pub Read : List ℕ → List RawRecord → List ℕ → Type 0
Read bs fs rest = Sofar bs (map record_of fs) rest

pub read_more : (bs : List ℕ) (fs : List RawRecord) (rest : List ℕ) (f : RawRecord) (after : List ℕ) → Read bs fs rest → front rest ≡ whole (record_of f) after → Read bs (fs ++ f ∷ []) after
read_more bs fs rest f after h e = subst (λ l. Sofar bs l after) (sym (map_push record_of fs f)) (sofar_more bs (map record_of fs) rest (record_of f) after h e)

-- all is read where the front is cut
pub record Whole (bs : List ℕ) (fs : List RawRecord) (rest : List ℕ) : Type 0 where
  pub records : map record_of fs ≡ (chain bs).records
  pub rest_is : (chain bs).rest ≡ rest
  pub count : length (chain bs).records ≡ length fs

pub read_all : (bs : List ℕ) (fs : List RawRecord) (rest : List ℕ) → Read bs fs rest → front rest ≡ cut → Whole bs fs rest
read_all bs fs rest h e =
    let is = stops_at (length bs - length (map record_of fs)) rest e in
    let all : (chain bs).records ≡ map record_of fs = h.records_are ∙ ap (λ c. map record_of fs ++ c.records) is ∙ append-nil (map record_of fs) in
    record {
      records = sym all;
      rest_is = h.rest_is ∙ ap (λ c. c.rest) is;
      count = ap length all ∙ length-map fs record_of;
    }

-- how the file ends where nothing, or nothing whole, is left
pub ends_none : (bs : List ℕ) (fs : List RawRecord) (rest : List ℕ) → Whole bs fs rest → rest ≡ [] → None ≡ ending (length (chain bs).records) (chain bs).rest
ends_none bs fs rest w none = sym (ap (ending (length (chain bs).records)) (w.rest_is ∙ none))

ending_some : (n : ℕ) (rest : List ℕ) → (rest ≡ [] → ⊥) → ending n rest ≡ Some (broken_at n)
ending_some n [] some = absurd (some refl)
ending_some n (b ∷ bs) some = refl

pub ends_broken : (bs : List ℕ) (fs : List RawRecord) (rest : List ℕ) (n : ℕ) (e : Refusal) → Whole bs fs rest → (rest ≡ [] → ⊥) → n ≡ length fs → e ≡ broken_at n → Some e ≡ ending (length (chain bs).records) (chain bs).rest
ends_broken bs fs rest n e w some count is =
    ap Some (is ∙ ap broken_at (count ∙ sym w.count)) ∙ sym (ap (ending (length (chain bs).records)) w.rest_is ∙ ending_some _ rest some)

pub next_at : (bs : List ℕ) (n : ℕ) (rest : List ℕ) (m : ℕ) {r t : Result (Option Numbered) Refusal} → r ≡ t → Next bs n r rest m → Next bs n t rest m
next_at bs n rest m e h = subst (λ x. Next bs n x rest m) e h
