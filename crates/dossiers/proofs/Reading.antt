-- Where the reading of a file stands after one more call of its cursor. Assumes nothing.
use Rattle.std.proofs.Common.{◌≡◌, ℕ, ◌<◌, List, length, Some, None, Ok, Err, Option, Result, sym, ap, ◌∙◌, subst, arith}
use Rattle.records.specs.declared.record.Numbered.{Numbered}
use Rattle.records.specs.declared.refusal.Refusal.{Refusal}
use Rattle.records.specs.Chains.{record_of, Next}
use Rattle.records.specs.Readers.{Reader, read_bytes}
use Rattle.records.proofs.Chains.{next_at}
use Rattle.records.proofs.Fronts.{front_parts}
use Rattle.records.proofs.Readers.{read_more, read_bad, read_end, read_broken}

-- the bytes after a record are fewer
pub fewer : (bs rest : List ℕ) (i m : ℕ) (o : Option Numbered) (r : Numbered) → o ≡ Some r → Next bs i (Ok o) rest m → length rest < length bs
fewer bs rest i m o r is next =
    let step = next_at bs i rest m (ap Ok is) next in
    let parts = front_parts bs (record_of r.raw) rest step.0 in
    omega (arith, parts.length_is)

module _ {S A : Type 0} (R : Reader S A) (answer : Result A Refusal) (i : ℕ) (s : S) (bs : List ℕ) (reading : answer ≡ read_bytes R i s bs) where
  -- one good record more
  pub good : (t : S) (rest : List ℕ) (m : ℕ) (o : Option Numbered) (r : Numbered) → o ≡ Some r → Next bs i (Ok o) rest m
      → R.step r.at.0 (record_of r.raw) s ≡ Ok t → answer ≡ read_bytes R m t rest
  good t rest m o r is next step =
      let at = next_at bs i rest m (ap Ok is) next in
      reading
      ∙ read_more R i s t bs (record_of r.raw) rest at.0 (subst (λ n. R.step n (record_of r.raw) s ≡ Ok t) at.1 step)
      ∙ ap (λ n. read_bytes R n t rest) (sym at.2)

  -- a refused record
  pub bad : (rest : List ℕ) (m : ℕ) (o : Option Numbered) (r : Numbered) (e : Refusal) → o ≡ Some r → Next bs i (Ok o) rest m
      → R.step r.at.0 (record_of r.raw) s ≡ Err e → answer ≡ Err e
  bad rest m o r e is next step =
      let at = next_at bs i rest m (ap Ok is) next in
      reading ∙ read_bad R i s bs (record_of r.raw) rest e at.0 (subst (λ n. R.step n (record_of r.raw) s ≡ Err e) at.1 step)

  -- no record more
  pub none : (rest : List ℕ) (m : ℕ) (o : Option Numbered) → o ≡ None → Next bs i (Ok o) rest m → answer ≡ R.end m s
  none rest m o is next =
      let at = next_at bs i rest m (ap Ok is) next in
      reading ∙ read_end R i s bs at.0 ∙ ap (λ n. R.end n s) (sym at.2)

  -- a frame that is broken
  pub broken : (rest : List ℕ) (m : ℕ) (e : Refusal) → Next bs i (Err e) rest m → answer ≡ R.broken i s
  broken rest m e next = reading ∙ read_broken R i s bs next.0 next.1
