-- When the front of some bytes is a whole record. Assumes nothing.
use Rattle.std.proofs.Common.{◌≡◌, ℕ, ◌+◌, ◌-◌, ◌≤◌, List, length, take, drop, sym, ap, ◌∙◌, ⊎_elim, arith, length-drop}
use Rattle.std.proofs.lemmas.Bool.{cond-false, cond-true, le-ltb, lt-ltb, cases_lt}
use Rattle.records.specs.Bytes.{word}
use Rattle.records.specs.Chains.{Record, whole, cut, front}

module _ (bs : List ℕ) (some : 2 ≤ length bs) (long : 2 ≤ word bs 0) (fits : 2 + word bs 0 ≤ length bs) where
  pub front_whole : front bs ≡ whole (record { kind = word bs 2; body = take (word bs 0 - 2) (drop 4 bs) }) (drop (2 + word bs 0) bs)
  front_whole =
      cond-false _ _ _ (le-ltb (length bs) 2 some)
      ∙ cond-false _ _ _ (le-ltb (word bs 0) 2 long)
      ∙ cond-false _ _ _ (le-ltb (length bs) (2 + word bs 0) fits)

-- the same, where the parts are known under other names
pub front_is : (bs : List ℕ) (n k : ℕ) (body rest : List ℕ) → 2 ≤ length bs → n ≡ word bs 0 → 2 ≤ n → 2 + n ≤ length bs → k ≡ word bs 2 → body ≡ take (2 + n - 4) (drop 4 bs) → rest ≡ drop (2 + n) bs → front bs ≡ whole (record { kind = k; body = body }) rest
front_is bs n k body rest some is long fits kind_is body_is rest_is =
    let less : 2 + word bs 0 - 4 ≡ word bs 0 - 2 = omega arith in
    let body_at : body ≡ take (word bs 0 - 2) (drop 4 bs) = body_is ∙ ap (λ m. take (2 + m - 4) (drop 4 bs)) is ∙ ap (λ m. take m (drop 4 bs)) less in
    let rest_at : rest ≡ drop (2 + word bs 0) bs = rest_is ∙ ap (λ m. drop (2 + m) bs) is in
    let base = front_whole bs some (omega arith) (omega arith) in
    cc

-- what a whole record at the front says of the bytes
pub record Parts (bs : List ℕ) (r : Record) (rest : List ℕ) : Type 0 where
  pub some : 2 ≤ length bs
  pub long : 2 ≤ word bs 0
  pub fits : 2 + word bs 0 ≤ length bs
  pub record_is : r ≡ record { kind = word bs 2; body = take (word bs 0 - 2) (drop 4 bs) }
  pub rest_is : rest ≡ drop (2 + word bs 0) bs
  pub length_is : length rest + (2 + word bs 0) ≡ length bs

never : {A : Type 0} (r : Record) (rest : List ℕ) → cut ≡ whole r rest → A
never r rest e = let z : ◌≡◌ {A = ℕ} 0 1 = cc in absurd (omega arith)

pub front_parts : (bs : List ℕ) (r : Record) (rest : List ℕ) → front bs ≡ whole r rest → Parts bs r rest
front_parts bs r rest e =
    ⊎_elim (λ a. never r rest (sym (cond-true _ _ _ (lt-ltb (length bs) 2 a)) ∙ e))
    (λ a.
    ⊎_elim (λ b. never r rest (sym (cond-false _ _ _ (le-ltb (length bs) 2 a) ∙ cond-true _ _ _ (lt-ltb (word bs 0) 2 b)) ∙ e))
    (λ b.
    ⊎_elim (λ d. never r rest (sym (cond-false _ _ _ (le-ltb (length bs) 2 a) ∙ cond-false _ _ _ (le-ltb (word bs 0) 2 b) ∙ cond-true _ _ _ (lt-ltb (length bs) (2 + word bs 0) d)) ∙ e))
    (λ d.
    let base = front_whole bs a b d in
    let same : rest ≡ drop (2 + word bs 0) bs = cc in
    record {
      some = a;
      long = b;
      fits = d;
      record_is = cc;
      rest_is = same;
      length_is = omega (arith, ap length same, length-drop (2 + word bs 0) bs);
    })
    (cases_lt (length bs) (2 + word bs 0)))
    (cases_lt (word bs 0) 2))
    (cases_lt (length bs) 2)
