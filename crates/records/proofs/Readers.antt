-- Reading record by record: one record, the end, and the law. Assumes nothing.
use Rattle.std.proofs.Common.{◌≡◌, ℕ, ◌+◌, ◌⊎◌, List, [], ◌∷◌, ◌++◌, length, Ok, Err, Result, sym, refl, ap, ◌∙◌, subst, inl, inr, ⊎_elim, append-nil, add-zero, zero-add, arith}
use Rattle.records.specs.Chains.{Record, whole, cut, front, chain}
use Rattle.records.specs.Readers.{Reader, at_end, followed, read_on, read_bytes, Reaches, here, on, ReadToEnd, RefusedAt, ReadsBy}
use Rattle.records.specs.declared.refusal.Refusal.{Refusal}
use Rattle.records.proofs.Fronts.{front_parts}
use Rattle.records.proofs.Laws.{one_chain, front_put, cut_is}

-- the chain of bytes that begin with a record
pub chain_more : (bs : List ℕ) (r : Record) (rest : List ℕ) → front bs ≡ whole r rest → ((chain bs).records ≡ r ∷ (chain rest).records) × ((chain bs).rest ≡ (chain rest).rest)
chain_more bs r rest e =
    let only = (one_chain bs).only (r ∷ (chain rest).records) (chain rest).rest (front_put bs r rest (chain rest) (front_parts bs r rest e) (one_chain rest).is) in
    (sym only.0, sym only.1)

-- the chain of bytes that begin no record
pub chain_none : (bs : List ℕ) → front bs ≡ cut → ((chain bs).records ≡ []) × ((chain bs).rest ≡ bs)
chain_none bs e = let only = (one_chain bs).only [] bs (cut_is bs e) in (sym only.0, sym only.1)

count : (i : ℕ) (r : Record) (rs : List Record) → i + 1 + length rs ≡ i + length (r ∷ rs)
count i r rs = omega arith

module _ {S A : Type 0} (R : Reader S A) where
  -- one record that is good
  pub read_more : (i : ℕ) (s t : S) (bs : List ℕ) (r : Record) (rest : List ℕ) → front bs ≡ whole r rest → R.step i r s ≡ Ok t → read_bytes R i s bs ≡ read_bytes R (i + 1) t rest
  read_more i s t bs r rest e good =
      let c = chain_more bs r rest e in
      (λ j. read_on R i s (c.0 j) (c.1 j)) ∙ ap (λ x. followed R x (λ u. read_on R (i + 1) u (chain rest).records (chain rest).rest)) good

  -- one record that is bad
  pub read_bad : (i : ℕ) (s : S) (bs : List ℕ) (r : Record) (rest : List ℕ) (x : Refusal) → front bs ≡ whole r rest → R.step i r s ≡ Err x → read_bytes R i s bs ≡ Err x
  read_bad i s bs r rest x e bad =
      let c = chain_more bs r rest e in
      (λ j. read_on R i s (c.0 j) (c.1 j)) ∙ ap (λ y. followed R y (λ u. read_on R (i + 1) u (chain rest).records (chain rest).rest)) bad

  -- no byte left
  pub read_end : (i : ℕ) (s : S) (bs : List ℕ) → bs ≡ [] → read_bytes R i s bs ≡ R.end i s
  read_end i s bs e = ap (read_bytes R i s) e

  at_broken : (i : ℕ) (s : S) (bs : List ℕ) → (bs ≡ [] → ⊥) → at_end R i s bs ≡ R.broken i s
  at_broken i s [] some = absurd (some refl)
  at_broken i s (b ∷ bs) some = refl

  -- bytes left, and no whole record
  pub read_broken : (i : ℕ) (s : S) (bs : List ℕ) → (bs ≡ [] → ⊥) → front bs ≡ cut → read_bytes R i s bs ≡ R.broken i s
  read_broken i s bs some e =
      let c = chain_none bs e in
      (λ j. read_on R i s (c.0 j) (c.1 j)) ∙ at_broken i s bs some

  -- The law, from record i on.
  record EndsSo (i : ℕ) (s : S) (rs : List Record) (rest : List ℕ) (a : Result A Refusal) : Type 0 where
    last : S
    reached : Reaches R i s rs last
    answer_is : at_end R (i + length rs) last rest ≡ a

  record BadSo (i : ℕ) (s : S) (rs : List Record) (e : Refusal) : Type 0 where
    before : List Record
    after : List Record
    bad : Record
    last : S
    parts : rs ≡ before ++ (bad ∷ after)
    reached : Reaches R i s before last
    refusal : R.step (i + length before) bad last ≡ Err e

  -- the answer, as one of the two
  data Told (i : ℕ) (s : S) (rs : List Record) (rest : List ℕ) (a : Result A Refusal) : Type 0 where
    ends : EndsSo i s rs rest a → Told i s rs rest a
    stops : (e : Refusal) → a ≡ Err e → BadSo i s rs e → Told i s rs rest a

  more_told : (i : ℕ) (s t : S) (r : Record) (rs : List Record) (rest : List ℕ) (a : Result A Refusal) → R.step i r s ≡ Ok t → Told (i + 1) t rs rest a → Told i s (r ∷ rs) rest a
  more_told i s t r rs rest a good (ends h) =
      let count : i + 1 + length rs ≡ i + length (r ∷ rs) = omega arith in
      ends (record { last = h.last; reached = on good h.reached; answer_is = ap (λ n. at_end R n h.last rest) (sym count) ∙ h.answer_is })
  more_told i s t r rs rest a good (stops e is h) =
      let count : i + 1 + length h.before ≡ i + length (r ∷ h.before) = omega arith in
      stops e is (record {
        before = r ∷ h.before;
        after = h.after;
        bad = h.bad;
        last = h.last;
        parts = ap (λ l. r ∷ l) h.parts;
        reached = on good h.reached;
        refusal = ap (λ n. R.step n h.bad h.last) (sym count) ∙ h.refusal;
      })

  bad_told : (i : ℕ) (s : S) (r : Record) (rs : List Record) (rest : List ℕ) (e : Refusal) → R.step i r s ≡ Err e → Told i s (r ∷ rs) rest (Err e)
  bad_told i s r rs rest e is = stops e refl (record { before = []; after = rs; bad = r; last = s; parts = refl; reached = here; refusal = ap (λ n. R.step n r s) (add-zero i) ∙ is })

  step_told : (i : ℕ) (s : S) (r : Record) (rs : List Record) (rest : List ℕ) (x : Result S Refusal) → R.step i r s ≡ x → ((t : S) → Told (i + 1) t rs rest (read_on R (i + 1) t rs rest)) → Told i s (r ∷ rs) rest (followed R x (λ t. read_on R (i + 1) t rs rest))
  step_told i s r rs rest (Ok t) is ih = more_told i s t r rs rest _ is (ih t)
  step_told i s r rs rest (Err e) is ih = bad_told i s r rs rest e is

  told : (i : ℕ) (s : S) (rs : List Record) (rest : List ℕ) → Told i s rs rest (read_on R i s rs rest)
  told i s [] rest = ends (record { last = s; reached = here; answer_is = ap (λ n. at_end R n s rest) (add-zero i) })
  told i s (r ∷ rs) rest = step_told i s r rs rest (R.step i r s) refl (λ t. told (i + 1) t rs rest)

  -- good records are passed over
  pub reach_on : {i : ℕ} {s t : S} {rs : List Record} (more : List Record) (rest : List ℕ) → Reaches R i s rs t → read_on R i s (rs ++ more) rest ≡ read_on R (i + length rs) t more rest
  reach_on {i} {s} more rest here = ap (λ n. read_on R n s more rest) (sym (add-zero i))
  reach_on {i} {s} {t} more rest (on {r = r} {rs = rs} good h) =
      ap (λ x. followed R x (λ v. read_on R (i + 1) v (rs ++ more) rest)) good
      ∙ reach_on more rest h
      ∙ ap (λ n. read_on R n t more rest) (count i r rs)

  end_only : (s : S) (bs : List ℕ) (a : Result A Refusal) → ReadToEnd R s bs a → read_bytes R 0 s bs ≡ a
  end_only s bs a h =
      ap (λ l. read_on R 0 s l (chain bs).rest) (sym (append-nil (chain bs).records))
      ∙ reach_on [] (chain bs).rest h.reached
      ∙ ap (λ n. at_end R n h.last (chain bs).rest) (zero-add (length (chain bs).records))
      ∙ h.answer_is

  bad_only : (s : S) (bs : List ℕ) (e : Refusal) → RefusedAt R s bs e → read_bytes R 0 s bs ≡ Err e
  bad_only s bs e h =
      ap (λ l. read_on R 0 s l (chain bs).rest) h.parts
      ∙ reach_on (h.bad ∷ h.after) (chain bs).rest h.reached
      ∙ ap (λ n. read_on R n h.last (h.bad ∷ h.after) (chain bs).rest) (zero-add (length h.before))
      ∙ ap (λ x. followed R x (λ t. read_on R (length h.before + 1) t h.after (chain bs).rest)) h.refusal

  end_of : (s : S) (bs : List ℕ) (a : Result A Refusal) → EndsSo 0 s (chain bs).records (chain bs).rest a → ReadToEnd R s bs a
  end_of s bs a h = record { last = h.last; reached = h.reached; answer_is = ap (λ n. at_end R n h.last (chain bs).rest) (sym (zero-add (length (chain bs).records))) ∙ h.answer_is }

  bad_of : (s : S) (bs : List ℕ) (e : Refusal) → BadSo 0 s (chain bs).records e → RefusedAt R s bs e
  bad_of s bs e h = record {
    before = h.before;
    after = h.after;
    bad = h.bad;
    last = h.last;
    parts = h.parts;
    reached = h.reached;
    refusal = ap (λ n. R.step n h.bad h.last) (sym (zero-add (length h.before))) ∙ h.refusal;
  }

  ok_told : (s : S) (bs : List ℕ) (x : Result A Refusal) (a : A) → x ≡ Ok a → Told 0 s (chain bs).records (chain bs).rest x → ReadToEnd R s bs (Ok a)
  ok_told s bs x a is (ends h) = subst (λ y. ReadToEnd R s bs y) is (end_of s bs x h)
  ok_told s bs x a is (stops e bad h) = let z : ◌≡◌ {A = ℕ} 0 1 = cc in absurd (omega arith)

  err_told : (s : S) (bs : List ℕ) (x : Result A Refusal) (e : Refusal) → x ≡ Err e → Told 0 s (chain bs).records (chain bs).rest x → RefusedAt R s bs e ⊎ ReadToEnd R s bs (Err e)
  err_told s bs x e is (ends h) = inr (subst (λ y. ReadToEnd R s bs y) is (end_of s bs x h))
  err_told s bs x e is (stops e' bad h) = let same : e' ≡ e = cc in inl (subst (λ y. RefusedAt R s bs y) same (bad_of s bs e' h))

  -- every reader reads by the law
  pub reads_by : (s : S) (bs : List ℕ) → ReadsBy R s bs
  reads_by s bs = record {
    taken = λ a is. ok_told s bs (read_bytes R 0 s bs) a is (told 0 s (chain bs).records (chain bs).rest);
    taken_only = λ a h. end_only s bs (Ok a) h;
    refused = λ e is. err_told s bs (read_bytes R 0 s bs) e is (told 0 s (chain bs).records (chain bs).rest);
    refused_only = λ e. ⊎_elim (bad_only s bs e) (end_only s bs (Err e));
  }
