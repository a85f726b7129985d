-- A walk is taken exactly where its records list a closed derivation, and refused exactly where a record or the end is bad. Assumes nothing.
use Rattle.std.proofs.Common.{◌≡◌, ℕ, zero, suc, ◌+◌, ◌<◌, ◌≤◌, Bool, true, false, cond, leb, ◌⊎◌, List, [], ◌∷◌, ◌++◌, length, Ok, Err, Result, sym, refl, ap, ◌∙◌, subst, inl, inr, append_assoc, append-nil, arith, length-append}
use Rattle.std.proofs.lemmas.Bool.{leb-true, leb-false}
use Rattle.records.specs.declared.refusal.Refusal.{Refusal}
use Rattle.records.specs.declared.refusal.Refusal.TheVariants.{Frame, NoRoom, AfterClosed, EndsEarly}
use Rattle.records.specs.Chains.{Record, chain}
use Rattle.records.specs.Readers.{Reader, read_on, read_bytes, followed, at_end, Reaches, ReadToEnd, RefusedAt}
use Rattle.records.specs.Readers.{here as reaches_here, on as reaches_on}
use Rattle.records.proofs.Readers.{reads_by}
use Rattle.rules.specs.declared.outcome.Outcome.{Outcome}
use Rattle.rules.specs.declared.outcome.Outcome.TheVariants.{Closes, Goes, Forks}
use Rattle.rules.specs.declared.step.Step.{Step}
use Rattle.rules.specs.Rules.{Rule}
use Rattle.steps.specs.Branches.{Branch, Setting, Answer, number, scene, advanced, reader, examined}
use Rattle.steps.specs.Derivations.{Asks, with_premise, open_then, RoomFor, Closed, leaf, grow, fork, Reached, here, on, Refused, too_many_facts, bad_record, ends_early, broken_frame, after_closed, Exactly}
use Rattle.steps.proofs.Decided.{err_ok, ok_err, doing_of, does_of, of_does, refuses_of, of_refuses, advanced_by, room_moves}

module _ {X F : Type 0} (S : Setting X F) where
  abbrev R : Reader (List (Branch X)) (Unit {0})
  R = reader S

  reached_of : {i : ℕ} {bs cs : List (Branch X)} {rs : List Record} → Reaches R i bs rs cs → Reached S bs rs cs
  reached_of reaches_here = here
  reached_of (reaches_on {i = i} {s = bs} {t = ds} {r = r} e h) = on (does_of S i r bs ds e) (reached_of h)

  of_reached : (i : ℕ) {bs cs : List (Branch X)} {rs : List Record} → Reached S bs rs cs → Reaches R i bs rs cs
  of_reached i here = reaches_here
  of_reached i (on {r = r} d h) = reaches_on (of_does S i r d) (of_reached (i + 1) h)

  module _ (rest : List ℕ) where
    -- a listing's own records, and those that follow it
    record Split (b : Branch X) (bs : List (Branch X)) (ys : List Record) : Type 0 where
      first : List Record
      second : List Record
      at : ℕ
      whole : ys ≡ first ++ second
      closed : Closed S (length bs) b first
      rest_taken : read_on R at bs second rest ≡ Ok tt

    abbrev Hyp : ℕ → Type 0
    Hyp m = (i : ℕ) (ys : List Record) (b : Branch X) (bs : List (Branch X)) → length ys ≤ m → read_on R i (b ∷ bs) ys rest ≡ Ok tt → Split b bs ys

    -- one record, by what it does
    splits_by : (m : ℕ) → Hyp m → (i : ℕ) (r : Record) (ys : List Record) (b : Branch X) (bs : List (Branch X)) → length ys ≤ m → (step : Step) (o : Outcome F) → Asks S b r step → Rule (scene S b) step o → RoomFor S b bs o
        → read_on R (i + 1) (open_then S b bs o) ys rest ≡ Ok tt → Split b bs (r ∷ ys)
    splits_by m ih i r ys b bs le step Closes asks rule room e =
        record { first = r ∷ []; second = ys; at = i + 1; whole = refl; closed = leaf r asks rule; rest_taken = e }
    splits_by m ih i r ys b bs le step (Goes p) asks rule room e =
        let h = ih (i + 1) ys (with_premise S b p) bs le e in
        record { first = r ∷ h.first; second = h.second; at = h.at; whole = ap (λ zs. r ∷ zs) h.whole; closed = grow r p asks rule room h.closed; rest_taken = h.rest_taken }
    splits_by m ih i r ys b bs le step (Forks p q) asks rule room e =
        let h = ih (i + 1) ys (with_premise S b p) (with_premise S b q ∷ bs) le e in
        let le' : length h.second ≤ m = omega (arith, le, ap length h.whole, length-append h.first h.second) in
        let j = ih h.at h.second (with_premise S b q) bs le' h.rest_taken in
        record {
          first = r ∷ (h.first ++ j.first);
          second = j.second;
          at = j.at;
          whole = ap (λ zs. r ∷ zs) (h.whole ∙ ap (λ zs. h.first ++ zs) j.whole ∙ sym (append_assoc h.first j.first j.second));
          closed = fork r p q asks rule room.0 room.1 room.2 h.closed j.closed;
          rest_taken = j.rest_taken;
        }

    splits_step : (m : ℕ) → Hyp m → (i : ℕ) (r : Record) (ys : List Record) (b : Branch X) (bs : List (Branch X)) → length ys ≤ m → (a : Result (List (Branch X)) Refusal) → advanced S i r (b ∷ bs) ≡ a
        → followed R a (λ cs. read_on R (i + 1) cs ys rest) ≡ Ok tt → Split b bs (r ∷ ys)
    splits_step m ih i r ys b bs le (Err x) is e = err_ok x tt e
    splits_step m ih i r ys b bs le (Ok cs) is e =
        let d = doing_of S i r b bs cs is in
        splits_by m ih i r ys b bs le d.step d.outcome d.asks d.rule d.room (ap (λ ds. read_on R (i + 1) ds ys rest) d.is ∙ e)

    open_end : (i : ℕ) (zs : List ℕ) (b : Branch X) (bs : List (Branch X)) {A : Type 0} → at_end R i (b ∷ bs) zs ≡ Ok tt → A
    open_end i [] b bs e = err_ok _ tt e
    open_end i (z ∷ zs) b bs e = err_ok _ tt e

    splits : (m : ℕ) → Hyp m
    splits m i [] b bs le e = open_end i rest b bs e
    splits zero i (r ∷ ys) b bs le e = absurd (omega arith)
    splits (suc m) i (r ∷ ys) b bs le e = splits_step m (splits m) i r ys b bs (omega arith) (advanced S i r (b ∷ bs)) refl e

    closed_end : (i : ℕ) (zs : List ℕ) → at_end R i [] zs ≡ Ok tt → zs ≡ []
    closed_end i [] e = refl
    closed_end i (z ∷ zs) e = err_ok _ tt e

    ends : (i : ℕ) (ys : List Record) → read_on R i [] ys rest ≡ Ok tt → (ys ≡ []) × (rest ≡ [])
    ends i [] e = (refl, closed_end i rest e)
    ends i (r ∷ ys) e = err_ok _ tt e

    -- a listing is walked to its end
    lists : {b : Branch X} {w : ℕ} {rs : List Record} → Closed S w b rs → (bs : List (Branch X)) → length bs ≡ w → (i : ℕ) (ss : List Record) → (j : ℕ) × (read_on R i (b ∷ bs) (rs ++ ss) rest ≡ read_on R j bs ss rest)
    lists (leaf {b = b} {step = step} r asks rule) bs d i ss =
        (i + 1, ap (λ a. followed R a (λ cs. read_on R (i + 1) cs ss rest)) (advanced_by S i r b bs step Closes asks rule))
    lists (grow {b = b} {step = step} {rs = rs} r p asks rule f t) bs d i ss =
        let h = lists t bs d (i + 1) ss in
        (h.0, ap (λ a. followed R a (λ cs. read_on R (i + 1) cs (rs ++ ss) rest)) (advanced_by S i r b bs step (Goes p) asks rule ∙ room_moves S (number i) (Goes p) b bs f) ∙ h.1)
    lists (fork {b = b} {step = step} {rs = rs} {ss = rs'} r p q asks rule f f' lt t u) bs d i ss =
        let h = lists t (with_premise S b q ∷ bs) (ap suc d) (i + 1) (rs' ++ ss) in
        let j = lists u bs d h.0 ss in
        let few : length bs < S.room.waiting = omega (arith, d, lt) in
        let more : List Record = (rs ++ rs') ++ ss in (
          j.0,
          ap (λ a. followed R a (λ cs. read_on R (i + 1) cs more rest)) (advanced_by S i r b bs step (Forks p q) asks rule ∙ room_moves S (number i) (Forks p q) b bs (f, f', few))
              ∙ ap (λ zs. read_on R (i + 1) (with_premise S b p ∷ with_premise S b q ∷ bs) zs rest) (append_assoc rs rs' ss)
              ∙ h.1
              ∙ j.1,
        )

    records_listed : (b : Branch X) (rs : List Record) → read_on R 0 (b ∷ []) rs rest ≡ Ok tt → (rest ≡ []) × Closed S 0 b rs
    records_listed b rs e =
        let h = splits (length rs) 0 rs b [] (omega arith) e in
        let none = ends h.at h.second h.rest_taken in
        let is : h.first ≡ rs = sym (append-nil h.first) ∙ ap (λ zs. h.first ++ zs) (sym none.0) ∙ sym h.whole in
        (none.1, subst (Closed S 0 b) is h.closed)

    records_walked : (b : Branch X) (rs : List Record) → rest ≡ [] → Closed S 0 b rs → read_on R 0 (b ∷ []) rs rest ≡ Ok tt
    records_walked b rs whole t =
        let h = lists t [] refl 0 [] in
        sym (ap (λ zs. read_on R 0 (b ∷ []) zs rest) (append-nil rs)) ∙ h.1 ∙ ap (λ zs. at_end R h.0 [] zs) whole

  module _ (b : Branch X) (bytes : List ℕ) where
    abbrev Starts : Type 0
    Starts = length b.facts ≤ S.room.trail

    -- the end of the file, where it is bad
    bad_end : Starts → (rest : List ℕ) → (chain bytes).rest ≡ rest → (bs : List (Branch X)) → Reached S (b ∷ []) (chain bytes).records bs → (x : Refusal) → at_end R (length (chain bytes).records) bs rest ≡ Err x → Refused S b bytes x
    bad_end fit [] is [] h x e = ok_err tt x e
    bad_end fit [] is (c ∷ bs) h x e = let p : EndsEarly (number (length (chain bytes).records)) ≡ x = cc in subst (Refused S b bytes) p (ends_early c bs fit is h)
    bad_end fit (z ∷ zs) is [] h x e =
        let p : AfterClosed (number (length (chain bytes).records)) ≡ x = cc in
        subst (Refused S b bytes) p (after_closed fit (λ n. let q : ◌≡◌ {A = List ℕ} (z ∷ zs) [] = sym is ∙ n in let y : ◌≡◌ {A = ℕ} 0 1 = cc in omega arith) h)
    bad_end fit (z ∷ zs) is (c ∷ bs) h x e =
        let p : Frame (number (length (chain bytes).records)) ≡ x = cc in
        subst (Refused S b bytes) p (broken_frame c bs fit (λ n. let q : ◌≡◌ {A = List ℕ} (z ∷ zs) [] = sym is ∙ n in let y : ◌≡◌ {A = ℕ} 0 1 = cc in omega arith) h)

    told_refused : Starts → (x : Refusal) → RefusedAt R (b ∷ []) bytes x ⊎ ReadToEnd R (b ∷ []) bytes (Err x) → Refused S b bytes x
    told_refused fit x (inl a) = bad_record a.before a.after a.bad a.last fit a.parts (reached_of a.reached) (refuses_of S (length a.before) a.bad a.last x a.refusal)
    told_refused fit x (inr a) = bad_end fit (chain bytes).rest refl a.last (reached_of a.reached) x a.answer_is

    end_some : (i : ℕ) (bs : List (Branch X)) (zs : List ℕ) → (zs ≡ [] → ⊥) → at_end R i bs zs ≡ R.broken i bs
    end_some i bs [] some = absurd (some refl)
    end_some i bs (z ∷ zs) some = refl

    refused_told : {x : Refusal} → Starts → Refused S b bytes x → RefusedAt R (b ∷ []) bytes x ⊎ ReadToEnd R (b ∷ []) bytes (Err x)
    refused_told fit (too_many_facts l) = absurd (omega arith)
    refused_told fit (bad_record before after r bs f parts h bad) =
        inl (record { before = before; after = after; bad = r; last = bs; parts = parts; reached = of_reached 0 h; refusal = of_refuses S (length before) r bad })
    refused_told fit (ends_early c bs f e h) = inr (record { last = c ∷ bs; reached = of_reached 0 h; answer_is = ap (at_end R (length (chain bytes).records) (c ∷ bs)) e })
    refused_told fit (broken_frame c bs f e h) = inr (record { last = c ∷ bs; reached = of_reached 0 h; answer_is = end_some _ (c ∷ bs) (chain bytes).rest e })
    refused_told fit (after_closed f e h) = inr (record { last = []; reached = of_reached 0 h; answer_is = end_some _ [] (chain bytes).rest e })

    too_many : {x : Refusal} → S.room.trail < length b.facts → Refused S b bytes x → x ≡ NoRoom (number 0)
    too_many l (too_many_facts m) = refl
    too_many l (bad_record before after r bs f parts h bad) = absurd (omega arith)
    too_many l (ends_early c bs f e h) = absurd (omega arith)
    too_many l (broken_frame c bs f e h) = absurd (omega arith)
    too_many l (after_closed f e h) = absurd (omega arith)

    pub exactly : (r : Answer) → r ≡ examined S b bytes → Exactly S b bytes r
    exactly r e = go (leb (length b.facts) S.room.trail) refl
      where
        go : (v : Bool) → leb (length b.facts) S.room.trail ≡ v → Exactly S b bytes r
        go true fit =
            let is : r ≡ read_bytes R 0 (b ∷ []) bytes = e ∙ ap (λ t. cond t (read_bytes R 0 (b ∷ []) bytes) (Err (NoRoom (number 0)))) fit in
            let starts : Starts = leb-true _ _ fit in
            record {
              taken = (
                λ ok. let h = records_listed (chain bytes).rest b (chain bytes).records (sym is ∙ ok) in record { starts = starts; whole = h.0; closed = h.1 },
                λ l. is ∙ records_walked (chain bytes).rest b (chain bytes).records l.whole l.closed,
              );
              refused = λ x. (
                λ bad. told_refused starts x ((reads_by R (b ∷ []) bytes).refused x (sym is ∙ bad)),
                λ h. is ∙ (reads_by R (b ∷ []) bytes).refused_only x (refused_told starts h),
              );
            }
        go false fit =
            let is : r ≡ Err (NoRoom (number 0)) = e ∙ ap (λ t. cond t (read_bytes R 0 (b ∷ []) bytes) (Err (NoRoom (number 0)))) fit in
            let over : S.room.trail < length b.facts = leb-false _ _ fit in
            record {
              taken = (λ ok. err_ok _ tt (sym is ∙ ok), λ l. absurd (omega (arith, l.starts)));
              refused = λ x. (
                λ bad. let p : ◌≡◌ {A = Answer} (Err (NoRoom (number 0))) (Err x) = sym is ∙ bad in let q : NoRoom (number 0) ≡ x = cc in subst (Refused S b bytes) q (too_many_facts over),
                λ h. is ∙ ap Err (sym (too_many over h)),
              );
            }
