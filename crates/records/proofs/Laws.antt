-- Every list of bytes is a chain of records in exactly one way. Assumes nothing.
use Rattle.std.proofs.Common.{◌≡◌, ℕ, zero, suc, ◌+◌, ◌-◌, ◌*◌, ◌<◌, ◌≤◌, ◌⊎◌, List, [], ◌∷◌, ◌++◌, length, take, drop, sym, refl, ap, ◌∙◌, subst, inl, inr, ⊎_elim, append_assoc, arith, length-append, take-append-drop}
use Rattle.std.proofs.lemmas.List.{take_at, drop_at, length-take-le, nil_from_length}
use Rattle.std.proofs.lemmas.Bool.{cond-false, cond-true, le-ltb, lt-ltb, cases_lt}
use Rattle.records.specs.Bytes.{word}
use Rattle.records.specs.Chains.{Record, Front, whole, cut, front, Chain, put, stopped, chain_by, Joined, none, more, Broken, IsChain, OneChain}
use Rattle.records.proofs.Fronts.{front_whole, front_is, front_parts, Parts}

-- a record that stands at the front is found there
pub front_at : (a b c d : ℕ) (body bs : List ℕ) → a + b * 256 ≡ 2 + length body → front (a ∷ b ∷ c ∷ d ∷ (body ++ bs)) ≡ whole (record { kind = c + d * 256; body = body }) bs
front_at a b c d body bs long =
    let size : length (a ∷ b ∷ c ∷ d ∷ (body ++ bs)) ≡ 4 + (length body + length bs) = simp length-append (omega arith) in
    front_is (a ∷ b ∷ c ∷ d ∷ (body ++ bs)) (a + b * 256) (c + d * 256) body bs (omega arith) refl (omega arith) (omega arith) refl
    (sym (take_at body bs (2 + (a + b * 256) - 4) (omega arith)))
    (sym (drop_at (a ∷ b ∷ c ∷ d ∷ body) bs (2 + (a + b * 256)) (omega arith)))

-- bytes that begin no record are cut at their front
pub front_broken : (bs : List ℕ) → Broken bs → front bs ≡ cut
front_broken bs h =
    ⊎_elim (λ a. cond-true _ _ _ (lt-ltb (length bs) 2 a))
    (λ a. cond-false _ _ _ (le-ltb (length bs) 2 a) ∙
    ⊎_elim (λ b. cond-true _ _ _ (lt-ltb (word bs 0) 2 b))
    (λ b. cond-false _ _ _ (le-ltb (word bs 0) 2 b) ∙ cond-true _ _ _ (lt-ltb (length bs) (2 + word bs 0) (past bs a b h.cause)))
    (cases_lt (word bs 0) 2))
    (cases_lt (length bs) 2)
  where
    past : (bs : List ℕ) → 2 ≤ length bs → 2 ≤ word bs 0 → (length bs < 2) ⊎ ((word bs 0 < 2) ⊎ (length bs < 2 + word bs 0)) → length bs < 2 + word bs 0
    past bs a b c = ⊎_elim (λ d. absurd (omega arith)) (⊎_elim (λ d. absurd (omega arith)) (λ d. d)) c

never : {A : Type 0} (r : Record) (rest : List ℕ) → whole r rest ≡ cut → A
never r rest e = let z : ◌≡◌ {A = ℕ} 0 1 = cc in absurd (omega arith)

-- what is cut is empty or broken
pub cut_ends : (bs : List ℕ) → front bs ≡ cut → (bs ≡ []) ⊎ Broken bs
cut_ends [] e = inl refl
cut_ends (x ∷ xs) e = inr (record { some = omega arith; cause = why (x ∷ xs) e })
  where
    why : (bs : List ℕ) → front bs ≡ cut → (length bs < 2) ⊎ ((word bs 0 < 2) ⊎ (length bs < 2 + word bs 0))
    why bs e =
        ⊎_elim (λ a. inl a)
        (λ a. inr (⊎_elim (λ b. inl b)
        (λ b. inr (⊎_elim (λ d. d) (λ d. never _ _ (sym (front_whole bs a b d) ∙ e)) (cases_lt (length bs) (2 + word bs 0))))
        (cases_lt (word bs 0) 2)))
        (cases_lt (length bs) 2)

abbrev pub go_on : ℕ → List ℕ → Front → Chain
go_on n bs f = elim f [ cut ↦ stopped bs | whole r rest ↦ put r (chain_by n rest) ]

abbrev Is : List ℕ → Chain → Type 0
Is bs c = IsChain bs c.records c.rest

-- a record in front of a chain is a chain
put_is : (a b c d : ℕ) (tail : List ℕ) (r : Record) (rest : List ℕ) (k : Chain) → Parts (a ∷ b ∷ c ∷ d ∷ tail) r rest → Is rest k → Is (a ∷ b ∷ c ∷ d ∷ tail) (put r k)
put_is a b c d tail r rest k p h =
    let m : ℕ = a + b * 256 - 2 in
    let body : List ℕ = take m tail in
    let long : length body ≡ m = length-take-le m tail (omega (arith, p.fits, p.long)) in
    let rest_at : rest ≡ drop m tail = p.rest_is ∙ ap (λ n. drop n (a ∷ b ∷ c ∷ d ∷ tail)) (let e : 2 + (a + b * 256) ≡ suc (suc (suc (suc m))) = omega (arith, p.long) in e) in
    record {
      front_part = a ∷ b ∷ c ∷ d ∷ (body ++ h.front_part);
      joined = subst (λ q. Joined (q ∷ k.records) (a ∷ b ∷ c ∷ d ∷ (body ++ h.front_part))) (sym p.record_is) (more a b c d body (omega (arith, long, p.long)) h.joined);
      parts = ap (λ l. a ∷ b ∷ c ∷ d ∷ l) (sym (take-append-drop m tail) ∙ ap (λ l. body ++ l) (sym rest_at ∙ h.parts) ∙ sym (append_assoc body h.front_part k.rest));
      end = h.end;
    }

pub front_put : (bs : List ℕ) (r : Record) (rest : List ℕ) (k : Chain) → Parts bs r rest → Is rest k → Is bs (put r k)
front_put [] r rest k p h = absurd (omega (arith, p.some))
front_put (a ∷ []) r rest k p h = absurd (omega (arith, p.some))
front_put (a ∷ b ∷ []) r rest k p h = absurd (omega (arith, p.fits, p.long))
front_put (a ∷ b ∷ c ∷ []) r rest k p h = absurd (omega (arith, p.fits, p.long))
front_put (a ∷ b ∷ c ∷ d ∷ tail) r rest k p h = put_is a b c d tail r rest k p h

pub cut_is : (bs : List ℕ) → front bs ≡ cut → Is bs (stopped bs)
cut_is bs e = record { front_part = []; joined = none; parts = refl; end = cut_ends bs e }

step_is : (n : ℕ) (bs : List ℕ) (f : Front) → front bs ≡ f → length bs ≤ suc n → ((cs : List ℕ) → length cs ≤ n → Is cs (chain_by n cs)) → Is bs (go_on n bs f)
step_is n bs cut e few ih = cut_is bs e
step_is n bs (whole r rest) e few ih =
    let p = front_parts bs r rest e in
    front_put bs r rest (chain_by n rest) p (ih rest (omega (arith, p.length_is, p.long)))

pub chain_is : (n : ℕ) (bs : List ℕ) → length bs ≤ n → Is bs (chain_by n bs)
chain_is zero bs few = record { front_part = []; joined = none; parts = refl; end = inl (nil_from_length bs (omega arith)) }
chain_is (suc n) bs few = step_is n bs (front bs) refl few (chain_is n)

-- where nothing begins, the chain stops
stops : (n : ℕ) (bs : List ℕ) → (bs ≡ []) ⊎ Broken bs → chain_by n bs ≡ stopped bs
stops zero bs e = refl
stops (suc n) bs e = ap (go_on n bs) (⊎_elim (λ none. ap front none) (front_broken bs) e)

abbrev Agrees : List Record → List ℕ → Chain → Type 0
Agrees rs rest c = (rs ≡ c.records) × (rest ≡ c.rest)

pub chain_only : (n : ℕ) (bs : List ℕ) {rs : List Record} {part : List ℕ} (rest : List ℕ) → length bs ≤ n → Joined rs part → bs ≡ part ++ rest → (rest ≡ []) ⊎ Broken rest → Agrees rs rest (chain_by n bs)
chain_only n bs rest few none e end =
    let is : chain_by n bs ≡ stopped rest = ap (chain_by n) e ∙ stops n rest end in
    (ap (λ c. c.records) (sym is), ap (λ c. c.rest) (sym is))
chain_only zero bs rest few (more a b c d body long j) e end = absurd (omega (arith, ap length e))
chain_only (suc n) bs rest few (more {bs = part} a b c d body long j) e end =
    let same : bs ≡ a ∷ b ∷ c ∷ d ∷ (body ++ (part ++ rest)) = e ∙ ap (λ l. a ∷ b ∷ c ∷ d ∷ l) (append_assoc body part rest) in
    let found : front bs ≡ whole (record { kind = c + d * 256; body = body }) (part ++ rest) = ap front same ∙ front_at a b c d body (part ++ rest) long in
    let less = front_parts bs _ (part ++ rest) found in
    let ih = chain_only n (part ++ rest) rest (omega (arith, less.length_is, less.long)) j refl end in
    let is : chain_by (suc n) bs ≡ put (record { kind = c + d * 256; body = body }) (chain_by n (part ++ rest)) = ap (go_on n bs) found in
    (ap (λ l. record { kind = c + d * 256; body = body } ∷ l) ih.0 ∙ ap (λ k. k.records) (sym is), ih.1 ∙ ap (λ k. k.rest) (sym is))

-- every list of bytes is a chain in exactly one way
pub one_chain : (bs : List ℕ) → OneChain bs
one_chain bs = record {
  is = chain_is (length bs) bs (omega arith);
  only = λ rs rest h. chain_only (length bs) bs rest (omega arith) h.joined h.parts h.end;
}
