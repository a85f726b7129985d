-- Which records give which entries. Assumes nothing.
use Rattle.std.proofs.Common.{◌≡◌, ℕ, Bool, true, false, cond, eqb, ◌⊎◌, List, length, is_err, Some, None, Ok, Err, Option, Result, sym, refl, ap, ◌∙◌, subst, inl, inr, ⊎_elim}
use Rattle.std.proofs.lemmas.Bool.{eqb-true, eq-eqb, cond-true, true≢false}
use Rattle.records.specs.declared.numbers.RecordNumber.{RecordNumber}
use Rattle.records.specs.declared.numbers.WorldCount.{WorldCount}
use Rattle.records.specs.declared.refusal.Refusal.{Refusal}
use Rattle.records.specs.declared.refusal.Refusal.TheVariants.{Kind, OutOfRange, Frame}
use Rattle.records.specs.Chains.{Record}
use Rattle.records.specs.Kinds.{decoded}
use Rattle.kinds.specs.Contents.{world_count_of, above_of, ends_of, atom_row_of, place_of}
use Rattle.logic.specs.declared.terms.Modality.{Modality}
use Rattle.logic.specs.Modalities.{numbered_modality}
use Rattle.logic.proofs.Numbers.{numbers_name}
use Rattle.sketches.specs.declared.entry.Entry.{Entry}
use Rattle.sketches.specs.declared.entry.Entry.TheVariants.{Above, Atom, Place}
use Rattle.sketches.specs.Entries.{onward, ends_named, entry_of, worlds_fit, count_of, worlds_at}
use Rattle.sketches.specs.Laws.{rec, EntryRecord, above, ends, atom, place}

abbrev value : {X : Type 0} → X → Result X Refusal → X
value d (Ok x) = x
value d (Err e) = d

pub ok_same : {X : Type 0} (x y : X) → ◌≡◌ {A = Result X Refusal} (Ok x) (Ok y) → x ≡ y
ok_same x y h = ap (value x) h

pub err_ok : {X Y : Type 0} (e : Refusal) (x : X) → ◌≡◌ {A = Result X Refusal} (Err e) (Ok x) → Y
err_ok e x h = absurd (true≢false (ap is_err h))

-- what is taken on was taken
pub onward_ok : {X Y : Type 0} (r : Result X Refusal) (f : X → Result Y Refusal) (y : Y) → onward r f ≡ Ok y → (x : X) × (r ≡ Ok x) × (f x ≡ Ok y)
onward_ok (Ok x) f y h = (x, refl, h)
onward_ok (Err e) f y h = err_ok e y h

-- a test of two that was taken
pub cond_ok : {X : Type 0} (b : Bool) (p q : Result X Refusal) (x : X) → cond b p q ≡ Ok x → ((b ≡ true) × (p ≡ Ok x)) ⊎ ((b ≡ false) × (q ≡ Ok x))
cond_ok true p q x h = inl (refl, h)
cond_ok false p q x h = inr (refl, h)

-- a test whose refusal stands second, or first
pub cond_fits : {X : Type 0} (b : Bool) (p : Result X Refusal) (e : Refusal) (x : X) → cond b p (Err e) ≡ Ok x → (b ≡ true) × (p ≡ Ok x)
cond_fits true p e x h = (refl, h)
cond_fits false p e x h = err_ok e x h

pub cond_not : {X : Type 0} (b : Bool) (p : Result X Refusal) (e : Refusal) (x : X) → cond b (Err e) p ≡ Ok x → (b ≡ false) × (p ≡ Ok x)
cond_not true p e x h = err_ok e x h
cond_not false p e x h = (refl, h)

-- a body of the right size
decoded_ok : {X : Type 0} (size : ℕ) (content : List ℕ → X) (b : List ℕ) (at : RecordNumber) (x : X) → decoded size content b at ≡ Ok x → (length b ≡ size) × (content b ≡ x)
decoded_ok size content b at x h =
    let both = cond_fits (eqb (length b) size) (Ok (content b)) (Frame at) x h in
    (eqb-true (length b) size both.0, ok_same (content b) x both.1)

decoded_is : {X : Type 0} (size : ℕ) (content : List ℕ → X) (b : List ℕ) (at : RecordNumber) → length b ≡ size → decoded size content b at ≡ Ok (content b)
decoded_is size content b at h = cond-true (eqb (length b) size) (Ok (content b)) (Err (Frame at)) (eq-eqb (length b) size h)

-- a body of the right size, made into something else
made_ok : {X Y : Type 0} (size : ℕ) (content : List ℕ → X) (f : X → Result Y Refusal) (b : List ℕ) (at : RecordNumber) (y : Y) → onward (decoded size content b at) f ≡ Ok y → (length b ≡ size) × (f (content b) ≡ Ok y)
made_ok size content f b at y h =
    let some = onward_ok (decoded size content b at) f y h in
    let body = decoded_ok size content b at some.0 some.1 in
    (body.0, ap f body.1 ∙ some.2)

ends_ok : (o : Option Modality) (b : List ℕ) (at : RecordNumber) (e : Entry) → numbered_modality (ends_of b).modality.0 ≡ o → length b ≡ 10 → ends_named o (ends_of b) at ≡ Ok e → EntryRecord (rec 22 b) e
ends_ok None b at e is long h = err_ok (OutOfRange at) e h
ends_ok (Some k) b at e is long h = subst (EntryRecord (rec 22 b)) (ok_same _ e h) (ends k b long (sym (numbers_name.only (ends_of b).modality.0 k is)))

-- a record that gives an entry is that entry's record
pub entry_record : (kind : ℕ) (b : List ℕ) (at : RecordNumber) (e : Entry) → entry_of kind b at ≡ Ok e → EntryRecord (rec kind b) e
entry_record kind b at e h =
    ⊎_elim
    (λ (y : (eqb kind 21 ≡ true) × (onward (decoded 6 above_of b at) (λ r. Ok (Above r.world (record { 0 = r.mask.0 }))) ≡ Ok e)).
    let body = made_ok 6 above_of (λ r. Ok (Above r.world (record { 0 = r.mask.0 }))) b at e y.1 in
    subst (λ k. EntryRecord (rec k b) e) (sym (eqb-true kind 21 y.0)) (subst (EntryRecord (rec 21 b)) (ok_same _ e body.1) (above b body.0)))
    (λ no21. ⊎_elim
    (λ (y : (eqb kind 22 ≡ true) × (onward (decoded 10 ends_of b at) (λ r. ends_named (numbered_modality r.modality.0) r at) ≡ Ok e)).
    let body = made_ok 10 ends_of (λ r. ends_named (numbered_modality r.modality.0) r at) b at e y.1 in
    subst (λ k. EntryRecord (rec k b) e) (sym (eqb-true kind 22 y.0)) (ends_ok (numbered_modality (ends_of b).modality.0) b at e refl body.0 body.1))
    (λ no22. ⊎_elim
    (λ (y : (eqb kind 23 ≡ true) × (onward (decoded 6 atom_row_of b at) (λ r. Ok (Atom r.atom (record { 0 = r.mask.0 }))) ≡ Ok e)).
    let body = made_ok 6 atom_row_of (λ r. Ok (Atom r.atom (record { 0 = r.mask.0 }))) b at e y.1 in
    subst (λ k. EntryRecord (rec k b) e) (sym (eqb-true kind 23 y.0)) (subst (EntryRecord (rec 23 b)) (ok_same _ e body.1) (atom b body.0)))
    (λ no23.
    let y = cond_fits (eqb kind 24) (onward (decoded 4 place_of b at) (λ p. Ok (Place p.label p.world))) (Kind at) e no23.1 in
    let body = made_ok 4 place_of (λ p. Ok (Place p.label p.world)) b at e y.1 in
    subst (λ k. EntryRecord (rec k b) e) (sym (eqb-true kind 24 y.0)) (subst (EntryRecord (rec 24 b)) (ok_same _ e body.1) (place b body.0)))
    (cond_ok (eqb kind 23) _ _ e no22.1))
    (cond_ok (eqb kind 22) _ _ e no21.1))
    (cond_ok (eqb kind 21) _ _ e h)

-- an entry's record gives that entry
pub record_entry : (r : Record) (at : RecordNumber) (e : Entry) → EntryRecord r e → entry_of r.kind r.body at ≡ Ok e
record_entry r at e (above b long) = ap (λ x. onward x λ r. Ok (Above r.world (record { 0 = r.mask.0 }))) (decoded_is 6 above_of b at long)
record_entry r at e (ends k b long is) =
    ap (λ x. onward x λ r. ends_named (numbered_modality r.modality.0) r at) (decoded_is 10 ends_of b at long)
    ∙ ap (λ o. ends_named o (ends_of b) at) (ap numbered_modality is ∙ numbers_name.named k)
record_entry r at e (atom b long) = ap (λ x. onward x λ r. Ok (Atom r.atom (record { 0 = r.mask.0 }))) (decoded_is 6 atom_row_of b at long)
record_entry r at e (place b long) = ap (λ x. onward x λ p. Ok (Place p.label p.world)) (decoded_is 4 place_of b at long)

-- the first record
pub count_record : (kind : ℕ) (b : List ℕ) (at : RecordNumber) (W : WorldCount) → worlds_at kind b at ≡ Ok W → (kind ≡ 20) × (length b ≡ 2) × (W ≡ world_count_of b) × (worlds_fit W.0 ≡ true)
count_record kind b at W h =
    let some = onward_ok (count_of kind b at) (λ V. cond (worlds_fit V.0) (Ok V) (Err (OutOfRange at))) W h in
    let of_kind = cond_fits (eqb kind 20) (decoded 2 world_count_of b at) (Kind at) some.0 some.1 in
    let body = decoded_ok 2 world_count_of b at some.0 of_kind.1 in
    let fits = cond_fits (worlds_fit some.0.0) (Ok some.0) (OutOfRange at) W some.2 in
    let same : some.0 ≡ W = ok_same some.0 W fits.1 in
    (eqb-true kind 20 of_kind.0, body.0, sym same ∙ sym body.1, subst (λ V. worlds_fit V.0 ≡ true) same fits.0)

pub record_count : (b : List ℕ) (at : RecordNumber) → length b ≡ 2 → worlds_fit (world_count_of b).0 ≡ true → worlds_at 20 b at ≡ Ok (world_count_of b)
record_count b at long fits =
    ap (λ x. onward x λ V. cond (worlds_fit V.0) (Ok V) (Err (OutOfRange at))) (decoded_is 2 world_count_of b at long)
    ∙ cond-true (worlds_fit (world_count_of b).0) (Ok (world_count_of b)) (Err (OutOfRange at)) fits
