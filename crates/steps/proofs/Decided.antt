-- One record: what it does, or why it is refused, in the words of the rules. Assumes nothing.
use Rattle.std.proofs.Common.{◌≡◌, ℕ, ◌+◌, ◌<◌, Bool, true, false, cond, ◌&&◌, T, eqb, ltb, leb, ◌⊎◌, List, [], ◌∷◌, length, Some, None, Ok, Err, Option, Result, sym, refl, ap, ◌∙◌, subst, inl, inr, arith}
use mathlib.Core.Bool.{false≢true}
use Rattle.std.proofs.lemmas.Bool.{and_parts, leb-true, le-leb, ltb-true, lt-ltb}
use Rattle.records.specs.declared.numbers.Label.{Label}
use Rattle.records.specs.declared.numbers.RecordNumber.{RecordNumber}
use Rattle.records.specs.declared.refusal.Refusal.{Refusal}
use Rattle.records.specs.declared.refusal.Refusal.TheVariants.{NotAsNeeded, NoRoom}
use Rattle.records.specs.Chains.{Record}
use Rattle.records.specs.Kinds.{decoded}
use Rattle.piles.specs.declared.terms.Layout.{Layout}
use Rattle.rules.specs.declared.outcome.Growth.{Growth}
use Rattle.rules.specs.declared.outcome.Outcome.{Outcome}
use Rattle.rules.specs.declared.outcome.Outcome.TheVariants.{Closes, Goes, Forks}
use Rattle.rules.specs.declared.step.Step.{Step}
use Rattle.rules.specs.declared.step.Step.TheVariants.{AtomsClose, FalsityCloses, AndLeft, AndRight, OrLeft, OrRight, ImpliesLeft, ImpliesRight, ModalLeft, ModalRight, PermittedLeft, PermittedRight, Transitive, Monotone}
use Rattle.rules.specs.Contents.{one_position, one_label, closing_at, left_order_at, left_arrow_at, right_arrow_at, two_orders_at, order_arrow_order_at}
use Rattle.rules.specs.Applying.{applied}
use Rattle.rules.specs.Decoding.{onward, number_at, pack_step, label_below, step_of, layout_size, positions_width, width}
use Rattle.rules.specs.Outcomes.{listed}
use Rattle.rules.specs.Rules.{Rule}
use Rattle.rules.proofs.Computes.{computes_rules}
use Rattle.steps.specs.Branches.{Branch, Setting, number, label_fits, has_room, moved, scene, advanced}
use Rattle.steps.specs.Derivations.{Asks, Fits, RoomFor, open_then, Does, does, Refuses, none_open, no_step, not_as_needed, no_room}

pub err_ok : {X A : Type 0} (e : Refusal) (x : X) → ◌≡◌ {A = Result X Refusal} (Err e) (Ok x) → A
err_ok e x p = let z : ◌≡◌ {A = ℕ} 0 1 = cc in absurd (omega arith)

pub ok_err : {X A : Type 0} (x : X) (e : Refusal) → ◌≡◌ {A = Result X Refusal} (Ok x) (Err e) → A
ok_err x e p = let z : ◌≡◌ {A = ℕ} 0 1 = cc in absurd (omega arith)

-- where the first is read, the second is read as the same
record Alike {X : Type 0} (a b : Result X Refusal) : Type 0 where
  same : (x : X) → a ≡ Ok x → b ≡ Ok x

alike_ok : {X : Type 0} (x : X) → Alike (Ok x) (Ok x)
alike_ok x = record { same = λ y e. e }

alike_err : {X : Type 0} (e : Refusal) (b : Result X Refusal) → Alike (Err e) b
alike_err e b = record { same = λ y p. err_ok e y p }

alike_cond : {X : Type 0} (v : Bool) (a b c d : Result X Refusal) → Alike a b → Alike c d → Alike (cond v a c) (cond v b d)
alike_cond true a b c d p q = p
alike_cond false a b c d p q = q

alike_onward : {X Y : Type 0} (a b : Result X Refusal) (f g : X → Result Y Refusal) → Alike a b → ((x : X) → Alike (f x) (g x)) → Alike (onward a f) (onward b g)
alike_onward (Ok x) b f g p h = record { same = λ y e. ap (λ c. onward c g) (p.same x refl) ∙ (h x).same y e }
alike_onward (Err e) b f g p h = alike_err e (onward b g)

-- whatever the record's number
module _ (at at' : RecordNumber) where
  alike_body : {X : Type 0} (size : ℕ) (content : List ℕ → X) (body : List ℕ) → Alike (decoded size content body at) (decoded size content body at')
  alike_body size content body = alike_cond (eqb (length body) size) _ _ _ _ (alike_ok (content body)) (alike_err _ _)

  alike_row : {X : Type 0} (size : ℕ) (content : List ℕ → X) (body : List ℕ) (k : X → Step) → Alike (onward (decoded size content body at) (λ c. Ok (k c))) (onward (decoded size content body at') (λ c. Ok (k c)))
  alike_row size content body k = alike_onward _ _ _ _ (alike_body size content body) (λ c. alike_ok (k c))

  alike_label : (n : ℕ) (x : Label) → Alike (label_below n at x) (label_below n at' x)
  alike_label n x = alike_cond (ltb x.0 n) _ _ _ _ (alike_ok _) (alike_err _ _)

  alike_number : (body : List ℕ) (i : ℕ) (wanted : Bool) (limit : ℕ) → Alike (number_at body i wanted limit at) (number_at body i wanted limit at')
  alike_number body i wanted limit = alike_cond wanted _ _ _ _ (alike_cond _ _ _ _ _ (alike_ok _) (alike_err _ _)) (alike_ok _)

  alike_pack : (P n kind : ℕ) (body : List ℕ) (o : Option Layout) → Alike (pack_step P n kind body at o) (pack_step P n kind body at' o)
  alike_pack P n kind body None = alike_err _ _
  alike_pack P n kind body (Some b) =
      alike_cond (eqb (length body) (layout_size b)) _ _ _ _
      (alike_onward _ _ _ _ (alike_number body (positions_width b.positions) b.label n) λ label.
      alike_onward _ _ _ _ (alike_number body (positions_width b.positions + width b.label) b.principal P) λ principal. alike_ok _)
      (alike_err _ _)

  alike_steps : (layouts : ℕ → Option Layout) (P n : ℕ) (r : Record) → Alike (step_of layouts P n r at) (step_of layouts P n r at')
  alike_steps layouts P n r =
      (alike_cond (eqb r.kind 32) _ _ _ _ (alike_row 6 closing_at r.body AtomsClose)
      (alike_cond (eqb r.kind 33) _ _ _ _ (alike_row 2 one_position r.body FalsityCloses)
      (alike_cond (eqb r.kind 34) _ _ _ _ (alike_row 2 one_position r.body AndLeft)
      (alike_cond (eqb r.kind 35) _ _ _ _ (alike_row 2 one_position r.body AndRight)
      (alike_cond (eqb r.kind 36) _ _ _ _ (alike_row 2 one_position r.body OrLeft)
      (alike_cond (eqb r.kind 37) _ _ _ _ (alike_row 2 one_position r.body OrRight)
      (alike_cond (eqb r.kind 38) _ _ _ _ (alike_row 4 left_order_at r.body ImpliesLeft)
      (alike_cond (eqb r.kind 39) _ _ _ _ (alike_row 2 one_position r.body ImpliesRight)
      (alike_cond (eqb r.kind 40) _ _ _ _ (alike_row 4 left_arrow_at r.body ModalLeft)
      (alike_cond (eqb r.kind 41) _ _ _ _ (alike_row 2 one_position r.body ModalRight)
      (alike_cond (eqb r.kind 42) _ _ _ _ (alike_row 2 one_position r.body PermittedLeft)
      (alike_cond (eqb r.kind 43) _ _ _ _ (alike_row 4 right_arrow_at r.body PermittedRight)
      (alike_cond (eqb r.kind 44) _ _ _ _ (alike_onward _ _ _ _ (alike_body 2 one_label r.body) (λ x. alike_label n x))
      (alike_cond (eqb r.kind 45) _ _ _ _ (alike_row 4 two_orders_at r.body Transitive)
      (alike_cond (eqb r.kind 46) _ _ _ _ (alike_row 6 order_arrow_order_at r.body Monotone)
      (alike_pack P n r.kind r.body (layouts r.kind)))))))))))))))))

label_true : (n : ℕ) (b : Bool) → label_fits n b ≡ true → T b → n < 32
label_true n true e t = ltb-true n 32 e
label_true n false e t = absurd t

true_label : (n : ℕ) (b : Bool) → (T b → n < 32) → label_fits n b ≡ true
true_label n true h = lt-ltb n 32 (h tt)
true_label n false h = refl

module _ {X F : Type 0} (S : Setting X F) where
  pub asks_any : (b : Branch X) (r : Record) (at : RecordNumber) (step : Step) → step_of S.layouts S.principals b.labels r at ≡ Ok step → Asks S b r step
  asks_any b r at step e at' = (alike_steps at at' S.layouts S.principals b.labels r).same step e

  abbrev roomy : Branch X → Growth F → Bool
  roomy b p = has_room S.lays S.room b p

  pub fits_so : (b : Branch X) (p : Growth F) → roomy b p ≡ true → Fits S b p
  fits_so b p e =
      let parts = and_parts (leb (length b.facts + length (listed p.facts)) S.room.trail) (label_fits b.labels p.opens) e in
      record { trail = leb-true _ _ parts.0; label = label_true b.labels p.opens parts.1 }

  pub so_fits : (b : Branch X) (p : Growth F) → Fits S b p → roomy b p ≡ true
  so_fits b p f = rw (le-leb _ _ f.trail, true_label b.labels p.opens f.label)

  -- there is room, or not
  pub record Moves (at : RecordNumber) (o : Outcome F) (b : Branch X) (bs : List (Branch X)) : Type 0 where
    pub room : RoomFor S b bs o
    pub result : moved S.lays S.room at (Some o) b bs ≡ Ok (open_then S b bs o)

  pub record Stuck (at : RecordNumber) (o : Outcome F) (b : Branch X) (bs : List (Branch X)) : Type 0 where
    pub none : RoomFor S b bs o → ⊥
    pub result : moved S.lays S.room at (Some o) b bs ≡ Err (NoRoom at)

  pub decided : (at : RecordNumber) (o : Outcome F) (b : Branch X) (bs : List (Branch X)) → Moves at o b bs ⊎ Stuck at o b bs
  decided at Closes b bs = inl (record { room = tt; result = refl })
  decided at (Goes p) b bs = go (roomy b p) refl
    where
      go : (v : Bool) → roomy b p ≡ v → Moves at (Goes p) b bs ⊎ Stuck at (Goes p) b bs
      go true e = inl (record { room = fits_so b p e; result = ap (λ v. cond v (Ok (open_then S b bs (Goes p))) (Err (NoRoom at))) e })
      go false e = inr (record { none = λ f. false≢true (sym e ∙ so_fits b p f); result = ap (λ v. cond v (Ok (open_then S b bs (Goes p))) (Err (NoRoom at))) e })
  decided at (Forks p q) b bs = go (roomy b p && (roomy b q && ltb (length bs) S.room.waiting)) refl
    where
      go : (v : Bool) → (roomy b p && (roomy b q && ltb (length bs) S.room.waiting)) ≡ v → Moves at (Forks p q) b bs ⊎ Stuck at (Forks p q) b bs
      go true e =
          let f = and_parts (roomy b p) (roomy b q && ltb (length bs) S.room.waiting) e in
          let g = and_parts (roomy b q) (ltb (length bs) S.room.waiting) f.1 in
          inl (record { room = (fits_so b p f.0, fits_so b q g.0, ltb-true _ _ g.1); result = ap (λ v. cond v (Ok (open_then S b bs (Forks p q))) (Err (NoRoom at))) e })
      go false e =
          inr (record {
            none = λ f. false≢true (sym e ∙ rw (so_fits b p f.0, so_fits b q f.1, lt-ltb _ _ f.2));
            result = ap (λ v. cond v (Ok (open_then S b bs (Forks p q))) (Err (NoRoom at))) e;
          })

  -- where there is room, the branches go on
  pub room_moves : (at : RecordNumber) (o : Outcome F) (b : Branch X) (bs : List (Branch X)) → RoomFor S b bs o → moved S.lays S.room at (Some o) b bs ≡ Ok (open_then S b bs o)
  room_moves at o b bs room = elim (decided at o b bs) [ inl m ↦ m.result | inr s ↦ absurd (s.none room) ]

  pub stuck_moves : (at : RecordNumber) (o : Outcome F) (b : Branch X) (bs : List (Branch X)) → (RoomFor S b bs o → ⊥) → moved S.lays S.room at (Some o) b bs ≡ Err (NoRoom at)
  stuck_moves at o b bs none = elim (decided at o b bs) [ inl m ↦ absurd (none m.room) | inr s ↦ s.result ]

  -- what a good record does, by its parts
  pub record Doing (r : Record) (b : Branch X) (bs cs : List (Branch X)) : Type 0 where
    pub step : Step
    pub outcome : Outcome F
    pub asks : Asks S b r step
    pub rule : Rule (scene S b) step outcome
    pub room : RoomFor S b bs outcome
    pub is : open_then S b bs outcome ≡ cs

  abbrev read_as : Branch X → Record → RecordNumber → Result Step Refusal
  read_as b r at = step_of S.layouts S.principals b.labels r at

  pub advanced_by : (i : ℕ) (r : Record) (b : Branch X) (bs : List (Branch X)) (step : Step) (o : Outcome F) → Asks S b r step → Rule (scene S b) step o
      → advanced S i r (b ∷ bs) ≡ moved S.lays S.room (number i) (Some o) b bs
  advanced_by i r b bs step o asks rule =
      ap (λ d. onward d (λ s. moved S.lays S.room (number i) (applied (scene S b) s) b bs)) (asks (number i))
      ∙ ap (λ a. moved S.lays S.room (number i) a b bs) ((computes_rules (scene S b) step o).1 rule)

  pub doing_of : (i : ℕ) (r : Record) (b : Branch X) (bs cs : List (Branch X)) → advanced S i r (b ∷ bs) ≡ Ok cs → Doing r b bs cs
  doing_of i r b bs cs e = by_step (read_as b r (number i)) refl e
    where
      by_room : (step : Step) → Asks S b r step → (o : Outcome F) → Rule (scene S b) step o → Moves (number i) o b bs ⊎ Stuck (number i) o b bs → moved S.lays S.room (number i) (Some o) b bs ≡ Ok cs → Doing r b bs cs
      by_room step asks o rule (inl m) p =
          let q : ◌≡◌ {A = Result (List (Branch X)) Refusal} (Ok (open_then S b bs o)) (Ok cs) = sym m.result ∙ p in
          record { step = step; outcome = o; asks = asks; rule = rule; room = m.room; is = cc }
      by_room step asks o rule (inr s) p = err_ok (NoRoom (number i)) cs (sym s.result ∙ p)

      by_outcome : (step : Step) → Asks S b r step → (a : Option (Outcome F)) → applied (scene S b) step ≡ a → moved S.lays S.room (number i) a b bs ≡ Ok cs → Doing r b bs cs
      by_outcome step asks None h p = err_ok (NotAsNeeded (number i)) cs p
      by_outcome step asks (Some o) h p = by_room step asks o ((computes_rules (scene S b) step o).0 h) (decided (number i) o b bs) p

      by_step : (d : Result Step Refusal) → read_as b r (number i) ≡ d → onward d (λ s. moved S.lays S.room (number i) (applied (scene S b) s) b bs) ≡ Ok cs → Doing r b bs cs
      by_step (Err x) h p = err_ok x cs p
      by_step (Ok step) h p = by_outcome step (asks_any b r (number i) step h) (applied (scene S b) step) refl p

  pub does_of : (i : ℕ) (r : Record) (bs cs : List (Branch X)) → advanced S i r bs ≡ Ok cs → Does S r bs cs
  does_of i r [] cs e = err_ok _ cs e
  does_of i r (b ∷ bs) cs e = let d = doing_of i r b bs cs e in subst (Does S r (b ∷ bs)) d.is (does d.asks d.rule d.room)

  pub of_does : (i : ℕ) (r : Record) {bs cs : List (Branch X)} → Does S r bs cs → advanced S i r bs ≡ Ok cs
  of_does i r (does {b = b} {bs = bs} {step = step} {o = o} asks rule room) = advanced_by i r b bs step o asks rule ∙ room_moves (number i) o b bs room

  pub refuses_of : (i : ℕ) (r : Record) (bs : List (Branch X)) (x : Refusal) → advanced S i r bs ≡ Err x → Refuses S (number i) r bs x
  refuses_of i r [] x e = let p : _ ≡ x = cc in subst (Refuses S (number i) r []) p none_open
  refuses_of i r (b ∷ bs) x e = by_step (read_as b r (number i)) refl e
    where
      by_room : (step : Step) → Asks S b r step → (o : Outcome F) → Rule (scene S b) step o → Moves (number i) o b bs ⊎ Stuck (number i) o b bs → moved S.lays S.room (number i) (Some o) b bs ≡ Err x → Refuses S (number i) r (b ∷ bs) x
      by_room step asks o rule (inl m) p = ok_err _ x (sym m.result ∙ p)
      by_room step asks o rule (inr s) p =
          let q : ◌≡◌ {A = Result (List (Branch X)) Refusal} (Err (NoRoom (number i))) (Err x) = sym s.result ∙ p in
          let is : NoRoom (number i) ≡ x = cc in
          subst (Refuses S (number i) r (b ∷ bs)) is (no_room asks rule s.none)

      by_outcome : (step : Step) → Asks S b r step → (a : Option (Outcome F)) → applied (scene S b) step ≡ a → moved S.lays S.room (number i) a b bs ≡ Err x → Refuses S (number i) r (b ∷ bs) x
      by_outcome step asks None h p =
          let is : NotAsNeeded (number i) ≡ x = cc in
          subst (Refuses S (number i) r (b ∷ bs)) is
          (not_as_needed asks λ o rule. let z : ◌≡◌ {A = Option (Outcome F)} None (Some o) = sym h ∙ (computes_rules (scene S b) step o).1 rule in let y : ◌≡◌ {A = ℕ} 0 1 = cc in omega arith)
      by_outcome step asks (Some o) h p = by_room step asks o ((computes_rules (scene S b) step o).0 h) (decided (number i) o b bs) p

      by_step : (d : Result Step Refusal) → read_as b r (number i) ≡ d → onward d (λ s. moved S.lays S.room (number i) (applied (scene S b) s) b bs) ≡ Err x → Refuses S (number i) r (b ∷ bs) x
      by_step (Err y) h p = let is : y ≡ x = cc in no_step (h ∙ ap Err is)
      by_step (Ok step) h p = by_outcome step (asks_any b r (number i) step h) (applied (scene S b) step) refl p

  none_applied : (b : Branch X) (step : Step) → ((o : Outcome F) → Rule (scene S b) step o → ⊥) → applied (scene S b) step ≡ None
  none_applied b step none = go (applied (scene S b) step) refl
    where
      go : (a : Option (Outcome F)) → applied (scene S b) step ≡ a → applied (scene S b) step ≡ None
      go None h = h
      go (Some o) h = absurd (none o ((computes_rules (scene S b) step o).0 h))

  pub of_refuses : (i : ℕ) (r : Record) {bs : List (Branch X)} {x : Refusal} → Refuses S (number i) r bs x → advanced S i r bs ≡ Err x
  of_refuses i r none_open = refl
  of_refuses i r (no_step {b = b} {bs = bs} e) = ap (λ d. onward d (λ s. moved S.lays S.room (number i) (applied (scene S b) s) b bs)) e
  of_refuses i r (not_as_needed {b = b} {bs = bs} {step = step} asks none) =
      ap (λ d. onward d (λ s. moved S.lays S.room (number i) (applied (scene S b) s) b bs)) (asks (number i))
      ∙ ap (λ a. moved S.lays S.room (number i) a b bs) (none_applied b step none)
  of_refuses i r (no_room {b = b} {bs = bs} {step = step} {o = o} asks rule none) = advanced_by i r b bs step o asks rule ∙ stuck_moves (number i) o b bs none
