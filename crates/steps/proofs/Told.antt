-- What is known of a step that a record asks for: its label and principal are in range, and a pack's kind has a body. Assumes nothing.
use Rattle.std.proofs.Common.{◌≡◌, ℕ, ◌+◌, ◌<◌, Bool, true, false, cond, eqb, ltb, List, length, is_some, Some, None, Ok, Err, Option, Result, refl, subst, arith}
use Rattle.std.proofs.lemmas.Bool.{ltb-true}
use Rattle.records.specs.declared.numbers.RecordNumber.{RecordNumber}
use Rattle.records.specs.declared.refusal.Refusal.{Refusal}
use Rattle.records.specs.declared.refusal.Refusal.TheVariants.{OutOfRange}
use Rattle.records.specs.Bytes.{word}
use Rattle.records.specs.Chains.{Record}
use Rattle.records.specs.Kinds.{decoded}
use Rattle.piles.specs.declared.terms.Arity.{Arity}
use Rattle.piles.specs.declared.terms.Arity.TheVariants.{Zero as NoPosition, One as OnePosition, Two as TwoPositions}
use Rattle.piles.specs.declared.terms.Layout.{Layout}
use Rattle.piles.specs.Asked.{LabelFits, PrincipalFits}
use Rattle.rules.specs.declared.step.Positions.{Positions}
use Rattle.rules.specs.declared.step.Positions.TheVariants.{Zero, One, Two}
use Rattle.rules.specs.declared.step.PackStep.{PackStep}
use Rattle.rules.specs.declared.step.Step.{Step}
use Rattle.rules.specs.declared.step.Step.TheVariants.{AtomsClose, FalsityCloses, AndLeft, AndRight, OrLeft, OrRight, ImpliesLeft, ImpliesRight, ModalLeft, ModalRight, PermittedLeft, PermittedRight, Reflexive, Transitive, Monotone, OfPack}
use Rattle.rules.specs.Contents.{one_position, one_label, closing_at, left_order_at, left_arrow_at, right_arrow_at, two_orders_at, order_arrow_order_at}
use Rattle.rules.specs.Decoding.{onward, number_at, label_of, principal_of, positions_at, positions_width, width, layout_size, pack_step, step_of}
use Rattle.steps.proofs.Decided.{err_ok}

-- how many positions
abbrev pub arity_of : Positions → Arity
arity_of Zero = NoPosition
arity_of (One i) = OnePosition
arity_of (Two i j) = TwoPositions

arity_at : (a : Arity) (body : List ℕ) → arity_of (positions_at a body) ≡ a
arity_at NoPosition body = refl
arity_at OnePosition body = refl
arity_at TwoPositions body = refl

-- a pack's step is as a body tells it, and in range
pub record PackTold (layouts : ℕ → Option Layout) (P n : ℕ) (s : PackStep) : Type 0 where
  pub layout : Layout
  pub told : layouts s.kind ≡ Some layout
  pub positions : arity_of s.positions ≡ layout.positions
  pub label : is_some s.label ≡ layout.label
  pub principal : is_some s.principal ≡ layout.principal
  pub label_fits : LabelFits n s.label
  pub principal_fits : PrincipalFits P s.principal

module _ (layouts : ℕ → Option Layout) (P n : ℕ) where
  abbrev pub Told : Step → Type 0
  Told (AtomsClose c) = Unit {0}
  Told (FalsityCloses l) = Unit {0}
  Told (AndLeft l) = Unit {0}
  Told (AndRight r) = Unit {0}
  Told (OrLeft l) = Unit {0}
  Told (OrRight r) = Unit {0}
  Told (ImpliesLeft c) = Unit {0}
  Told (ImpliesRight r) = Unit {0}
  Told (ModalLeft c) = Unit {0}
  Told (ModalRight r) = Unit {0}
  Told (PermittedLeft l) = Unit {0}
  Told (PermittedRight c) = Unit {0}
  Told (Reflexive x) = x.0 < n
  Told (Transitive c) = Unit {0}
  Told (Monotone c) = Unit {0}
  Told (OfPack s) = PackTold layouts P n s

  record Reads (d : Result Step Refusal) : Type 0 where
    told : (step : Step) → d ≡ Ok step → Told step

  reads_ok : (s : Step) → Told s → Reads (Ok s)
  reads_ok s t = record { told = λ step e. let p : s ≡ step = cc in subst Told p t }

  reads_err : (e : Refusal) → Reads (Err e)
  reads_err e = record { told = λ step p. err_ok e step p }

  reads_cond : (v : Bool) (a b : Result Step Refusal) → (v ≡ true → Reads a) → Reads b → Reads (cond v a b)
  reads_cond true a b p q = p refl
  reads_cond false a b p q = q

  reads_onward : {X : Type 0} (a : Result X Refusal) (f : X → Result Step Refusal) → ((x : X) → a ≡ Ok x → Reads (f x)) → Reads (onward a f)
  reads_onward (Ok x) f h = h x refl
  reads_onward (Err e) f h = reads_err e

  reads_row : {X : Type 0} (size : ℕ) (content : List ℕ → X) (body : List ℕ) (at : RecordNumber) (k : X → Step) → ((x : X) → Told (k x)) → Reads (onward (decoded size content body at) (λ c. Ok (k c)))
  reads_row size content body at k h = reads_onward (decoded size content body at) _ (λ x e. reads_ok (k x) (h x))

  -- a number that was read
  record NumberTold (wanted : Bool) (limit : ℕ) (o : Option ℕ) : Type 0 where
    given : is_some o ≡ wanted
    below : (x : ℕ) → o ≡ Some x → x < limit

  number_told : (body : List ℕ) (i : ℕ) (wanted : Bool) (limit : ℕ) (at : RecordNumber) (o : Option ℕ) → number_at body i wanted limit at ≡ Ok o → NumberTold wanted limit o
  number_told body i false limit at o e =
      let p : None ≡ o = cc in
      subst (λ (q : Option ℕ). NumberTold false limit q) p (record { given = refl; below = λ x z. let y : ◌≡◌ {A = ℕ} 0 1 = cc in absurd (omega arith) })
  number_told body i true limit at o e = go (ltb (word body i) limit) refl e
    where
      go : (v : Bool) → ltb (word body i) limit ≡ v → cond v (Ok (Some (word body i))) (Err (OutOfRange at)) ≡ Ok o → NumberTold true limit o
      go true h p =
          let q : Some (word body i) ≡ o = cc in
          let lt = ltb-true (word body i) limit h in
          subst (λ (w : Option ℕ). NumberTold true limit w) q (record { given = refl; below = λ x z. let y : word body i ≡ x = cc in subst (λ k. k < limit) y lt })
      go false h p = err_ok (OutOfRange at) o p

  as_label : (o : Option ℕ) (wanted : Bool) (limit : ℕ) → NumberTold wanted limit o → (is_some (label_of o) ≡ wanted) × LabelFits limit (label_of o)
  as_label None wanted limit h = (h.given, tt)
  as_label (Some x) wanted limit h = (h.given, h.below x refl)

  as_principal : (o : Option ℕ) (wanted : Bool) (limit : ℕ) → NumberTold wanted limit o → (is_some (principal_of o) ≡ wanted) × PrincipalFits limit (principal_of o)
  as_principal None wanted limit h = (h.given, tt)
  as_principal (Some x) wanted limit h = (h.given, h.below x refl)

  reads_pack : (kind : ℕ) (body : List ℕ) (at : RecordNumber) (o : Option Layout) → layouts kind ≡ o → Reads (pack_step P n kind body at o)
  reads_pack kind body at None e = reads_err _
  reads_pack kind body at (Some b) e =
      reads_cond (eqb (length body) (layout_size b)) _ _ (λ _.
      reads_onward (number_at body (positions_width b.positions) b.label n at) _ λ label hl.
      reads_onward (number_at body (positions_width b.positions + width b.label) b.principal P at) _ λ principal hp.
      let l = as_label label b.label n (number_told body _ b.label n at label hl) in
      let p = as_principal principal b.principal P (number_told body _ b.principal P at principal hp) in
      reads_ok _ (record { layout = b; told = e; positions = arity_at b.positions body; label = l.0; principal = p.0; label_fits = l.1; principal_fits = p.1 }))
      (reads_err _)

  reads_step : (r : Record) (at : RecordNumber) → Reads (step_of layouts P n r at)
  reads_step r at =
      (reads_cond (eqb r.kind 32) _ _ (λ _. reads_row 6 closing_at r.body at AtomsClose (λ x. tt))
      (reads_cond (eqb r.kind 33) _ _ (λ _. reads_row 2 one_position r.body at FalsityCloses (λ x. tt))
      (reads_cond (eqb r.kind 34) _ _ (λ _. reads_row 2 one_position r.body at AndLeft (λ x. tt))
      (reads_cond (eqb r.kind 35) _ _ (λ _. reads_row 2 one_position r.body at AndRight (λ x. tt))
      (reads_cond (eqb r.kind 36) _ _ (λ _. reads_row 2 one_position r.body at OrLeft (λ x. tt))
      (reads_cond (eqb r.kind 37) _ _ (λ _. reads_row 2 one_position r.body at OrRight (λ x. tt))
      (reads_cond (eqb r.kind 38) _ _ (λ _. reads_row 4 left_order_at r.body at ImpliesLeft (λ x. tt))
      (reads_cond (eqb r.kind 39) _ _ (λ _. reads_row 2 one_position r.body at ImpliesRight (λ x. tt))
      (reads_cond (eqb r.kind 40) _ _ (λ _. reads_row 4 left_arrow_at r.body at ModalLeft (λ x. tt))
      (reads_cond (eqb r.kind 41) _ _ (λ _. reads_row 2 one_position r.body at ModalRight (λ x. tt))
      (reads_cond (eqb r.kind 42) _ _ (λ _. reads_row 2 one_position r.body at PermittedLeft (λ x. tt))
      (reads_cond (eqb r.kind 43) _ _ (λ _. reads_row 4 right_arrow_at r.body at PermittedRight (λ x. tt))
      (reads_cond (eqb r.kind 44) _ _ (λ _. reads_onward (decoded 2 one_label r.body at) _ λ x h. reads_cond (ltb x.0 n) _ _ (λ lt. reads_ok (Reflexive x) (ltb-true x.0 n lt)) (reads_err _))
      (reads_cond (eqb r.kind 45) _ _ (λ _. reads_row 4 two_orders_at r.body at Transitive (λ x. tt))
      (reads_cond (eqb r.kind 46) _ _ (λ _. reads_row 6 order_arrow_order_at r.body at Monotone (λ x. tt))
      (reads_pack r.kind r.body at (layouts r.kind) refl))))))))))))))))

  pub step_told : (r : Record) (at : RecordNumber) (step : Step) → step_of layouts P n r at ≡ Ok step → Told step
  step_told r at step e = (reads_step r at).told step e
