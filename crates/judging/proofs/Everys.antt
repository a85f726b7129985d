-- What the tests of the rules tell, and how they go by sets of worlds. Assumes nothing.
use Rattle.std.proofs.Common.{◌≡◌, ℕ, ◌<◌, ◌≤◌, Bool, true, false, ◌&&◌, T, Decides, get_or, sym, refl, ap, ◌∙◌, subst, ap₂, ⊎_elim, Option, Some, None, arith}
use Rattle.std.proofs.lemmas.List.{get_or_past}
use Rattle.std.proofs.lemmas.Bool.{cases_lt}
use Rattle.std.proofs.lemmas.Bool.Decides.{Decides-like, Decides-and, Decides-below_and, Decides-below_or}
use Rattle.std.specs.Option.{MatchOption, IsSomeAnd}
use Rattle.records.specs.declared.numbers.AtomNumber.{AtomNumber}
use Rattle.logic.specs.declared.terms.Modality.{Modality}
use Rattle.logic.specs.declared.terms.Modality.TheVariants.{Says, Controls, Ratified, Permitted}
use Rattle.logic.specs.Models.{Frame, every, any, ◌⊃◌}
use Rattle.logic.specs.ModelRules.{universal, Each, Reflexive, Transitive, Upward, Monotone, MonotonePermitted, Regular}
use Rattle.rows.specs.declared.masks.WorldSet.{WorldSet}
use Rattle.rows.specs.declared.rows.Rows.{Rows}
use Rattle.rows.specs.Masks.{bit, Mask, no_set}
use Rattle.rows.specs.RowsOf.{frame_of, model_of}
use Rattle.rows.proofs.Bits.{every_same, any_same, bit_zero}
use Rattle.judging.specs.Tests.{Tells, all_above, some_above, permits_all, closed, ordered, keeps, under, allows, PrincipalKeeps, OpenRow}

-- ---- what a test tells

pub tells_at : {P : Type 0} (r s : Bool) → r ≡ s → Decides s P → Tells r P
tells_at true s e d = (λ _. d.0 (sym e), λ _. tt)
tells_at false s e d = (λ t. absurd t, λ x. subst (λ (b : Bool). T b) (sym (e ∙ d.1 x)) tt)

pub decides_of : {P : Type 0} (r : Bool) → Tells r P → Decides r P
decides_of true t = (λ _. t.0 tt, λ _. refl)
decides_of false t = (λ e. t.0 (subst (λ (b : Bool). T b) (sym e) tt), λ x. absurd (t.1 x))

decides_is : (b : Bool) → Decides b (T b)
decides_is true = (λ _. tt, λ _. refl)
decides_is false = (λ e. subst (λ (b : Bool). T b) (sym e) tt, λ t. absurd t)

decides_when : {P : Type 0} (a b : Bool) → Decides b P → Decides (a ⊃ b) (T a → P)
decides_when true b d = (λ e _. d.0 e, λ h. d.1 (h tt))
decides_when false b d = (λ e f. absurd f, λ h. refl)

decides_each : (F : Frame) (p : ℕ → Bool) (P : ℕ → Type 0) → ((k : ℕ) → Decides (p k) (P k)) → Decides (every F.worlds p) (Each F P)
decides_each F p P each = Decides-below_and p P (λ k. every k p) each refl (λ _. refl) F.worlds

decides_some : (F : Frame) (x : ℕ) (q : ℕ → Bool) → Decides (some_above F x q) ((y : ℕ) × (y < F.worlds) × (T (F.above x y) × T (q y)))
decides_some F x q =
    Decides-below_or (λ y. F.above x y && q y) (λ y. T (F.above x y) × T (q y)) (λ k. any k (λ y. F.above x y && q y))
    (λ y. Decides-and (F.above x y) (q y) (decides_is (F.above x y)) (decides_is (q y))) refl (λ _. refl) F.worlds

-- ---- the rules by their tests

abbrev Closed : Frame → (ℕ → Bool) → (ℕ → Bool) → Type 0
Closed F p q = Each F λ z. T (p z) → Each F λ w. T (F.above z w) → T (q w)

decides_closed : (F : Frame) (p q : ℕ → Bool) → Decides (closed F p q) (Closed F p q)
decides_closed F p q =
    decides_each F (λ z. p z ⊃ all_above F z q) (λ z. T (p z) → Each F λ w. T (F.above z w) → T (q w))
    (λ z. decides_when (p z) (all_above F z q)
    (decides_each F (λ w. F.above z w ⊃ q w) (λ w. T (F.above z w) → T (q w)) (λ w. decides_when (F.above z w) (q w) (decides_is (q w)))))

pub decides_upward : (F : Frame) (q : ℕ → Bool) → Decides (closed F q q) (Upward F q)
decides_upward F q =
    Decides-like (closed F q q) (λ h x hx y hy a t. h x hx t y hy a) (λ u z hz t w hw a. u z hz w hw a t) (decides_closed F q q)

pub decides_order : (F : Frame) → Decides (every F.worlds (ordered F)) (Reflexive F × Transitive F)
decides_order F =
    Decides-like (every F.worlds (ordered F))
    (λ d. (λ x hx. (d x hx).0, λ x hx y hy z hz a b. (d x hx).1 y hy a z hz b))
    (λ o x hx. (o.0 x hx, λ y hy a z hz b. o.1 x hx y hy z hz a b))
    (decides_each F (ordered F) (λ x. T (F.above x x) × Closed F (F.above x) (F.above x))
    (λ x. Decides-and (F.above x x) (closed F (F.above x) (F.above x)) (decides_is (F.above x x)) (decides_closed F (F.above x) (F.above x))))

pub decides_monotone : (F : Frame) (k : Modality) (A : ℕ) → Decides (every F.worlds (keeps F k A)) (Monotone F k A)
decides_monotone F k A =
    Decides-like (every F.worlds (keeps F k A))
    (λ d x hx y hy z hz w hw a b c. d x hx y hy a z hz b w hw c)
    (λ m x hx y hy a z hz b w hw c. m x hx y hy z hz w hw a b c)
    (decides_each F (keeps F k A) (λ x. Each F λ y. T (F.above x y) → Closed F (F.arrow k A y) (F.arrow k A x))
    (λ x. decides_each F (λ y. F.above x y ⊃ closed F (F.arrow k A y) (F.arrow k A x)) (λ y. T (F.above x y) → Closed F (F.arrow k A y) (F.arrow k A x))
    (λ y. decides_when (F.above x y) (closed F (F.arrow k A y) (F.arrow k A x)) (decides_closed F (F.arrow k A y) (F.arrow k A x)))))

pub decides_permitted : (F : Frame) (A : ℕ) → Decides (every F.worlds (allows F A)) (MonotonePermitted F A)
decides_permitted F A =
    let s = λ (x z : ℕ). tells_at (under F A z x) (under F A z x) refl (decides_some F x (F.arrow Permitted A z)) in
    Decides-like (every F.worlds (allows F A))
    (λ d x hx y hy z hz w hw u v q. d z hz w hw q x hx ((s x z).1 (y, hy, (u, v))))
    (λ law z hz w hw q x hx e. let k = (s x z).0 e in law x hx k.0 k.1 z hz w hw k.2.0 k.2.1 q)
    (decides_each F (allows F A) (λ z. Each F λ w. T (F.above z w) → Each F λ x. T (under F A z x) → T (F.arrow Permitted A w x))
    (λ z. decides_each F (λ w. F.above z w ⊃ permits_all F A w (under F A z)) (λ w. T (F.above z w) → Each F λ x. T (under F A z x) → T (F.arrow Permitted A w x))
    (λ w. decides_when (F.above z w) (permits_all F A w (under F A z))
    (decides_each F (λ x. under F A z x ⊃ F.arrow Permitted A w x) (λ x. T (under F A z x) → T (F.arrow Permitted A w x))
    (λ x. decides_when (under F A z x) (F.arrow Permitted A w x) (decides_is (F.arrow Permitted A w x)))))))

-- ---- the tests by sets

-- the same over two lists of worlds that agree
pub over_same : (n : ℕ) (p s g : ℕ → Bool) → ((w : ℕ) → w < n → p w ≡ s w) → every n (λ z. p z ⊃ g z) ≡ every n (λ z. s z ⊃ g z)
over_same n p s g e = every_same n (λ z. p z ⊃ g z) (λ z. s z ⊃ g z) (λ z h. ap (λ (b : Bool). b ⊃ g z) (e z h))

pub within_same : (n m i : ℕ) (p q : ℕ → Bool) → Mask n m p → ((w : ℕ) → w < n → bit i w ≡ q w)
    → every n (λ y. bit m y ⊃ bit i y) ≡ every n (λ y. p y ⊃ q y)
within_same n m i p q k l = every_same n (λ y. bit m y ⊃ bit i y) (λ y. p y ⊃ q y) (λ w h. ap₂ ◌⊃◌ (k.bits w h) (l w h))

pub meets_same : (n m i : ℕ) (p q : ℕ → Bool) → Mask n m p → ((w : ℕ) → w < n → bit i w ≡ q w)
    → any n (λ y. bit m y && bit i y) ≡ any n (λ y. p y && q y)
meets_same n m i p q k l = any_same n (λ y. bit m y && bit i y) (λ y. p y && q y) (λ w h. ap₂ ◌&&◌ (k.bits w h) (l w h))

-- ---- all rules

of_universal : (F : Frame) (A : ℕ) → PrincipalKeeps F A → (k : Modality) → T (universal k) → Monotone F k A
of_universal F A h Says t = h.says
of_universal F A h Controls t = h.controls
of_universal F A h Ratified t = h.ratified
of_universal F A h Permitted t = absurd t

pub regular_of : (F : Frame) (P : ℕ) → 0 < F.worlds → Reflexive F × Transitive F → ((A : ℕ) → A < P → PrincipalKeeps F A) → Regular P F
regular_of F P i o h = record {
  inhabited = i;
  reflexive = o.0;
  transitive = o.1;
  monotone = λ k u A l. of_universal F A (h A l) k u;
  monotone_permitted = λ A l. (h A l).permitted;
}

pub principals_of : (F : Frame) (P : ℕ) → Regular P F → (A : ℕ) → A < P → PrincipalKeeps F A
principals_of F P h A l = record { says = h.monotone Says tt A l; controls = h.monotone Controls tt A l; ratified = h.monotone Ratified tt A l; permitted = h.monotone_permitted A l }

-- no atom holds from 64 on
pub no_row_upward : (r : Rows) (a : ℕ) → 64 ≤ a → Upward (frame_of r) ((model_of r).row a)
no_row_upward r a h x hx y hy u t =
    let e : get_or r.atoms a no_set ≡ no_set = get_or_past r.atoms a no_set (omega (arith, r.whole)) in
    absurd (subst (λ (b : Bool). T b) (ap (λ (m : WorldSet). bit m.0 x) e ∙ bit_zero x) t)

-- the lowest number below 64 whose row is not closed, as the atom that is made of it
pub open_row : (r : Rows) (found : Option ℕ) (result : Option AtomNumber) (Made : ℕ → AtomNumber → Type 0)
    → MatchOption found ((k : ℕ) → 0 ≤ k → k < 64 → Upward (frame_of r) ((model_of r).row k))
    (λ i. (0 ≤ i) × (i < 64) × (Upward (frame_of r) ((model_of r).row i) → ⊥) × ((k : ℕ) → 0 ≤ k → k < i → Upward (frame_of r) ((model_of r).row k)))
    → MatchOption found (result ≡ None) (λ i. IsSomeAnd result (Made i)) → ((i : ℕ) (a : AtomNumber) → Made i a → a.0 ≡ i) → OpenRow (model_of r) result
open_row r None result Made all e made =
    subst (OpenRow (model_of r)) (sym e) (λ a. ⊎_elim (λ l. all a (omega arith) l) (λ l. no_row_upward r a l) (cases_lt a 64))
open_row r (Some i) (Some a) Made low m made = record {
  not_closed = λ u. low.2 (subst (λ (k : ℕ). Upward (frame_of r) ((model_of r).row k)) (made i a m) u);
  below = λ b l. let e : a.0 ≡ i = made i a m in low.3 b (omega arith) (omega arith);
}
open_row r (Some i) None Made low m made = absurd m
