-- What `all` over a range answers, whatever its closure is. Assumes nothing.
use Rattle.std.proofs.Common.{◌≡◌, ℕ, ◌<◌, Bool, true, false, Option, List, length, get_or, Decides, T, sym, refl, ◌∙◌, subst, zero-add, arith}
use Rattle.std.proofs.iter.Yields.{nat_range_steps}
use Rattle.std.proofs.lemmas.Bool.Decides.{same_from_decides}
use Rattle.std.proofs.lemmas.Iterator.{cases_from_all, YieldsList-from_range}
use Rattle.std.proofs.lemmas.List.FromFn.{length-range_with_len, get_or-range_with_len}
use Rattle.std.specs.Bool.{MatchBool}
use Rattle.std.specs.Fn.{Called}
use Rattle.std.specs.Iterator.{YieldsThen}
use Rattle.std.specs.List.{AllWithin, HoldsAt, FoldsTo, range_with_len}
use Rattle.std.specs.Option.{MatchOption}
use denote.Param.Members.{Mut}
use Rattle.logic.specs.Models.{every}
use Rattle.rows.proofs.Bits.{decides_every}

-- where the closure f tells P of every number below n, `all` tells it of all of them
pub decides_from_all : {F : Type 0} {g : Mut F (ℕ × Unit {0}) Bool} {m : ℕ} (n : ℕ) (P : ℕ → Type 0) → m ≡ n → (u : _) (f : F) (r : Bool)
    → (xs : List ℕ) × (o : Option ℕ) × (j : F) × YieldsThen nat_range_steps (record { start = 0; end = m }) xs o u × FoldsTo (λ p x q. Called g p (x, tt) true q) f xs j
    × MatchOption o (r ≡ true) (λ x. (r ≡ false) × ((h : F) × Called g j (x, tt) false h))
    → ((x : ℕ) (b : Bool) (q : F) → Called g f (x, tt) b q → (q ≡ f) × (x < n → Decides b (P x)))
    → Decides r ((x : ℕ) → x < n → P x)
decides_from_all {F} {g} {m} n P e u f r ran calls =
    tell r
    (cases_from_all u f r (λ x. x < n → Decides true (P x)) (λ x. x < n → Decides false (P x)) ran (YieldsList-from_range 0 m n refl (omega (arith, e)))
    (λ x q k. calls x true q k) (λ x q k. (calls x false q k).1))
  where
    xs : List ℕ
    xs = range_with_len 0 n

    at : (x : ℕ) → x < n → get_or xs x 0 ≡ x
    at x l = get_or-range_with_len 0 n x 0 l ∙ zero-add x

    long : length xs ≡ n
    long = length-range_with_len 0 n

    tell : (b : Bool) → MatchBool b (AllWithin (λ x. x < n → Decides true (P x)) xs 0 (length xs)) ((k : ℕ) × (k < length xs) × HoldsAt (λ x. x < n → Decides false (P x)) xs k)
        → Decides b ((x : ℕ) → x < n → P x)
    tell true h = (λ _ x l. (subst (λ (y : ℕ). y < n → Decides true (P y)) (at x l) (h x 0 (omega arith) (omega (arith, long))) l).0 refl, λ _. refl)
    tell false h =
        let l : h.0 < n = omega (arith, long, h.1) in
        (λ e. absurd (subst (λ (b : Bool). T b) (sym e) tt), λ all. (subst (λ (y : ℕ). y < n → Decides false (P y)) (at h.0 l) (h.2 0) l).1 (all h.0 l))

-- where f answers p at every number below n, `all` answers it at all of them
pub every_from_all : {F : Type 0} {g : Mut F (ℕ × Unit {0}) Bool} {m : ℕ} (n : ℕ) (p : ℕ → Bool) → m ≡ n → (u : _) (f : F) (r : Bool)
    → (xs : List ℕ) × (o : Option ℕ) × (j : F) × YieldsThen nat_range_steps (record { start = 0; end = m }) xs o u × FoldsTo (λ p x q. Called g p (x, tt) true q) f xs j
    × MatchOption o (r ≡ true) (λ x. (r ≡ false) × ((h : F) × Called g j (x, tt) false h))
    → ((x : ℕ) (b : Bool) (q : F) → Called g f (x, tt) b q → (q ≡ f) × (x < n → b ≡ p x))
    → r ≡ every n p
every_from_all n p e u f r ran calls =
    same_from_decides {P = (w : ℕ) → w < n → p w ≡ true} r (every n p)
    (decides_from_all n (λ w. p w ≡ true) e u f r ran (λ x b q k. let c = calls x b q k in (c.0, λ l. (λ t. sym (c.1 l) ∙ t, λ t. c.1 l ∙ t))))
    (decides_every n p)
