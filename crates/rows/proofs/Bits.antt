-- The laws of `bit` and of `every` and `any` over its bits. Assumes nothing.
use Rattle.std.proofs.Common.{◌≡◌, ℕ, zero, suc, ◌+◌, ◌-◌, ◌*◌, ◌/◌, ◌%◌, ◌^◌, ◌<◌, ◌≤◌, Bool, true, false, not, ◌&&◌, ◌||◌, eqb, Decides, sym, refl, ap, ◌∙◌, subst, ap₂, ⊎_elim, lt_of_lt_of_le, le_of_suc-le-suc, not-suc-le-zero, lt_of_le_of_lt, add-zero, mod-lt, mod-eq_of_lt, zero-lt-suc, one-mul, pow-suc, div-add-mod', div-one, add-one, one-add, arith, pow_pos, pow_mono, pow-add, shr-shr, shr_lt}
use native.Mathlib.Nat.{zero-div, div-eq_of_lt, mul-add-mod_self_right, sub-zero}
use lib.Arith.{lt-one}
use lib.Bits.{bit_and, bit_or, bit_xor, or_shifted_r, and_shr, or_shr, xor_shr, and_mod, or_mod, xor_mod, and_le_l, and_le_r, and_mask, xor_add_and}
use lib.Pow.{pow-lt, field, ones_split, high, ones_lt}
use Rattle.std.proofs.lemmas.Bool.{eqb-true, eq-eqb, ne_eqb, cases_lt, cases_order}
use Rattle.std.proofs.lemmas.Nat.{one_shl}
use Rattle.std.proofs.lemmas.Bool.Decides.{same_from_decides, Decides-below_and}
use Rattle.rows.specs.Masks.{bit, Mask}
use Rattle.logic.specs.Models.{every, any, ◌⊃◌}

two_pos : 0 < 2
two_pos = zero-lt-suc 1

beyond {ℓ} : {A : Type ℓ} {x : ℕ} → suc (suc x) < 2 → A
beyond h = absurd (not-suc-le-zero (le_of_suc-le-suc (le_of_suc-le-suc h)))

digit_and : (x y : ℕ) → x < 2 → y < 2 → eqb (bit_and x y) 1 ≡ (eqb x 1 && eqb y 1)
digit_and zero y hx hy = refl
digit_and (suc zero) zero hx hy = refl
digit_and (suc zero) (suc zero) hx hy = refl
digit_and (suc zero) (suc (suc y)) hx hy = beyond hy
digit_and (suc (suc x)) y hx hy = beyond hx

digit_or : (x y : ℕ) → x < 2 → y < 2 → eqb (bit_or x y) 1 ≡ (eqb x 1 || eqb y 1)
digit_or zero y hx hy = refl
digit_or (suc zero) zero hx hy = refl
digit_or (suc zero) (suc zero) hx hy = refl
digit_or (suc zero) (suc (suc y)) hx hy = beyond hy
digit_or (suc (suc x)) y hx hy = beyond hx

digit_flip : (x : ℕ) → x < 2 → eqb (bit_xor x 1) 1 ≡ not (eqb x 1)
digit_flip zero hx = refl
digit_flip (suc zero) hx = refl
digit_flip (suc (suc x)) hx = beyond hx

digit_same : (x y : ℕ) → x < 2 → y < 2 → eqb x 1 ≡ eqb y 1 → x ≡ y
digit_same zero zero hx hy e = refl
digit_same zero (suc zero) hx hy e = let z : ◌≡◌ {A = ℕ} 0 1 = cc in absurd (omega arith)
digit_same zero (suc (suc y)) hx hy e = beyond hy
digit_same (suc zero) zero hx hy e = let z : ◌≡◌ {A = ℕ} 0 1 = cc in absurd (omega arith)
digit_same (suc zero) (suc zero) hx hy e = refl
digit_same (suc zero) (suc (suc y)) hx hy e = beyond hy
digit_same (suc (suc x)) y hx hy e = beyond hx

pub bit-bit_and : (a b w : ℕ) → bit (bit_and a b) w ≡ (bit a w && bit b w)
bit-bit_and a b w =
    ap (λ (d : ℕ). eqb (d % 2) 1) (and_shr a b w) ∙ ap (λ (d : ℕ). eqb d 1) (and_mod (a / 2 ^ w) (b / 2 ^ w) 1)
    ∙ digit_and (a / 2 ^ w % 2) (b / 2 ^ w % 2) (mod-lt (a / 2 ^ w) two_pos) (mod-lt (b / 2 ^ w) two_pos)

pub bit-bit_or : (a b w : ℕ) → bit (bit_or a b) w ≡ (bit a w || bit b w)
bit-bit_or a b w =
    ap (λ (d : ℕ). eqb (d % 2) 1) (or_shr a b w) ∙ ap (λ (d : ℕ). eqb d 1) (or_mod (a / 2 ^ w) (b / 2 ^ w) 1)
    ∙ digit_or (a / 2 ^ w % 2) (b / 2 ^ w % 2) (mod-lt (a / 2 ^ w) two_pos) (mod-lt (b / 2 ^ w) two_pos)

pub bit_zero : (w : ℕ) → bit 0 w ≡ false
bit_zero w = ap (λ (d : ℕ). eqb (d % 2) 1) (zero-div (2 ^ w))

-- no bit past a mask's size
pub bit_past : (m w : ℕ) → m < 2 ^ w → bit m w ≡ false
bit_past m w h = ap (λ (d : ℕ). eqb (d % 2) 1) (div-eq_of_lt h)

-- a bit is one of the lowest digits
bit_low : (m w : ℕ) → bit m w ≡ eqb (m % 2 ^ (1 + w) / 2 ^ w) 1
bit_low m w = ap (λ (d : ℕ). eqb d 1) (sym (field m 1 w))

-- what is added above a bit leaves it
pub bit_below : (q m n w : ℕ) → w < n → bit (q * 2 ^ n + m) w ≡ bit m w
bit_below q m n w h =
    let k : n ≡ (n - (1 + w)) + (1 + w) = omega arith in
    let p : 2 ^ n ≡ 2 ^ (n - (1 + w)) * 2 ^ (1 + w) = ap (λ (j : ℕ). 2 ^ j) k ∙ pow-add 2 (n - (1 + w)) (1 + w) in
    let s : (q * 2 ^ n + m) % 2 ^ (1 + w) ≡ m % 2 ^ (1 + w) =
    ap (λ (j : ℕ). (q * j + m) % 2 ^ (1 + w)) p
    ∙ ap (λ (j : ℕ). (j + m) % 2 ^ (1 + w)) (sym (native.Mathlib.Nat.mul_assoc q (2 ^ (n - (1 + w))) (2 ^ (1 + w))))
    ∙ mul-add-mod_self_right (q * 2 ^ (n - (1 + w))) (2 ^ (1 + w)) m in
    bit_low (q * 2 ^ n + m) w ∙ ap (λ (d : ℕ). eqb (d / 2 ^ w) 1) s ∙ sym (bit_low m w)

pub bit_top : (m n : ℕ) → m < 2 ^ n → bit (1 * 2 ^ n + m) n ≡ true
bit_top m n h = ap (λ (d : ℕ). eqb (d % 2) 1) (high 1 n h)

-- the bits of the half
bit_half : (m w : ℕ) → bit (m / 2) w ≡ bit m (suc w)
bit_half m w = ap (λ (d : ℕ). eqb (d % 2) 1) (shr-shr m 1 w ∙ ap (λ (j : ℕ). m / 2 ^ j) (one-add w))

bit_first : (m : ℕ) → bit m 0 ≡ eqb (m % 2) 1
bit_first m = ap (λ (d : ℕ). eqb (d % 2) 1) (div-one m)

half_below : (n a : ℕ) → a < 2 ^ suc n → a / 2 < 2 ^ n
half_below n a h = shr_lt n 1 (subst (λ (j : ℕ). a < 2 ^ j) (sym (add-one n)) h)

-- two masks with the same bits are equal
pub same_bits : (n a b : ℕ) → a < 2 ^ n → b < 2 ^ n → ((w : ℕ) → w < n → bit a w ≡ bit b w) → a ≡ b
same_bits zero a b ha hb e = lt-one ha ∙ sym (lt-one hb)
same_bits (suc n) a b ha hb e =
    let hi : a / 2 ≡ b / 2 = same_bits n (a / 2) (b / 2) (half_below n a ha) (half_below n b hb)
    (λ w h. bit_half a w ∙ e (suc w) (omega arith) ∙ sym (bit_half b w)) in
    let lo : a % 2 ≡ b % 2 = digit_same (a % 2) (b % 2) (mod-lt a two_pos) (mod-lt b two_pos)
    (sym (bit_first a) ∙ e 0 (zero-lt-suc n) ∙ bit_first b) in
    sym (div-add-mod' a 2) ∙ ap₂ (λ (x y : ℕ). x * 2 + y) hi lo ∙ div-add-mod' b 2

-- the bits of the complement
pub bit_not : (n f w : ℕ) → f < 2 ^ n → w < n → bit ((2 ^ n - 1) - f) w ≡ not (bit f w)
bit_not n f w hf h =
    let e : bit_and f (2 ^ n - 1) ≡ f = and_mask f n ∙ mod-eq_of_lt hf in
    let s : bit_xor f (2 ^ n - 1) + f * 2 ≡ f + (2 ^ n - 1) = subst (λ (x : ℕ). bit_xor f (2 ^ n - 1) + x * 2 ≡ f + (2 ^ n - 1)) e (xor_add_and f (2 ^ n - 1)) in
    let x : (2 ^ n - 1) - f ≡ bit_xor f (2 ^ n - 1) = omega arith in
    let k : n ≡ suc (n - suc w) + w = omega arith in
    let o : (2 ^ n - 1) / 2 ^ w ≡ 2 ^ suc (n - suc w) - 1 =
    ap (λ (j : ℕ). (2 ^ j - 1) / 2 ^ w) k ∙ ap (λ (j : ℕ). j / 2 ^ w) (ones_split (suc (n - suc w)) w)
    ∙ high (2 ^ suc (n - suc w) - 1) w (ones_lt w) in
    let p : 2 ^ suc (n - suc w) ≡ 2 ^ (n - suc w) * 2 = pow-suc 2 (n - suc w) in
    let q : 0 < 2 ^ (n - suc w) = pow_pos (n - suc w) in
    let d : (2 ^ n - 1) / 2 ^ w % 2 ≡ 1 = rw o (omega arith) in
    ap (λ (m : ℕ). bit m w) x
    ∙ ap (λ (m : ℕ). eqb (m % 2) 1) (xor_shr f (2 ^ n - 1) w)
    ∙ ap (λ (m : ℕ). eqb m 1) (xor_mod (f / 2 ^ w) ((2 ^ n - 1) / 2 ^ w) 1)
    ∙ ap (λ (m : ℕ). eqb (bit_xor (f / 2 ^ w % 2) m) 1) d
    ∙ digit_flip (f / 2 ^ w % 2) (mod-lt (f / 2 ^ w) two_pos)

-- ---- over the worlds below n

pub every_same : (n : ℕ) (p q : ℕ → Bool) → ((w : ℕ) → w < n → p w ≡ q w) → every n p ≡ every n q
every_same zero p q e = refl
every_same (suc n) p q e = ap₂ ◌&&◌ (e n (omega arith)) (every_same n p q (λ w h. e w (omega arith)))

pub any_same : (n : ℕ) (p q : ℕ → Bool) → ((w : ℕ) → w < n → p w ≡ q w) → any n p ≡ any n q
any_same zero p q e = refl
any_same (suc n) p q e = ap₂ ◌||◌ (e n (omega arith)) (any_same n p q (λ w h. e w (omega arith)))

-- what a test over all worlds tells
pub decides_every : (n : ℕ) (p : ℕ → Bool) → Decides (every n p) ((w : ℕ) → w < n → p w ≡ true)
decides_every n p = Decides-below_and p (λ w. p w ≡ true) (λ k. every k p) (λ k. (λ e. e, λ e. e)) refl (λ _. refl) n

implied : (x y : Bool) → x ≡ (x && y) → (x ⊃ y) ≡ true
implied true y e = sym e
implied false y e = refl

kept : (x y : Bool) → (x ⊃ y) ≡ true → (x && y) ≡ x
kept true y e = e
kept false y e = refl

-- each bit of a is one of b
pub within_bits : (n a b : ℕ) → a < 2 ^ n → eqb (bit_and a b) a ≡ every n (λ y. bit a y ⊃ bit b y)
within_bits n a b ha =
    same_from_decides {P = (w : ℕ) → w < n → (bit a w ⊃ bit b w) ≡ true} (eqb (bit_and a b) a) (every n (λ y. bit a y ⊃ bit b y)) (
      (λ e w h. implied (bit a w) (bit b w) (sym (ap (λ (m : ℕ). bit m w) (eqb-true (bit_and a b) a e)) ∙ bit-bit_and a b w)),
      (λ all. eq-eqb (bit_and a b) a (same_bits n (bit_and a b) a (lt_of_le_of_lt (and_le_l a b) ha) ha (λ w h. bit-bit_and a b w ∙ kept (bit a w) (bit b w) (all w h)))),
    )
    (decides_every n (λ y. bit a y ⊃ bit b y))

-- a mask is 0 if it has no bit
pub none_bits : (n m : ℕ) → m < 2 ^ n → eqb m 0 ≡ every n (λ y. not (bit m y))
none_bits n m h =
    same_from_decides {P = (w : ℕ) → w < n → not (bit m w) ≡ true} (eqb m 0) (every n (λ y. not (bit m y))) (
      (λ e w l. ap not (ap (λ (x : ℕ). bit x w) (eqb-true m 0 e) ∙ bit_zero w)),
      (λ all. eq-eqb m 0 (same_bits n m 0 h (pow_pos n) (λ w l. Rattle.std.proofs.lemmas.Bool.not-true (bit m w) (all w l) ∙ sym (bit_zero w)))),
    )
    (decides_every n (λ y. not (bit m y)))

pub any_not_every : (n : ℕ) (p : ℕ → Bool) → not (every n (λ y. not (p y))) ≡ any n p
any_not_every zero p = refl
any_not_every (suc n) p = go (p n) (any_not_every n p)
  where
    go : (b : Bool) → not (every n (λ y. not (p y))) ≡ any n p → not (not b && every n (λ y. not (p y))) ≡ (b || any n p)
    go true e = refl
    go false e = e

-- some bit of a is one of b
pub meets_bits : (n a b : ℕ) → a < 2 ^ n → not (eqb (bit_and a b) 0) ≡ any n (λ y. bit a y && bit b y)
meets_bits n a b ha =
    ap not (none_bits n (bit_and a b) (lt_of_le_of_lt (and_le_l a b) ha)) ∙ any_not_every n (λ y. bit (bit_and a b) y)
    ∙ any_same n (λ y. bit (bit_and a b) y) (λ y. bit a y && bit b y) (λ w h. bit-bit_and a b w)

-- and as the code asks it
pub meets_by : (n a b m : ℕ) (r : Bool) → r ≡ not (eqb m 0) → m ≡ bit_and a b → a < 2 ^ n → r ≡ any n (λ y. bit a y && bit b y)
meets_by n a b m r e d ha = e ∙ ap (λ (k : ℕ). not (eqb k 0)) d ∙ meets_bits n a b ha

-- ---- a mask that is made world by world

-- one world more, that is or is not in the set
pub more_true : (n m : ℕ) (p : ℕ → Bool) → Mask n m p → p n ≡ true → Mask (n + 1) (2 ^ n + m) p
more_true n m p k e = record {
  small = let s : 2 ^ (n + 1) ≡ 2 ^ n * 2 = pow-add 2 n 1 in omega (arith, k.small);
  bits = λ w h. ⊎_elim
      (λ l. ap (λ (x : ℕ). bit (x + m) w) (sym (one-mul (2 ^ n))) ∙ bit_below 1 m n w l ∙ k.bits w l)
      (λ l. let j : w ≡ n = omega arith in subst (λ (x : ℕ). bit (2 ^ n + m) x ≡ p x) (sym j) (ap (λ (x : ℕ). bit (x + m) n) (sym (one-mul (2 ^ n))) ∙ bit_top m n k.small ∙ sym e))
      (cases_lt w n);
}

-- and as the code adds it
pub more_or : (n m : ℕ) (p : ℕ → Bool) → n < 32 → Mask n m p → p n ≡ true → Mask (n + 1) (bit_or m ((1 * 2 ^ n) % 2 ^ 32)) p
more_or n m p l k e =
    subst (λ (v : ℕ). Mask (n + 1) v p)
    (sym (ap (bit_or m) (one_shl n 32 l ∙ sym (one-mul (2 ^ n))) ∙ or_shifted_r 1 n m k.small ∙ ap (λ (y : ℕ). y + m) (one-mul (2 ^ n))))
    (more_true n m p k e)

pub more_false : (n m : ℕ) (p : ℕ → Bool) → Mask n m p → p n ≡ false → Mask (n + 1) m p
more_false n m p k e = record {
  small = let s : 2 ^ (n + 1) ≡ 2 ^ n * 2 = pow-add 2 n 1 in omega (arith, k.small);
  bits = λ w h. ⊎_elim
      (λ l. k.bits w l)
      (λ l. let j : w ≡ n = omega arith in subst (λ (x : ℕ). bit m x ≡ p x) (sym j) (bit_past m n k.small ∙ sym e))
      (cases_lt w n);
}

-- no world yet
pub none_yet : (p : ℕ → Bool) → Mask 0 0 p
none_yet p = record { small = pow_pos 0; bits = λ w h. absurd (not-suc-le-zero h) }

-- ---- masks of the connectives

pub mask_same : (n m : ℕ) (p q : ℕ → Bool) → ((w : ℕ) → w < n → p w ≡ q w) → Mask n m p → Mask n m q
mask_same n m p q e k = record { small = k.small; bits = λ w h. k.bits w h ∙ e w h }

-- ---- single worlds, and all worlds

-- a set of 32 bits tells of no world from 32 on
pub bit_beyond : (m w : ℕ) → m < 2 ^ 32 → 32 ≤ w → bit m w ≡ false
bit_beyond m w h l = bit_past m w (lt_of_lt_of_le h (pow_mono l))

bit_power : (x w : ℕ) → bit (2 ^ x) w ≡ eqb w x
bit_power x w = ⊎_elim
    (λ e. subst (λ (j : ℕ). bit (2 ^ x) j ≡ eqb j x) (sym e) (ap (λ (d : ℕ). bit d x) (sym one) ∙ bit_top 0 x (pow_pos x) ∙ sym (eq-eqb x x refl)))
    (⊎_elim
    (λ l. ap (λ (d : ℕ). bit d w) (sym one) ∙ bit_below 1 0 x w l ∙ bit_zero w ∙ sym (ne_eqb w x (λ e. omega arith)))
    (λ l. bit_past (2 ^ x) w (pow-lt l) ∙ sym (ne_eqb w x (λ e. omega arith))))
    (cases_order w x)
  where
    one : 1 * 2 ^ x + 0 ≡ 2 ^ x
    one = add-zero (1 * 2 ^ x) ∙ one-mul (2 ^ x)

-- one world more
pub bit_more : (m x w : ℕ) → bit (bit_or m (2 ^ x)) w ≡ (bit m w || eqb w x)
bit_more m x w = bit-bit_or m (2 ^ x) w ∙ ap (λ (b : Bool). bit m w || b) (bit_power x w)

pub mask_ones : (n : ℕ) → Mask n (2 ^ n - 1) (λ _. true)
mask_ones n = record {
  small = ones_lt n;
  bits = λ w h. ap (λ (m : ℕ). bit m w) (sym (sub-zero (2 ^ n - 1))) ∙ bit_not n 0 w (pow_pos n) h ∙ ap not (bit_zero w);
}

-- the worlds of a set that are among all worlds
pub mask_cut : (n m a : ℕ) → Mask n a (λ _. true) → Mask n (bit_and m a) (bit m)
mask_cut n m a k = record {
  small = lt_of_le_of_lt (and_le_r m a) k.small;
  bits = λ w h. bit-bit_and m a w ∙ ap (λ (b : Bool). bit m w && b) (k.bits w h) ∙ and_unit (bit m w);
}
  where
    and_unit : (b : Bool) → (b && true) ≡ b
    and_unit true = refl
    and_unit false = refl
