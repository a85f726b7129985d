-- What tests of sets of worlds answer. Assumes nothing.
use Rattle.std.proofs.Common.{◌≡◌, ℕ, ◌+◌, ◌^◌, ◌<◌, Bool, true, false, ◌&&◌, ◌||◌, sym, refl, ap, ◌∙◌, subst, ap₂, add-one, pow_pos}
use lib.Bits.{bit_or, or_lt}
use Rattle.logic.specs.Models.{every, any, ◌⊃◌}
use Rattle.rows.specs.declared.masks.WorldSet.{WorldSet}
use Rattle.rows.specs.Masks.{bit, Mask}
use Rattle.rows.proofs.Bits.{bit-bit_or, bit_zero, every_same, any_same, mask_same}

-- the worlds of one set are worlds of another
pub within_test : (n a b : ℕ) (p q : ℕ → Bool) (r : Bool) → Mask n a p → Mask n b q → ((m : ℕ) → a < 2 ^ m → r ≡ every m (λ w. bit a w ⊃ bit b w)) → r ≡ every n (λ y. p y ⊃ q y)
within_test n a b p q r m k e =
    e n m.small ∙ every_same n (λ w. bit a w ⊃ bit b w) (λ y. p y ⊃ q y) (λ w h. ap₂ (λ (c d : Bool). c ⊃ d) (m.bits w h) (k.bits w h))

-- some world of one set is a world of another
pub meets_test : (n a b : ℕ) (p q : ℕ → Bool) (r : Bool) → Mask n a p → Mask n b q → ((m : ℕ) → a < 2 ^ m → r ≡ any m (λ w. bit a w && bit b w)) → r ≡ any n (λ y. p y && q y)
meets_test n a b p q r m k e =
    e n m.small ∙ any_same n (λ w. bit a w && bit b w) (λ y. p y && q y) (λ w h. ap₂ (λ (c d : Bool). c && d) (m.bits w h) (k.bits w h))

-- the worlds of either set
pub mask_either : (n a b : ℕ) (p q : ℕ → Bool) → Mask n a p → Mask n b q → Mask n (bit_or a b) (λ y. p y || q y)
mask_either n a b p q m k = record {
  small = or_lt n a b m.small k.small;
  bits = λ w h. bit-bit_or a b w ∙ ap₂ (λ (c d : Bool). c || d) (m.bits w h) (k.bits w h);
}

-- the empty set
pub mask_empty : (n : ℕ) → Mask n 0 (λ y. false)
mask_empty n = record { small = pow_pos n; bits = λ w h. bit_zero w }

-- a part of the set k after a test that passes, or one that fails
pub mask_if : (n : ℕ) (k m : WorldSet) (b : Bool) (c p : ℕ → Bool) → k ≡ m → b ≡ true → Mask n m.0 (λ y. c y || p y) → Mask n k.0 (λ y. (b && c y) || p y)
mask_if n k m b c p same e h = subst (λ (s : Bool × WorldSet). Mask n s.1.0 (λ y. (s.0 && c y) || p y)) (λ i. (sym e i, sym same i)) h

pub mask_unless : (n : ℕ) (k m : WorldSet) (b : Bool) (c p : ℕ → Bool) → k ≡ m → b ≡ false → Mask n m.0 p → Mask n k.0 (λ y. (b && c y) || p y)
mask_unless n k m b c p same e h = subst (λ (s : Bool × WorldSet). Mask n s.1.0 (λ y. (s.0 && c y) || p y)) (λ i. (sym e i, sym same i)) h

-- one more part
pub mask_next : (n m z : ℕ) (c : ℕ → ℕ → Bool) → Mask n m (λ y. c z y || any z (λ k. c k y)) → Mask n m (λ y. any (z + 1) (λ k. c k y))
mask_next n m z c h = subst (λ (t : ℕ). Mask n m (λ y. any t (λ k. c k y))) (sym (add-one z)) h

-- the parts of the worlds of a set
pub mask_parts : (n m a : ℕ) (p : ℕ → Bool) (c : ℕ → ℕ → Bool) → Mask n a p → Mask n m (λ y. any n (λ k. bit a k && c k y)) → Mask n m (λ y. any n (λ k. p k && c k y))
mask_parts n m a p c k h =
    mask_same n m (λ y. any n (λ i. bit a i && c i y)) (λ y. any n (λ i. p i && c i y))
    (λ w hw. any_same n (λ i. bit a i && c i w) (λ i. p i && c i w) (λ i hi. ap (λ (t : Bool). t && c i w) (k.bits i hi))) h

-- a test after another one that passes
pub if_passes : (s t r e : Bool) → t ≡ true → t ≡ s → r ≡ e → r ≡ (s ⊃ e)
if_passes s t r e passes same h = h ∙ subst (λ (b : Bool). e ≡ (b ⊃ e)) (sym passes ∙ same) refl
