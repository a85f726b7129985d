-- The clauses of truth, over sets of worlds. Assumes nothing.
use Rattle.std.proofs.Common.{◌≡◌, ℕ, ◌<◌, Bool, true, false, ◌&&◌, ◌||◌, refl, ap, ◌∙◌, ap₂, lt_of_le_of_lt}
use lib.Bits.{bit_and, bit_or, and_le_l, or_lt}
use Rattle.logic.specs.declared.terms.Modality.{Modality}
use Rattle.logic.specs.declared.terms.Modality.TheVariants.{Says, Controls, Ratified, Permitted}
use Rattle.logic.specs.Models.{every, at_ends, ◌⊃◌}
use Rattle.rows.specs.Masks.{bit, Mask}
use Rattle.rows.proofs.Bits.{bit-bit_and, bit-bit_or, every_same, any_same}

split_and : (a f g : Bool) → ((a && f) ⊃ g) ≡ (a ⊃ (f ⊃ g))
split_and true f g = refl
split_and false f g = refl

-- the worlds above that are of f, within g
pub implies_at : (n a f g : ℕ) (p : ℕ → Bool) → Mask n a p
    → every n (λ y. bit (bit_and a f) y ⊃ bit g y) ≡ every n (λ y. p y ⊃ (bit f y ⊃ bit g y))
implies_at n a f g p k =
    every_same n (λ y. bit (bit_and a f) y ⊃ bit g y) (λ y. p y ⊃ (bit f y ⊃ bit g y))
    (λ w h. ap (λ (b : Bool). b ⊃ bit g w) (bit-bit_and a f w) ∙ split_and (bit a w) (bit f w) (bit g w)
    ∙ ap (λ (b : Bool). b ⊃ (bit f w ⊃ bit g w)) (k.bits w h))

-- a modality looks at the worlds below n only
pub at_ends_same : (k : Modality) (n : ℕ) (e d f g : ℕ → Bool) → ((w : ℕ) → w < n → e w ≡ d w) → ((w : ℕ) → w < n → f w ≡ g w) → at_ends k n e f ≡ at_ends k n d g
at_ends_same Says n e d f g p q = every_same n (λ y. e y ⊃ f y) (λ y. d y ⊃ g y) (λ w h. ap₂ ◌⊃◌ (p w h) (q w h))
at_ends_same Controls n e d f g p q = every_same n (λ y. e y ⊃ f y) (λ y. d y ⊃ g y) (λ w h. ap₂ ◌⊃◌ (p w h) (q w h))
at_ends_same Ratified n e d f g p q = every_same n (λ y. e y ⊃ f y) (λ y. d y ⊃ g y) (λ w h. ap₂ ◌⊃◌ (p w h) (q w h))
at_ends_same Permitted n e d f g p q = any_same n (λ y. e y && f y) (λ y. d y && g y) (λ w h. ap₂ ◌&&◌ (p w h) (q w h))

pub implies_same : (n : ℕ) (e f g s t : ℕ → Bool) → ((w : ℕ) → w < n → f w ≡ s w) → ((w : ℕ) → w < n → g w ≡ t w)
    → every n (λ y. e y ⊃ (f y ⊃ g y)) ≡ every n (λ y. e y ⊃ (s y ⊃ t y))
implies_same n e f g s t p q =
    every_same n (λ y. e y ⊃ (f y ⊃ g y)) (λ y. e y ⊃ (s y ⊃ t y)) (λ w h. ap₂ (λ (a b : Bool). e w ⊃ (a ⊃ b)) (p w h) (q w h))

pub mask_and : (n a b : ℕ) (p q : ℕ → Bool) → Mask n a p → Mask n b q → Mask n (bit_and a b) (λ x. p x && q x)
mask_and n a b p q k l = record {
  small = lt_of_le_of_lt (and_le_l a b) k.small;
  bits = λ w h. bit-bit_and a b w ∙ ap₂ ◌&&◌ (k.bits w h) (l.bits w h);
}

pub mask_or : (n a b : ℕ) (p q : ℕ → Bool) → Mask n a p → Mask n b q → Mask n (bit_or a b) (λ x. p x || q x)
mask_or n a b p q k l = record {
  small = or_lt n a b k.small l.small;
  bits = λ w h. bit-bit_or a b w ∙ ap₂ ◌||◌ (k.bits w h) (l.bits w h);
}
