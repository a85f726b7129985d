-- Lists of equal elements, read at any place. Assumes nothing.
use Rattle.std.proofs.Common.{◌≡◌, ℕ, zero, suc, false, get_or, replicate}
use Rattle.rows.specs.declared.masks.WorldSet.{WorldSet}
use Rattle.rows.specs.declared.rows.Arrows.{Arrows}
use Rattle.rows.specs.declared.rows.Row.{Row}
use Rattle.rows.specs.Masks.{bit, no_set}
use Rattle.rows.specs.RowsOf.{no_row, no_arrows, ends_at}
use Rattle.rows.proofs.Bits.{bit_zero}

-- an element of a list of equal elements, or the default
pub of_repeat : {X : Type 0} (P : X → Type 0) (n k : ℕ) (a d : X) → P a → P d → P (get_or (replicate n a) k d)
of_repeat P zero k a d h e = e
of_repeat P (suc n) zero a d h e = h
of_repeat P (suc n) (suc k) a d h e = of_repeat P n k a d h e

-- no world in a list of empty sets
pub blank_set : (n x y : ℕ) → bit (get_or (replicate n no_set) x no_set).0 y ≡ false
blank_set n x y = of_repeat (λ (m : WorldSet). bit m.0 y ≡ false) n x no_set no_set (bit_zero y) (bit_zero y)

-- no end in empty rows
pub blank_ends : (a b c k A x y : ℕ) → bit (ends_at (replicate a (record { of = replicate b (record { ends = replicate c no_set }) })) k A x).0 y ≡ false
blank_ends a b c k A x y =
    of_repeat (λ (v : Arrows). bit (get_or (get_or v.of A no_row).ends x no_set).0 y ≡ false) a k (record { of = replicate b (record { ends = replicate c no_set }) }) no_arrows
    (of_repeat (λ (r : Row). bit (get_or r.ends x no_set).0 y ≡ false) b A (record { ends = replicate c no_set }) no_row (blank_set c x y) (bit_zero y))
    (bit_zero y)
