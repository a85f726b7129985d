-- The rules that every model keeps. Assumes nothing.
use Rattle.std.specs.Prelude.{ℕ, ◌<◌, Bool, true, false, T}
use Rattle.logic.specs.declared.terms.Modality.{Modality}
use Rattle.logic.specs.declared.terms.Modality.TheVariants.{Says, Controls, Ratified, Permitted}
use Rattle.logic.specs.Models.{Frame, Model}

-- the modalities that speak of all ends of their arrows
abbrev pub universal : Modality → Bool
universal Says = true
universal Controls = true
universal Ratified = true
universal Permitted = false

-- at every world of a frame
abbrev pub Each : Frame → (ℕ → Type 0) → Type 0
Each F Q = (x : ℕ) → x < F.worlds → Q x

-- x ≤ x
abbrev pub Reflexive : Frame → Type 0
Reflexive F = Each F λ x. T (F.above x x)

-- from x ≤ y and y ≤ z follows x ≤ z
abbrev pub Transitive : Frame → Type 0
Transitive F = Each F λ x. Each F λ y. Each F λ z. T (F.above x y) → T (F.above y z) → T (F.above x z)

-- for says, controls and ratified: from x ≤ y, y K_A z and z ≤ w follows x K_A w
abbrev pub Monotone : Frame → Modality → ℕ → Type 0
Monotone F k A =
    Each F λ x. Each F λ y. Each F λ z. Each F λ w. T (F.above x y) → T (F.arrow k A y z) → T (F.above z w) → T (F.arrow k A x w)

-- for permitted: from x ≤ y, z P_A y and z ≤ w follows w P_A x
abbrev pub MonotonePermitted : Frame → ℕ → Type 0
MonotonePermitted F A =
    Each F λ x. Each F λ y. Each F λ z. Each F λ w. T (F.above x y) → T (F.arrow Permitted A z y) → T (F.above z w) → T (F.arrow Permitted A w x)

-- the worlds where q holds are closed upward: from x ≤ y and q at x follows q at y
abbrev pub Upward : Frame → (ℕ → Bool) → Type 0
Upward F q = Each F λ x. Each F λ y. T (F.above x y) → T (q x) → T (q y)

-- the rules of order and arrows, for the principals below P
pub record Regular (P : ℕ) (F : Frame) : Type 0 where
  pub inhabited : 0 < F.worlds
  pub reflexive : Reflexive F
  pub transitive : Transitive F
  pub monotone : (k : Modality) → T (universal k) → (A : ℕ) → A < P → Monotone F k A
  pub monotone_permitted : (A : ℕ) → A < P → MonotonePermitted F A

-- the rules that every model keeps: those of its frame, and every atom's row is closed upward
pub record Keeps (P : ℕ) (m : Model) : Type 0 where
  pub regular : Regular P m.frame
  pub rows_up : (a : ℕ) → Upward m.frame (m.row a)
