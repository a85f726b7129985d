-- Formulas, finite Kripke models, and truth at a world. Assumes nothing.
use Rattle.std.specs.Prelude.{ℕ, zero, suc, Bool, true, false, ◌&&◌, ◌||◌}
use Rattle.logic.specs.declared.terms.Modality.{Modality}
use Rattle.logic.specs.declared.terms.Modality.TheVariants.{Says, Controls, Ratified, Permitted}

-- a formula, as a tree
pub data Formula : Type 0 where
  atom : ℕ → Formula
  falsity : Formula
  and or implies : Formula → Formula → Formula
  modal : Modality → ℕ → Formula → Formula

-- worlds 0 to worlds − 1, their order, and for each modality and principal the arrows between them
pub record Frame : Type 0 where
  pub worlds : ℕ
  pub above : ℕ → ℕ → Bool
  pub arrow : Modality → ℕ → ℕ → ℕ → Bool

-- a frame, and for each atom the worlds where it holds
pub record Model : Type 0 where
  pub frame : Frame
  pub row : ℕ → ℕ → Bool

-- at every number below n
abbrev pub every : ℕ → (ℕ → Bool) → Bool
every zero p = true
every (suc n) p = p n && every n p

-- at some number below n
abbrev pub any : ℕ → (ℕ → Bool) → Bool
any zero p = false
any (suc n) p = p n || any n p

infixr 25 ◌⊃◌
-- if the first, then the second
abbrev pub ◌⊃◌ : Bool → Bool → Bool
true ⊃ b = b
false ⊃ b = true

-- a modality at a world: e tells the ends of its arrows from there, p where the formula under it holds
abbrev pub at_ends : Modality → ℕ → (ℕ → Bool) → (ℕ → Bool) → Bool
at_ends Says n e p = every n (λ y. e y ⊃ p y)
at_ends Controls n e p = every n (λ y. e y ⊃ p y)
at_ends Ratified n e p = every n (λ y. e y ⊃ p y)
at_ends Permitted n e p = any n (λ y. e y && p y)

-- truth of a formula at a world
abbrev pub holds : Model → Formula → ℕ → Bool
holds m (atom a) x = m.row a x
holds m falsity x = false
holds m (and f g) x = holds m f x && holds m g x
holds m (or f g) x = holds m f x || holds m g x
holds m (implies f g) x = every m.frame.worlds (λ y. m.frame.above x y ⊃ (holds m f y ⊃ holds m g y))
holds m (modal k A f) x = at_ends k m.frame.worlds (λ y. m.frame.arrow k A x y) (λ y. holds m f y)
