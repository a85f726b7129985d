-- The rules of a model as tests over its worlds. Assumes nothing.
use Rattle.std.specs.Prelude.{ℕ, ◌<◌, Bool, ◌&&◌, T, Some, None, Option}
use Rattle.records.specs.declared.numbers.AtomNumber.{AtomNumber}
use Rattle.logic.specs.declared.terms.Modality.{Modality}
use Rattle.logic.specs.declared.terms.Modality.TheVariants.{Says, Controls, Ratified, Permitted}
use Rattle.logic.specs.Models.{Frame, Model, every, any, ◌⊃◌}
use Rattle.logic.specs.ModelRules.{Monotone, MonotonePermitted, Upward}

-- a test passes exactly where a fact holds
abbrev pub Tells : Bool → Type 0 → Type 0
Tells r P = (T r → P) × (P → T r)

-- the arrows of a principal keep their rules
pub record PrincipalKeeps (F : Frame) (A : ℕ) : Type 0 where
  pub says : Monotone F Says A
  pub controls : Monotone F Controls A
  pub ratified : Monotone F Ratified A
  pub permitted : MonotonePermitted F A

-- atom a is the lowest whose row is not closed upward
pub record LowestOpen (m : Model) (a : ℕ) : Type 0 where
  pub not_closed : Upward m.frame (m.row a) → ⊥
  pub below : (b : ℕ) → b < a → Upward m.frame (m.row b)

-- none where the rows of all atoms are closed upward, else the lowest atom whose row is not
abbrev pub OpenRow : Model → Option AtomNumber → Type 0
OpenRow m None = (a : ℕ) → Upward m.frame (m.row a)
OpenRow m (Some a) = LowestOpen m a.0

-- every world above z is one of q
abbrev pub all_above : Frame → ℕ → (ℕ → Bool) → Bool
all_above F z q = every F.worlds (λ w. F.above z w ⊃ q w)

-- some world above x is one of q
abbrev pub some_above : Frame → ℕ → (ℕ → Bool) → Bool
some_above F x q = any F.worlds (λ y. F.above x y && q y)

-- every world above a world of p is one of q
abbrev pub closed : Frame → (ℕ → Bool) → (ℕ → Bool) → Bool
closed F p q = every F.worlds (λ z. p z ⊃ all_above F z q)

-- from every y of up: each world above an end of an arrow of k and A from y is one of into
abbrev pub leads : Frame → Modality → ℕ → (ℕ → Bool) → (ℕ → Bool) → Bool
leads F k A up into = every F.worlds (λ y. up y ⊃ closed F (F.arrow k A y) into)

-- each world of low is the end of an arrow of permission of A from w
abbrev pub permits_all : Frame → ℕ → ℕ → (ℕ → Bool) → Bool
permits_all F A w low = every F.worlds (λ x. low x ⊃ F.arrow Permitted A w x)

-- from every w of up: each world of low is the end of an arrow of permission of A from w
abbrev pub permits : Frame → ℕ → (ℕ → Bool) → (ℕ → Bool) → Bool
permits F A up low = every F.worlds (λ w. up w ⊃ permits_all F A w low)

-- the order at x: x is above x, and every world above one above x is above x
abbrev pub ordered : Frame → ℕ → Bool
ordered F x = F.above x x && closed F (F.above x) (F.above x)

-- the arrows of k and A at x: from the worlds above x they lead, closed upward, to ends of arrows from x
abbrev pub keeps : Frame → Modality → ℕ → ℕ → Bool
keeps F k A x = leads F k A (F.above x) (F.arrow k A x)

-- x is below an end of an arrow of permission of A from z
abbrev pub under : Frame → ℕ → ℕ → ℕ → Bool
under F A z x = some_above F x (F.arrow Permitted A z)

-- the arrows of permission of A at z: each such x is the end of one from every world above z
abbrev pub allows : Frame → ℕ → ℕ → Bool
allows F A z = permits F A (F.above z) (under F A z)
