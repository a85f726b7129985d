-- A layer is one condition and one step kind; laid on a pack, it comes first, and all else is passed down. Assumes nothing.
use Rattle.std.specs.Prelude.{◌≡◌, ℕ, ◌≤◌, cond, T, List, ◌∷◌, Some, Option, ◌==◌, ◌≢◌}
use Rattle.logic.specs.Models.{Frame}
use Rattle.logic.specs.ModelRules.{Regular}
use Rattle.piles.specs.declared.terms.Operands.{Operands}
use Rattle.piles.specs.declared.terms.Layout.{Layout}
use Rattle.piles.specs.declared.terms.Reading.{Reading}
use Rattle.piles.specs.declared.terms.Reading.TheVariants.{Unknown, NoInstance}
use Rattle.piles.specs.Asked.{SomePrincipals, AskedAs, has_formula}
use Rattle.piles.specs.Readings.{Respects, ReadingUses, Usable}
use Rattle.piles.specs.Packs.{Condition, Readings, full}

-- what every layer shows of its kind, body, condition and reading, of whatever it can be asked
pub record LayerLaws {L : Type 0} (kind : ℕ) (b : Layout) (condition : L → Condition) (reading : L → Operands → ℕ → ℕ → Reading) : Type 0 where
  -- in a frame that keeps the rules and meets the condition, named facts that hold make one premise hold, for some world at the new label
  pub sound : (l : L) (P n : ℕ) (o : Operands) → AskedAs b P n o → (F : Frame) → Regular P F → condition l P F → Respects F n o.named (reading l o P n)
  -- what is added uses only labels that are named or given, the new label, and principals below P
  pub scope : (l : L) (P n : ℕ) (o : Operands) → AskedAs b P n o → ReadingUses P (Usable o n) (reading l o P n)
  -- one world with every arrow meets the condition
  pub one_world : (l : L) (P : ℕ) → SomePrincipals P → condition l P full
  -- the kind is 64 or more
  pub high : 64 ≤ kind
  -- the kind is known
  pub known : (l : L) (P n : ℕ) (o : Operands) → AskedAs b P n o → reading l o P n ≢ Unknown
  -- there is no instance where a formula is named
  pub formulas : (l : L) (P n : ℕ) (o : Operands) → AskedAs b P n o → T (has_formula o.named) → reading l o P n ≡ NoInstance

-- the layer's condition, then those of the pack below
abbrev pub laid_conditions : Condition → List Condition → List Condition
laid_conditions c cs = c ∷ cs

-- the layer's body at its own kind, else the body that the pack below tells
abbrev pub laid_layouts : ℕ → Layout → (ℕ → Option Layout) → ℕ → Option Layout
laid_layouts own b below kind = cond (kind == own) (Some b) (below kind)

-- the layer's reading at its own kind, else that of the pack below
abbrev pub laid_readings : ℕ → (Operands → ℕ → ℕ → Reading) → Readings → Readings
laid_readings own reading below kind o P n = cond (kind == own) (reading o P n) (below kind o P n)
