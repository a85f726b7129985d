-- What a pack means, and the laws of every pack. Assumes nothing.
use Rattle.std.specs.Prelude.{◌≡◌, ℕ, zero, suc, ◌<◌, min, true, T, List, [], ◌∷◌, Some, None, Option, ◌≢◌}
use Rattle.records.specs.declared.numbers.ConditionPlace.{ConditionPlace}
use Rattle.logic.specs.Models.{Frame, Model}
use Rattle.logic.specs.ModelRules.{Regular, Keeps}
use Rattle.piles.specs.declared.terms.Operands.{Operands}
use Rattle.piles.specs.declared.terms.Layout.{Layout}
use Rattle.piles.specs.declared.terms.Reading.{Reading}
use Rattle.piles.specs.declared.terms.Reading.TheVariants.{Unknown, NoInstance}
use Rattle.piles.specs.Asked.{SomePrincipals, Asked, AskedAs, has_formula}
use Rattle.piles.specs.Readings.{Respects, ReadingUses, Usable}

-- a condition on the order and the arrows of a frame, for the principals below a number
abbrev pub Condition : Type 1
Condition = ℕ → Frame → Type 0

-- how a step kind is read: kind, operands, number of principals, label count
abbrev pub Readings : Type 0
Readings = ℕ → Operands → ℕ → ℕ → Reading

-- every condition of a list
abbrev pub Meets : List Condition → ℕ → Frame → Type 0
Meets [] P F = Unit {0}
Meets (c ∷ cs) P F = c P F × Meets cs P F

-- the condition at a place of the list fails, and all before it hold
abbrev pub FirstFails : List Condition → ℕ → Frame → ℕ → Type 0
FirstFails [] P F i = ⊥
FirstFails (c ∷ cs) P F zero = c P F → ⊥
FirstFails (c ∷ cs) P F (suc i) = c P F × FirstFails cs P F i

-- what is judged of a frame: every condition holds, or the place of the first that fails, at most 65535
abbrev pub Judged : List Condition → ℕ → Frame → Option ConditionPlace → Type 0
Judged cs P F None = Meets cs P F
Judged cs P F (Some place) = (i : ℕ) × FirstFails cs P F i × (place.0 ≡ min i 65535)

-- a model keeps the rules and meets the conditions
pub record Admits (conditions : List Condition) (P : ℕ) (m : Model) : Type 0 where
  pub keeps : Keeps P m
  pub meets : Meets conditions P m.frame

-- one world, above itself, with every arrow
abbrev pub full : Frame
full = record { worlds = 1; above = λ x y. true; arrow = λ k A x y. true }

-- what every pack shows of its conditions, bodies and readings, of whatever it can be asked
pub record Laws {K : Type 0} (conditions : K → List Condition) (layouts : K → ℕ → Option Layout) (readings : K → Readings) : Type 0 where
  -- in a frame that keeps the rules and meets the conditions, named facts that hold make one premise hold, for some world at the new label
  pub sound : (k : K) (P n kind : ℕ) (b : Layout) (o : Operands) → layouts k kind ≡ Some b → AskedAs b P n o →
      (F : Frame) → Regular P F → Meets (conditions k) P F → Respects F n o.named (readings k kind o P n)
  -- what is added uses only labels that are named or given, the new label, and principals below P
  pub scope : (k : K) (P n kind : ℕ) (b : Layout) (o : Operands) → layouts k kind ≡ Some b → AskedAs b P n o →
      ReadingUses P (Usable o n) (readings k kind o P n)
  -- one world with every arrow meets the conditions
  pub one_world : (k : K) (P : ℕ) → SomePrincipals P → Meets (conditions k) P full
  -- a pack's kinds are 64 or more
  pub high : (k : K) (kind : ℕ) → kind < 64 → layouts k kind ≡ None
  -- a kind is unknown where no body is told, and only there
  pub untold : (k : K) (P n kind : ℕ) (o : Operands) → layouts k kind ≡ None → Asked P n o → readings k kind o P n ≡ Unknown
  pub told : (k : K) (P n kind : ℕ) (b : Layout) (o : Operands) → layouts k kind ≡ Some b → AskedAs b P n o → readings k kind o P n ≢ Unknown
  -- there is no instance where a formula is named
  pub formulas : (k : K) (P n kind : ℕ) (b : Layout) (o : Operands) → layouts k kind ≡ Some b → AskedAs b P n o →
      T (has_formula o.named) → readings k kind o P n ≡ NoInstance
