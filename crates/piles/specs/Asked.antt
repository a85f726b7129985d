-- What a pack can be asked. Assumes nothing.
use Rattle.std.specs.Prelude.{◌≡◌, ℕ, ◌<◌, ◌≤◌, Bool, true, false, ◌||◌, is_some, Some, None, Option}
use Rattle.records.specs.declared.numbers.Label.{Label}
use Rattle.records.specs.declared.numbers.Principal.{Principal}
use Rattle.logic.specs.declared.terms.FactView.{FactView}
use Rattle.logic.specs.declared.terms.FactView.TheVariants.{Left, Right, Linked}
use Rattle.logic.specs.Facts.{LinkFits}
use Rattle.piles.specs.declared.terms.Named.{Named}
use Rattle.piles.specs.declared.terms.Named.TheVariants.{Nothing, Single, Pair}
use Rattle.piles.specs.declared.terms.Operands.{Operands}
use Rattle.piles.specs.declared.terms.Arity.{Arity}
use Rattle.piles.specs.declared.terms.Arity.TheVariants.{Zero, One, Two}
use Rattle.piles.specs.declared.terms.Layout.{Layout}

-- 1 to 8 principals
abbrev pub SomePrincipals : ℕ → Type 0
SomePrincipals P = (1 ≤ P) × (P ≤ 8)

-- 1 to 32 labels
abbrev pub SomeLabels : ℕ → Type 0
SomeLabels n = (1 ≤ n) × (n ≤ 32)

-- how many facts are named
abbrev pub arity : Named → Arity
arity Nothing = Zero
arity (Single f) = One
arity (Pair f g) = Two

-- every label of a fact is below n, every principal below P
abbrev pub FactFits : ℕ → ℕ → FactView (Unit {0}) → Type 0
FactFits P n (Left x f) = x.0 < n
FactFits P n (Right x f) = x.0 < n
FactFits P n (Linked l) = LinkFits P n l

-- the same of the facts named
abbrev pub NamedFit : ℕ → ℕ → Named → Type 0
NamedFit P n Nothing = Unit {0}
NamedFit P n (Single f) = FactFits P n f
NamedFit P n (Pair f g) = FactFits P n f × FactFits P n g

-- a label, if given, is below n
abbrev pub LabelFits : ℕ → Option Label → Type 0
LabelFits n None = Unit {0}
LabelFits n (Some x) = x.0 < n

-- a principal, if given, is below P
abbrev pub PrincipalFits : ℕ → Option Principal → Type 0
PrincipalFits P None = Unit {0}
PrincipalFits P (Some A) = A.0 < P

-- what may be asked with P principals and a label count n: everything in range
pub record Asked (P n : ℕ) (o : Operands) : Type 0 where
  pub principals : SomePrincipals P
  pub labels : SomeLabels n
  pub named : NamedFit P n o.named
  pub label : LabelFits n o.label
  pub principal : PrincipalFits P o.principal

-- the operands are those that a body tells
pub record AsTold (b : Layout) (o : Operands) : Type 0 where
  pub positions : arity o.named ≡ b.positions
  pub label : is_some o.label ≡ b.label
  pub principal : is_some o.principal ≡ b.principal

-- what may be asked of a kind with that body
pub record AskedAs (b : Layout) (P n : ℕ) (o : Operands) : Type 0 where
  pub asked : Asked P n o
  pub told : AsTold b o

-- the fact is a formula
abbrev pub is_formula : FactView (Unit {0}) → Bool
is_formula (Left x f) = true
is_formula (Right x f) = true
is_formula (Linked l) = false

-- a formula is named
abbrev pub has_formula : Named → Bool
has_formula Nothing = false
has_formula (Single f) = is_formula f
has_formula (Pair f g) = is_formula f || is_formula g
