-- What the answer to a derivation says of its sequent. Assumes nothing.
use Rattle.std.specs.Prelude.{◌≡◌, ℕ, List, Some, Ok, Option}
use Rattle.std.specs.List.{AllByRecursion}
use Rattle.records.specs.declared.numbers.FormulaNumber.{FormulaNumber}
use Rattle.logic.specs.declared.terms.FactView.{FactView}
use Rattle.logic.specs.declared.terms.FactView.TheVariants.{Left, Right, Linked}
use Rattle.logic.specs.declared.terms.Node.{Node}
use Rattle.logic.specs.Models.{Formula, Model, falsity}
use Rattle.logic.specs.Formulas.{shape, tree}
use Rattle.logic.specs.Facts.{Sequent, Holds, WellScoped, facts_map}
use Rattle.piles.specs.declared.terms.Layout.{Layout}
use Rattle.piles.specs.Asked.{SomePrincipals, SomeLabels}
use Rattle.piles.specs.Packs.{Condition, Readings, Admits}
use Rattle.steps.specs.Branches.{Branch, Setting, Answer, branch, examined}
use Rattle.steps.specs.Derivations.{Exactly}

-- the sequent that facts by numbers of a table stand for
abbrev pub sequent_of : List (Node FormulaNumber) → List (FactView FormulaNumber) → ℕ → Sequent
sequent_of ns facts n = record { labels = n; facts = facts_map (tree ns) facts }

-- read over formulas themselves, by what the pile means, P principals, and room for so many facts and waiting branches
abbrev pub tree_setting : (ℕ → Option Layout) → Readings → ℕ → ℕ → ℕ → Setting (FactView Formula) Formula
tree_setting layouts readings P m n = record {
  says = Some;
  lays = λ v. v;
  view = shape;
  layouts = layouts;
  readings = readings;
  principals = P;
  room = record { trail = m; waiting = n };
}

-- the branch that a derivation of a sequent begins with
abbrev pub root : Sequent → Branch (FactView Formula)
root s = branch s.facts s.labels

-- a sequent that can be asked about: 1 to 8 principals, 1 to 32 labels, and its facts speak of no others
pub record Proper (P : ℕ) (s : Sequent) : Type 0 where
  pub principals : SomePrincipals P
  pub labels : SomeLabels s.labels
  pub scoped : WellScoped P s

-- it holds in every finite model that the conditions admit
abbrev pub Valid : List Condition → ℕ → Sequent → Type 0
Valid conditions P s = (m : Model) → Admits conditions P m → Holds m s

-- not a left formula, and no right formula but falsity
abbrev pub Unsupported : FactView Formula → Type 0
Unsupported (Left x f) = ⊥
Unsupported (Right x f) = f ≡ falsity
Unsupported (Linked l) = Unit {0}

-- the answer r to a derivation of s, over a pile with these conditions
pub record Verdict (conditions : List Condition) (S : Setting (FactView Formula) Formula) (s : Sequent) (bytes : List ℕ) (r : Answer) : Type 0 where
  -- which it is
  pub answer : r ≡ examined S (root s) bytes
  -- taken exactly where the records list a closed derivation; refused exactly at the first bad record, with its first cause
  pub exact : Exactly S (root s) bytes r
  -- what is taken holds in every model that the pile admits
  pub sound : r ≡ Ok tt → Proper S.principals s → Valid conditions S.principals s
  -- a sequent with no left formula, and none but falsity on the right, is not taken
  pub consistent : r ≡ Ok tt → AllByRecursion Unsupported s.facts → ⊥
