-- What premises add. Assumes nothing.
use Rattle.std.specs.Prelude.{ℕ, Bool, true, false, ◌||◌, List, [], ◌∷◌, ◌==◌}
use Rattle.logic.specs.declared.terms.Link.{Link}
use Rattle.logic.specs.declared.terms.Link.TheVariants.{Order, Arrow}
use Rattle.logic.specs.declared.terms.FactView.{FactView}
use Rattle.logic.specs.declared.terms.FactView.TheVariants.{Linked}
use Rattle.piles.specs.declared.terms.Premise.{Premise}
use Rattle.piles.specs.declared.terms.Premise.TheVariants.{Adds, AddsBoth}
use Rattle.rules.specs.declared.outcome.Few.{Few}
use Rattle.rules.specs.declared.outcome.Few.TheVariants.{One, Two, Three}
use Rattle.rules.specs.declared.outcome.Growth.{Growth}

module _ {F : Type 0} where
  -- the facts, with no label opened
  abbrev pub adds : Few F → Growth F
  adds facts = record { facts = facts; opens = false }

  -- the facts, and the label that they open
  abbrev pub opens_with : Few F → Growth F
  opens_with facts = record { facts = facts; opens = true }

  -- the facts in the order in which they are added
  abbrev pub listed : Few F → List (FactView F)
  listed (One f) = f ∷ []
  listed (Two f g) = f ∷ g ∷ []
  listed (Three f g h) = f ∷ g ∷ h ∷ []

-- a link uses the label n
abbrev pub uses : ℕ → Link → Bool
uses n (Order x y) = x.0 == n || y.0 == n
uses n (Arrow k A x y) = x.0 == n || y.0 == n

-- a pack's premise in a branch with n labels: it opens the label n exactly where it uses it
abbrev pub pack_adds : {F : Type 0} → ℕ → Premise → Growth F
pack_adds n (Adds l) = record { facts = One (Linked l); opens = uses n l }
pack_adds n (AddsBoth l k) = record { facts = Two (Linked l) (Linked k); opens = uses n l || uses n k }
