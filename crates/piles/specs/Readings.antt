-- What an answer of a pack says: which premise holds in a frame, and which labels and principals it uses. Assumes nothing.
use Rattle.std.specs.Prelude.{◌≡◌, ℕ, ◌<◌, cond, T, ◌⊎◌, Some, None, Option, ◌==◌}
use Rattle.records.specs.declared.numbers.Label.{Label}
use Rattle.records.specs.declared.numbers.World.{World}
use Rattle.logic.specs.declared.terms.Link.{Link}
use Rattle.logic.specs.declared.terms.Link.TheVariants.{Order, Arrow}
use Rattle.logic.specs.declared.terms.FactView.{FactView}
use Rattle.logic.specs.declared.terms.FactView.TheVariants.{Left, Right, Linked}
use Rattle.logic.specs.Models.{Frame}
use Rattle.logic.specs.Facts.{Standing, Placed, linked}
use Rattle.piles.specs.declared.terms.Named.{Named}
use Rattle.piles.specs.declared.terms.Named.TheVariants.{Nothing, Single, Pair}
use Rattle.piles.specs.declared.terms.Operands.{Operands}
use Rattle.piles.specs.declared.terms.Premise.{Premise}
use Rattle.piles.specs.declared.terms.Premise.TheVariants.{Adds, AddsBoth}
use Rattle.piles.specs.declared.terms.Reading.{Reading}
use Rattle.piles.specs.declared.terms.Reading.TheVariants.{Unknown, NoInstance, Goes, Splits}

-- a fact named holds: its order or arrow is in the frame; of a formula nothing is asked
abbrev pub FactHolds : Frame → Standing → FactView (Unit {0}) → Type 0
FactHolds F σ (Left x f) = Unit {0}
FactHolds F σ (Right x f) = Unit {0}
FactHolds F σ (Linked l) = T (linked F σ l)

-- every fact named holds
abbrev pub NamedHold : Frame → Standing → Named → Type 0
NamedHold F σ Nothing = Unit {0}
NamedHold F σ (Single f) = FactHolds F σ f
NamedHold F σ (Pair f g) = FactHolds F σ f × FactHolds F σ g

-- everything that a premise adds is in the frame
abbrev pub PremiseHolds : Frame → Standing → Premise → Type 0
PremiseHolds F σ (Adds l) = T (linked F σ l)
PremiseHolds F σ (AddsBoth l k) = T (linked F σ l) × T (linked F σ k)

-- the standing with label n at world w
abbrev pub extend : Standing → ℕ → World → Standing
extend σ n w x = cond (x.0 == n) w (σ x)

-- the premise holds for some world at the label n
abbrev pub Opens : Frame → Standing → ℕ → Premise → Type 0
Opens F σ n q = (w : World) × (w.0 < F.worlds) × PremiseHolds F (extend σ n w) q

-- one premise of an instance does
abbrev pub Follows : Frame → Standing → ℕ → Reading → Type 0
Follows F σ n Unknown = Unit {0}
Follows F σ n NoInstance = Unit {0}
Follows F σ n (Goes q) = Opens F σ n q
Follows F σ n (Splits q r) = Opens F σ n q ⊎ Opens F σ n r

-- under every standing of the labels below n where the named facts hold, one premise does
abbrev pub Respects : Frame → ℕ → Named → Reading → Type 0
Respects F n named r = (σ : Standing) → Placed F n σ → NamedHold F σ named → Follows F σ n r

-- x is a label of the link
abbrev pub LinkHas : Label → Link → Type 0
LinkHas x (Order y z) = (x ≡ y) ⊎ (x ≡ z)
LinkHas x (Arrow k A y z) = (x ≡ y) ⊎ (x ≡ z)

-- x is a label of the fact
abbrev pub FactHas : Label → FactView (Unit {0}) → Type 0
FactHas x (Left y f) = x ≡ y
FactHas x (Right y f) = x ≡ y
FactHas x (Linked l) = LinkHas x l

-- x is a label of a fact named
abbrev pub NamedHas : Label → Named → Type 0
NamedHas x Nothing = ⊥
NamedHas x (Single f) = FactHas x f
NamedHas x (Pair f g) = FactHas x f ⊎ FactHas x g

-- x is the label given
abbrev pub GivenIs : Label → Option Label → Type 0
GivenIs x None = ⊥
GivenIs x (Some y) = x ≡ y

-- x is the new label n, the label given, or a label of a fact named
abbrev pub Usable : Operands → ℕ → Label → Type 0
Usable o n x = (x.0 ≡ n) ⊎ (GivenIs x o.label ⊎ NamedHas x o.named)

-- a link uses only labels of a set, and principals below P
abbrev pub LinkUses : ℕ → (Label → Type 0) → Link → Type 0
LinkUses P S (Order x y) = S x × S y
LinkUses P S (Arrow k A x y) = (A.0 < P) × S x × S y

-- the same of a premise
abbrev pub PremiseUses : ℕ → (Label → Type 0) → Premise → Type 0
PremiseUses P S (Adds l) = LinkUses P S l
PremiseUses P S (AddsBoth l k) = LinkUses P S l × LinkUses P S k

-- the same of every premise of an instance
abbrev pub ReadingUses : ℕ → (Label → Type 0) → Reading → Type 0
ReadingUses P S Unknown = Unit {0}
ReadingUses P S NoInstance = Unit {0}
ReadingUses P S (Goes q) = PremiseUses P S q
ReadingUses P S (Splits q r) = PremiseUses P S q × PremiseUses P S r
