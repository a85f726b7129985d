-- The step kinds of the published pile in words. Assumes nothing.
use Rattle.std.specs.Prelude.{◌≡◌, ℕ, true, false, ◌≢◌, ◌⊎◌, Some, None, Option}
use Rattle.records.specs.declared.numbers.Label.{Label}
use Rattle.records.specs.declared.numbers.Principal.{Principal}
use Rattle.logic.specs.declared.terms.Modality.TheVariants.{Says, Controls, Ratified, Permitted}
use Rattle.logic.specs.declared.terms.Link.TheVariants.{Arrow}
use Rattle.logic.specs.declared.terms.FactView.TheVariants.{Linked}
use Rattle.piles.specs.declared.terms.Arity.TheVariants.{Zero, One, Two}
use Rattle.piles.specs.declared.terms.Layout.{Layout}
use Rattle.piles.specs.declared.terms.Named.TheVariants.{Nothing, Single, Pair}
use Rattle.piles.specs.declared.terms.Operands.{Operands}
use Rattle.piles.specs.declared.terms.Premise.TheVariants.{Adds, AddsBoth}
use Rattle.piles.specs.declared.terms.Reading.{Reading}
use Rattle.piles.specs.declared.terms.Reading.TheVariants.{NoInstance, Goes, Splits}
use Rattle.piles.specs.Packs.{Readings}
use Rattle.piles.specs.Instances.{new_label}

-- the reading is that of RS, or there is no instance
abbrev pub RatifiesOrNot : Operands → Reading → Type 0
RatifiesOrNot o r =
    (r ≡ NoInstance) ⊎ ((A : Principal) × (x : Label) × (y : Label) × (o.named ≡ Single (Linked (Arrow Says A x y))) × (r ≡ Goes (Adds (Arrow Ratified A x y))))

-- four kinds, each with its body and what its step adds, at every number of principals and label count
pub record StepsInWords (layouts : ℕ → Option Layout) (readings : Readings) : Type 0 where
  -- 64, two positions: x S_B y and y S_A z add x S_A z
  pub i_ss_body : layouts 64 ≡ Some (record { positions = Two; label = false; principal = false })
  pub i_ss_step : (P n : ℕ) (A B : Principal) (x y z : Label) → readings 64 (record { named = Pair (Linked (Arrow Says B x y)) (Linked (Arrow Says A y z)); label = None; principal = None }) P n ≡ Goes (Adds (Arrow Says A x z))
  -- 65, a label and a principal: they add x C_A y and x P_A y for the new label y
  pub c2p_body : layouts 65 ≡ Some (record { positions = Zero; label = true; principal = true })
  pub c2p_step : (P n : ℕ) (A : Principal) (x : Label) → readings 65 (record { named = Nothing; label = Some x; principal = Some A }) P n ≡ Goes (AddsBoth (Arrow Controls A x (new_label n)) (Arrow Permitted A x (new_label n)))
  -- 66, one position and a principal: x C_B y and A add x C_A y, or x S_A z and z C_B y for the new label z
  pub del_c_body : layouts 66 ≡ Some (record { positions = One; label = false; principal = true })
  pub del_c_step : (P n : ℕ) (A B : Principal) (x y : Label) → readings 66 (record { named = Single (Linked (Arrow Controls B x y)); label = None; principal = Some A }) P n ≡ Splits (Adds (Arrow Controls A x y)) (AddsBoth (Arrow Says A x (new_label n)) (Arrow Controls B (new_label n) y))
  -- 67, one position: x S_A y adds x R_A y, and nothing else is an instance
  pub rs_body : layouts 67 ≡ Some (record { positions = One; label = false; principal = false })
  pub rs_step : (P n : ℕ) (A : Principal) (x y : Label) → readings 67 (record { named = Single (Linked (Arrow Says A x y)); label = None; principal = None }) P n ≡ Goes (Adds (Arrow Ratified A x y))
  pub rs_only : (P n : ℕ) (o : Operands) → RatifiesOrNot o (readings 67 o P n)
  -- no other kind
  pub no_more : (kind : ℕ) → kind ≢ 64 → kind ≢ 65 → kind ≢ 66 → kind ≢ 67 → layouts kind ≡ None
