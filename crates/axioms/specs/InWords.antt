-- The published pile written out: its conditions, its bodies, and what is shown of them. Assumes nothing.
use Rattle.std.specs.Prelude.{◌≡◌, ℕ, zero, suc, ◌<◌, ◌≤◌, false, T, ◌⊎◌, ◌↔◌, List, [], ◌∷◌, Some}
use Rattle.logic.specs.declared.terms.Modality.{Modality}
use Rattle.logic.specs.declared.terms.Modality.TheVariants.{Says, Controls, Ratified, Permitted}
use Rattle.logic.specs.Models.{Frame, Model, Formula, holds, modal}
use Rattle.logic.specs.ModelRules.{Regular, Keeps}
use Rattle.piles.specs.Asked.{SomePrincipals}
use Rattle.piles.specs.Packs.{Condition, Meets, Judged, Admits}
use Rattle.axioms.specs.Valid.{ValidIn, says_said, controls_permitted, delegation, ratified_said}

-- the four conditions in words, for all principals A and B below P and all worlds x, y, z
pub record InWords (P : ℕ) (F : Frame) : Type 0 where
  -- I-SS: x S_B y and y S_A z give x S_A z
  pub says_through : (A B : ℕ) → A < P → B < P → (x y z : ℕ) → x < F.worlds → y < F.worlds → z < F.worlds →
      T (F.arrow Says B x y) → T (F.arrow Says A y z) → T (F.arrow Says A x z)
  -- C2P: some y has x C_A y and x P_A y
  pub shared_end : (A : ℕ) → A < P → (x : ℕ) → x < F.worlds → (y : ℕ) × (y < F.worlds) × (T (F.arrow Controls A x y) × T (F.arrow Permitted A x y))
  -- del-C: x C_B y gives x C_A y, or some z with x S_A z and z C_B y
  pub delegates : (A B : ℕ) → A < P → B < P → (x y : ℕ) → x < F.worlds → y < F.worlds → T (F.arrow Controls B x y) →
      T (F.arrow Controls A x y) ⊎ ((z : ℕ) × (z < F.worlds) × (T (F.arrow Says A x z) × T (F.arrow Controls B z y)))
  -- RS: x S_A y gives x R_A y
  pub ratified : (A : ℕ) → A < P → (x y : ℕ) → x < F.worlds → y < F.worlds → T (F.arrow Says A x y) → T (F.arrow Ratified A x y)

-- two frames agree on their worlds and on the principals below P
pub record Agree (P : ℕ) (F G : Frame) : Type 0 where
  pub worlds : F.worlds ≡ G.worlds
  pub above : (x y : ℕ) → x < F.worlds → y < F.worlds → F.above x y ≡ G.above x y
  pub arrow : (k : Modality) (A x y : ℕ) → A < P → x < F.worlds → y < F.worlds → F.arrow k A x y ≡ G.arrow k A x y

-- the condition at a place fails, and all others hold
abbrev pub FailsOnly : List Condition → ℕ → Frame → ℕ → Type 0
FailsOnly [] P F i = ⊥
FailsOnly (c ∷ cs) P F zero = (c P F → ⊥) × Meets cs P F
FailsOnly (c ∷ cs) P F (suc i) = c P F × FailsOnly cs P F i

-- some frame that keeps the rules fails only the condition at that place, and is judged so
pub record Alone (conditions : List Condition) (P i : ℕ) : Type 0 where
  pub frame : Frame
  pub regular : Regular P frame
  pub fails : FailsOnly conditions P frame i
  pub place : Judged conditions P frame (Some (record { 0 = i }))

-- some model that the conditions admit has, for A and some f, A says f at a world and not A ratified f
pub record SaysWithoutRatified (conditions : List Condition) (P A : ℕ) : Type 0 where
  pub model : Model
  pub admitted : Admits conditions P model
  pub world : ℕ
  pub inside : world < model.frame.worlds
  pub formula : Formula
  pub says : T (holds model (modal Says A formula) world)
  pub not_ratified : holds model (modal Ratified A formula) world ≡ false

-- the four axioms in a model
pub record FourAxioms (P : ℕ) (m : Model) : Type 0 where
  pub i_ss : ValidIn says_said P m
  pub c2p : ValidIn controls_permitted P m
  pub del_c : ValidIn delegation P m
  pub rs : ValidIn ratified_said P m

-- what is shown of the published pile's conditions
pub record AsPublished (conditions : List Condition) : Type 0 where
  -- a model is admitted exactly if it keeps the rules and the four conditions in words
  pub admits : (P : ℕ) (m : Model) → Admits conditions P m ↔ (Keeps P m × InWords P m.frame)
  -- the conditions depend only on the frame's worlds and the principals below P
  pub local : (P : ℕ) (F G : Frame) → Agree P F G → Meets conditions P F → Meets conditions P G
  -- each condition fails alone in some frame, at its place from the top; for del-C with two principals or more
  pub i_ss_alone : (P : ℕ) → SomePrincipals P → Alone conditions P 0
  pub c2p_alone : (P : ℕ) → SomePrincipals P → Alone conditions P 1
  pub del_c_alone : (P : ℕ) → SomePrincipals P → 2 ≤ P → Alone conditions P 2
  pub rs_alone : (P : ℕ) → SomePrincipals P → Alone conditions P 3
  -- the four axioms hold in every model that is admitted
  pub axioms : (P : ℕ) (m : Model) → Admits conditions P m → FourAxioms P m
  -- the turned axiom does not: for every principal, what it says it need not have ratified
  pub not_turned : (P A : ℕ) → SomePrincipals P → A < P → SaysWithoutRatified conditions P A
