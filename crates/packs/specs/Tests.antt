-- The conditions of the layers as tests of a frame, one world or two at a time. Assumes nothing.
use Rattle.std.specs.Prelude.{ℕ, Bool, ◌&&◌, ◌||◌}
use Rattle.logic.specs.declared.terms.Modality.TheVariants.{Says, Controls, Ratified, Permitted}
use Rattle.logic.specs.Models.{Frame, every, any, ◌⊃◌}

-- RS from x: where x S_A y, also x R_A y
abbrev pub ratified_test : Frame → ℕ → ℕ → Bool
ratified_test F A x = every F.worlds λ y. F.arrow Says A x y ⊃ F.arrow Ratified A x y

-- C2P from x: some y has x C_A y and x P_A y
abbrev pub shared_test : Frame → ℕ → ℕ → Bool
shared_test F A x = any F.worlds λ y. F.arrow Controls A x y && F.arrow Permitted A x y

-- I-SS from x to y: where x S_B y, if y S_A z, also x S_A z
abbrev pub through_test : Frame → ℕ → ℕ → ℕ → ℕ → Bool
through_test F A B x y = F.arrow Says B x y ⊃ every F.worlds λ z. F.arrow Says A y z ⊃ F.arrow Says A x z

-- some z has x S_A z and z C_B y
abbrev pub handed_test : Frame → ℕ → ℕ → ℕ → ℕ → Bool
handed_test F A B x y = any F.worlds λ z. F.arrow Says A x z && F.arrow Controls B z y

-- del-C from x: where x C_B y, also x C_A y, or there is such a z
abbrev pub delegates_test : Frame → ℕ → ℕ → ℕ → Bool
delegates_test F A B x = every F.worlds λ y. F.arrow Controls B x y ⊃ (F.arrow Controls A x y || handed_test F A B x y)
