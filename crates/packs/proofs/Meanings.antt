-- The condition of each layer as a test, and what the test says in plain words. Assumes nothing.
use Rattle.std.proofs.Common.{◌≡◌, ℕ, ◌<◌, Bool, ◌||◌, T, ◌⊎◌, ◌↔◌, Decides, sym, ◌∙◌}
use mathlib.Core.Logic.{⊎_map}
use Rattle.logic.specs.declared.terms.Modality.TheVariants.{Says, Controls, Ratified, Permitted}
use Rattle.logic.specs.Models.{Frame, every, any, ◌⊃◌}
use Rattle.logic.proofs.Bools.{T_and, T_or, T_if, T_every, T_any}
use Rattle.piles.proofs.Passing.{T_true, true_T}
use Rattle.packs.specs.ISsMeaning.{SaysSays}
use Rattle.packs.specs.C2pMeaning.{ControlsPermits}
use Rattle.packs.specs.DelCMeaning.{Delegates}
use Rattle.packs.specs.RsMeaning.{SaysRatified}
use Rattle.packs.specs.Tests.{ratified_test, shared_test, through_test, delegates_test}

-- a number decides what its test decides
pub by_test : (r b : Bool) {Q : Type 0} → r ≡ b → T b ↔ Q → Decides r Q
by_test r b e iff = (λ t. iff.0 (T_true b (sym e ∙ t)), λ q. e ∙ true_T b (iff.1 q))

-- what a test at each number below n says, where each says Q
each_says : (n : ℕ) (p : ℕ → Bool) (Q : ℕ → Type 0) → ((y : ℕ) → T (p y) ↔ Q y) → T (every n p) ↔ ((y : ℕ) → y < n → Q y)
each_says n p Q iff = (λ t y h. (iff y).0 ((T_every n p).0 t y h), λ f. (T_every n p).1 (λ y h. (iff y).1 (f y h)))

-- .. and at some number
some_says : (n : ℕ) (p : ℕ → Bool) (Q : ℕ → Type 0) → ((y : ℕ) → T (p y) ↔ Q y) → T (any n p) ↔ ((y : ℕ) × (y < n) × Q y)
some_says n p Q iff = (
  λ t. let e = (T_any n p).0 t in (e.0, e.1, (iff e.0).0 e.2),
  λ f. (T_any n p).1 (f.0, f.1, (iff f.0).1 f.2),
)

-- .. and a test after another one
if_says : (a b : Bool) (Q : Type 0) → T b ↔ Q → T (a ⊃ b) ↔ (T a → Q)
if_says a b Q iff = (λ t h. iff.0 ((T_if a b).0 t h), λ f. (T_if a b).1 (λ h. iff.1 (f h)))

-- .. and in place of it
or_says : (a b : Bool) (Q : Type 0) → T b ↔ Q → T (a || b) ↔ (T a ⊎ Q)
or_says a b Q iff = (λ t. ⊎_map (λ h. h) iff.0 ((T_or a b).0 t), λ f. (T_or a b).1 (⊎_map (λ h. h) iff.1 f))

-- RS
abbrev pub rs_test : ℕ → Frame → Bool
rs_test P F = every P λ A. every F.worlds (ratified_test F A)

pub rs_says : (P : ℕ) (F : Frame) → T (rs_test P F) ↔ SaysRatified P F
rs_says P F = each_says P _ _ λ A. each_says F.worlds _ _ λ x. each_says F.worlds _ _ λ y. T_if (F.arrow Says A x y) (F.arrow Ratified A x y)

-- C2P
abbrev pub c2p_test : ℕ → Frame → Bool
c2p_test P F = every P λ A. every F.worlds (shared_test F A)

pub c2p_says : (P : ℕ) (F : Frame) → T (c2p_test P F) ↔ ControlsPermits P F
c2p_says P F = each_says P _ _ λ A. each_says F.worlds _ _ λ x. some_says F.worlds _ _ λ y. T_and (F.arrow Controls A x y) (F.arrow Permitted A x y)

-- I-SS
abbrev pub i_ss_test : ℕ → Frame → Bool
i_ss_test P F = every P λ A. every P λ B. every F.worlds λ x. every F.worlds (through_test F A B x)

pub i_ss_says : (P : ℕ) (F : Frame) → T (i_ss_test P F) ↔ SaysSays P F
i_ss_says P F =
    each_says P _ _ λ A. each_says P _ _ λ B. each_says F.worlds _ _ λ x. each_says F.worlds _ _ λ y. if_says (F.arrow Says B x y) _ _
    (each_says F.worlds _ _ λ z. T_if (F.arrow Says A y z) (F.arrow Says A x z))

-- del-C
abbrev pub del_c_test : ℕ → Frame → Bool
del_c_test P F = every P λ A. every P λ B. every F.worlds (delegates_test F A B)

pub del_c_says : (P : ℕ) (F : Frame) → T (del_c_test P F) ↔ Delegates P F
del_c_says P F =
    each_says P _ _ λ A. each_says P _ _ λ B. each_says F.worlds _ _ λ x. each_says F.worlds _ _ λ y. if_says (F.arrow Controls B x y) _ _
    (or_says (F.arrow Controls A x y) _ _ (some_says F.worlds _ _ λ z. T_and (F.arrow Says A x z) (F.arrow Controls B z y)))
