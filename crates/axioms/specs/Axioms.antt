-- The four axioms are valid under the conditions of their layers. Assumes nothing.
use Rattle.std.specs.Prelude.{ℕ, ◌<◌, Bool, ◌&&◌, T, ◌⊎◌, ◌↔◌}
use Rattle.std.proofs.Common.{inl, inr}
use Rattle.logic.specs.declared.terms.Modality.TheVariants.{Says, Controls, Ratified, Permitted}
use Rattle.logic.specs.Models.{Formula, Model, holds, every, ◌⊃◌, and, implies, modal}
use Rattle.packs.specs.ISsMeaning.{SaysSays}
use Rattle.packs.specs.C2pMeaning.{ControlsPermits}
use Rattle.packs.specs.DelCMeaning.{Delegates}
use Rattle.packs.specs.RsMeaning.{SaysRatified}
use Rattle.logic.proofs.Bools.{T_and, T_if, T_every, T_any}
use Rattle.axioms.specs.Valid.{Valid, says_said, controls_permitted, delegation, ratified_said}

-- a test at all ends of arrows
ends_every : (n : ℕ) (e p : ℕ → Bool) → T (every n (λ y. e y ⊃ p y)) ↔ ((y : ℕ) → y < n → T (e y) → T (p y))
ends_every n e p = (
  λ t y h. (T_if (e y) (p y)).0 ((T_every n (λ z. e z ⊃ p z)).0 t y h),
  λ f. (T_every n (λ z. e z ⊃ p z)).1 (λ y h. (T_if (e y) (p y)).1 (f y h)),
)

module _ (m : Model) where
  -- an implication holds where, at every world above, its first part gives its second
  implied : (f g : Formula) (x : ℕ) → ((y : ℕ) → y < m.frame.worlds → T (holds m f y) → T (holds m g y)) → T (holds m (implies f g) x)
  implied f g x h =
      (ends_every m.frame.worlds (λ y. m.frame.above x y) (λ y. holds m f y ⊃ holds m g y)).1
      (λ y hy _. (T_if (holds m f y) (holds m g y)).1 (h y hy))

  -- says, controls and ratified: at every end of an arrow
  says : (A : ℕ) (f : Formula) (x : ℕ) → T (holds m (modal Says A f) x) ↔ ((y : ℕ) → y < m.frame.worlds → T (m.frame.arrow Says A x y) → T (holds m f y))
  says A f x = ends_every m.frame.worlds (λ y. m.frame.arrow Says A x y) (λ y. holds m f y)

  controls : (A : ℕ) (f : Formula) (x : ℕ) → T (holds m (modal Controls A f) x) ↔ ((y : ℕ) → y < m.frame.worlds → T (m.frame.arrow Controls A x y) → T (holds m f y))
  controls A f x = ends_every m.frame.worlds (λ y. m.frame.arrow Controls A x y) (λ y. holds m f y)

  ratified : (A : ℕ) (f : Formula) (x : ℕ) → T (holds m (modal Ratified A f) x) ↔ ((y : ℕ) → y < m.frame.worlds → T (m.frame.arrow Ratified A x y) → T (holds m f y))
  ratified A f x = ends_every m.frame.worlds (λ y. m.frame.arrow Ratified A x y) (λ y. holds m f y)

  -- permitted: at some end of an arrow
  permitted : (A : ℕ) (f : Formula) (x y : ℕ) → y < m.frame.worlds → T (m.frame.arrow Permitted A x y) → T (holds m f y) → T (holds m (modal Permitted A f) x)
  permitted A f x y h t u = (T_any m.frame.worlds (λ z. m.frame.arrow Permitted A x z && holds m f z)).1 (y, h, (T_and (m.frame.arrow Permitted A x y) (holds m f y)).1 (t, u))

pub i_ss_valid : Valid says_said SaysSays
i_ss_valid P m keeps c A B hA hB f fits x hx =
    implied m (modal Says A f) (modal Says B (modal Says A f)) x λ y hy t.
    (says m B (modal Says A f) y).1 λ z hz s.
    (says m A f z).1 λ w hw r.
    (says m A f y).0 t w hw (c A hA B hB y hy z hz s w hw r)

pub c2p_valid : Valid controls_permitted ControlsPermits
c2p_valid P m keeps c A B hA hB f fits x hx =
    implied m (modal Controls A f) (modal Permitted A f) x λ y hy t.
    let e = c A hA y hy in
    permitted m A f y e.0 e.1 e.2.1 ((controls m A f y).0 t e.0 e.1 e.2.0)

pub del_c_valid : Valid delegation Delegates
del_c_valid P m keeps c A B hA hB f fits x hx =
    implied m (and (modal Controls A f) (modal Says A (modal Controls B f))) (modal Controls B f) x λ y hy t.
    let d = (T_and (holds m (modal Controls A f) y) (holds m (modal Says A (modal Controls B f)) y)).0 t in
    (controls m B f y).1 λ z hz s. go y z hz d (c A hA B hB y hy z hz s)
  where
    go : (y z : ℕ) → z < m.frame.worlds → T (holds m (modal Controls A f) y) × T (holds m (modal Says A (modal Controls B f)) y) →
        T (m.frame.arrow Controls A y z) ⊎ ((w : ℕ) × (w < m.frame.worlds) × (T (m.frame.arrow Says A y w) × T (m.frame.arrow Controls B w z))) → T (holds m f z)
    go y z hz d (inl a) = (controls m A f y).0 d.0 z hz a
    go y z hz d (inr e) = (controls m B f e.0).0 ((says m A (modal Controls B f) y).0 d.1 e.0 e.1 e.2.0) z hz e.2.1

pub rs_valid : Valid ratified_said SaysRatified
rs_valid P m keeps c A B hA hB f fits x hx =
    implied m (modal Ratified A f) (modal Says A f) x λ y hy t.
    (says m A f y).1 λ z hz s.
    (ratified m A f y).0 t z hz (c A hA y hy z hz s)
