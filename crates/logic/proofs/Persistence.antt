-- Persistence: what holds at a world holds above it. Assumes nothing.
use mathlib.Core.Logic.{⊎_map}
use Rattle.std.proofs.Common.{arith, ℕ, ◌<◌, T}
use Rattle.logic.specs.declared.terms.Modality.{Modality}
use Rattle.logic.specs.declared.terms.Modality.TheVariants.{Says, Controls, Ratified, Permitted}
use Rattle.logic.specs.Models.{Formula, Model, holds, atom, falsity, and, or, implies, modal}
use Rattle.logic.specs.ModelRules.{Upward, Keeps, universal}
use Rattle.logic.specs.Facts.{Principals}
use Rattle.logic.specs.Truth.{Persistence}
use Rattle.logic.proofs.Bools.{T_and, T_or}
use Rattle.logic.proofs.Truth.{holds_implies, holds_universal, holds_permitted}

module _ (P : ℕ) (m : Model) (keeps : Keeps P m) where
  -- every end of an arrow from y is one from each x below it
  universal_up : (k : Modality) → T (universal k) → (A : ℕ) (f : Formula) → A < P → Upward m.frame (holds m (modal k A f))
  universal_up k u A f hA x hx y hy o t =
      grind (arith, holds_universal, keeps.regular.monotone k u A hA x hx y hy, keeps.regular.reflexive)

  -- an end of a permitted arrow from x is one from each y above it
  permitted_up : (A : ℕ) (f : Formula) → A < P → Upward m.frame (holds m (modal Permitted A f))
  permitted_up A f hA x hx y hy o t =
      grind (arith, holds_permitted, keeps.regular.reflexive, keeps.regular.monotone_permitted A hA)

  -- by the signs of the formula
  up : (f : Formula) → Principals P f → Upward m.frame (holds m f)
  up (atom a) p x hx y hy o t = keeps.rows_up a x hx y hy o t
  up falsity p x hx y hy o t = t
  up (and f g) p x hx y hy o t =
      let h = (T_and (holds m f x) (holds m g x)).0 t in (T_and (holds m f y) (holds m g y)).1 (up f p.0 x hx y hy o h.0, up g p.1 x hx y hy o h.1)
  up (or f g) p x hx y hy o t =
      (T_or (holds m f y) (holds m g y)).1 (⊎_map (up f p.0 x hx y hy o) (up g p.1 x hx y hy o) ((T_or (holds m f x) (holds m g x)).0 t))
  up (implies f g) p x hx y hy o t =
      (holds_implies m f g y).1 (λ z hz q v. (holds_implies m f g x).0 t z hz (keeps.regular.transitive x hx y hy z hz o q) v)
  up (modal Says A f) p x hx y hy o t = universal_up Says tt A f p.0 x hx y hy o t
  up (modal Controls A f) p x hx y hy o t = universal_up Controls tt A f p.0 x hx y hy o t
  up (modal Ratified A f) p x hx y hy o t = universal_up Ratified tt A f p.0 x hx y hy o t
  up (modal Permitted A f) p x hx y hy o t = permitted_up A f p.0 x hx y hy o t

pub persistence : Persistence
persistence P m keeps f p = up P m keeps f p
