-- The layer keeps its laws, and what it stands for holds. Assumes nothing.
use Rattle.std.specs.Prelude.{◌≡◌, ℕ, ◌<◌, Bool, true, false, cond, T, Option, nat_lt, refl}
use Rattle.std.proofs.Common.{sym, subst, inl, inr, arith, ltb→lt}
use Rattle.records.specs.declared.numbers.Label.{Label}
use Rattle.records.specs.declared.numbers.Principal.{Principal}
use Rattle.logic.specs.declared.terms.Modality.TheVariants.{Says}
use Rattle.logic.specs.Models.{holds, ◌⊃◌, modal}
use Rattle.piles.specs.declared.terms.Named.{Named}
use Rattle.piles.specs.declared.terms.Named.TheVariants.{Nothing, Single, Pair}
use Rattle.piles.specs.declared.terms.Premise.{Premise}
use Rattle.piles.specs.declared.terms.Reading.{Reading}
use Rattle.piles.specs.declared.terms.Reading.TheVariants.{Unknown, NoInstance, Goes}
use Rattle.piles.specs.Asked.{has_formula}
use Rattle.piles.specs.Readings.{Follows, ReadingUses, Usable, GivenIs}
use Rattle.piles.specs.Layers.{LayerLaws}
use Rattle.piles.specs.Instances.{of_none}
use Rattle.piles.proofs.Instances.{of_none_good, of_label_good, arrow_old}
use Rattle.logic.proofs.Bools.{T_if, T_every}
use Rattle.stranger.specs.declared.believed.Believed.{Believed}
use Rattle.stranger.specs.BelievedMeaning.{SaysWhatIs, SaidIsSo, believed_layout, believed_reading}

-- what is true where there is no instance, and of the arrow where the principal is one, is true of the choice
if_below : (Good : Reading → Type 0) → Good NoInstance → (a P : ℕ) (r : Reading) → (a < P → Good r) → Good (cond (nat_lt a P) r NoInstance)
if_below Good ok a P r g = go (nat_lt a P) (ltb→lt a P)
  where
    go : (b : Bool) → (T b → a < P) → Good (cond b r NoInstance)
    go true h = g (h tt)
    go false h = ok

abbrev Told : Reading → Type 0
Told r = r ≡ Unknown → ⊥

none_told : Told NoInstance
none_told e = cc

goes_told : (q : Premise) → Told (Goes q)
goes_told q e = cc

formula : (m : Named) (r : Reading) → T (has_formula m) → of_none m r ≡ NoInstance
formula Nothing r t = absurd t
formula (Single f) r t = refl
formula (Pair f g) r t = refl

pub believed_laws : LayerLaws {L = Believed} 100 believed_layout (λ s. SaysWhatIs s.who) (λ s o P _. believed_reading s.who o P)
believed_laws = record {
  sound = λ l P n o asked F regular c σ placed hold.
      of_none_good (Follows F σ n) tt o.named _
      (of_label_good (Follows F σ n) tt n o.label asked.asked.label _ λ x given hx.
      if_below (Follows F σ n) tt l.who.0 P _ λ h.
      (σ x, placed x hx, arrow_old F σ n (σ x) Says l.who x x hx hx (c h (σ x).0 (placed x hx))));
  scope = λ l P n o asked.
      of_none_good (ReadingUses P (Usable o n)) tt o.named _
      (of_label_good (ReadingUses P (Usable o n)) tt n o.label asked.asked.label _ λ x given hx.
      if_below (ReadingUses P (Usable o n)) tt l.who.0 P _ λ h.
      let here : GivenIs x o.label = subst (λ (m : Option Label). GivenIs x m) (sym given) refl in
      (h, inr (inl here), inr (inl here)));
  one_world = λ l P some h x hx. tt;
  high = omega arith;
  known = λ l P n o asked.
      of_none_good Told none_told o.named _
      (of_label_good Told none_told n o.label asked.asked.label _ λ x given hx.
      if_below Told none_told l.who.0 P _ λ h. goes_told _);
  formulas = λ l P n o asked t. formula o.named _ t;
}

pub said_so : (who : Principal) → SaidIsSo who
said_so who P m keeps c h f x hx =
    (T_every m.frame.worlds (λ y. m.frame.above x y ⊃ (holds m (modal Says who.0 f) y ⊃ holds m f y))).1 λ y hy.
    (T_if (m.frame.above x y) (holds m (modal Says who.0 f) y ⊃ holds m f y)).1 λ _.
    (T_if (holds m (modal Says who.0 f) y) (holds m f y)).1 λ t.
    (T_if (m.frame.arrow Says who.0 y y) (holds m f y)).0 ((T_every m.frame.worlds (λ z. m.frame.arrow Says who.0 y z ⊃ holds m f z)).0 t y hy) (c h y hy)
