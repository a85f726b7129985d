-- The four layers keep their laws. Assumes nothing.
use Rattle.std.specs.Prelude.{◌≡◌, ℕ, Bool, true, false, ◌||◌, T, ◌⊎◌, Option, refl}
use Rattle.std.proofs.Common.{sym, subst, inl, inr, arith}
use Rattle.std.proofs.Math.Logic.{⊎_map}
use Rattle.records.specs.declared.numbers.Label.{Label}
use Rattle.records.specs.declared.numbers.World.{World}
use Rattle.records.specs.declared.numbers.Principal.{Principal}
use Rattle.logic.specs.declared.terms.Modality.TheVariants.{Says, Controls, Ratified, Permitted}
use Rattle.logic.specs.declared.terms.Link.TheVariants.{Arrow}
use Rattle.piles.specs.declared.terms.Named.{Named}
use Rattle.piles.specs.declared.terms.Named.TheVariants.{Nothing, Single, Pair}
use Rattle.piles.specs.declared.terms.Operands.{Operands}
use Rattle.piles.specs.declared.terms.Premise.TheVariants.{Adds}
use Rattle.piles.specs.declared.terms.Reading.{Reading}
use Rattle.piles.specs.declared.terms.Reading.TheVariants.{Unknown, NoInstance, Goes, Splits}
use Rattle.piles.specs.Asked.{has_formula, is_formula}
use Rattle.piles.specs.Readings.{Follows, ReadingUses, Usable, GivenIs, NamedHas}
use Rattle.piles.specs.Layers.{LayerLaws}
use Rattle.piles.specs.Instances.{of_one, of_two, of_none, of_arrow, of_same}
use Rattle.piles.proofs.Instances.{Known, all_known, Usables, all_usable, Any, all_any, of_none_good, of_label_good, of_principal_good, of_same_good, of_one_good, of_two_good, of_arrow_good, of_arrow_formula, arrow_old, arrow_to_new, arrow_from_new}
use Rattle.packs.specs.declared.i_ss.ISs.{ISs}
use Rattle.packs.specs.declared.c2p.C2p.{C2p}
use Rattle.packs.specs.declared.del_c.DelC.{DelC}
use Rattle.packs.specs.declared.rs.Rs.{Rs}
use Rattle.packs.specs.ISsMeaning.{SaysSays, i_ss_layout, i_ss_reading}
use Rattle.packs.specs.C2pMeaning.{ControlsPermits, c2p_layout, c2p_reading}
use Rattle.packs.specs.DelCMeaning.{Delegates, del_c_layout, del_c_reading}
use Rattle.packs.specs.RsMeaning.{SaysRatified, rs_layout, rs_reading}

-- the kind is the layer's own
abbrev Told : Reading → Type 0
Told r = r ≡ Unknown → ⊥

none_told : Told NoInstance
none_told e = cc

goes_told : (q : _) → Told (Goes q)
goes_told q e = cc

splits_told : (q r : _) → Told (Splits q r)
splits_told q r e = cc

abbrev Refused : Reading → Type 0
Refused r = r ≡ NoInstance

-- a label of the facts named may be used
named_usable : (o : Operands) (n : ℕ) (x : Label) → NamedHas x o.named → Usable o n x
named_usable o n x h = inr (inr h)

pub rs_laws : LayerLaws {L = Rs} 67 rs_layout (λ _. SaysRatified) (λ _ o _ _. rs_reading o)
rs_laws = record {
  sound = λ l P n o asked F regular c σ placed hold.
      of_one_good (Follows F σ n) tt (Known P n F σ) o.named (all_known P n F σ o.named asked.asked.named hold) _ λ f hf.
      of_arrow_good (Follows F σ n) tt (Known P n F σ) Says f hf _ λ A x y h.
      (σ x, placed x h.0.1, arrow_old F σ n (σ x) Ratified A x y h.0.1 h.0.2 (c A.0 h.0.0 (σ x).0 (placed x h.0.1) (σ y).0 (placed y h.0.2) h.1));
  scope = λ l P n o asked.
      of_one_good (ReadingUses P (Usable o n)) tt (Usables P n (Usable o n)) o.named (all_usable P n (Usable o n) o.named asked.asked.named (named_usable o n)) _ λ f hf.
      of_arrow_good (ReadingUses P (Usable o n)) tt (Usables P n (Usable o n)) Says f hf _ λ A x y h.
      (h.0.0, h.1 x (inl refl), h.1 y (inr refl));
  one_world = λ l P some A hA x hx y hy t. tt;
  high = omega arith;
  known = λ l P n o asked.
      of_one_good Told none_told Any o.named (all_any o.named) _ λ f hf.
      of_arrow_good Told none_told Any Says f tt _ λ A x y h. goes_told _;
  formulas = λ l P n o asked t. formula o.named t;
}
  where
    formula : (m : Named) → T (has_formula m) → of_one m (λ f. of_arrow Says f λ A x y. Goes (Adds (Arrow Ratified A x y))) ≡ NoInstance
    formula Nothing t = refl
    formula (Single f) t = of_arrow_formula Says f _ t
    formula (Pair f g) t = refl

-- one of two facts is a formula
pub either : (a b : Bool) → T (a || b) → T a ⊎ T b
either true b t = inl tt
either false b t = inr t

pub i_ss_laws : LayerLaws {L = ISs} 64 i_ss_layout (λ _. SaysSays) (λ _ o _ _. i_ss_reading o)
i_ss_laws = record {
  sound = λ l P n o asked F regular c σ placed hold.
      of_two_good (Follows F σ n) tt (Known P n F σ) o.named (all_known P n F σ o.named asked.asked.named hold) _ λ f g hf hg.
      of_arrow_good (Follows F σ n) tt (Known P n F σ) Says f hf _ λ B x y h.
      of_arrow_good (Follows F σ n) tt (Known P n F σ) Says g hg _ λ A u z k.
      of_same_good (Follows F σ n) tt u y _ λ e. (
        σ x,
        placed x h.0.1,
        arrow_old F σ n (σ x) Says A x z h.0.1 k.0.2
            (c A.0 k.0.0 B.0 h.0.0 (σ x).0 (placed x h.0.1) (σ y).0 (placed y h.0.2) h.1 (σ z).0 (placed z k.0.2) (subst (λ (v : Label). T (F.arrow Says A.0 (σ v).0 (σ z).0)) e k.1)),
      );
  scope = λ l P n o asked.
      of_two_good (ReadingUses P (Usable o n)) tt (Usables P n (Usable o n)) o.named (all_usable P n (Usable o n) o.named asked.asked.named (named_usable o n)) _ λ f g hf hg.
      of_arrow_good (ReadingUses P (Usable o n)) tt (Usables P n (Usable o n)) Says f hf _ λ B x y h.
      of_arrow_good (ReadingUses P (Usable o n)) tt (Usables P n (Usable o n)) Says g hg _ λ A u z k.
      of_same_good (ReadingUses P (Usable o n)) tt u y _ λ e. (k.0.0, h.1 x (inl refl), k.1 z (inr refl));
  one_world = λ l P some A hA B hB x hx y hy t z hz s. tt;
  high = omega arith;
  known = λ l P n o asked.
      of_two_good Told none_told Any o.named (all_any o.named) _ λ f g hf hg.
      of_arrow_good Told none_told Any Says f tt _ λ B x y h.
      of_arrow_good Told none_told Any Says g tt _ λ A u z k.
      of_same_good Told none_told u y _ λ e. goes_told _;
  formulas = λ l P n o asked t. formula o.named t;
}
  where
    formula : (m : Named) → T (has_formula m) → of_two m (λ f g. of_arrow Says f λ B x y. of_arrow Says g λ A u z. of_same u y (Goes (Adds (Arrow Says A x z)))) ≡ NoInstance
    formula Nothing t = refl
    formula (Single f) t = refl
    formula (Pair f g) t =
        elim (either (is_formula f) (is_formula g) t) [
          | inl s ↦ of_arrow_formula Says f _ s
          | inr s ↦ of_arrow_good Refused refl Any Says f tt _ (λ B x y h. of_arrow_formula Says g _ s)
        ]

pub c2p_laws : LayerLaws {L = C2p} 65 c2p_layout (λ _. ControlsPermits) (λ _ o _ n. c2p_reading o n)
c2p_laws = record {
  sound = λ l P n o asked F regular c σ placed hold.
      of_none_good (Follows F σ n) tt o.named _
      (of_label_good (Follows F σ n) tt n o.label asked.asked.label _ λ x given hx.
      of_principal_good (Follows F σ n) tt P o.principal asked.asked.principal _ λ A hA.
      let e = c A.0 hA (σ x).0 (placed x hx) in
      let w : World = record { 0 = e.0 } in
      (w, e.1, (arrow_to_new F σ n w Controls A x hx e.2.0, arrow_to_new F σ n w Permitted A x hx e.2.1)));
  scope = λ l P n o asked.
      of_none_good (ReadingUses P (Usable o n)) tt o.named _
      (of_label_good (ReadingUses P (Usable o n)) tt n o.label asked.asked.label _ λ x given hx.
      of_principal_good (ReadingUses P (Usable o n)) tt P o.principal asked.asked.principal _ λ A hA.
      let here : GivenIs x o.label = subst (λ (m : Option Label). GivenIs x m) (sym given) refl in
      ((hA, inr (inl here), inl refl), (hA, inr (inl here), inl refl)));
  one_world = λ l P some A hA x hx. (0, omega arith, (tt, tt));
  high = omega arith;
  known = λ l P n o asked.
      of_none_good Told none_told o.named _
      (of_label_good Told none_told n o.label asked.asked.label _ λ x given hx.
      of_principal_good Told none_told P o.principal asked.asked.principal _ λ A hA. goes_told _);
  formulas = λ l P n o asked t. formula o.named _ t;
}
  where
    formula : (m : Named) (r : Reading) → T (has_formula m) → of_none m r ≡ NoInstance
    formula Nothing r t = absurd t
    formula (Single f) r t = refl
    formula (Pair f g) r t = refl

pub del_c_laws : LayerLaws {L = DelC} 66 del_c_layout (λ _. Delegates) (λ _ o _ n. del_c_reading o n)
del_c_laws = record {
  sound = λ l P n o asked F regular c σ placed hold.
      of_one_good (Follows F σ n) tt (Known P n F σ) o.named (all_known P n F σ o.named asked.asked.named hold) _ λ f hf.
      of_arrow_good (Follows F σ n) tt (Known P n F σ) Controls f hf _ λ B x y h.
      of_principal_good (Follows F σ n) tt P o.principal asked.asked.principal _ λ A hA.
      ⊎_map
      (λ t. (σ x, placed x h.0.1, arrow_old F σ n (σ x) Controls A x y h.0.1 h.0.2 t))
      (λ e. let w : World = record { 0 = e.0 } in
      (w, e.1, (arrow_to_new F σ n w Says A x h.0.1 e.2.0, arrow_from_new F σ n w Controls B y h.0.2 e.2.1)))
      (c A.0 hA B.0 h.0.0 (σ x).0 (placed x h.0.1) (σ y).0 (placed y h.0.2) h.1);
  scope = λ l P n o asked.
      of_one_good (ReadingUses P (Usable o n)) tt (Usables P n (Usable o n)) o.named (all_usable P n (Usable o n) o.named asked.asked.named (named_usable o n)) _ λ f hf.
      of_arrow_good (ReadingUses P (Usable o n)) tt (Usables P n (Usable o n)) Controls f hf _ λ B x y h.
      of_principal_good (ReadingUses P (Usable o n)) tt P o.principal asked.asked.principal _ λ A hA.
      ((hA, h.1 x (inl refl), h.1 y (inr refl)), ((hA, h.1 x (inl refl), inl refl), (h.0.0, inl refl, h.1 y (inr refl))));
  one_world = λ l P some A hA B hB x hx y hy t. inl tt;
  high = omega arith;
  known = λ l P n o asked.
      of_one_good Told none_told Any o.named (all_any o.named) _ λ f hf.
      of_arrow_good Told none_told Any Controls f tt _ λ B x y h.
      of_principal_good Told none_told P o.principal asked.asked.principal _ λ A hA. splits_told _ _;
  formulas = λ l P n o asked t. formula o.named _ t;
}
  where
    formula : (m : Named) (k : Principal → Label → Label → Reading) → T (has_formula m) → of_one m (λ f. of_arrow Controls f k) ≡ NoInstance
    formula Nothing k t = refl
    formula (Single f) k t = of_arrow_formula Controls f k t
    formula (Pair f g) k t = refl
