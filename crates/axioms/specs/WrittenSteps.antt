-- The step kinds of the published pile, written out. Assumes nothing.
use Rattle.std.specs.Prelude.{◌≡◌, ℕ, Bool, cond, ◌≢◌, None, Option, refl}
use Rattle.std.proofs.Common.{ap, ◌∙◌, inl, inr}
use Rattle.std.proofs.lemmas.Bool.{eq-eqb, ne_eqb, cond-false}
use Rattle.records.specs.declared.numbers.Label.{Label}
use Rattle.records.specs.declared.numbers.Principal.{Principal}
use Rattle.logic.specs.declared.terms.Modality.TheVariants.{Says, Controls, Ratified, Permitted}
use Rattle.logic.specs.declared.terms.Link.TheVariants.{Order, Arrow}
use Rattle.logic.specs.declared.terms.FactView.TheVariants.{Left, Right, Linked}
use Rattle.piles.specs.declared.terms.Layout.{Layout}
use Rattle.piles.specs.declared.terms.Named.{Named}
use Rattle.piles.specs.declared.terms.Named.TheVariants.{Nothing, Single, Pair}
use Rattle.piles.specs.declared.terms.Operands.{Operands}
use Rattle.piles.specs.declared.terms.Premise.TheVariants.{Adds}
use Rattle.piles.specs.declared.terms.Reading.{Reading}
use Rattle.piles.specs.declared.terms.Reading.TheVariants.{Unknown, NoInstance, Goes}
use Rattle.piles.specs.Instances.{of_one, of_arrow}
use Rattle.piles.specs.Layers.{laid_layouts, laid_readings}
use Rattle.packs.specs.ISsMeaning.{i_ss_layout, i_ss_reading}
use Rattle.packs.specs.C2pMeaning.{c2p_layout, c2p_reading}
use Rattle.packs.specs.DelCMeaning.{del_c_layout, del_c_reading}
use Rattle.packs.specs.RsMeaning.{rs_layout, rs_reading}
use Rattle.axioms.specs.Steps.{RatifiesOrNot, StepsInWords}

-- the pile's bodies and readings, from the top
abbrev pub bodies : ℕ → Option Layout
bodies = laid_layouts 64 i_ss_layout (laid_layouts 65 c2p_layout (laid_layouts 66 del_c_layout (laid_layouts 67 rs_layout (λ _. None))))

abbrev pub steps : ℕ → Operands → ℕ → ℕ → Reading
steps =
    laid_readings 64 (λ o _ _. i_ss_reading o) (laid_readings 65 (λ o _ n. c2p_reading o n) (laid_readings 66 (λ o _ n. del_c_reading o n) (laid_readings 67 (λ o _ _. rs_reading o) (λ _ _ _ _. Unknown))))

only : (m : Named) (l : Option Label) (a : Option Principal) → RatifiesOrNot (record { named = m; label = l; principal = a }) (of_one m (λ f. of_arrow Says f λ A x y. Goes (Adds (Arrow Ratified A x y))))
only Nothing l a = inl refl
only (Single (Left x f)) l a = inl refl
only (Single (Right x f)) l a = inl refl
only (Single (Linked (Order x y))) l a = inl refl
only (Single (Linked (Arrow Says A x y))) l a = inr (A, x, y, refl, refl)
only (Single (Linked (Arrow Controls A x y))) l a = inl refl
only (Single (Linked (Arrow Ratified A x y))) l a = inl refl
only (Single (Linked (Arrow Permitted A x y))) l a = inl refl
only (Pair f g) l a = inl refl

none : (kind : ℕ) → kind ≢ 64 → kind ≢ 65 → kind ≢ 66 → kind ≢ 67 → bodies kind ≡ None
none kind a b c d =
    cond-false _ _ _ (ne_eqb kind 64 a) ∙ cond-false _ _ _ (ne_eqb kind 65 b) ∙ cond-false _ _ _ (ne_eqb kind 66 c) ∙ cond-false _ _ _ (ne_eqb kind 67 d)

pub steps_in_words : StepsInWords bodies steps
steps_in_words = record {
  i_ss_body = refl;
  i_ss_step = λ P n A B x y z. ap (λ (b : Bool). cond b (Goes (Adds (Arrow Says A x z))) NoInstance) (eq-eqb y.0 y.0 refl);
  c2p_body = refl;
  c2p_step = λ P n A x. refl;
  del_c_body = refl;
  del_c_step = λ P n A B x y. refl;
  rs_body = refl;
  rs_step = λ P n A x y. refl;
  rs_only = λ P n o. only o.named o.label o.principal;
  no_more = none;
}
