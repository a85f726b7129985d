-- What is seen of facts is what falsifies, where every label stands at a world. Assumes nothing.
use Rattle.std.proofs.Common.{◌≡◌, ℕ, ◌<◌, ◌≤◌, Bool, false, not, ◌&&◌, ltb, ◌⊎◌, inl, inr, List, ap, ◌∙◌, sym, lt_of_lt_of_le, pow_mono}
use Rattle.std.proofs.lemmas.Bool.{cases_lt, lt-ltb, le-ltb}
use Rattle.std.specs.Option.{option_map_or}
use Rattle.records.specs.declared.numbers.FormulaNumber.{FormulaNumber}
use Rattle.logic.specs.declared.terms.FactView.{FactView}
use Rattle.logic.specs.declared.terms.FactView.TheVariants.{Left, Right, Linked}
use Rattle.logic.specs.declared.terms.Node.{Node}
use Rattle.logic.specs.Facts.{falsifies, fact_map}
use Rattle.logic.specs.Formulas.{tree}
use Rattle.logic.specs.Stored.{stored}
use Rattle.logic.proofs.Facts.{facts_stored}
use Rattle.rows.specs.declared.masks.WorldSet.{WorldSet}
use Rattle.rows.specs.Masks.{bit, Mask}
use Rattle.rows.specs.PlacesOf.{standing_of}
use Rattle.rows.specs.RowsOf.{model_of}
use Rattle.rows.proofs.Bits.{bit_past}
use Rattle.sketches.specs.declared.read.GivenModel.{GivenModel}
use Rattle.sketches.specs.Answers.{Inside}
use Rattle.models.specs.Seen.{end_of, view_seen, fact_seen}
use Rattle.models.specs.Sets.{TrueSets}

-- a set tells of the worlds below n alone
pub bit_within : (n m : ℕ) (p : ℕ → Bool) → Mask n m p → (w : ℕ) → bit m w ≡ (ltb w n && p w)
bit_within n m p h w = go (cases_lt w n)
  where
    go : (w < n) ⊎ (n ≤ w) → bit m w ≡ (ltb w n && p w)
    go (inl l) = h.bits w l ∙ sym (ap (λ b. b && p w) (lt-ltb w n l))
    go (inr l) = bit_past m w (lt_of_lt_of_le h.small (pow_mono l)) ∙ sym (ap (λ b. b && p w) (le-ltb w n l))

module _ (g : GivenModel) (ns : List (Node FormulaNumber)) (sets : List WorldSet) (true_sets : TrueSets (model_of g.rows) ns sets) (inside : Inside g) where
  -- what is said
  view_is : (v : FactView FormulaNumber) → view_seen g sets v ≡ falsifies (model_of g.rows) (standing_of g.places) (fact_map (tree ns) v)
  view_is (Left x f) = (true_sets f).bits (standing_of g.places x).0 (inside x)
  view_is (Right x f) = ap not ((true_sets f).bits (standing_of g.places x).0 (inside x))
  view_is (Linked l) = ap (λ b. b && falsifies (model_of g.rows) (standing_of g.places) (Linked l)) (lt-ltb (standing_of g.places (end_of l)).0 g.rows.worlds (inside (end_of l)))

  -- a fact
  pub fact_is : (v : FactView FormulaNumber) → fact_seen g sets (stored v) ≡ falsifies (model_of g.rows) (standing_of g.places) (fact_map (tree ns) v)
  fact_is v = ap (λ o. option_map_or (view_seen g sets) o false) (facts_stored.told v) ∙ view_is v
