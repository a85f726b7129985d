-- A layer that keeps its laws, on a pack that keeps its own, is a pack that does. Assumes nothing.
use Rattle.std.proofs.Common.{◌≡◌, ℕ, Bool, true, false, cond, T, eqb, List, Some, None, Option, sym, ◌∙◌, subst, arith}
use Rattle.std.proofs.lemmas.Bool.{ne_eqb, cond-false}
use Rattle.std.proofs.lemmas.Option.{same_Some}
use Rattle.piles.specs.declared.terms.Layout.{Layout}
use Rattle.piles.specs.declared.terms.Operands.{Operands}
use Rattle.piles.specs.declared.terms.Reading.{Reading}
use Rattle.piles.specs.declared.terms.Reading.TheVariants.{Unknown, NoInstance}
use Rattle.piles.specs.Asked.{AskedAs, has_formula}
use Rattle.piles.specs.Readings.{Respects, ReadingUses, Usable}
use Rattle.piles.specs.Packs.{Condition, Readings, Laws}
use Rattle.piles.specs.Layers.{LayerLaws, laid_conditions, laid_layouts, laid_readings}

-- asked with one of two equal bodies is asked with the other
as_told : {P n : ℕ} {o : Operands} (a b : Layout) → Some a ≡ Some b → AskedAs b P n o → AskedAs a P n o
as_told {P} {n} {o} a b e asked = subst (λ (l : Layout). AskedAs l P n o) (sym (same_Some a b e)) asked

-- whatever is true of the layer's reading, and of the reading below, where either's body is told, is true of the laid one's
laid_told : (Good : Reading → Type 0) {P n : ℕ} {o : Operands} (own : Bool) (a : Layout) (below : Option Layout) (r s : Reading) (b : Layout) →
    (AskedAs a P n o → Good r) → (below ≡ Some b → AskedAs b P n o → Good s) → cond own (Some a) below ≡ Some b → AskedAs b P n o → Good (cond own r s)
laid_told Good true a below r s b mine theirs e asked = mine (as_told a b e asked)
laid_told Good false a below r s b mine theirs e asked = theirs e asked

-- where no body is told, the layer's kind is not meant
laid_untold : (own : Bool) (a : Layout) (below : Option Layout) (r s : Reading) → (below ≡ None → s ≡ Unknown) → cond own (Some a) below ≡ None → cond own r s ≡ Unknown
laid_untold true a below r s theirs e = cc
laid_untold false a below r s theirs e = theirs e

module _ {S L B : Type 0} (layer : S → L) (under : S → B) (own : ℕ) (a : Layout) {condition : L → Condition} {reading : L → Operands → ℕ → ℕ → Reading} (mine : LayerLaws own a condition reading) {cs : B → List Condition} {ls : B → ℕ → Option Layout} {rs : B → Readings} (theirs : Laws cs ls rs) where
  pub laid_laws : Laws (λ (s : S). laid_conditions (condition (layer s)) (cs (under s))) (λ s. laid_layouts own a (ls (under s))) (λ s. laid_readings own (reading (layer s)) (rs (under s)))
  laid_laws = record {
    sound = λ s P n kind b o e asked F regular meets.
        laid_told (Respects F n o.named) (eqb kind own) a (ls (under s) kind) (reading (layer s) o P n) (rs (under s) kind o P n) b
        (λ h. mine.sound (layer s) P n o h F regular meets.0)
        (λ d h. theirs.sound (under s) P n kind b o d h F regular meets.1) e asked;
    scope = λ s P n kind b o e asked.
        laid_told (ReadingUses P (Usable o n)) (eqb kind own) a (ls (under s) kind) (reading (layer s) o P n) (rs (under s) kind o P n) b
        (mine.scope (layer s) P n o) (theirs.scope (under s) P n kind b o) e asked;
    one_world = λ s P some. (mine.one_world (layer s) P some, theirs.one_world (under s) P some);
    high = λ s kind low. cond-false _ _ _ (ne_eqb kind own (λ e. omega (arith, mine.high))) ∙ theirs.high (under s) kind low;
    untold = λ s P n kind o e asked.
        laid_untold (eqb kind own) a (ls (under s) kind) (reading (layer s) o P n) (rs (under s) kind o P n) (λ d. theirs.untold (under s) P n kind o d asked) e;
    told = λ s P n kind b o e asked.
        laid_told (λ r. r ≡ Unknown → ⊥) (eqb kind own) a (ls (under s) kind) (reading (layer s) o P n) (rs (under s) kind o P n) b
        (mine.known (layer s) P n o) (theirs.told (under s) P n kind b o) e asked;
    formulas = λ s P n kind b o e asked.
        laid_told (λ r. T (has_formula o.named) → r ≡ NoInstance) (eqb kind own) a (ls (under s) kind) (reading (layer s) o P n) (rs (under s) kind o P n) b
        (mine.formulas (layer s) P n o) (theirs.formulas (under s) P n kind b o) e asked;
  }
