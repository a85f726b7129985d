-- What stored facts say. Assumes nothing.
use Rattle.std.proofs.Common.{◌≡◌, true, List, [], ◌∷◌, ◌++◌, map, length, Some, None, Option, Ok, Err, Result, sym, refl, ap, ◌∙◌, arith}
use Rattle.std.specs.List.{cons_option}
use Rattle.std.proofs.lemmas.List.Elements.{filter_map-append}
use Rattle.std.proofs.lemmas.List.Folds.{list_all-append}
use lib.ListN.{length-map}
use Rattle.std.proofs.lemmas.Bool.{false≢true, and_parts, and_from, eqb-true}
use Rattle.records.specs.declared.numbers.FormulaNumber.{FormulaNumber}
use Rattle.records.specs.declared.numbers.Label.{Label}
use Rattle.records.specs.declared.numbers.Principal.{Principal}
use Rattle.logic.specs.declared.fact.Fact.{Fact}
use Rattle.logic.specs.declared.fact.FactSort.{FactSort}
use Rattle.logic.specs.declared.fact.FactSort.TheVariants.{Blank, Left, Right, Order, Arrow}
use Rattle.logic.specs.declared.terms.FactView.{FactView}
use Rattle.logic.specs.declared.terms.FactView.TheVariants.{Left as LeftView, Right as RightView, Linked}
use Rattle.logic.specs.declared.terms.Link.TheVariants.{Order as OrderLink, Arrow as ArrowLink}
use Rattle.logic.specs.Stored.{stored, view_of}
use Rattle.logic.proofs.Facts.{facts_stored}
use Rattle.stack.specs.declared.stack.NoRoom.{NoRoom}
use Rattle.stack.specs.Stacks.{Pushed}
use Rattle.sequents.specs.AsStored.{stored_as, all_stored}
use Rattle.sequents.specs.Sequents.{views}

-- a fact by its sort and its numbers
abbrev by : FactSort → Principal → Label → Label → FormulaNumber → Fact
by s A x y g = record { sort = s; principal = A; x = x; y = y; formula = g }

-- a fact that is as it is stored, is what it says, stored
again : (s : FactSort) (A : Principal) (x y : Label) (g : FormulaNumber) → stored_as s (by s A x y g) ≡ true → map stored (cons_option (view_of (by s A x y g)) []) ≡ by s A x y g ∷ []
again Blank A x y g e = absurd (false≢true e)
again Left A x y g e = grind (arith, and_parts, eqb-true)
again Right A x y g e = grind (arith, and_parts, eqb-true)
again Order A x y g e = grind (arith, and_parts, eqb-true)
again (Arrow k) A x y g e = grind (arith, eqb-true)

-- what one fact may say stands in front
map_cons : (v : Option (FactView FormulaNumber)) (vs : List (FactView FormulaNumber)) → map stored (cons_option v vs) ≡ map stored (cons_option v []) ++ map stored vs
map_cons None vs = refl
map_cons (Some v) vs = refl

-- facts that are as they are stored, are what they say, stored
pub restored : (fs : List Fact) → all_stored fs ≡ true → map stored (views fs) ≡ fs
restored [] e = refl
restored (f ∷ fs) e =
    let h = and_parts (stored_as f.sort f) (all_stored fs) e in
    map_cons (view_of f) (views fs)
    ∙ ap (λ l. l ++ map stored (views fs)) (again f.sort f.principal f.x f.y f.formula h.0)
    ∙ ap (λ l. f ∷ l) (restored fs h.1)

pub views_length : (fs : List Fact) → all_stored fs ≡ true → length (views fs) ≡ length fs
views_length fs e = sym (length-map (views fs) stored) ∙ ap length (restored fs e)

-- one stored fact more says one thing more
pub views_push : (fs : List Fact) (v : FactView FormulaNumber) → views (fs ++ (stored v ∷ [])) ≡ views fs ++ (v ∷ [])
views_push fs v = filter_map-append view_of fs (stored v ∷ []) ∙ ap (λ o. views fs ++ cons_option o []) (facts_stored.told v)

as_stored : (v : FactView FormulaNumber) → stored_as (stored v).sort (stored v) ≡ true
as_stored (LeftView x f) = refl
as_stored (RightView x f) = refl
as_stored (Linked (OrderLink x y)) = refl
as_stored (Linked (ArrowLink k A x y)) = refl

-- and is as it is stored
pub all_stored_push : (fs : List Fact) (v : FactView FormulaNumber) → all_stored fs ≡ true → all_stored (fs ++ (stored v ∷ [])) ≡ true
all_stored_push fs v e = rw list_all-append (and_from _ _ e (and_from _ _ (as_stored v) refl))

-- after a fact that may have been taken, each is still as it is stored
pub push_stored : (fs gs : List Fact) (v : FactView FormulaNumber) (r : Result (Unit {0}) NoRoom)
    → Pushed 16 (stored v) fs r gs → all_stored fs ≡ true → all_stored gs ≡ true
push_stored fs gs v (Ok _) p e = rw p.1 (all_stored_push fs v e)
push_stored fs gs v (Err _) p e = rw p.1 e

-- and it is taken as what it says
pub push_views : (fs gs : List Fact) (v : FactView FormulaNumber) (r : Result (Unit {0}) NoRoom)
    → Pushed 16 (stored v) fs r gs → all_stored fs ≡ true → Pushed 16 v (views fs) r (views gs)
push_views fs gs v (Ok _) p e = (omega (arith, views_length fs e), rw p.1 (views_push fs v))
push_views fs gs v (Err _) p e = (omega (arith, views_length fs e), ap views p.1)
