-- What a list of entries gives, with one entry more. Assumes nothing.
use Rattle.std.proofs.Common.{◌≡◌, ℕ, Bool, true, false, ◌&&◌, eqb, List, [], ◌∷◌, ◌++◌, is_some, Some, None, Option, unwrap_or, sym, refl, ap, ◌∙◌}
use Rattle.std.proofs.lemmas.Bool.{and_parts, and_from, eqb-true, eq-eqb, true≢false}
use Rattle.std.specs.Option.{option_or}
use Rattle.logic.specs.declared.terms.Modality.{Modality}
use Rattle.logic.specs.Modalities.{modality_number, numbered_modality}
use Rattle.logic.proofs.Numbers.{numbers_name}
use Rattle.rows.specs.declared.masks.WorldSet.{WorldSet}
use Rattle.rows.specs.Masks.{bit, no_set}
use Rattle.sketches.specs.declared.entry.Entry.{Entry}
use Rattle.sketches.specs.Described.{given}

or_none : {X : Type 0} (o : Option X) → option_or o None ≡ o
or_none None = refl
or_none (Some x) = refl

or_or : {X : Type 0} (o p q : Option X) → option_or o (option_or p q) ≡ option_or (option_or o p) q
or_or None p q = refl
or_or (Some x) p q = refl

-- one entry more gives what is not given yet
given_more : {X : Type 0} (gives : Entry → Option X) (es : List Entry) (e : Entry) → given gives (es ++ (e ∷ [])) ≡ option_or (given gives es) (gives e)
given_more gives [] e = or_none (gives e)
given_more gives (d ∷ es) e = ap (option_or (gives d)) (given_more gives es e) ∙ or_or (gives d) (given gives es) (gives e)

-- an entry that does not give it
pub given_old : {X : Type 0} (gives : Entry → Option X) (es : List Entry) (e : Entry) → gives e ≡ None → given gives (es ++ (e ∷ [])) ≡ given gives es
given_old gives es e other = given_more gives es e ∙ ap (option_or (given gives es)) other ∙ or_none (given gives es)

-- an entry that gives it, where it was not given
pub given_new : {X : Type 0} (gives : Entry → Option X) (es : List Entry) (e : Entry) (x : X) → given gives es ≡ None → gives e ≡ Some x → given gives (es ++ (e ∷ [])) ≡ Some x
given_new gives es e x none is = given_more gives es e ∙ ap (λ o. option_or o (gives e)) none ∙ is

pub none_of : {X : Type 0} (o : Option X) → is_some o ≡ false → o ≡ None
none_of None h = refl
none_of (Some x) h = absurd (true≢false h)

module _ (gives : Entry → Option WorldSet) (es : List Entry) (e : Entry) where
  -- a row that the entry leaves
  pub row_old : (b : Bool) (y : ℕ) → gives e ≡ None → b ≡ bit (unwrap_or (given gives es) no_set).0 y → b ≡ bit (unwrap_or (given gives (es ++ (e ∷ []))) no_set).0 y
  row_old b y other h = h ∙ ap (λ o. bit (unwrap_or o no_set).0 y) (sym (given_old gives es e other))

  -- the row that the entry gives
  pub row_new : (m : WorldSet) (b : Bool) (y : ℕ) → given gives es ≡ None → gives e ≡ Some m → b ≡ bit m.0 y → b ≡ bit (unwrap_or (given gives (es ++ (e ∷ []))) no_set).0 y
  row_new m b y none is h = h ∙ ap (λ o. bit (unwrap_or o no_set).0 y) (sym (given_new gives es e m none is))

  -- the mark of a row that the entry leaves
  pub mark_old : (b : Bool) → gives e ≡ None → b ≡ is_some (given gives es) → b ≡ is_some (given gives (es ++ (e ∷ [])))
  mark_old b other h = h ∙ ap is_some (sym (given_old gives es e other))

  -- the mark of the row that the entry gives
  pub mark_new : (m : WorldSet) (b : Bool) → given gives es ≡ None → gives e ≡ Some m → b ≡ true → b ≡ is_some (given gives (es ++ (e ∷ [])))
  mark_new m b none is h = h ∙ ap is_some (sym (given_new gives es e m none is))

-- a modality is known by its number
pub same_modality : (k l : Modality) → modality_number k ≡ modality_number l → k ≡ l
same_modality k l e =
    let some : Some k ≡ Some l = sym (numbers_name.named k) ∙ ap numbered_modality e ∙ numbers_name.named l in
    ap (λ o. unwrap_or o k) some

-- the test of the same arrows
pub arrows_same : (k l : Modality) (A B x y : ℕ) → (eqb (modality_number k) (modality_number l) && (eqb A B && eqb x y)) ≡ true → (k ≡ l) × (A ≡ B) × (x ≡ y)
arrows_same k l A B x y h =
    let outer = and_parts (eqb (modality_number k) (modality_number l)) (eqb A B && eqb x y) h in
    let inner = and_parts (eqb A B) (eqb x y) outer.1 in
    (same_modality k l (eqb-true (modality_number k) (modality_number l) outer.0), eqb-true A B inner.0, eqb-true x y inner.1)

pub arrows_self : (k : Modality) (A x : ℕ) → (eqb (modality_number k) (modality_number k) && (eqb A A && eqb x x)) ≡ true
arrows_self k A x =
    and_from (eqb (modality_number k) (modality_number k)) (eqb A A && eqb x x) (eq-eqb (modality_number k) (modality_number k) refl)
    (and_from (eqb A A) (eqb x x) (eq-eqb A A refl) (eq-eqb x x refl))

pub arrows_differ : (k l : Modality) (A B x y : ℕ) → (eqb (modality_number k) (modality_number l) && (eqb A B && eqb x y)) ≡ false → (k ≡ l) × (A ≡ B) × (x ≡ y) → ⊥
arrows_differ k l A B x y not eq =
    let num = modality_number in
    let one = and_from (eqb (num k) (num l)) (eqb A B && eqb x y) (eq-eqb (num k) (num l) (ap num eq.0)) (and_from (eqb A B) (eqb x y) (eq-eqb A B eq.1) (eq-eqb x y eq.2)) in
    true≢false (sym one ∙ not)
