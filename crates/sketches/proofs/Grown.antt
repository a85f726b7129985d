-- A sketch that one entry is written into shows the entries with that one. Assumes nothing.
use Rattle.std.proofs.Common.{◌≡◌, ℕ, ◌^◌, ◌<◌, ◌≤◌, true, false, ◌&&◌, eqb, ltb, List, [], ◌∷◌, ◌++◌, get_or, is_some, Some, None, Ok, Err, sym, refl, ap, ◌∙◌, subst, ⊎_elim, arith}
use Rattle.std.proofs.lemmas.Option.{same_Some}
use Rattle.std.proofs.lemmas.Bool.{and_parts, ltb-true, eq-eqb, ne_eqb, cond-true, cond-false, cases_eq, cases_Bool, both_ways}
use Rattle.records.specs.declared.numbers.AtomNumber.{AtomNumber}
use Rattle.records.specs.declared.numbers.Label.{Label}
use Rattle.records.specs.declared.numbers.Principal.{Principal}
use Rattle.records.specs.declared.numbers.World.{World}
use Rattle.records.specs.declared.refusal.Refusal.TheVariants.{GivenTwice}
use Rattle.records.specs.Chains.{Record}
use Rattle.logic.specs.declared.terms.Modality.{Modality}
use Rattle.logic.specs.Modalities.{modality_number}
use Rattle.rows.specs.declared.masks.WorldSet.{WorldSet}
use Rattle.rows.specs.declared.rows.Rows.{Rows}
use Rattle.rows.specs.declared.places.Places.{Places}
use Rattle.rows.specs.Masks.{bit, no_set}
use Rattle.rows.specs.PlacesOf.{place_at, Put}
use Rattle.rows.specs.RowsOf.{frame_of, model_of, ends_at, modality_place}
use Rattle.rows.specs.Written.{AboveSet, EndsSet, AtomSet}
use Rattle.sketches.specs.declared.entry.Entry.{Entry}
use Rattle.sketches.specs.declared.entry.Entry.TheVariants.{Above, Ends, Atom, Place}
use Rattle.sketches.specs.declared.sketch.Sketch.{Sketch}
use Rattle.sketches.specs.Entries.{onward, entry_of, fits_entry}
use Rattle.sketches.specs.Described.{gives_above, gives_ends, gives_atom, gives_place, given, given_before, above_in, ends_in, atom_in, place_in}
use Rattle.sketches.specs.Readings.{begun, numbered, with_entry, entered}
use Rattle.sketches.specs.Sketches.{Shows, Written, Grown, marked, mark}
use Rattle.sketches.proofs.Given.{given_old, given_new, none_of, row_old, row_new, mark_old, mark_new, arrows_same, arrows_self, arrows_differ}

-- rows that stay the same list show the same
above_kept : (r t : Rows) → t.above ≡ r.above → (x y : ℕ) → (frame_of t).above x y ≡ (frame_of r).above x y
above_kept r t e x y = ap (λ l. bit (get_or l x no_set).0 y) e

arrow_kept : (r t : Rows) → t.arrows ≡ r.arrows → (k : Modality) (A x y : ℕ) → (frame_of t).arrow k A x y ≡ (frame_of r).arrow k A x y
arrow_kept r t e k A x y = ap (λ l. bit (ends_at l (modality_place k) A x).0 y) e

row_kept : (r t : Rows) → t.atoms ≡ r.atoms → (a y : ℕ) → (model_of t).row a y ≡ (model_of r).row a y
row_kept r t e a y = ap (λ l. bit (get_or l a no_set).0 y) e

place_kept : (p q : Places) → q ≡ p → (x : Label) → place_at q x ≡ place_at p x
place_kept p q e x = ap (λ l. place_at l x) e

-- an entry that places no label
places_old : (W : ℕ) (es : List Entry) (e : Entry) (s t : Sketch) → Shows W es s → ((x : ℕ) → gives_place x e ≡ None) → t.places ≡ s.places
    → ((x : Label) → place_at t.places x ≡ place_in (es ++ (e ∷ [])) x) × ((x : Label) (w : World) → place_in (es ++ (e ∷ [])) x ≡ Some w → w.0 < W)
places_old W es e s t h other same = (
  (λ x. place_kept s.places t.places same x ∙ h.place x ∙ sym (given_old (gives_place x.0) es e (other x.0))),
  (λ x w is. h.in_worlds x w (sym (given_old (gives_place x.0) es e (other x.0)) ∙ is)),
)

above_grown : (W : ℕ) (es : List Entry) (x : World) (m : WorldSet) (s t : Sketch) → Shows W es s → x.0 < 32 → given (gives_above x.0) es ≡ None
    → AboveSet x.0 m s.rows t.rows → AboveSet x.0 mark s.given t.given → t.places ≡ s.places → Shows W (es ++ (Above x m ∷ [])) t
above_grown W es x m s t h small none rows marks same =
    let e = Above x m in
    let self : gives_above x.0 e ≡ Some m = cond-true (eqb x.0 x.0) (Some m) None (eq-eqb x.0 x.0 refl) in
    let other : (z : ℕ) → (z ≡ x.0 → ⊥) → gives_above z e ≡ None = λ z ne. cond-false (eqb z x.0) (Some m) None (ne_eqb z x.0 ne) in
    let places = places_old W es e s t h (λ z. refl) same in
    record {
      worlds = rows.worlds ∙ h.worlds;
      above = λ z y. ⊎_elim
          (λ (eq : z ≡ x.0). subst (λ v. (frame_of t.rows).above v y ≡ bit (above_in (es ++ (e ∷ [])) v) y) (sym eq) (row_new (gives_above x.0) es e m _ y none self (rows.here small y)))
          (λ ne. row_old (gives_above z) es e _ y (other z ne) (rows.elsewhere z ne y ∙ h.above z y))
          (cases_eq z x.0);
      arrow = λ k A z y. row_old (gives_ends k A z) es e _ y refl (arrow_kept s.rows t.rows rows.arrows k A z y ∙ h.arrow k A z y);
      row = λ a y. row_old (gives_atom a) es e _ y refl (row_kept s.rows t.rows rows.atoms a y ∙ h.row a y);
      place = places.0;
      above_marked = λ z. ⊎_elim
          (λ (eq : z ≡ x.0). subst (λ v. (frame_of t.given).above v 0 ≡ is_some (given (gives_above v) (es ++ (e ∷ [])))) (sym eq) (mark_new (gives_above x.0) es e m _ none self (marks.here small 0)))
          (λ ne. mark_old (gives_above z) es e _ (other z ne) (marks.elsewhere z ne 0 ∙ h.above_marked z))
          (cases_eq z x.0);
      arrow_marked = λ k A z. mark_old (gives_ends k A z) es e _ refl (arrow_kept s.given t.given marks.arrows k A z 0 ∙ h.arrow_marked k A z);
      row_marked = λ a. mark_old (gives_atom a) es e _ refl (row_kept s.given t.given marks.atoms a 0 ∙ h.row_marked a);
      in_worlds = places.1;
    }

ends_grown : (W : ℕ) (es : List Entry) (l : Modality) (B : Principal) (x : World) (m : WorldSet) (s t : Sketch) → Shows W es s → B.0 < 8 → x.0 < 32
    → given (gives_ends l B.0 x.0) es ≡ None → EndsSet l B.0 x.0 m s.rows t.rows → EndsSet l B.0 x.0 mark s.given t.given
    → t.places ≡ s.places → Shows W (es ++ (Ends l B x m ∷ [])) t
ends_grown W es l B x m s t h few small none rows marks same =
    let e = Ends l B x m in
    let self : gives_ends l B.0 x.0 e ≡ Some m = cond-true _ (Some m) None (arrows_self l B.0 x.0) in
    let places = places_old W es e s t h (λ z. refl) same in
    record {
      worlds = rows.worlds ∙ h.worlds;
      above = λ z y. row_old (gives_above z) es e _ y refl (above_kept s.rows t.rows rows.above z y ∙ h.above z y);
      arrow = λ k A z y. ⊎_elim
          (λ is. let eq = arrows_same k l A B.0 z x.0 is in
          subst (λ v. (frame_of t.rows).arrow v A z y ≡ bit (ends_in (es ++ (e ∷ [])) v A z) y) (sym eq.0)
          (subst (λ v. (frame_of t.rows).arrow l v z y ≡ bit (ends_in (es ++ (e ∷ [])) l v z) y) (sym eq.1)
          (subst (λ v. (frame_of t.rows).arrow l B.0 v y ≡ bit (ends_in (es ++ (e ∷ [])) l B.0 v) y) (sym eq.2)
          (row_new (gives_ends l B.0 x.0) es e m _ y none self (rows.here few small y)))))
          (λ not. row_old (gives_ends k A z) es e _ y (cond-false _ (Some m) None not) (rows.elsewhere k A z (arrows_differ k l A B.0 z x.0 not) y ∙ h.arrow k A z y))
          (cases_Bool (eqb (modality_number k) (modality_number l) && (eqb A B.0 && eqb z x.0)));
      row = λ a y. row_old (gives_atom a) es e _ y refl (row_kept s.rows t.rows rows.atoms a y ∙ h.row a y);
      place = places.0;
      above_marked = λ z. mark_old (gives_above z) es e _ refl (above_kept s.given t.given marks.above z 0 ∙ h.above_marked z);
      arrow_marked = λ k A z. ⊎_elim
          (λ is. let eq = arrows_same k l A B.0 z x.0 is in
          subst (λ v. (frame_of t.given).arrow v A z 0 ≡ is_some (given (gives_ends v A z) (es ++ (e ∷ [])))) (sym eq.0)
          (subst (λ v. (frame_of t.given).arrow l v z 0 ≡ is_some (given (gives_ends l v z) (es ++ (e ∷ [])))) (sym eq.1)
          (subst (λ v. (frame_of t.given).arrow l B.0 v 0 ≡ is_some (given (gives_ends l B.0 v) (es ++ (e ∷ [])))) (sym eq.2)
          (mark_new (gives_ends l B.0 x.0) es e m _ none self (marks.here few small 0)))))
          (λ not. mark_old (gives_ends k A z) es e _ (cond-false _ (Some m) None not) (marks.elsewhere k A z (arrows_differ k l A B.0 z x.0 not) 0 ∙ h.arrow_marked k A z))
          (cases_Bool (eqb (modality_number k) (modality_number l) && (eqb A B.0 && eqb z x.0)));
      row_marked = λ a. mark_old (gives_atom a) es e _ refl (row_kept s.given t.given marks.atoms a 0 ∙ h.row_marked a);
      in_worlds = places.1;
    }

atom_grown : (W : ℕ) (es : List Entry) (a : AtomNumber) (m : WorldSet) (s t : Sketch) → Shows W es s → a.0 < 64 → given (gives_atom a.0) es ≡ None
    → AtomSet a.0 m s.rows t.rows → AtomSet a.0 mark s.given t.given → t.places ≡ s.places → Shows W (es ++ (Atom a m ∷ [])) t
atom_grown W es a m s t h small none rows marks same =
    let e = Atom a m in
    let self : gives_atom a.0 e ≡ Some m = cond-true (eqb a.0 a.0) (Some m) None (eq-eqb a.0 a.0 refl) in
    let other : (z : ℕ) → (z ≡ a.0 → ⊥) → gives_atom z e ≡ None = λ z ne. cond-false (eqb z a.0) (Some m) None (ne_eqb z a.0 ne) in
    let places = places_old W es e s t h (λ z. refl) same in
    record {
      worlds = rows.worlds ∙ h.worlds;
      above = λ z y. row_old (gives_above z) es e _ y refl (above_kept s.rows t.rows rows.above z y ∙ h.above z y);
      arrow = λ k A z y. row_old (gives_ends k A z) es e _ y refl (arrow_kept s.rows t.rows rows.arrows k A z y ∙ h.arrow k A z y);
      row = λ z y. ⊎_elim
          (λ (eq : z ≡ a.0). subst (λ v. (model_of t.rows).row v y ≡ bit (atom_in (es ++ (e ∷ [])) v) y) (sym eq) (row_new (gives_atom a.0) es e m _ y none self (rows.here small y)))
          (λ ne. row_old (gives_atom z) es e _ y (other z ne) (rows.elsewhere z ne y ∙ h.row z y))
          (cases_eq z a.0);
      place = places.0;
      above_marked = λ z. mark_old (gives_above z) es e _ refl (above_kept s.given t.given marks.above z 0 ∙ h.above_marked z);
      arrow_marked = λ k A z. mark_old (gives_ends k A z) es e _ refl (arrow_kept s.given t.given marks.arrows k A z 0 ∙ h.arrow_marked k A z);
      row_marked = λ z. ⊎_elim
          (λ (eq : z ≡ a.0). subst (λ v. (model_of t.given).row v 0 ≡ is_some (given (gives_atom v) (es ++ (e ∷ [])))) (sym eq) (mark_new (gives_atom a.0) es e m _ none self (marks.here small 0)))
          (λ ne. mark_old (gives_atom z) es e _ (other z ne) (marks.elsewhere z ne 0 ∙ h.row_marked z))
          (cases_eq z a.0);
      in_worlds = places.1;
    }

-- labels of the same number are the same
same_label : (x y : Label) → x.0 ≡ y.0 → x ≡ y
same_label x y e = λ i. record { 0 = e i }

place_grown : (W : ℕ) (es : List Entry) (x : Label) (w : World) (s t : Sketch) → Shows W es s → x.0 < 8 → w.0 < W → given (gives_place x.0) es ≡ None
    → t.rows ≡ s.rows → t.given ≡ s.given → Put x w s.places t.places → Shows W (es ++ (Place x w ∷ [])) t
place_grown W es x w s t h small low none rows marks put =
    let e = Place x w in
    let self : gives_place x.0 e ≡ Some w = cond-true (eqb x.0 x.0) (Some w) None (eq-eqb x.0 x.0 refl) in
    let other : (z : ℕ) → (z ≡ x.0 → ⊥) → gives_place z e ≡ None = λ z ne. cond-false (eqb z x.0) (Some w) None (ne_eqb z x.0 ne) in
    let now : place_in (es ++ (e ∷ [])) x ≡ Some w = given_new (gives_place x.0) es e w none self in
    record {
      worlds = ap (λ r. (frame_of r).worlds) rows ∙ h.worlds;
      above = λ z y. row_old (gives_above z) es e _ y refl (ap (λ r. (frame_of r).above z y) rows ∙ h.above z y);
      arrow = λ k A z y. row_old (gives_ends k A z) es e _ y refl (ap (λ r. (frame_of r).arrow k A z y) rows ∙ h.arrow k A z y);
      row = λ a y. row_old (gives_atom a) es e _ y refl (ap (λ r. (model_of r).row a y) rows ∙ h.row a y);
      place = λ z. ⊎_elim
          (λ (eq : z.0 ≡ x.0). subst (λ v. place_at t.places v ≡ place_in (es ++ (e ∷ [])) v) (sym (same_label z x eq)) (put.here small ∙ sym now))
          (λ ne. put.elsewhere z ne ∙ h.place z ∙ sym (given_old (gives_place z.0) es e (other z.0 ne)))
          (cases_eq z.0 x.0);
      above_marked = λ z. mark_old (gives_above z) es e _ refl (ap (λ r. (frame_of r).above z 0) marks ∙ h.above_marked z);
      arrow_marked = λ k A z. mark_old (gives_ends k A z) es e _ refl (ap (λ r. (frame_of r).arrow k A z 0) marks ∙ h.arrow_marked k A z);
      row_marked = λ a. mark_old (gives_atom a) es e _ refl (ap (λ r. (model_of r).row a 0) marks ∙ h.row_marked a);
      in_worlds = λ z v is. ⊎_elim
          (λ (eq : z.0 ≡ x.0). let one : w ≡ v = same_Some w v (sym now ∙ ap (place_in (es ++ (e ∷ []))) (sym (same_label z x eq)) ∙ is) in subst (λ u. u.0 < W) one low)
          (λ ne. h.in_worlds z v (sym (given_old (gives_place z.0) es e (other z.0 ne)) ∙ is))
          (cases_eq z.0 x.0);
    }

-- an entry in range that was not given, written into a sketch
grown : (W P n : ℕ) (es : List Entry) (e : Entry) (s t : Sketch) → Shows W es s → W ≤ 32 → fits_entry W P n e ≡ true → given_before es e ≡ false → Written e s t → Shows W (es ++ (e ∷ [])) t
grown W P n es (Above x m) s t h most fits new done =
    let in_range = and_parts (ltb x.0 W) (ltb m.0 (2 ^ W)) fits in
    let low = ltb-true x.0 W in_range.0 in
    above_grown W es x m s t h (omega (arith, low, most)) (none_of _ new) done.0 done.1 done.2
grown W P n es (Ends l B x m) s t h most fits new done =
    let first = and_parts (ltb B.0 P) (ltb B.0 8 && (ltb x.0 W && ltb m.0 (2 ^ W))) fits in
    let second = and_parts (ltb B.0 8) (ltb x.0 W && ltb m.0 (2 ^ W)) first.1 in
    let third = and_parts (ltb x.0 W) (ltb m.0 (2 ^ W)) second.1 in
    let low = ltb-true x.0 W third.0 in
    ends_grown W es l B x m s t h (ltb-true B.0 8 second.0) (omega (arith, low, most)) (none_of _ new) done.0 done.1 done.2
grown W P n es (Atom a m) s t h most fits new done =
    let in_range = and_parts (ltb a.0 64) (ltb m.0 (2 ^ W)) fits in
    atom_grown W es a m s t h (ltb-true a.0 64 in_range.0) (none_of _ new) done.0 done.1 done.2
grown W P n es (Place x w) s t h most fits new done =
    let first = and_parts (ltb x.0 n) (ltb x.0 8 && ltb w.0 W) fits in
    let second = and_parts (ltb x.0 8) (ltb w.0 W) first.1 in
    place_grown W es x w s t h (ltb-true x.0 8 second.0) (ltb-true w.0 W second.1) (none_of _ new) done.0 done.1 done.2

-- what is marked is what was given
marks_tell : (W : ℕ) (es : List Entry) (e : Entry) (s : Sketch) → Shows W es s → marked s e ≡ given_before es e
marks_tell W es (Above x m) s h = h.above_marked x.0
marks_tell W es (Ends l B x m) s h = h.arrow_marked l B.0 x.0
marks_tell W es (Atom a m) s h = h.row_marked a.0
marks_tell W es (Place x w) s h = ap is_some (h.place x)

-- an entry that was read, is in range and was not given is taken
pub taken : (P n W i : ℕ) (q : Record) (es : List Entry) (e : Entry) (s t : Sketch) → Shows W es s → Ok e ≡ entry_of q.kind q.body (numbered i)
    → true ≡ fits_entry s.rows.worlds P n e → false ≡ marked s e → Written e s t → Grown (entered P n i q (begun W es)) W t
taken P n W i q es e s t h read in_range new done =
    let most : W ≤ 32 = subst (λ v. v ≤ 32) h.worlds s.rows.few in
    let fits : fits_entry W P n e ≡ true = subst (λ v. fits_entry v P n e ≡ true) h.worlds (sym in_range) in
    let first : given_before es e ≡ false = sym (marks_tell W es e s h) ∙ sym new in
    record {
      entries = es ++ (e ∷ []);
      answer_is =
          ap (λ x. onward (onward x λ d. with_entry W P n (numbered i) es d) λ fs. Ok (begun W fs)) (sym read)
          ∙ ap (λ x. onward x λ fs. Ok (begun W fs)) (cond-true (fits_entry W P n e) _ _ fits ∙ cond-false (given_before es e) (Err (GivenTwice (numbered i))) (Ok (es ++ (e ∷ []))) first);
      shows = grown W P n es e s t h most fits first done;
    }

-- no entry places no label
pub none_placed : (w : World) (W : ℕ) → None ≡ Some w → w.0 < W
none_placed w W e = absurd (both_ways (is_some (Some w)) (sym (ap is_some e)) refl)
