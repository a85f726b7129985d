-- What a sketch is where the file ends. Assumes nothing.
use Rattle.std.proofs.Common.{◌≡◌, ℕ, ◌<◌, List, Some, None, Option, unwrap_or, sym, refl, ap, ◌∙◌, subst}
use Rattle.records.specs.declared.numbers.Label.{Label}
use Rattle.records.specs.declared.numbers.World.{World}
use Rattle.rows.specs.PlacesOf.{place_at, standing_of}
use Rattle.rows.specs.RowsOf.{model_of}
use Rattle.sketches.specs.declared.entry.Entry.{Entry}
use Rattle.sketches.specs.declared.read.GivenModel.{GivenModel}
use Rattle.sketches.specs.declared.sketch.Sketch.{Sketch}
use Rattle.sketches.specs.Described.{place_in, described}
use Rattle.sketches.specs.Readings.{placed, unplaced}
use Rattle.sketches.specs.Sketches.{Shows}
use Rattle.sketches.specs.Answers.{IsGiven, StandsAt}
use Rattle.sketches.proofs.Placings.{all_placed}

-- the model that a sketch leaves
abbrev left : ℕ → Sketch → GivenModel
left P s = record { rows = s.rows; places = s.places; principals = P }

-- its places are those of the entries, as a function
pub placings : (W : ℕ) (es : List Entry) (s : Sketch) → Shows W es s → place_at s.places ≡ place_in es
placings W es s h = λ j x. h.place x j

-- its model is the one described
models_same : (W : ℕ) (es : List Entry) (s : Sketch) → Shows W es s → model_of s.rows ≡ described W es
models_same W es s h = λ j. record {
  frame = record { worlds = h.worlds j; above = λ x y. h.above x y j; arrow = λ k A x y. h.arrow k A x y j };
  row = λ a y. h.row a y j;
}

-- a label below the count stands at a world
standing_at : (P n W : ℕ) (es : List Entry) (s : Sketch) → Shows W es s → unplaced n (place_at s.places) ≡ None → (x : Label) → x.0 < n → StandsAt (left P s) x
standing_at P n W es s h none x low =
    let at = all_placed (place_at s.places) n x.0 low none in
    record {
      world = at.0;
      placed = at.1;
      in_worlds = subst (λ v. at.0.0 < v) (sym h.worlds) (h.in_worlds x at.0 (sym (h.place x) ∙ at.1));
    }

-- every label stands at a world: one that is not placed at world 0
pub inside_at : (W : ℕ) (es : List Entry) (s : Sketch) → Shows W es s → (x : Label) → (standing_of s.places x).0 < s.rows.worlds
inside_at W es s h x = go (place_at s.places x) refl
  where
    go : (o : Option World) → place_at s.places x ≡ o → (standing_of s.places x).0 < s.rows.worlds
    go None e = subst (λ (o : Option World). (unwrap_or {T = World} o (record { 0 = 0 })).0 < s.rows.worlds) (sym e) s.rows.inhabited
    go (Some w) e =
        subst (λ (o : Option World). (unwrap_or {T = World} o (record { 0 = 0 })).0 < s.rows.worlds) (sym e)
        (subst (λ v. w.0 < v) (sym h.worlds) (h.in_worlds x w (sym (h.place x) ∙ e)))

pub finished_given : (P n W : ℕ) (es : List Entry) (s : Sketch) → Shows W es s → unplaced n (place_at s.places) ≡ None → IsGiven P n (placed W es (unplaced n (place_in es))) (left P s)
finished_given P n W es s h none = record {
  kept = record { worlds = W; entries = es };
  answer_is = ap (λ p. placed W es (unplaced n p)) (sym (placings W es s h)) ∙ ap (placed W es) none;
  model = models_same W es s h;
  places = h.place;
  standing = ap (λ p. λ (x : Label). unwrap_or (p x) (record { 0 = 0 })) (placings W es s h);
  stands = standing_at P n W es s h none;
  placed = λ x low. inside_at W es s h x;
  principals = refl;
}
