-- A model while it is read: what its rows and places show of the entries so far. Assumes nothing.
use Rattle.std.specs.Prelude.{◌≡◌, ℕ, ◌<◌, Bool, List, [], is_some, Some, Ok, Err, Result}
use Rattle.records.specs.declared.numbers.Label.{Label}
use Rattle.records.specs.declared.numbers.World.{World}
use Rattle.records.specs.declared.numbers.WorldCount.{WorldCount}
use Rattle.records.specs.declared.refusal.Refusal.{Refusal}
use Rattle.records.specs.Chains.{Record}
use Rattle.logic.specs.declared.terms.Modality.{Modality}
use Rattle.rows.specs.declared.masks.WorldSet.{WorldSet}
use Rattle.rows.specs.Masks.{bit}
use Rattle.rows.specs.PlacesOf.{place_at, Put}
use Rattle.rows.specs.RowsOf.{frame_of, model_of}
use Rattle.rows.specs.Written.{AboveSet, EndsSet, AtomSet}
use Rattle.sketches.specs.declared.entry.Entry.{Entry}
use Rattle.sketches.specs.declared.entry.Entry.TheVariants.{Above, Ends, Atom, Place}
use Rattle.sketches.specs.declared.sketch.Sketch.{Sketch}
use Rattle.sketches.specs.Described.{gives_above, gives_ends, gives_atom, given, above_in, ends_in, atom_in, place_in}
use Rattle.sketches.specs.Readings.{Stage, begun, entered}

-- the set that marks a row as given
abbrev pub mark : WorldSet
mark = record { 0 = 1 }

-- whether a sketch has the row or the place of an entry already
abbrev pub marked : Sketch → Entry → Bool
marked s (Above x m) = (frame_of s.given).above x.0 0
marked s (Ends k A x m) = (frame_of s.given).arrow k A.0 x.0 0
marked s (Atom a m) = (model_of s.given).row a.0 0
marked s (Place x w) = is_some (place_at s.places x)

-- an entry is written into a sketch, and its row is marked
abbrev pub Written : Entry → Sketch → Sketch → Type 0
Written (Above x m) s t = AboveSet x.0 m s.rows t.rows × AboveSet x.0 mark s.given t.given × (t.places ≡ s.places)
Written (Ends k A x m) s t = EndsSet k A.0 x.0 m s.rows t.rows × EndsSet k A.0 x.0 mark s.given t.given × (t.places ≡ s.places)
Written (Atom a m) s t = AtomSet a.0 m s.rows t.rows × AtomSet a.0 mark s.given t.given × (t.places ≡ s.places)
Written (Place x w) s t = (t.rows ≡ s.rows) × (t.given ≡ s.given) × Put x w s.places t.places

-- a sketch shows the entries es, in W worlds
pub record Shows (W : ℕ) (es : List Entry) (s : Sketch) : Type 0 where
  pub worlds : (frame_of s.rows).worlds ≡ W
  pub above : (x y : ℕ) → (frame_of s.rows).above x y ≡ bit (above_in es x) y
  pub arrow : (k : Modality) (A x y : ℕ) → (frame_of s.rows).arrow k A x y ≡ bit (ends_in es k A x) y
  pub row : (a y : ℕ) → (model_of s.rows).row a y ≡ bit (atom_in es a) y
  pub place : (x : Label) → place_at s.places x ≡ place_in es x
  pub above_marked : (x : ℕ) → (frame_of s.given).above x 0 ≡ is_some (given (gives_above x) es)
  pub arrow_marked : (k : Modality) (A x : ℕ) → (frame_of s.given).arrow k A x 0 ≡ is_some (given (gives_ends k A x) es)
  pub row_marked : (a : ℕ) → (model_of s.given).row a 0 ≡ is_some (given (gives_atom a) es)
  pub in_worlds : (x : Label) (w : World) → place_in es x ≡ Some w → w.0 < W

-- a sketch that is begun with the world count of the answer, or refused for the answer's reason
abbrev pub Begins : Result WorldCount Refusal → Result Sketch Refusal → Type 0
Begins answer (Ok s) = (answer ≡ Ok (record { 0 = (frame_of s.rows).worlds })) × Shows (frame_of s.rows).worlds [] s
Begins answer (Err e) = answer ≡ Err e

-- a sketch of W worlds that shows the entries of the answer
pub record Grown (answer : Result Stage Refusal) (W : ℕ) (s : Sketch) : Type 0 where
  pub entries : List Entry
  pub answer_is : answer ≡ Ok (begun W entries)
  pub shows : Shows W entries s

-- whatever entries a sketch shows, it is taken on as record i does it, or refused for that record's reason
abbrev pub Takes : ℕ → ℕ → ℕ → Record → Sketch → Result (Unit {0}) Refusal → Sketch → Type 0
Takes P n i q s (Ok done) t = (W : ℕ) (es : List Entry) → Shows W es s → Grown (entered P n i q (begun W es)) W t
Takes P n i q s (Err e) t = (W : ℕ) (es : List Entry) → Shows W es s → entered P n i q (begun W es) ≡ Err e
