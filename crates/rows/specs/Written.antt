-- What new rows hold, and what a change of one row leaves. Assumes nothing.
use Rattle.std.specs.Prelude.{◌≡◌, ℕ, ◌<◌, false, ◌≢◌, slice_set}
use Rattle.logic.specs.declared.terms.Modality.{Modality}
use Rattle.rows.specs.declared.masks.WorldSet.{WorldSet}
use Rattle.rows.specs.declared.rows.Rows.{Rows}
use Rattle.rows.specs.Masks.{bit}
use Rattle.rows.specs.RowsOf.{frame_of, model_of, modality_place, with_end}

-- rows of n worlds with no order, no arrow and no atom
pub record Empty (n : ℕ) (r : Rows) : Type 0 where
  pub worlds : r.worlds ≡ n
  pub above : (x y : ℕ) → (frame_of r).above x y ≡ false
  pub arrow : (k : Modality) (A x y : ℕ) → (frame_of r).arrow k A x y ≡ false
  pub row : (a y : ℕ) → (model_of r).row a y ≡ false

-- the worlds above x become those of m, and all else stays
pub record AboveSet (x : ℕ) (m : WorldSet) (before after : Rows) : Type 0 where
  pub above : after.above ≡ slice_set before.above x m
  pub worlds : after.worlds ≡ before.worlds
  pub arrows : after.arrows ≡ before.arrows
  pub atoms : after.atoms ≡ before.atoms
  pub here : x < 32 → (y : ℕ) → (frame_of after).above x y ≡ bit m.0 y
  pub elsewhere : (z : ℕ) → z ≢ x → (y : ℕ) → (frame_of after).above z y ≡ (frame_of before).above z y

-- the ends of the arrows of k and A from x become those of m, and all else stays
pub record EndsSet (k : Modality) (A x : ℕ) (m : WorldSet) (before after : Rows) : Type 0 where
  pub arrows : after.arrows ≡ with_end before.arrows (modality_place k) A x m
  pub worlds : after.worlds ≡ before.worlds
  pub above : after.above ≡ before.above
  pub atoms : after.atoms ≡ before.atoms
  pub here : A < 8 → x < 32 → (y : ℕ) → (frame_of after).arrow k A x y ≡ bit m.0 y
  pub elsewhere : (l : Modality) (B z : ℕ) → ((l ≡ k) × (B ≡ A) × (z ≡ x) → ⊥) → (y : ℕ) → (frame_of after).arrow l B z y ≡ (frame_of before).arrow l B z y

-- the worlds where atom a holds become those of m, and all else stays
pub record AtomSet (a : ℕ) (m : WorldSet) (before after : Rows) : Type 0 where
  pub atoms : after.atoms ≡ slice_set before.atoms a m
  pub worlds : after.worlds ≡ before.worlds
  pub above : after.above ≡ before.above
  pub arrows : after.arrows ≡ before.arrows
  pub here : a < 64 → (y : ℕ) → (model_of after).row a y ≡ bit m.0 y
  pub elsewhere : (b : ℕ) → b ≢ a → (y : ℕ) → (model_of after).row b y ≡ (model_of before).row b y
