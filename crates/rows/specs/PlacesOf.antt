-- Where labels stand. Assumes nothing.
use Rattle.std.specs.Prelude.{◌≡◌, ◌<◌, ◌≢◌, Some, None, Option, slice_index_or, slice_set}
use Rattle.std.specs.Option.{unwrap_or}
use Rattle.records.specs.declared.numbers.Label.{Label}
use Rattle.records.specs.declared.numbers.World.{World}
use Rattle.logic.specs.Facts.{Standing}
use Rattle.rows.specs.declared.places.Places.{Places}

-- the world of a label, if it is placed
abbrev pub place_at : Places → Label → Option World
place_at p x = slice_index_or p.worlds x.0 None

-- the standing of all labels: one that is not placed stands at world 0
abbrev pub standing_of : Places → Standing
standing_of p x = unwrap_or (place_at p x) (record { 0 = 0 })

-- no label is placed
abbrev pub Unplaced : Places → Type 0
Unplaced p = (x : Label) → place_at p x ≡ None

-- label x is placed at world w, if x is below 8, and every other label is where it was
pub record Put (x : Label) (w : World) (before after : Places) : Type 0 where
  pub worlds : after.worlds ≡ slice_set before.worlds x.0 (Some w)
  pub here : x.0 < 8 → place_at after x ≡ Some w
  pub elsewhere : (y : Label) → y.0 ≢ x.0 → place_at after y ≡ place_at before y
