-- The model that rows stand for. Assumes nothing.
use Rattle.std.specs.Prelude.{ℕ, List, [], get_or, slice_index_or, slice_set}
use Rattle.logic.specs.declared.terms.Modality.{Modality}
use Rattle.logic.specs.declared.terms.Modality.TheVariants.{Says, Controls, Ratified, Permitted}
use Rattle.logic.specs.Models.{Frame, Model}
use Rattle.rows.specs.declared.masks.WorldSet.{WorldSet}
use Rattle.rows.specs.declared.rows.Arrows.{Arrows}
use Rattle.rows.specs.declared.rows.Row.{Row}
use Rattle.rows.specs.declared.rows.Rows.{Rows}
use Rattle.rows.specs.Masks.{bit, no_set}

-- the place of a modality's arrows
abbrev pub modality_place : Modality → ℕ
modality_place Says = 0
modality_place Controls = 1
modality_place Ratified = 2
modality_place Permitted = 3

-- the row with nothing in it, which stands where a list of rows ends
abbrev pub no_row : Row
no_row = record { ends = [] }

-- and the arrows with nothing in them
abbrev pub no_arrows : Arrows
no_arrows = record { of = [] }

-- the ends of the arrows at place k of principal A from x
abbrev pub ends_at : List Arrows → ℕ → ℕ → ℕ → WorldSet
ends_at rs k A x = slice_index_or (get_or (get_or rs k no_arrows).of A no_row).ends x no_set

-- the same rows with another set at A and x
abbrev pub with_row_end : List Row → ℕ → ℕ → WorldSet → List Row
with_row_end rs A x m = slice_set rs A (record { ends = slice_set (get_or rs A no_row).ends x m })

-- the same arrows with another set at k, A and x
abbrev pub with_end : List Arrows → ℕ → ℕ → ℕ → WorldSet → List Arrows
with_end rs k A x m = slice_set rs k (record { of = with_row_end (get_or rs k no_arrows).of A x m })

-- the worlds, their order and the arrows
abbrev pub frame_of : Rows → Frame
frame_of r = record {
  worlds = r.worlds;
  above = λ x y. bit (get_or r.above x no_set).0 y;
  arrow = λ k A x y. bit (ends_at r.arrows (modality_place k) A x).0 y;
}

-- and the worlds where each atom holds
abbrev pub model_of : Rows → Model
model_of r = record { frame = frame_of r; row = λ a y. bit (get_or r.atoms a no_set).0 y }
