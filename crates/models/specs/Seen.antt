-- What is seen of facts in a model, by sets of worlds where formulas hold. Assumes nothing.
use Rattle.std.specs.Prelude.{Bool, false, not, ◌&&◌, List, slice_index_or, nat_lt}
use Rattle.std.specs.Option.{option_map_or}
use Rattle.records.specs.declared.numbers.FormulaNumber.{FormulaNumber}
use Rattle.records.specs.declared.numbers.Label.{Label}
use Rattle.logic.specs.declared.fact.Fact.{Fact}
use Rattle.logic.specs.declared.terms.FactView.{FactView}
use Rattle.logic.specs.declared.terms.FactView.TheVariants.{Left, Right, Linked}
use Rattle.logic.specs.declared.terms.Link.{Link}
use Rattle.logic.specs.declared.terms.Link.TheVariants.{Order, Arrow}
use Rattle.logic.specs.Facts.{linked}
use Rattle.logic.specs.Stored.{view_of}
use Rattle.rows.specs.declared.masks.WorldSet.{WorldSet}
use Rattle.rows.specs.Masks.{bit, no_set}
use Rattle.rows.specs.PlacesOf.{standing_of}
use Rattle.rows.specs.RowsOf.{frame_of}
use Rattle.sketches.specs.declared.read.GivenModel.{GivenModel}

-- the label where a link ends
abbrev pub end_of : Link → Label
end_of (Order x y) = y
end_of (Arrow k A x y) = y

module _ (g : GivenModel) where
  -- a link is in the model, and ends at one of its worlds
  abbrev pub link_seen : Link → Bool
  link_seen l = nat_lt (standing_of g.places (end_of l)).0 (frame_of g.rows).worlds && linked (frame_of g.rows) (standing_of g.places) l

  module _ (sets : List WorldSet) where
    -- the set of a formula has the world where a label stands
    abbrev pub formula_seen : Label → FormulaNumber → Bool
    formula_seen x f = bit (slice_index_or sets f.0 no_set).0 (standing_of g.places x).0

    -- a left formula or a link that is seen, a right formula that is not
    abbrev pub view_seen : FactView FormulaNumber → Bool
    view_seen (Left x f) = formula_seen x f
    view_seen (Right x f) = not (formula_seen x f)
    view_seen (Linked l) = link_seen l

    -- what a fact says is seen; a fact that says nothing is not
    abbrev pub fact_seen : Fact → Bool
    fact_seen f = option_map_or view_seen (view_of f) false
