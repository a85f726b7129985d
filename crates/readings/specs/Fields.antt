-- The fields that the body of each kind of record holds. Assumes nothing.
use Rattle.std.specs.Prelude.{ℕ, List}
use Rattle.kinds.specs.Contents.{atom_of, parts_of, modal_of, label_count_of, labelled_of, ordered_of, arrowed_of, world_count_of, above_of, ends_of, atom_row_of, place_of}
use Rattle.kinds.specs.declared.kind.Kind.{Kind}
use Rattle.kinds.specs.declared.kind.Kind.TheVariants as kind
use Rattle.readings.specs.declared.fields.Fields.{Fields}
use Rattle.readings.specs.declared.fields.Fields.TheVariants as fields

-- what a body of the right size says, by its kind
abbrev pub fields_of : Kind → List ℕ → Fields
fields_of kind.Atom bs = fields.Atom (atom_of bs)
fields_of kind.Falsity bs = fields.Nothing
fields_of kind.And bs = fields.Parts (parts_of bs)
fields_of kind.Or bs = fields.Parts (parts_of bs)
fields_of kind.Implies bs = fields.Parts (parts_of bs)
fields_of kind.Says bs = fields.Modal (modal_of bs)
fields_of kind.Controls bs = fields.Modal (modal_of bs)
fields_of kind.Ratified bs = fields.Modal (modal_of bs)
fields_of kind.Permitted bs = fields.Modal (modal_of bs)
fields_of kind.Labels bs = fields.Labels (label_count_of bs)
fields_of kind.LeftFormula bs = fields.Labelled (labelled_of bs)
fields_of kind.RightFormula bs = fields.Labelled (labelled_of bs)
fields_of kind.Order bs = fields.Ordered (ordered_of bs)
fields_of kind.Arrow bs = fields.Arrowed (arrowed_of bs)
fields_of kind.Worlds bs = fields.Worlds (world_count_of bs)
fields_of kind.WorldsAbove bs = fields.Above (above_of bs)
fields_of kind.ArrowEnds bs = fields.Ends (ends_of bs)
fields_of kind.AtomRow bs = fields.AtomRow (atom_row_of bs)
fields_of kind.Place bs = fields.Place (place_of bs)
