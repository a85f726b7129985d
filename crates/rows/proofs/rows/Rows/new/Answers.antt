use Rattle.std.proofs.Common.{refl}
use Rattle.rows.specs.RowsOf.{modality_place}
use Rattle.rows.proofs.Blank.{blank_set, blank_ends}
use Rattle.rows.proofs.rows.Rows.new.Goals as goal

pub returns : goal.returns
returns c = record {
  worlds = refl;
  above = λ x y. blank_set 32 x y;
  arrow = λ k A x y. blank_ends 4 8 32 (modality_place k) A x y;
  row = λ a y. blank_set 64 a y;
}
