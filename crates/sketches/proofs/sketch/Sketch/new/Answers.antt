use Rattle.std.proofs.Common.{sym, ◌∙◌}
use Rattle.rows.proofs.Bits.{bit_zero}
use Rattle.sketches.proofs.Grown.{none_placed}
use Rattle.sketches.proofs.sketch.Sketch.new.Goals as goal

pub returns : goal.returns
returns c =
    let rows = c.in_ok-rows.ensures in
    let marks = c.in_ok-given.ensures in
    record {
      worlds = rows.worlds;
      above = λ x y. rows.above x y ∙ sym (bit_zero y);
      arrow = λ k A x y. rows.arrow k A x y ∙ sym (bit_zero y);
      row = λ a y. rows.row a y ∙ sym (bit_zero y);
      place = c.new-3.ensures;
      above_marked = λ x. marks.above x 0;
      arrow_marked = λ k A x. marks.arrow k A x 0;
      row_marked = λ a. marks.row a 0;
      in_worlds = λ x w is. none_placed w c.args.worlds is;
    }
