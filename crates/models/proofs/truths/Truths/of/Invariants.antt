use Rattle.logic.specs.Tables.{nodes_of}
use Rattle.rows.specs.RowsOf.{model_of}
use Rattle.models.proofs.Sets.{SoFar}
use Rattle.models.proofs.truths.Truths.of.Given as goal

abbrev pub invariant-loop-i : goal.invariant-loop-i
invariant-loop-i l = SoFar (model_of l.rows) (nodes_of l.table) l.i l.sets
