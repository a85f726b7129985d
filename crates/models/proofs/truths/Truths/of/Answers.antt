use Rattle.std.proofs.Common.{arith}
use Rattle.logic.specs.Tables.{nodes_of}
use Rattle.rows.specs.RowsOf.{model_of}
use Rattle.models.proofs.Sets.{so_far_none, so_far_more, so_far_all}
use Rattle.models.proofs.truths.Truths.of.Goals as goal

pub loop-i-init : goal.loop-i-init
loop-i-init c = so_far_none (model_of c.args.rows.now) (nodes_of c.args.table.now)

pub loop-i-preserved : goal.loop-i-preserved
loop-i-preserved c =
    so_far_more (model_of c.args.rows.now) (nodes_of c.args.table.now) c.loop-i.i c.loop-i.sets c.next_set.result
    (omega arith) c.loop-i.invariant (c.next_set.ensures c.loop-i.invariant.below)

pub returns : goal.returns
returns c = so_far_all (model_of c.args.rows.now) (nodes_of c.args.table.now) c.loop-i.i c.loop-i.sets (omega arith) c.loop-i.invariant
