use Rattle.judging.specs.Truths.{Carried}
use Rattle.rows.specs.RowsOf.{model_of}
use Rattle.models.proofs.truths.fn.next_set.map_or.Given as goal

abbrev pub ensures : goal.ensures
ensures l r = Carried (model_of l.rows.entry.now) l.sets.entry.now l.node r
