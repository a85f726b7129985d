use Rattle.std.proofs.Common.{sym}
use Rattle.sketches.proofs.Finished.{finished_given, inside_at}
use Rattle.sketches.proofs.read.finish.Goals as goal

pub returns-in-None-clause-answer : goal.returns-in-None-clause-answer
returns-in-None-clause-answer c = λ W i es h. finished_given c.args.ranges.principals c.args.ranges.labels.0 W es c.args.sketch h (sym c.in-None.ensures)

pub returns-in-None-clause-inside : goal.returns-in-None-clause-inside
returns-in-None-clause-inside c = λ W es h. inside_at W es c.args.sketch h
