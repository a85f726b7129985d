use Rattle.std.proofs.Common.{rules}
use Rattle.stack.proofs.Blanks.{one_more_blank, all_blank}
use Rattle.stack.proofs.stack.methods.clear.Goals as goal

pub loop-x-preserved : goal.loop-x-preserved
loop-x-preserved g c = search (rules, one_more_blank)

pub returns : goal.returns
returns g c = search (rules, all_blank)
