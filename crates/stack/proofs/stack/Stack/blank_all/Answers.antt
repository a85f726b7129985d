use Rattle.std.proofs.Common.{rules}
use Rattle.stack.proofs.Counts.{emptied}
use Rattle.stack.proofs.stack.Stack.blank_all.Goals as goal

pub returns : goal.returns
returns g c = search (rules, emptied)
