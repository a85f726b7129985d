use Rattle.std.proofs.Common.{rules}
use Rattle.stack.proofs.Found.{got_latest}
use Rattle.stack.proofs.stack.Stack.top.Goals as goal

pub returns : goal.returns
returns g c = search (rules, got_latest)
