use Rattle.std.proofs.Common.{rules}
use Rattle.stack.proofs.Found.{got_at}
use Rattle.stack.proofs.stack.Stack.get.Goals as goal

pub returns : goal.returns
returns g c = search (rules, got_at)
