use Rattle.rules.proofs.Computes.{computes_rules}
use Rattle.rules.proofs.theorems.computes_rules.Goals as goal

pub returns : goal.returns
returns c = record { trees = computes_rules; numbers = computes_rules }
