use Rattle.std.proofs.Common.{rules}
use Rattle.judging.proofs.Carries.{and_carried, or_carried, implies_carried, modal_carried}
use Rattle.judging.proofs.truth.node_set.Goals as goal

pub returns-in-And : goal.returns-in-And
returns-in-And c = search (rules, and_carried)

pub returns-in-Or : goal.returns-in-Or
returns-in-Or c = search (rules, or_carried)

pub returns-in-Implies : goal.returns-in-Implies
returns-in-Implies c = search (rules, implies_carried)

pub returns-in-Modal : goal.returns-in-Modal
returns-in-Modal c = search (rules, modal_carried)
