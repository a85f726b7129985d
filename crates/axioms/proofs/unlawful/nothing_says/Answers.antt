use Rattle.axioms.proofs.Refuted.{from_nothing_refuted}
use Rattle.axioms.proofs.unlawful.nothing_says.Goals as goal

pub returns : goal.returns
returns c = from_nothing_refuted
