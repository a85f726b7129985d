use Rattle.axioms.proofs.Refuted.{rs_turned_refuted}
use Rattle.axioms.proofs.unlawful.ratified_does_not_say.Goals as goal

pub returns : goal.returns
returns c = rs_turned_refuted
