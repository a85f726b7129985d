use Rattle.std.proofs.Common.{arith}
use Rattle.std.proofs.lemmas.Grind.{common_steps}
use Rattle.dossiers.proofs.Entries.{no_formula}
use Rattle.dossiers.proofs.entry.read_formula.Goals as goal

pub returns-in_err-kind_of : goal.returns-in_err-kind_of
returns-in_err-kind_of c = grind (arith, common_steps, no_formula c.args.numbered.raw.kind c.args.numbered.raw.body.now c.args.numbered.at c.in_err-kind_of.ensures.0)
