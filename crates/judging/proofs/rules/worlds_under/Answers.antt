use Rattle.logic.specs.declared.terms.Modality.TheVariants.{Permitted}
use Rattle.rows.specs.RowsOf.{frame_of}
use Rattle.judging.proofs.rules.worlds_under.Goals as goal

pub returns : goal.returns
returns c = c.below.ensures ((frame_of c.args.rows.now).arrow Permitted c.args.principal.0 c.args.z.0) c.ends-ends.ensures
