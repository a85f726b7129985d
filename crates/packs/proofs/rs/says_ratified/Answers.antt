use Rattle.std.proofs.Common.{rules}
use Rattle.rows.specs.RowsOf.{frame_of}
use Rattle.packs.proofs.Meanings.{by_test, rs_test, rs_says}
use Rattle.packs.proofs.rs.says_ratified.Goals as goal

pub returns : goal.returns
returns c = by_test _ (rs_test c.args.principals (frame_of c.args.rows.now)) (search rules) (rs_says c.args.principals (frame_of c.args.rows.now))
