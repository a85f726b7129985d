use Rattle.std.proofs.Common.{rules}
use Rattle.rows.specs.RowsOf.{frame_of}
use Rattle.packs.proofs.Meanings.{by_test, i_ss_test, i_ss_says}
use Rattle.packs.proofs.i_ss.says_says.Goals as goal

pub returns : goal.returns
returns c = by_test _ (i_ss_test c.args.principals (frame_of c.args.rows.now)) (c.of_each_principal.ensures _ (λ a b k h. search rules)) (i_ss_says c.args.principals (frame_of c.args.rows.now))
