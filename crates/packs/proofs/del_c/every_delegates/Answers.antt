use Rattle.std.proofs.Common.{rules}
use Rattle.rows.specs.RowsOf.{frame_of}
use Rattle.packs.proofs.Meanings.{by_test, del_c_test, del_c_says}
use Rattle.packs.proofs.del_c.every_delegates.Goals as goal

pub returns : goal.returns
returns c = by_test _ (del_c_test c.args.principals (frame_of c.args.rows.now)) (c.of_each_principal.ensures _ (λ a b k h. search rules)) (del_c_says c.args.principals (frame_of c.args.rows.now))
