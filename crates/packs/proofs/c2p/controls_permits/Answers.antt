use Rattle.std.proofs.Common.{rules}
use Rattle.rows.specs.RowsOf.{frame_of}
use Rattle.packs.proofs.Meanings.{by_test, c2p_test, c2p_says}
use Rattle.packs.proofs.c2p.controls_permits.Goals as goal

pub returns : goal.returns
returns c = by_test _ (c2p_test c.args.principals (frame_of c.args.rows.now)) (search rules) (c2p_says c.args.principals (frame_of c.args.rows.now))
