use Rattle.packs.proofs.Worlds.{meets_test}
use Rattle.packs.proofs.c2p.shared_end.Goals as goal

pub returns : goal.returns
returns c = meets_test _ _ _ _ _ _ c.ends-controls.ensures c.ends-permitted.ensures c.meets.ensures
