use Rattle.packs.proofs.Worlds.{within_test}
use Rattle.packs.proofs.rs.ratified_at.Goals as goal

pub returns : goal.returns
returns c = within_test _ _ _ _ _ _ c.ends-says.ensures c.ends-ratified.ensures c.within.ensures
