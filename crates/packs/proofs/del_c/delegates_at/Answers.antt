use Rattle.packs.proofs.Worlds.{within_test}
use Rattle.packs.proofs.del_c.delegates_at.Goals as goal

pub returns : goal.returns
returns c = within_test _ _ _ _ _ _ c.ends-controlled.ensures (c.either.ensures _ _ _ c.ends-own.ensures c.handed_from-handed.ensures) c.within.ensures
