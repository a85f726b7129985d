use Rattle.packs.proofs.Worlds.{mask_either}
use Rattle.packs.proofs.del_c.either.Goals as goal

pub returns : goal.returns
returns c n p q m k = rw c.bitor.ensures (mask_either n _ _ p q m k)
