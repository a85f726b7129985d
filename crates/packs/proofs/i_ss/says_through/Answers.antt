use Rattle.std.proofs.Common.{◌∙◌}
use Rattle.packs.proofs.Worlds.{within_test, if_passes}
use Rattle.packs.proofs.i_ss.says_through.Goals as goal

pub returns-else-not-has : goal.returns-else-not-has
returns-else-not-has c h =
    if_passes _ _ _ _ c.if-not-has.false (c.has.ensures ∙ c.ends.ensures.bits _ h) (within_test _ _ _ _ _ _ c.ends-from_y.ensures c.ends-from_x.ensures c.within.ensures)
