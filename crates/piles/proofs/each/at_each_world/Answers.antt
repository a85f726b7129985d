use Rattle.std.proofs.Common.{rules}
use Rattle.rows.proofs.Ranges.{every_from_all}
use Rattle.piles.proofs.each.at_each_world.Goals as goal

pub returns : goal.returns
returns g c p test = every_from_all _ p c.worlds.ensures.count _ _ _ c.all.ensures.ran (λ x b q k. search rules)
