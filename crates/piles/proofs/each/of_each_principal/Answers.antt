use Rattle.std.proofs.Common.{rules, refl}
use Rattle.rows.proofs.Ranges.{every_from_all}
use Rattle.piles.proofs.each.of_each_principal.Goals as goal

pub returns : goal.returns
returns g c p test = every_from_all _ p refl _ _ _ c.all.ensures.ran (λ x b q k. search rules)
