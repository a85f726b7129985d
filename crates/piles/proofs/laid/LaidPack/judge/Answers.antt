use Rattle.std.proofs.Common.{rules}
use Rattle.piles.proofs.Judging.{judged_later}
use Rattle.piles.proofs.laid.LaidPack.judge.Goals as goal

pub returns : goal.returns
returns g c =
    judged_later (g.L.Layer.condition c.args.self.now.layer) _ _ _ _ _ _ (λ p q k. search rules) (c.holds_in.ensures.0 c.if-not-holds_in.false) c.judge.ensures c.map.ensures.cases
