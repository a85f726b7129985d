use Rattle.std.proofs.Common.{◌&&◌, ltb, sym, ap, ◌∙◌}
use Rattle.rows.specs.RowsOf.{frame_of}
use Rattle.models.specs.Seen.{link_seen}
use Rattle.models.proofs.Seen.{bit_within}
use Rattle.models.proofs.falsify.Valuation.link_stands.Goals as goal

pub returns-in-Order : goal.returns-in-Order
returns-in-Order c =
    let g = c.args.self.now.model.now in
    let F = frame_of g.rows in
    c.has.ensures ∙ bit_within _ _ _ c.above-above.ensures c.world-in-Order.result.0
    ∙ (λ j. ltb (c.world-in-Order.ensures j).0 F.worlds && F.above (c.world.ensures j).0 (c.world-in-Order.ensures j).0)
    ∙ sym (ap (link_seen g) c.in-Order.is)

pub returns-in-Arrow : goal.returns-in-Arrow
returns-in-Arrow c =
    let g = c.args.self.now.model.now in
    let F = frame_of g.rows in
    c.has-in-Arrow.ensures ∙ bit_within _ _ _ c.ends-ends.ensures c.world-in-Arrow-2.result.0
    ∙ (λ j. ltb (c.world-in-Arrow-2.ensures j).0 F.worlds && F.arrow c.in-Arrow.k c.in-Arrow.a.0 (c.world-in-Arrow.ensures j).0 (c.world-in-Arrow-2.ensures j).0)
    ∙ sym (ap (link_seen g) c.in-Arrow.is)
