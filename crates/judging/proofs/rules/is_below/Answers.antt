use Rattle.std.proofs.Common.{◌∙◌}
use Rattle.rows.specs.RowsOf.{frame_of}
use Rattle.judging.proofs.Everys.{meets_same}
use Rattle.judging.proofs.rules.is_below.Goals as goal

pub returns : goal.returns
returns c q mq =
    let F = frame_of c.args.rows.now in
    c.meets.ensures F.worlds c.above.ensures.small ∙ meets_same F.worlds c.above.result.0 c.args.set.0 (F.above c.args.x.0) q c.above.ensures mq.bits
