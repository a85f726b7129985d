use Rattle.std.proofs.Common.{rules}
use Rattle.rows.specs.RowsOf.{frame_of}
use Rattle.judging.specs.Tests.{some_above}
use Rattle.judging.proofs.rules.below.Goals as goal

pub returns : goal.returns
returns c q mq =
    let F = frame_of c.args.rows.now in
    c.worlds_where.ensures (λ x. some_above F x q) (λ x b l k. search (rules, mq))
