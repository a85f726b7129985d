use Rattle.std.proofs.Common.{rules}
use Rattle.logic.specs.Models.{every}
use Rattle.rows.specs.RowsOf.{frame_of}
use Rattle.rows.proofs.Ranges.{every_from_all}
use Rattle.judging.specs.Tests.{ordered}
use Rattle.judging.proofs.Everys.{tells_at, decides_order}
use Rattle.judging.proofs.rules.is_order.Goals as goal

pub returns : goal.returns
returns c =
    let F = frame_of c.args.rows.now in
    tells_at c.all.result (every F.worlds (ordered F)) (every_from_all F.worlds (ordered F) c.worlds.ensures.count _ _ _ c.all.ensures.ran (λ x b q k. search rules)) (decides_order F)
