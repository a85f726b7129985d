use Rattle.stranger.specs.Laws.{said_so}
use Rattle.stranger.proofs.believed.said_is_so.Goals as goal

pub returns : goal.returns
returns c = said_so c.args.layer.who
