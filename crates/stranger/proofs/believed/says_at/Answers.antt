use Rattle.std.proofs.Common.{◌∙◌}
use Rattle.stranger.proofs.believed.says_at.Goals as goal

pub returns : goal.returns
returns c h = c.has.ensures ∙ c.ends.ensures.bits _ h
