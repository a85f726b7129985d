use Rattle.std.proofs.Common.{rules}
use Rattle.rows.proofs.Bits.{meets_by}
use Rattle.rows.proofs.masks.WorldSet.meets.Goals as goal

pub returns : goal.returns
returns c n h = search (rules, meets_by n c.args.self.0 c.args.other.0)
