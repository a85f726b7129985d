use Rattle.std.proofs.Common.{ℕ, eqb, ap, ◌∙◌}
use Rattle.rows.proofs.Bits.{within_bits}
use Rattle.rows.proofs.masks.WorldSet.within.Goals as goal

pub returns : goal.returns
returns c n h = c.eq.ensures ∙ ap (λ (m : ℕ). eqb m c.args.self.0) c.bitand.ensures ∙ within_bits n c.args.self.0 c.args.other.0 h
