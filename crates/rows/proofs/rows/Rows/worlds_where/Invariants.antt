use Rattle.std.proofs.Common.{◌≡◌, ◌<◌, ℕ, Bool}
use Rattle.records.specs.declared.numbers.World.{World}
use Rattle.rows.specs.Masks.{Mask}
use Rattle.rows.specs.RowsOf.{frame_of}
use Rattle.rows.proofs.rows.Rows.worlds_where.Given as goal

abbrev pub invariant-loop-x : goal.invariant-loop-x
invariant-loop-x g l = (p : ℕ → Bool) → ((x : World) (b : Bool) → x.0 < (frame_of l.self).worlds → goal.F-post g l.test x b → b ≡ p x.0) → Mask l.x l.found.0 p
