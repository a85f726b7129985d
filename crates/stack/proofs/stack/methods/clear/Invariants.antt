use Rattle.std.proofs.Common.{◌≡◌, take, replicate}
use Rattle.stack.proofs.stack.methods.clear.Given as goal

abbrev pub invariant-loop-x : goal.invariant-loop-x
invariant-loop-x g l = take l.x-index l.places ≡ replicate l.x-index l.blank
