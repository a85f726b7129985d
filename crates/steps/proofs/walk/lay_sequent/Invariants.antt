use Rattle.std.proofs.Common.{◌≡◌, take}
use Rattle.stack.specs.Stacks.{items, Same}
use Rattle.steps.proofs.walk.lay_sequent.Given as goal

abbrev pub invariant-loop-fact : goal.invariant-loop-fact
invariant-loop-fact l = (items l.trail ≡ take l.fact-index l.facts) × Same l.initial.trail l.trail
