use Rattle.std.proofs.Common.{ℕ, length, reverse, sym, subst}
use Rattle.stack.specs.Stacks.{items, room}
use Rattle.stack.proofs.Counts.{same_room}
use Rattle.steps.specs.Memory.{Kept}
use Rattle.steps.proofs.Shown.{one_shows, one_kept}
use Rattle.steps.proofs.memory.Memory.go_on.Goals as goal

pub invariant_of-self : goal.invariant_of-self
invariant_of-self c =
    let m = c.args.self.now in
    let u = c.lay.new.trail in
    record {
      kept = subst (λ (n : ℕ). Kept n (length (items u)) (reverse (items m.waiting.now))) (sym (same_room c.lay.ensures.same))
          (one_kept (room m.trail.now) (items m.trail.now) c.args.labels (items m.waiting.now) c.args.p c.if-not-has_room.ensures c.of.result c.of.ensures (items u) c.lay.ensures.items m.kept);
    }

pub returns-clause-shows : goal.returns-clause-shows
returns-clause-shows c =
    let m = c.args.self.now in
    one_shows (room m.trail.now) (items m.trail.now) c.args.labels (items m.waiting.now) c.args.p c.if-not-has_room.ensures c.of.result c.of.ensures (items c.lay.new.trail) c.lay.ensures.items m.kept (room m.waiting.now) c.args.at c.count_after.result c.count_after.ensures
