use Rattle.std.proofs.Common.{◌≡◌, ℕ, ◌<◌, ◌≤◌, Err, length, reverse, sym, subst, rules}
use Rattle.records.specs.declared.refusal.Refusal.TheVariants.{NoRoom}
use Rattle.stack.specs.Stacks.{items, room}
use Rattle.stack.proofs.Counts.{same_room}
use Rattle.steps.specs.Memory.{Kept}
use Rattle.steps.proofs.Shown.{fits_laid, two_full, two_shows, two_kept}
use Rattle.steps.proofs.memory.Memory.fork.Goals as goal

pub returns-in_err-map_err-clause-shows : goal.returns-in_err-map_err-clause-shows
returns-in_err-map_err-clause-shows c =
    let m = c.args.self.now in
    let refused : c.from_residual.result ≡ Err (NoRoom c.args.at) = search rules in
    let full : room m.waiting.now ≤ length (items m.waiting.now) = search rules in
    rw refused
    (two_full (room m.trail.now) (items m.trail.now) c.args.labels (items m.waiting.now) c.args.p c.if-not-has_room.ensures c.args.q c.if-not-has_room-2.ensures (room m.waiting.now) c.args.at full)

pub lay-requires : goal.lay-requires
lay-requires c =
    let m = c.args.self.now in
    fits_laid (room m.trail.now) (length (items m.trail.now)) c.args.labels c.args.p c.if-not-has_room.ensures c.of-2.result c.of-2.ensures

pub invariant_of-self-2 : goal.invariant_of-self-2
invariant_of-self-2 c =
    let m = c.args.self.now in
    let u = c.lay.new.trail in
    record {
      kept = subst (λ (n : ℕ). Kept n (length (items u)) (reverse (items c.push.new.self))) (sym (same_room c.lay.ensures.same))
          (two_kept (room m.trail.now) (items m.trail.now) c.args.labels (items m.waiting.now) c.args.p c.if-not-has_room.ensures c.of-2.result c.of-2.ensures (items u) c.lay.ensures.items m.kept c.args.q c.if-not-has_room-2.ensures _ c.len.ensures.answer c.of.ensures c.count_after.ensures (items c.push.new.self) (search rules));
    }

pub returns-clause-shows : goal.returns-clause-shows
returns-clause-shows c =
    let m = c.args.self.now in
    let some : length (items m.waiting.now) < room m.waiting.now = search rules in
    two_shows (room m.trail.now) (items m.trail.now) c.args.labels (items m.waiting.now) c.args.p c.if-not-has_room.ensures c.of-2.result c.of-2.ensures (items c.lay.new.trail) c.lay.ensures.items m.kept c.args.q c.if-not-has_room-2.ensures _ c.len.ensures.answer c.of.ensures c.count_after.ensures (items c.push.new.self) (search rules) (room m.waiting.now) c.args.at c.count_after-2.result c.count_after-2.ensures some
