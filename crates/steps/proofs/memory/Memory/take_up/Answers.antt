use Rattle.std.proofs.Common.{◌≡◌, ℕ, ◌∷◌, ◌++◌, length, reverse, take, sym, ap, ◌∙◌, subst}
use Rattle.stack.specs.Stacks.{items, room}
use Rattle.stack.proofs.Counts.{same_room, same_then}
use Rattle.stack.proofs.Ends.{popped_first}
use Rattle.steps.specs.Memory.{Kept}
use Rattle.steps.specs.Waits.{laid}
use Rattle.steps.proofs.Trails.{take_up_fits, taken_up, taken_up_kept}
use Rattle.steps.proofs.memory.Memory.take_up.Goals as goal

pub lay-requires : goal.lay-requires
lay-requires c =
    let m = c.args.self.now in
    let w = c.in_ok-w.w in
    let rest = items c.pop.new.self in
    let popped = c.in_ok-w.ensures in
    let ends : reverse (items m.waiting.now) ≡ w ∷ reverse rest = popped_first (items m.waiting.now) rest w popped.answer popped.items in
    rw (same_room c.cut.ensures.same)
    (take_up_fits (room m.trail.now) (items m.trail.now) w (items m.waiting.now) rest ends m.kept (items c.cut.new.self) c.cut.ensures.items)

pub invariant_of-self-2 : goal.invariant_of-self-2
invariant_of-self-2 c =
    let m = c.args.self.now in
    let w = c.in_ok-w.w in
    let rest = items c.pop.new.self in
    let u = items c.lay.new.trail in
    let popped = c.in_ok-w.ensures in
    let ends : reverse (items m.waiting.now) ≡ w ∷ reverse rest = popped_first (items m.waiting.now) rest w popped.answer popped.items in
    let is : u ≡ take w.trail (items m.trail.now) ++ laid w.facts = c.lay.ensures.items ∙ ap (λ xs. xs ++ laid w.facts) c.cut.ensures.items in
    let same = same_then c.cut.ensures.same c.lay.ensures.same in
    record { kept = subst (λ (n : ℕ). Kept n (length u) (reverse rest)) (sym (same_room same)) (taken_up_kept (room m.trail.now) (items m.trail.now) w (items m.waiting.now) rest ends m.kept u is) }

pub returns-clause-shows : goal.returns-clause-shows
returns-clause-shows c =
    let m = c.args.self.now in
    let w = c.in_ok-w.w in
    let rest = items c.pop.new.self in
    let u = items c.lay.new.trail in
    let popped = c.in_ok-w.ensures in
    let ends : reverse (items m.waiting.now) ≡ w ∷ reverse rest = popped_first (items m.waiting.now) rest w popped.answer popped.items in
    let is : u ≡ take w.trail (items m.trail.now) ++ laid w.facts = c.lay.ensures.items ∙ ap (λ xs. xs ++ laid w.facts) c.cut.ensures.items in
    taken_up (room m.trail.now) (items m.trail.now) w (items m.waiting.now) rest ends m.kept u is
