use Rattle.std.proofs.Common.{◌++◌, length, ap, ◌∙◌, append_assoc, arith, length-append}
use Rattle.stack.specs.Stacks.{items}
use Rattle.stack.proofs.Counts.{same_room, same_then}
use Rattle.steps.specs.Waits.{laid_one}
use Rattle.steps.proofs.moves.lay.Goals as goal

pub lay_one-requires-2 : goal.lay_one-requires-2
lay_one-requires-2 c =
    let s = items c.args.trail.now in
    let f = c.args.facts in
    let p = c.lay_one.ensures in
    omega (arith, c.requires, same_room p.same, ap length p.items, length-append s (laid_one f.first), length-append (laid_one f.first) (laid_one f.second ++ laid_one f.third), length-append (laid_one f.second) (laid_one f.third))

pub lay_one-requires-3 : goal.lay_one-requires-3
lay_one-requires-3 c =
    let s = items c.args.trail.now in
    let m = items c.lay_one.new.trail in
    let f = c.args.facts in
    let p = c.lay_one.ensures in
    let q = c.lay_one-2.ensures in
    omega (arith, c.requires, same_room p.same, same_room q.same, ap length p.items, ap length q.items, length-append s (laid_one f.first), length-append m (laid_one f.second), length-append (laid_one f.first) (laid_one f.second ++ laid_one f.third), length-append (laid_one f.second) (laid_one f.third))

pub returns : goal.returns
returns c =
    let s = items c.args.trail.now in
    let f = c.args.facts in
    let p = c.lay_one.ensures in
    let q = c.lay_one-2.ensures in
    let r = c.lay_one-3.ensures in
    record {
      items = r.items
          ∙ ap (λ xs. xs ++ laid_one f.third) q.items
          ∙ ap (λ xs. (xs ++ laid_one f.second) ++ laid_one f.third) p.items
          ∙ append_assoc (s ++ laid_one f.first) (laid_one f.second) (laid_one f.third)
          ∙ append_assoc s (laid_one f.first) (laid_one f.second ++ laid_one f.third);
      same = same_then (same_then p.same q.same) r.same;
    }
