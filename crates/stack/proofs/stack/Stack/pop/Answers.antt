use Rattle.std.proofs.Common.{arith, length-set, rules}
use Rattle.stack.proofs.Blanks.{blanked_from}
use Rattle.stack.proofs.Counts.{latest_in_use, but_latest}
use Rattle.stack.proofs.stack.Stack.pop.Goals as goal

pub invariant_of-self : goal.invariant_of-self
invariant_of-self g c =
    let s = c.args.self.now in
    let w = s.within in
    let f = s.few in
    record { within = simp length-set (omega arith); few = omega arith; free = search (rules, blanked_from) }

pub returns : goal.returns
returns g c =
    let s = c.args.self.now in
    record {
      answer = latest_in_use s _ (omega arith);
      items = but_latest s s.blank;
      same = search (rules, length-set);
    }
