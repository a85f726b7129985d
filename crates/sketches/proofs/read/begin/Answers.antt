use Rattle.std.proofs.Common.{Ok, ap}
use Rattle.records.proofs.Chains.{next_at}
use Rattle.sketches.proofs.Reading.{started}
use Rattle.sketches.proofs.read.begin.Goals as goal

pub returns : goal.returns
returns c = λ P n.
    let at = c.args.cursor.now in
    let new = c.next.new.self in
    started P n at.number at.rest.now new.number new.rest.now c.in_ok-record.record c.begin.result
    (next_at at.rest.now at.number new.rest.now new.number (ap Ok c.in_ok-record.ensures.ok_part) c.in_ok-next.ensures) c.begin.ensures
