use Rattle.std.proofs.Common.{◌≡◌, true, subst}
use Rattle.records.specs.Chains.{record_of}
use Rattle.sketches.specs.Entries.{fits_entry}
use Rattle.sketches.proofs.Grown.{taken}
use Rattle.sketches.proofs.sketch.Sketch.take.Goals as goal

pub returns : goal.returns
returns c = λ W es h.
    let r = c.args.record in
    let ranges = c.args.ranges in
    let entry = c.in_ok-entry.entry in
    taken ranges.principals ranges.labels.0 W r.at.0 (record_of r.raw) es entry c.args.self.now c.put.new.self h
    c.in_ok-entry.ensures
    (subst (λ v. true ≡ fits_entry v ranges.principals ranges.labels.0 entry) c.worlds.ensures.count c.if-not-fits.ensures)
    c.if-has.ensures
    c.put.ensures
