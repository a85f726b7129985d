use Rattle.std.proofs.Common.{rules, Ok, sym, ap, ◌∙◌}
use Rattle.records.specs.Files.{bytes_of}
use Rattle.records.specs.Readers.{read_bytes}
use Rattle.records.proofs.Chains.{next_at}
use Rattle.sketches.specs.Readings.{nothing, model_reader}
use Rattle.sketches.proofs.Reading.{step_bad, step_on, step_end, step_broken, model_read, refused}
use Rattle.sketches.proofs.read.read_model.Goals as goal

pub returns-in_err-sketch-clause-answer : goal.returns-in_err-sketch-clause-answer
returns-in_err-sketch-clause-answer c =
    let P = c.args.principals in
    let n = c.args.labels.0 in
    let new = c.new-cursor.ensures in
    refused P n (bytes_of c.args.file) _ c.in_err-sketch.field-0.0 (search rules)
    (sym (λ j. read_bytes (model_reader P n) (new.number j) nothing (new.rest j)) ∙ c.in_err-sketch.ensures P n)

pub returns-in_err-record-clause-answer : goal.returns-in_err-record-clause-answer
returns-in_err-record-clause-answer c =
    let P = c.args.principals in
    let n = c.args.labels.0 in
    let at = c.loop-record.cursor in
    let new = c.next.new.self in
    refused P n (bytes_of c.args.file) _ c.in_err-record.field-0.0 (search rules)
    (step_broken P n at.number at.rest.now _ c.loop-record.sketch c.loop-record.invariant new.number new.rest.now c.in_err-record.field-0.0 c.in_err-record.ensures)

pub loop-record-preserved : goal.loop-record-preserved
loop-record-preserved c =
    let P = c.args.principals in
    let n = c.args.labels.0 in
    let at = c.loop-record.cursor in
    let new = c.next.new.self in
    step_on P n at.number at.rest.now _ c.loop-record.sketch c.loop-record.invariant new.number c.in-Some.record new.rest.now c.take.new.self
    (next_at at.rest.now at.number new.rest.now new.number (ap Ok c.in-Some.is) c.in_ok-record.ensures)
    c.in_ok-take.ensures

pub returns-in_err-take-clause-answer : goal.returns-in_err-take-clause-answer
returns-in_err-take-clause-answer c =
    let P = c.args.principals in
    let n = c.args.labels.0 in
    let at = c.loop-record.cursor in
    let new = c.next.new.self in
    refused P n (bytes_of c.args.file) _ c.in_err-take.field-0.0 (search rules)
    (step_bad P n at.number at.rest.now _ c.loop-record.sketch c.loop-record.invariant new.number c.in-Some.record new.rest.now c.in_err-take.field-0.0 c.take.new.self
    (next_at at.rest.now at.number new.rest.now new.number (ap Ok c.in-Some.is) c.in_ok-record.ensures)
    c.in_err-take.ensures)

pub returns-clause-answer : goal.returns-clause-answer
returns-clause-answer c =
    let P = c.args.principals in
    let n = c.args.labels.0 in
    let at = c.loop-record.cursor in
    let new = c.next.new.self in
    model_read P n (bytes_of c.args.file) c.finish.result
    (step_end P n at.number at.rest.now _ c.loop-record.sketch c.loop-record.invariant new.number new.rest.now c.finish.result
    (next_at at.rest.now at.number new.rest.now new.number (ap Ok c.in_default.is) c.in_ok-record.ensures)
    c.finish.ensures.answer)

pub returns-clause-inside : goal.returns-clause-inside
returns-clause-inside c =
    let so_far = c.loop-record.invariant in
    c.finish.ensures.inside so_far.worlds so_far.entries so_far.shows
