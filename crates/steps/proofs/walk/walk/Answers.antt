use Rattle.std.proofs.Common.{◌≡◌, length, Ok, Err, Some, ap, ◌∙◌, arith, rules}
use Rattle.records.specs.Chains.{record_of}
use Rattle.records.proofs.Chains.{next_at}
use Rattle.records.proofs.Fronts.{front_parts}
use Rattle.steps.specs.Held.{open_in, setting_of}
use Rattle.steps.proofs.Turns.{same_places_then, same_setting, turn_on, turn_bad, stops_after}
use Rattle.steps.proofs.walk.walk.Goals as goal

pub returns-in_err-current-clause-answer : goal.returns-in_err-current-clause-answer
returns-in_err-current-clause-answer g c =
    let s = c.args.setting.now in
    let old = c.args.memory.now in
    let m = c.loop-current.memory in
    let inv = c.loop-current.invariant in
    let at = c.loop-current.cursor in
    let on = c.next.new.self in
    let numbered = c.in_ok-numbered.numbered in
    let is : c.next.result ≡ Ok (Some numbered) = search rules in
    let step = next_at at.rest.now at.number on.rest.now on.number is c.next.ensures in
    let refused : c.from_residual-in_err-current.result ≡ Err c.in_err-current.field-0.0 = search rules in
    refused
    ∙ turn_bad (setting_of g.K.Pack.layouts g.K.Pack.readings s old) (setting_of g.K.Pack.layouts g.K.Pack.readings s m) (same_setting g.K.Pack.layouts g.K.Pack.readings s inv.1)
    at.number numbered.at step.1 at.rest.now m c.loop-current.current c.in-Some.count c.in-Some.is (record_of numbered.raw) on.rest.now step.0 c.in_err-current.field-0.0 c.in_err-current.ensures.shows
    ∙ inv.0

pub loop-current-smaller : goal.loop-current-smaller
loop-current-smaller g c =
    let at = c.loop-current.cursor in
    let on = c.next.new.self in
    let numbered = c.in_ok-numbered.numbered in
    let is : c.next.result ≡ Ok (Some numbered) = search rules in
    let step = next_at at.rest.now at.number on.rest.now on.number is c.next.ensures in
    let parts = front_parts at.rest.now (record_of numbered.raw) on.rest.now step.0 in
    omega (arith, parts.length_is)

pub loop-current-preserved : goal.loop-current-preserved
loop-current-preserved g c =
    let s = c.args.setting.now in
    let old = c.args.memory.now in
    let m = c.loop-current.memory in
    let inv = c.loop-current.invariant in
    let at = c.loop-current.cursor in
    let on = c.next.new.self in
    let numbered = c.in_ok-numbered.numbered in
    let e = c.in_ok-current.ensures in
    let is : c.next.result ≡ Ok (Some numbered) = search rules in
    let step = next_at at.rest.now at.number on.rest.now on.number is c.next.ensures in (
      turn_on (setting_of g.K.Pack.layouts g.K.Pack.readings s old) (setting_of g.K.Pack.layouts g.K.Pack.readings s m) (same_setting g.K.Pack.layouts g.K.Pack.readings s inv.1)
          at.number numbered.at step.1 at.rest.now m c.loop-current.current c.in-Some.count c.in-Some.is (record_of numbered.raw) on.rest.now step.0 _ e.shows on.number step.2
          ∙ inv.0,
      same_places_then inv.1 e.same,
    )

pub returns-then-left-gt0-clause-answer : goal.returns-then-left-gt0-clause-answer
returns-then-left-gt0-clause-answer g c =
    let at = c.loop-current.cursor in
    let m = c.loop-current.memory in
    let inv = c.loop-current.invariant in
    stops_after (setting_of g.K.Pack.layouts g.K.Pack.readings c.args.setting.now c.args.memory.now) at.number at.rest.now c.number.result c.number.ensures (open_in m c.loop-current.current) (ap (open_in m) c.in_default.is) (λ none. omega (arith, ap length none))
    ∙ inv.0
