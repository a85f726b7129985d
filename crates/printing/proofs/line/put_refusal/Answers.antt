use Rattle.std.proofs.Common.{sym, subst}
use Rattle.printing.specs.Lines.{spaced}
use Rattle.records.specs.Refusals.{number_of, second_of}
use Rattle.printing.proofs.line.put_refusal.Goals as goal

pub put_spaced-requires : goal.put_spaced-requires
put_spaced-requires g c =
    subst (λ n. g.S.Sink.can_take c.args.sink.now (spaced n)) (sym c.number-first.ensures)
    (g.met.S.Sink.first _ (spaced (number_of c.args.e)) (spaced (second_of c.args.e)) c.requires)

pub put_spaced-requires-2 : goal.put_spaced-requires-2
put_spaced-requires-2 g c =
    let one = rw c.number-first.ensures at c.put_spaced.ensures in
    subst (λ n. g.S.Sink.can_take c.put_spaced.new.sink (spaced n)) (sym c.second-second.ensures)
    (g.met.S.Sink.second _ _ (spaced (number_of c.args.e)) (spaced (second_of c.args.e)) c.requires one)

pub returns : goal.returns
returns g c =
    let one = rw c.number-first.ensures at c.put_spaced.ensures in
    let two = rw c.second-second.ensures at c.put_spaced-2.ensures in
    g.met.S.Sink.both _ _ _ (spaced (number_of c.args.e)) (spaced (second_of c.args.e)) c.requires one two
