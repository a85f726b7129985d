use Rattle.std.proofs.Common.{◌++◌}
use Rattle.printing.specs.Lines.{spaced, outcome_of}
use Rattle.printing.proofs.line.put_call.Goals as goal

pub returns : goal.returns
returns g c =
    let name = c.args.name.now in
    let number = spaced c.args.number in
    let end = outcome_of c.args.done in
    let two = g.met.S.Sink.both _ _ _ name number (g.met.S.Sink.first _ (name ++ number) end c.requires) c.put.ensures c.put_spaced.ensures in
    g.met.S.Sink.both _ _ _ (name ++ number) end c.requires two c.put_outcome.ensures
