use Rattle.std.proofs.Common.{codes, decimal}
use Rattle.printing.proofs.line.put_spaced.Goals as goal

pub put-requires : goal.put-requires
put-requires g c = g.met.S.Sink.first _ (codes " ") (decimal c.args.n) c.requires

pub put_number-requires : goal.put_number-requires
put_number-requires g c = g.met.S.Sink.second _ _ (codes " ") (decimal c.args.n) c.requires c.put.ensures

pub returns : goal.returns
returns g c = g.met.S.Sink.both _ _ _ (codes " ") (decimal c.args.n) c.requires c.put.ensures c.put_number.ensures
