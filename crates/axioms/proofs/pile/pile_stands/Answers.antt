use Rattle.axioms.proofs.pile.pile_stands.Goals as goal

pub returns : goal.returns
returns g c = g.met.K.PublishedPile.written c.args.pile.now
