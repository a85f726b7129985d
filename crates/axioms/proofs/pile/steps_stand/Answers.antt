use Rattle.axioms.proofs.pile.steps_stand.Goals as goal

pub returns : goal.returns
returns g c = g.met.K.PublishedPile.steps c.args.pile.now
