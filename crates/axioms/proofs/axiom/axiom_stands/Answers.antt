use Rattle.axioms.proofs.axiom.axiom_stands.Goals as goal

pub returns : goal.returns
returns g c = g.met.L.StandsFor.valid c.args.layer.now
