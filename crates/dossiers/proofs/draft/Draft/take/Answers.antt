use Rattle.std.proofs.Common.{◌≡◌, false, eqb, arith}
use Rattle.std.proofs.lemmas.Bool.{ne_eqb}
use Rattle.records.specs.Chains.{record_of}
use Rattle.logic.specs.Tables.{nodes_of}
use Rattle.dossiers.proofs.Drafts.{fact_taken, formula_taken}
use Rattle.dossiers.proofs.draft.Draft.take.Goals as goal

pub returns-in-Some : goal.returns-in-Some
returns-in-Some c =
    fact_taken c.args.principals _ (record_of c.args.numbered.raw) _ c.in-Some.sequent c.take_fact.new.sequent (nodes_of c.args.self.now.table) _ _
    c.in-Some.is c.len.ensures.count c.take_fact.ensures.labels c.take_fact.ensures.facts

pub returns : goal.returns
returns c =
    let other : eqb c.args.numbered.raw.kind 10 ≡ false = ne_eqb c.args.numbered.raw.kind 10 (λ e. omega arith) in
    formula_taken c.args.principals _ (record_of c.args.numbered.raw) _ (nodes_of c.args.self.now.table) (nodes_of c.take_formula.new.table) _
    c.in_default.is other c.take_formula.ensures
