use Rattle.std.proofs.Common.{rules, ◌≡◌, not, Some, sym, ap, ◌∙◌, subst}
use Rattle.std.proofs.lemmas.Iterator.{YieldsList-from_slice}
use Rattle.std.proofs.lemmas.List.{take_all}
use Rattle.std.proofs.Math.Seq.{take-length}
use Rattle.std.proofs.lemmas.Iterator.Search.{position_from_yields_List}
use borrow.Author.Tests.{tests}
use Rattle.logic.specs.Facts.{falsifies, facts_map}
use Rattle.logic.specs.Formulas.{tree}
use Rattle.logic.specs.Tables.{nodes_of}
use Rattle.rows.specs.PlacesOf.{standing_of}
use Rattle.rows.specs.RowsOf.{model_of}
use Rattle.models.specs.Seen.{fact_seen}
use Rattle.models.proofs.Firsts.{position, first_fact}
use Rattle.models.proofs.Options.{by_cases}
use Rattle.models.specs.Firsts.{FirstNotOf}
use Rattle.std.specs.Option.{option_map}
use Rattle.models.proofs.Seen.{fact_is}
use Rattle.models.proofs.falsify.Valuation.first_not_falsifying.Goals as goal

pub returns : goal.returns
returns c = λ fs e inside.
    let v = c.args.self.now in
    let g = v.model.now in
    let ns = nodes_of v.table.now in
    let seen = fact_seen g v.truths.sets in
    let p = falsifies (model_of g.rows) (standing_of g.places) in
    let told = position_from_yields_List (λ f. not (seen f)) _ _ c.position.result c.position.ensures.ran (YieldsList-from_slice c.args.facts.now (search (rules, take_all, take-length))) (λ x b q k. search (rules, tests)) in
    let mapped : c.map.result ≡ option_map position c.position.result =
    by_cases c.position.result c.map.ensures.cases (λ is none. none ∙ sym (ap (option_map position) is)) (λ i is some. (let one : c.map.result ≡ Some (position i) = search (rules, tests) in one) ∙ sym (ap (option_map position) is)) in
    subst (FirstNotOf p (facts_map (tree ns) fs)) (sym mapped)
    (first_fact (tree ns) seen p (fact_is g ns v.truths.sets v.true_sets inside) fs c.args.facts.now c.position.result e told)
