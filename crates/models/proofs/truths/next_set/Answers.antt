use Rattle.std.proofs.Common.{sym, ◌∙◌, subst}
use Rattle.logic.specs.Formulas.{tree}
use Rattle.logic.specs.Tables.{nodes_of}
use Rattle.rows.specs.declared.masks.WorldSet.{WorldSet}
use Rattle.rows.specs.RowsOf.{model_of}
use Rattle.judging.specs.Truths.{Truth}
use Rattle.models.proofs.Options.{by_cases}
use Rattle.models.proofs.Sets.{next_true, node_not_there}
use Rattle.models.proofs.truths.next_set.Goals as goal

pub returns : goal.returns
returns c = λ below.
    let m = model_of c.args.rows.now in
    let ns = nodes_of c.args.table.now in
    by_cases c.node.result c.map_or.ensures
    (λ is e. subst (λ (s : WorldSet). Truth m s (tree ns c.args.formula)) (sym e) (node_not_there m ns c.args.formula (sym is ∙ c.node.ensures)))
    (λ n is post. next_true m ns c.args.formula n c.args.sets.now c.map_or.result c.args.table.now.falling (sym is ∙ c.node.ensures) post below)
