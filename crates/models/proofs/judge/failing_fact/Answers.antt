use Rattle.std.proofs.Common.{subst, arith}
use Rattle.logic.specs.declared.table.FormulaTable.{FormulaTable}
use Rattle.logic.specs.Facts.{falsifies, facts_map}
use Rattle.logic.specs.Formulas.{tree}
use Rattle.logic.specs.Tables.{nodes_of}
use Rattle.rows.specs.PlacesOf.{standing_of}
use Rattle.rows.specs.RowsOf.{model_of}
use Rattle.sketches.specs.declared.read.GivenModel.{GivenModel}
use Rattle.sketches.specs.Answers.{Inside}
use Rattle.models.specs.Firsts.{FirstNotOf}
use Rattle.sequents.specs.Sequents.{facts_of}
use Rattle.sequents.proofs.Few.{handed_few}
use Rattle.models.proofs.judge.failing_fact.Goals as goal

pub first_not_falsifying-requires : goal.first_not_falsifying-requires
first_not_falsifying-requires c = omega (arith, handed_few c.args.sequent.now.facts _ c.facts.ensures)

pub returns : goal.returns
returns c =
    let v = c.of.result in
    let fs = facts_of c.args.sequent.now.facts in
    let r = c.first_not_falsifying.result in
    subst (λ (g : GivenModel). Inside g → FirstNotOf (falsifies (model_of g.rows) (standing_of g.places)) (facts_map (tree (nodes_of c.args.table.now)) fs) r) c.of.ensures.model
    (subst (λ (t : FormulaTable). Inside v.model.now → FirstNotOf (falsifies (model_of v.model.now.rows) (standing_of v.model.now.places)) (facts_map (tree (nodes_of t)) fs) r) c.of.ensures.table
    (c.first_not_falsifying.ensures fs c.facts.ensures))
