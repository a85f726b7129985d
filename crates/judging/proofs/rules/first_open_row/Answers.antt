use Rattle.std.proofs.Common.{rules, ℕ}
use Rattle.std.proofs.lemmas.Iterator.{first_from_Range}
use Rattle.logic.specs.ModelRules.{Upward}
use Rattle.rows.specs.RowsOf.{frame_of, model_of}
use Rattle.judging.proofs.Everys.{open_row}
use Rattle.judging.proofs.rules.first_open_row.Goals as goal

pub returns : goal.returns
returns c =
    let r = c.args.rows.now in
    let up = λ (a : ℕ). Upward (frame_of r) ((model_of r).row a) in
    let found = first_from_Range _ _ _ _ (λ a. up a → ⊥) up c.find.ensures.ran (λ x q k. search rules) (λ x q k. search rules) in
    open_row r c.find.result c.map.result _ found c.map.ensures.cases (λ i a k. search rules)
