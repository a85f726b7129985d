use Rattle.std.proofs.Common.{◌≡◌, ℕ, min, length, ap, ◌∙◌, rules}
use Rattle.records.specs.Files.{bytes_of}
use Rattle.records.specs.declared.numbers.FormulaNumber.{FormulaNumber}
use Rattle.stack.specs.Stacks.{room}
use Rattle.stack.proofs.Counts.{cleared, made_room}
use Rattle.logic.specs.declared.fact.Fact.{Fact}
use Rattle.logic.specs.Tables.{nodes_of}
use Rattle.steps.specs.Branches.{Setting, branch, examined}
use Rattle.steps.specs.Memory.{stored_setting}
use Rattle.steps.proofs.Verdict.{verdict}
use Rattle.steps.proofs.examine.examine_derivation.Goals as goal

pub returns : goal.returns
returns g c =
    let s = c.over-own.result in
    let w = c.over-later.result in
    let file = bytes_of c.args.file in
    let nodes = nodes_of c.args.setting.now.table.now in
    let k = c.args.setting.now.pile.now in
    let P = c.args.setting.now.principals in
    let n = c.args.labels in
    let most = min 512 (length c.args.trail.now) in
    let waits = min 64 (length c.args.waiting.now) in
    let S : ℕ → ℕ → Setting Fact FormulaNumber = λ i j. stored_setting nodes (g.K.Pack.layouts k) (g.K.Pack.readings k) P i j in
    let limits : S (room s) (room w) ≡ S most waits = ap (λ i. S i (room w)) (made_room c.over-own.ensures.made) ∙ ap (S most) (made_room c.over-later.ensures.made) in
    record {
      verdict = λ fs is.
          verdict g.K.Pack.conditions g.K.Pack.layouts g.K.Pack.readings g.met.K.Pack.lawful k P nodes c.args.setting.now.table.now.falling fs n file most waits c.start-answer.result
          (c.start-answer.ensures.answer ∙ ap (λ T. examined T (branch c.args.facts.now n) file) limits ∙ ap (λ xs. examined (S most waits) (branch xs n) file) is);
      trail = search (rules, cleared);
      waiting = search (rules, cleared);
    }
