use Rattle.std.proofs.Common.{rules, ◌≡◌, Err, sym, subst}
use Rattle.logic.specs.Tables.{nodes_of}
use Rattle.records.specs.Files.{bytes_of}
use Rattle.sequents.specs.Sequents.{sequent_of}
use Rattle.models.specs.Examined.{Examined}
use Rattle.models.proofs.Examined.{examined_unread, examined_given}
use Rattle.models.proofs.examine.examine_model.Goals as goal

pub returns-in_err-model : goal.returns-in_err-model
returns-in_err-model g c =
    let read = c.in_err-model.ensures in
    let refusal = c.in_err-model.field-0.0 in
    let cs = g.K.Pack.conditions c.args.pile.now in
    let s = sequent_of (nodes_of c.args.table.now) c.args.sequent.now in
    let is : c.from_residual.result ≡ Err refusal = search rules in
    subst (Examined cs c.args.principals s (bytes_of c.args.file)) (sym is)
    (examined_unread cs c.args.principals s (bytes_of c.args.file) read.answer.law refusal read.answer.answer)

pub returns : goal.returns
returns g c =
    let read = c.in_ok-model.ensures in
    examined_given (g.K.Pack.conditions c.args.pile.now) c.args.principals (sequent_of (nodes_of c.args.table.now) c.args.sequent.now) (bytes_of c.args.file)
    read.answer.law c.in_ok-model.model read.answer.answer read.inside c.judge_model.result c.judge_model.ensures
