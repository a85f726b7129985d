use Rattle.std.proofs.Common.{rules, ◌≡◌, Err, sym, ap, ◌∙◌, subst}
use Rattle.records.specs.Files.{bytes_of}
use Rattle.logic.specs.Tables.{nodes_of}
use Rattle.dossiers.specs.Answers.{Answers}
use Rattle.dossiers.specs.Dossiers.{dossier_reader, finished}
use Rattle.dossiers.specs.Drafts.{stage_of}
use Rattle.dossiers.proofs.Laws.{dossier_law}
use Rattle.dossiers.proofs.Reading.{fewer, good, bad, none, broken}
use Rattle.dossiers.proofs.read.read_dossier.Goals as goal

pub returns-in_err-record : goal.returns-in_err-record
returns-in_err-record c =
    let refused : c.from_residual.result ≡ Err c.in_err-record.field-0.0 = search rules in
    let is = broken (dossier_reader c.args.principals) _ _ _ _ c.loop-record.invariant c.next.new.self.rest.now c.next.new.self.number c.in_err-record.field-0.0 c.in_err-record.ensures in
    record { answer = subst (Answers _) (sym refused) (is ∙ ap Err (sym c.in_err-record.ensures.2)); law = dossier_law c.args.principals (nodes_of c.args.table.now) (bytes_of c.args.file) }

pub loop-record-smaller : goal.loop-record-smaller
loop-record-smaller c = fewer _ _ _ _ _ c.in-Some.record c.in-Some.is c.in_ok-record.ensures

pub loop-record-preserved : goal.loop-record-preserved
loop-record-preserved c = good (dossier_reader c.args.principals) _ _ _ _ c.loop-record.invariant _ _ _ _ c.in-Some.record c.in-Some.is c.in_ok-record.ensures c.in_ok-take.ensures

pub returns-in_err-take : goal.returns-in_err-take
returns-in_err-take c =
    let refused : c.from_residual-in_err-take.result ≡ Err c.in_err-take.field-0.0 = search rules in
    let is = bad (dossier_reader c.args.principals) _ _ _ _ c.loop-record.invariant _ _ _ c.in-Some.record _ c.in-Some.is c.in_ok-record.ensures c.in_err-take.ensures in
    record { answer = subst (Answers _) (sym refused) is; law = dossier_law c.args.principals (nodes_of c.args.table.now) (bytes_of c.args.file) }

pub returns : goal.returns
returns c =
    let is = none (dossier_reader c.args.principals) _ _ _ _ c.loop-record.invariant _ _ _ c.in_default.is c.in_ok-record.ensures in
    record { answer = subst (λ x. Answers x c.finish.result) (sym is) (subst (λ n. Answers (finished n (stage_of c.loop-record.draft)) c.finish.result) c.number.ensures c.finish.ensures); law = dossier_law c.args.principals (nodes_of c.args.table.now) (bytes_of c.args.file) }
