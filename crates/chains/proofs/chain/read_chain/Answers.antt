use Rattle.std.proofs.Common.{length, vec_items, sym, ap, ◌∙◌, subst, arith}
use Rattle.std.proofs.lemmas.List.{length_push}
use Rattle.records.specs.Files.{bytes_of}
use Rattle.records.specs.Chains.{front}
use Rattle.records.proofs.Laws.{one_chain}
use Rattle.records.proofs.Chains.{Read, read_more, read_all, ends_none, ends_broken}
use Rattle.chains.proofs.chain.read_chain.Goals.{in-Ok-None, in-Err}
use Rattle.chains.proofs.chain.read_chain.Goals as goal

pub loop-record-preserved : goal.loop-record-preserved
loop-record-preserved c =
    let step = rw c.in-Ok-Some.field-0-is at c.in-Ok-Some.ensures in
    let pushed = c.in_ok-push-in-Ok-Some.ensures.items in (
      subst (λ l. Read (bytes_of c.args.file) l c.next.new.self.rest.now) (sym pushed)
          (read_more _ (vec_items c.loop-record.records) c.loop-record.cursor.rest.now c.in-Ok-Some.record.raw c.next.new.self.rest.now c.loop-record.invariant.0 step.0),
      omega (arith, ap length pushed, length_push (vec_items c.loop-record.records) c.in-Ok-Some.record.raw, step.2, c.loop-record.invariant.1),
    )

pub returns : goal.returns
returns c =
    let fs = vec_items c.loop-record.records in
    elim c.match-next.branch [
      | in-Ok-None w ↦
          let step = rw w.in-Ok-None.field-0-is at w.in-Ok-None.ensures in
          let whole = read_all (bytes_of c.args.file) fs c.loop-record.cursor.rest.now c.loop-record.invariant.0 (ap front step.0) in
          record {
            records = whole.records;
            ending_is = w.ending-is ∙ ends_none (bytes_of c.args.file) fs c.loop-record.cursor.rest.now whole step.0;
            law = one_chain (bytes_of c.args.file);
          }
      | in-Err w ↦
          let step = w.in-Err.ensures in
          let whole = read_all (bytes_of c.args.file) fs c.loop-record.cursor.rest.now c.loop-record.invariant.0 step.1 in
          record {
            records = whole.records;
            ending_is = w.ending-is ∙ ends_broken (bytes_of c.args.file) fs c.loop-record.cursor.rest.now c.loop-record.cursor.number _ whole step.0 c.loop-record.invariant.1 step.2;
            law = one_chain (bytes_of c.args.file);
          }
    ]
