use Rattle.std.proofs.Common.{◌+◌, refl, arith}
use Rattle.std.proofs.lemmas.List.{take_rest}
use Rattle.records.proofs.Fronts.{front_is}
use Rattle.records.proofs.cursor.split_record.Goals as goal

pub returns-clause-front : goal.returns-clause-front
returns-clause-front c = front_is c.args.bytes.now c.word_at-length.result _ _ _ (omega arith) c.word_at-length.ensures (omega arith) (omega arith) c.word_at.ensures refl (take_rest c.args.bytes.now (2 + c.word_at-length.result))
