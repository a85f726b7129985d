use Rattle.std.proofs.Common.{length}
use Rattle.records.specs.Files.{bytes_of}
use Rattle.records.specs.Readers.{read_bytes}
use Rattle.sketches.specs.Answers.{ReadTo}
use Rattle.sketches.specs.Readings.{nothing, model_reader}
use Rattle.sketches.proofs.read.read_model.Given as goal

abbrev pub invariant-loop-record : goal.invariant-loop-record
invariant-loop-record l = ReadTo l.ranges.principals l.ranges.labels.0 (read_bytes (model_reader l.ranges.principals l.ranges.labels.0) 0 nothing (bytes_of l.file)) l.cursor.number l.cursor.rest.now l.sketch

abbrev pub decreases-loop-record : goal.decreases-loop-record
decreases-loop-record l = length l.cursor.rest.now
