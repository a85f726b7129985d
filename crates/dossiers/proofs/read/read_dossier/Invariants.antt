use Rattle.std.proofs.Common.{◌≡◌, length}
use Rattle.records.specs.Files.{bytes_of}
use Rattle.records.specs.Readers.{read_bytes}
use Rattle.logic.specs.Tables.{nodes_of}
use Rattle.dossiers.specs.Dossiers.{formulas, dossier_reader}
use Rattle.dossiers.specs.Drafts.{stage_of}
use Rattle.dossiers.proofs.read.read_dossier.Given as goal

abbrev pub invariant-loop-record : goal.invariant-loop-record
invariant-loop-record l =
    read_bytes (dossier_reader l.principals) 0 (formulas (nodes_of l.table)) (bytes_of l.file)
    ≡ read_bytes (dossier_reader l.principals) l.cursor.number (stage_of l.draft) l.cursor.rest.now

abbrev pub decreases-loop-record : goal.decreases-loop-record
decreases-loop-record l = length l.cursor.rest.now
