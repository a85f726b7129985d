use Rattle.std.proofs.Common.{◌≡◌, length, vec_items}
use Rattle.records.proofs.Chains.{Read}
use Rattle.records.specs.Files.{bytes_of}
use Rattle.chains.proofs.chain.read_chain.Given as goal

abbrev pub invariant-loop-record : goal.invariant-loop-record
invariant-loop-record l = Read (bytes_of l.file) (vec_items l.records) l.cursor.rest.now × (l.cursor.number ≡ length (vec_items l.records))

abbrev pub decreases-loop-record : goal.decreases-loop-record
decreases-loop-record l = length l.cursor.rest.now
