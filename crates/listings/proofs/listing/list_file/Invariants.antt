use Rattle.std.proofs.Common.{vec_items}
use Rattle.records.specs.Files.{bytes_of}
use Rattle.listings.proofs.Walk.{Sofar}
use Rattle.listings.proofs.listing.list_file.Given as goal

abbrev pub invariant-loop-raw : goal.invariant-loop-raw
invariant-loop-raw l = Sofar (bytes_of l.file) l.raw-items l.raw-index (vec_items l.rows) l.tally l.taken
