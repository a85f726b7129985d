use Rattle.std.proofs.Common.{◌≡◌, length, Some}
use Rattle.records.specs.Files.{bytes_of}
use Rattle.records.specs.Readers.{read_bytes}
use Rattle.steps.specs.Branches.{reader}
use Rattle.steps.specs.Held.{open_in, SamePlaces, setting_of}
use Rattle.steps.proofs.walk.walk.Given as goal

-- what is left of the walk gives what the whole walk gives
abbrev pub invariant-loop-current : goal.invariant-loop-current
invariant-loop-current g l =
    let R = reader (setting_of g.K.Pack.layouts g.K.Pack.readings l.setting l.initial.memory) in
    (read_bytes R l.cursor.number (open_in l.memory l.current) l.cursor.rest.now ≡ read_bytes R 0 (open_in l.initial.memory (Some l.labels)) (bytes_of l.file))
    × SamePlaces l.initial.memory l.memory

abbrev pub decreases-loop-current : goal.decreases-loop-current
decreases-loop-current g l = length l.cursor.rest.now
