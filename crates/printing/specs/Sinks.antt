-- What takes the bytes of a line: the room for them, and a place in a print buffer. Assumes nothing.
use Rattle.std.specs.Prelude.{◌≡◌, ℕ, ◌+◌, ◌-◌, ◌≤◌, cond, List, length, Some, None, Option, nat_le}
use Rattle.printing.specs.Lines.{written}
use Rattle.printing.specs.declared.sink.Room.{Room}
use Rattle.printing.specs.declared.sink.Place.{Place}

-- the room that is left after n bytes; none where there is less
abbrev pub room_after : Option ℕ → ℕ → Option ℕ
room_after None n = None
room_after (Some m) n = cond (nat_le n m) (Some (m - n)) None

-- the room takes bytes whether they fit or not
abbrev pub AnyBytes : Room → List ℕ → Type 0
AnyBytes a xs = Unit {0}

-- the bytes leave so much less room
abbrev pub LeavesRoom : Room → List ℕ → Room → Type 0
LeavesRoom a xs b = b.left ≡ room_after a.left (length xs)

-- the bytes fit into the buffer from the place on
abbrev pub Fits : Place → List ℕ → Type 0
Fits p xs = p.at + length xs ≤ length p.buf.now

-- the bytes are written into the buffer, and the place behind them comes next
abbrev pub Writes : Place → List ℕ → Place → Type 0
Writes p xs q = (q.at ≡ p.at + length xs) × (q.buf.now ≡ written p.buf.now p.at xs) × (q.buf.ghost_name ≡ p.buf.ghost_name)
