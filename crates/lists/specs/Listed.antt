-- The items of a list in a fixed array. Assumes nothing.
use Rattle.std.specs.Prelude.{ℕ, List, take}
use Rattle.lists.specs.declared.fixed.FixedList.{FixedList}

-- the items in use, by position
abbrev pub listed : {X : Type 0} {n : ℕ} → FixedList X n → List X
listed l = take l.len l.places
