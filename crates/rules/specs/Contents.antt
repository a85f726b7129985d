-- What the body of each kind of step record holds. Assumes nothing.
use Rattle.std.specs.Prelude.{ℕ, List}
use Rattle.records.specs.Bytes.{word}
use Rattle.records.specs.declared.numbers.FactPosition.{FactPosition}
use Rattle.records.specs.declared.numbers.Label.{Label}
use Rattle.rules.specs.declared.contents.Closing.{Closing}
use Rattle.rules.specs.declared.contents.LeftOrder.{LeftOrder}
use Rattle.rules.specs.declared.contents.LeftArrow.{LeftArrow}
use Rattle.rules.specs.declared.contents.RightArrow.{RightArrow}
use Rattle.rules.specs.declared.contents.TwoOrders.{TwoOrders}
use Rattle.rules.specs.declared.contents.OrderArrowOrder.{OrderArrowOrder}

-- the position at a byte
abbrev pub position_at : List ℕ → ℕ → FactPosition
position_at bs i = record { 0 = word bs i }

-- one position
abbrev pub one_position : List ℕ → FactPosition
one_position bs = position_at bs 0

-- one label
abbrev pub one_label : List ℕ → Label
one_label bs = record { 0 = word bs 0 }

-- a left formula, a right formula, an order
abbrev pub closing_at : List ℕ → Closing
closing_at bs = record { left = position_at bs 0; right = position_at bs 2; order = position_at bs 4 }

-- a left formula, an order
abbrev pub left_order_at : List ℕ → LeftOrder
left_order_at bs = record { left = position_at bs 0; order = position_at bs 2 }

-- a left formula, an arrow
abbrev pub left_arrow_at : List ℕ → LeftArrow
left_arrow_at bs = record { left = position_at bs 0; arrow = position_at bs 2 }

-- a right formula, an arrow
abbrev pub right_arrow_at : List ℕ → RightArrow
right_arrow_at bs = record { right = position_at bs 0; arrow = position_at bs 2 }

-- two orders
abbrev pub two_orders_at : List ℕ → TwoOrders
two_orders_at bs = record { first = position_at bs 0; second = position_at bs 2 }

-- an order, an arrow, an order
abbrev pub order_arrow_order_at : List ℕ → OrderArrowOrder
order_arrow_order_at bs = record { first = position_at bs 0; arrow = position_at bs 2; second = position_at bs 4 }
