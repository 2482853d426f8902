-- What contracts say of a seat of a queue.
use Rattle.std.specs.Prelude.{ℕ, ◌≡◌}
use Rattle.app_queue.specs.declared.queue.AppQueue.{AppQueue}
use Rattle.app_queue.specs.declared.seat.QueueSeat.{QueueSeat}
use Rattle.app_queue.specs.declared.view.QueueView.{QueueView}

-- the seat is one of this queue
abbrev pub BelongsTo : QueueSeat → AppQueue → Type 0
BelongsTo seat queue = seat.seat.table_id ≡ queue.table.shared.table_id

-- how many items it has
abbrev pub items_of : AppQueue → ℕ
items_of queue = queue.table.shared.key.0

-- the place where both rings began
abbrev pub start_of : AppQueue → ℕ
start_of queue = queue.table.shared.key.1

-- what the seat knows
abbrev pub knows : QueueSeat → QueueView
knows seat = seat.seat.me.0
