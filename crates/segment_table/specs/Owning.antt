-- What contracts say of a seat of a table.
use Rattle.std.specs.Prelude.{ℕ, ◌≡◌, ◌+◌, ◌*◌, List, Option}
use Rattle.unit_model.specs.declared.runs.Run.{Run}
use Rattle.chunk_map.specs.declared.view.MapEvent.{MapEvent}
use Rattle.chunk_map.specs.declared.view.MapView.{MapView}
use Rattle.segment_table.specs.declared.seat.SlotSeat.{SlotSeat}
use Rattle.segment_table.specs.declared.table.SlotTable.{SlotTable}

-- the seat is one of this table
abbrev pub BelongsTo : {T : Type 0} → SlotSeat T → SlotTable T → Type 0
BelongsTo seat slots = (seat.seat.table_id ≡ slots.table.shared.table_id) × (seat.seat.me.0.segments ≡ slots.segments)

-- what the seat knows of the map
abbrev pub knows : {T : Type 0} → SlotSeat T → MapView
knows seat = seat.seat.me.0

-- what its searches saw, newest first
abbrev pub log_of : {T : Type 0} → SlotSeat T → List MapEvent
log_of seat = seat.seat.me.0.log

-- the slots of the chunks that it holds, by their numbers
abbrev pub slots_of : {T : Type 0} → SlotSeat T → List (ℕ × Option T)
slots_of seat = seat.seat.me.1

-- the number of the run's first chunk
abbrev pub first_of : Run → ℕ
first_of run = 640 * run.segment + run.chunk
