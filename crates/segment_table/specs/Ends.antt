-- What holds when a table of slots is closed.
use Rattle.std.specs.Prelude.{ℕ, ◌≡◌, Option}
use Rattle.std.specs.Slots.{slots_items}
use mathlib.Core.Option.{some}
use lib.ListN.{get_elem?}
use Rattle.atomic_table.specs.Table.{State}
use Rattle.chunk_map.specs.Rule.{map_words}
use Rattle.chunk_map.specs.declared.view.MapView.{MapView}
use Rattle.segment_table.specs.Owning.{knows}
use Rattle.segment_table.specs.Rule.{SegHolds}
use Rattle.segment_table.specs.declared.closing.ClosedSlots.{ClosedSlots}
use Rattle.segment_table.specs.declared.seat.SlotSeat.{SlotSeat}
use Rattle.segment_table.specs.declared.table.SlotTable.{SlotTable}

-- the last words of the map
abbrev pub last_words : {T : Type 0} → ClosedSlots T → ℕ → ℕ
last_words closed = map_words (slots_items closed.closed.words)

-- A state with the last words, with this seat's view among those of all seats, and with the last values in the slots that are at
-- home, meets the rule.
pub record EndsWith {T : Type 0} (slots : SlotTable T) (seat : SlotSeat T) (closed : ClosedSlots T) : Type 0 where
  pub last : State (Option T) MapView
  pub meets : SegHolds slots.segments last
  pub view : get_elem? last.views seat.seat.id ≡ some (knows seat)
  pub words : last.words ≡ slots_items closed.closed.words
  pub values : (chunk : ℕ) (value : Option T) → get_elem? last.homes chunk ≡ some (some value)
      → get_elem? (slots_items closed.closed.slots) chunk ≡ some value
