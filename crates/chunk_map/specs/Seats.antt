-- What contracts say of a seat of a chunk map.
use Rattle.std.specs.Prelude.{ℕ, ◌≡◌}
use Rattle.unit_model.specs.Sharing.{Holds}
use Rattle.chunk_map.specs.Views.{held_by}
use Rattle.chunk_map.specs.declared.map.ChunkMap.{ChunkMap}
use Rattle.chunk_map.specs.declared.seat.MapSeat.{MapSeat}
use Rattle.chunk_map.specs.declared.view.MapView.{MapView}

-- what the seat knows
abbrev pub knows : MapSeat → MapView
knows seat = seat.seat.me.0

-- the seat is one of this map
abbrev pub BelongsTo : MapSeat → ChunkMap → Type 0
BelongsTo seat map = (seat.seat.table_id ≡ map.table.shared.table_id) × ((knows seat).segments ≡ map.segments)

-- the seat holds the chunk
abbrev pub HoldsChunk : MapSeat → ℕ → Type 0
HoldsChunk seat chunk = Holds held_by chunk (knows seat)
