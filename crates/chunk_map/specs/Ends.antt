-- What holds when a chunk map is closed.
use Rattle.std.specs.Prelude.{ℕ, ◌≡◌, ◌*◌, List, slice_index}
use Rattle.unit_model.specs.Limits.{segment_chunks}
use Rattle.std.specs.Slots.{slots_items}
use mathlib.Core.Option.{some}
use lib.ListN.{get_elem?}
use Rattle.unit_model.specs.Sharing.{Owned}
use Rattle.chunk_map.specs.declared.closing.ClosedMap.{ClosedMap}
use Rattle.chunk_map.specs.declared.map.ChunkMap.{ChunkMap}
use Rattle.chunk_map.specs.declared.seat.MapSeat.{MapSeat}
use Rattle.chunk_map.specs.declared.view.MapView.{MapView}
use Rattle.chunk_map.specs.Parts.{OpenPart, OpeningsCounted}
use Rattle.chunk_map.specs.Rule.{map_words}
use Rattle.chunk_map.specs.Seats.{knows}
use Rattle.chunk_map.specs.Views.{held_by, open_noted, openings_of}
use Rattle.chunk_map.specs.Words.{free_weight}

-- how many segments were open at last
abbrev pub last_open : ClosedMap → ℕ
last_open closed = slice_index (slots_items closed.closed.words) 0

-- the last words of the map
abbrev pub last_words : ClosedMap → ℕ → ℕ
last_words closed = map_words (slots_items closed.closed.words)

-- Of the last views of all seats, of which this seat's is one, and of the last words: each chunk is free or with one seat, the
-- open segments are the lowest ones and were opened once each, and each chunk of a segment that isn't open is free.
pub record EndsWith (map : ChunkMap) (seat : MapSeat) (closed : ClosedMap) : Type 0 where
  pub views : List MapView
  pub view : get_elem? views seat.seat.id ≡ some (knows seat)
  pub owned : Owned held_by (free_weight (last_words closed) (segment_chunks * map.segments))
      (segment_chunks * map.segments) views
  pub opened : OpenPart map.segments open_noted (last_open closed) (last_words closed) views
  pub counted : OpeningsCounted openings_of (last_open closed) views
