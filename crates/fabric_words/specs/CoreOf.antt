-- A core as a function of words, and of what only the seats know.
use Rattle.std.specs.Prelude.{ℕ, zero, suc, ◌+◌, ◌*◌, ◌≡◌, ◌<◌, ◌==◌, ◌&&◌, nat_le, nat_lt, Bool, if◌then◌else◌, List, map}
use Rattle.std.specs.List.{range_with_len}
use Rattle.chunk_map.specs.Words.{is_free}
use Rattle.nncq_ring.specs.Words.{line_of, logical_tail}
use Rattle.port_message.specs.Words.{numbers_of}
use Rattle.unit_model.specs.Core.{chunk_number, item_of, owner_of}
use Rattle.unit_model.specs.Holding.{entries_of, items_of}
use Rattle.unit_model.specs.Limits.{segment_chunks}
use Rattle.unit_model.specs.Runs.{chunks_for}
use Rattle.unit_model.specs.Soundness.{IsSound}
use Rattle.unit_model.specs.declared.machine.Core.{Core}
use Rattle.unit_model.specs.declared.machine.Entry.{Entry}
use Rattle.unit_model.specs.declared.machine.Item.{Item}
use Rattle.unit_model.specs.declared.machine.Owner.{Owner}
use Rattle.unit_model.specs.declared.machine.Owner.TheVariants.{Free, Seat, Message}
use Rattle.unit_model.specs.declared.machine.Queue.{Queue}
use Rattle.unit_model.specs.declared.machine.Seat.{Seat as SeatLists}
use Rattle.unit_model.specs.declared.machine.Whereabouts.{Whereabouts}
use Rattle.unit_model.specs.declared.machine.Whereabouts.TheVariants.{InFreeList, InLine, WithSeat}
use Rattle.unit_model.specs.declared.runs.Run.{Run}
use Rattle.unit_model.specs.declared.shape.Shape.{Shape}
use Rattle.fabric_words.specs.Places.{HasItem, map_of, queues_of, ring_of, segments_of}
use Rattle.fabric_words.specs.Shown.{entry_at, Shows}
use Rattle.fabric_words.specs.declared.place.Place.{Place}
use Rattle.fabric_words.specs.declared.place.Place.TheVariants.{NextStream, OpenedOut, OpenedBack, Tag, RunWord, PartWord}
use Rattle.fabric_words.specs.declared.place.Side.{Side}
use Rattle.fabric_words.specs.declared.place.Side.TheVariants.{FreeSide, LineSide}

-- What the words don't show: the last stream of an item of a queue that has no tag, the seat that holds an item which is in
-- neither ring of its queue, the seat that has a chunk which is neither free nor in the run of an armed item, and what the seats
-- have done. Where the words do show it, the first three are of no concern. The shape is no word: it is given.
pub record Holdings : Type 0 where
  pub stream : ℕ → ℕ → ℕ
  pub holder : ℕ → ℕ → ℕ
  pub keeper : ℕ → ℕ
  pub seats : List SeatLists

-- ---- items

-- the list of a ring
abbrev pub entries_in : Shape → (Place → ℕ) → ℕ → Side → List Entry
entries_in shape word queue side =
    map entry_at (line_of (items_of shape queue) (ring_of word queue side))

-- an item that is in neither list is with this seat
abbrev pub where_is : ℕ → List Entry → List Entry → ℕ → Whereabouts
where_is item free line seat =
    if nat_le 1 (entries_of item free)
    then InFreeList
    else (if nat_le 1 (entries_of item line) then InLine else WithSeat seat)

-- a tag is the item's last stream; without one it is this
abbrev pub stream_of : ℕ → ℕ → ℕ
stream_of tag stream = if tag == 0 then stream else tag

abbrev pub item_from : Shape → (Place → ℕ) → Holdings → ℕ → ℕ → Item
item_from shape word holdings queue item = record {
  tag = word (Tag queue item);
  stream = stream_of (word (Tag queue item)) (holdings.stream queue item);
  run = numbers_of (word (RunWord queue item));
  part = word (PartWord queue item);
  whereabouts = where_is item
      (entries_in shape word queue FreeSide)
      (entries_in shape word queue LineSide)
      (holdings.holder queue item);
}

abbrev pub queue_from : Shape → (Place → ℕ) → Holdings → ℕ → Queue
queue_from shape word holdings queue = record {
  free = entries_in shape word queue FreeSide;
  next_free = logical_tail (items_of shape queue) (ring_of word queue FreeSide);
  line = entries_in shape word queue LineSide;
  next_line = logical_tail (items_of shape queue) (ring_of word queue LineSide);
  items = map (item_from shape word holdings queue) (range_with_len 0 (items_of shape queue));
}

-- ---- chunks

abbrev pub is_in_run : Run → ℕ → Bool
is_in_run run chunk =
    nat_le (chunk_number run.segment run.chunk) chunk
    && nat_lt chunk (chunk_number run.segment run.chunk + chunks_for run.size)

-- the item is armed, and the chunk is in its run
abbrev pub is_in_message : (Place → ℕ) → ℕ → ℕ → ℕ → Bool
is_in_message word chunk queue item =
    nat_lt 0 (word (Tag queue item)) && is_in_run (numbers_of (word (RunWord queue item))) chunk

-- the message of an item below this number of the queue that has the chunk, and where there is none this owner
abbrev pub message_of_item : (Place → ℕ) → ℕ → ℕ → ℕ → Owner → Owner
message_of_item word chunk queue zero otherwise = otherwise
message_of_item word chunk queue (suc item) otherwise =
    if is_in_message word chunk queue item
    then Message queue item
    else message_of_item word chunk queue item otherwise

-- and so of the queues below this number
abbrev pub message_of_queue : Shape → (Place → ℕ) → ℕ → ℕ → Owner → Owner
message_of_queue shape word chunk zero otherwise = otherwise
message_of_queue shape word chunk (suc queue) otherwise =
    message_of_item word chunk queue (items_of shape queue)
    (message_of_queue shape word chunk queue otherwise)

-- nobody owns a chunk whose bit is set; else the message of an armed item in whose run it is, or this seat
abbrev pub owner_from : Shape → (Place → ℕ) → ℕ → ℕ → Owner
owner_from shape word seat chunk =
    if is_free (map_of word) chunk
    then Free
    else message_of_queue shape word chunk (queues_of shape) (Seat seat)

-- ---- all of it

abbrev pub core_of : Shape → (Place → ℕ) → Holdings → Core
core_of shape word holdings = record {
  shape = shape;
  next = word NextStream;
  opened = record { out = word OpenedOut; back = word OpenedBack };
  owners = map
      (λ chunk. owner_from shape word (holdings.keeper chunk) chunk)
      (range_with_len 0 (segment_chunks * segments_of shape));
  queues = map (queue_from shape word holdings) (range_with_len 0 (queues_of shape));
  seats = holdings.seats;
}

-- They are those of the core, where the words don't show them.
pub record AreHoldingsOf (core : Core) (holdings : Holdings) : Type 0 where
  pub stream : (queue item : ℕ) → HasItem core.shape queue item → (item_of core queue item).tag ≡ 0
      → holdings.stream queue item ≡ (item_of core queue item).stream
  pub holder : (queue item seat : ℕ) → HasItem core.shape queue item
      → (item_of core queue item).whereabouts ≡ WithSeat seat
      → holdings.holder queue item ≡ seat
  pub keeper : (number seat : ℕ) → number < segment_chunks * segments_of core.shape
      → owner_of core number ≡ Seat seat
      → holdings.keeper number ≡ seat
  pub seats : holdings.seats ≡ core.seats

-- ---- the laws

-- A sound core that the words show is this one, of the words and of what its seats know: no two such cores are shown.
abbrev pub ShownIsCoreOf : Type 0
ShownIsCoreOf = (word : Place → ℕ) (core : Core) (holdings : Holdings)
    → IsSound core → Shows word core → AreHoldingsOf core holdings
    → core ≡ core_of core.shape word holdings

-- those of a core
abbrev pub seat_with : Whereabouts → ℕ
seat_with InFreeList = 0
seat_with InLine = 0
seat_with (WithSeat seat) = seat

abbrev pub seat_owning : Owner → ℕ
seat_owning Free = 0
seat_owning (Seat seat) = seat
seat_owning (Message queue item) = 0

abbrev pub holdings_of : Core → Holdings
holdings_of core = record {
  stream = λ queue item. (item_of core queue item).stream;
  holder = λ queue item. seat_with (item_of core queue item).whereabouts;
  keeper = λ number. seat_owning (owner_of core number);
  seats = core.seats;
}

-- Each core has some.
abbrev pub EachHasHoldings : Type 0
EachHasHoldings = (core : Core) → AreHoldingsOf core (holdings_of core)
