-- What stands in a core. All of it is total: a seat, a queue or an item that isn't there has nothing.
use Rattle.std.specs.Prelude.{ℕ, ◌+◌, ◌*◌, ◌/◌, ◌%◌, ◌==◌, Bool, if◌then◌else◌, List, [], ◌∷◌, get_or}
use Rattle.unit_model.specs.Limits.{segment_chunks, past_items}
use Rattle.unit_model.specs.Shapes.{role_in, side_start_in, side_end_in}
use Rattle.unit_model.specs.declared.machine.Core.{Core}
use Rattle.unit_model.specs.declared.machine.Entry.{Entry}
use Rattle.unit_model.specs.declared.machine.Item.{Item}
use Rattle.unit_model.specs.declared.machine.Owner.{Owner}
use Rattle.unit_model.specs.declared.machine.Owner.TheVariants.{Free, Seat, Message}
use Rattle.unit_model.specs.declared.machine.Queue.{Queue}
use Rattle.unit_model.specs.declared.machine.Seat.{Seat as SeatLists}
use Rattle.unit_model.specs.declared.machine.Whereabouts.{Whereabouts}
use Rattle.unit_model.specs.declared.machine.Whereabouts.TheVariants.{InFreeList, InLine, WithSeat}

-- ---- queues

-- an item that was never used
abbrev pub blank : Item
blank = record {
  tag = 0;
  stream = 0;
  run = record { segment = 0; chunk = 0; size = 0 };
  part = 0;
  whereabouts = InFreeList;
}

abbrev pub no_queue : Queue
no_queue = record { free = []; next_free = 0; line = []; next_line = 0; items = [] }

abbrev pub queue_of : Core → ℕ → Queue
queue_of core queue = get_or core.queues queue no_queue

abbrev pub item_of : Core → ℕ → ℕ → Item
item_of core queue item = get_or (queue_of core queue).items item blank

-- the part's number in a part word, and whether it is the last part
abbrev pub number_in : ℕ → ℕ
number_in word = word / 2

abbrev pub is_last_in : ℕ → Bool
is_last_in word = word % 2 == 1

-- the place of the first entry, or where there is none the place behind the list
abbrev pub first_place : List Entry → ℕ → ℕ
first_place [] next = next
first_place (entry ∷ entries) next = entry.place

-- the item of the first entry, or where there is none the number behind all items
abbrev pub first_item : List Entry → ℕ
first_item [] = past_items
first_item (entry ∷ entries) = entry.item

-- where an item is, as a number
abbrev pub whereabouts_code : Whereabouts → ℕ
whereabouts_code InFreeList = 0
whereabouts_code InLine = past_items
whereabouts_code (WithSeat k) = 1 + k

-- ---- seats

abbrev pub no_seat : SeatLists
no_seat = record {
  drawn = [];
  posted = [];
  cancelled = [];
  abandoned = [];
  received = [];
  taken = [];
  sent = [];
  closed = [];
}

abbrev pub seat_of : Core → ℕ → SeatLists
seat_of core seat = get_or core.seats seat no_seat

-- 0 an engine, 1 a worker, 3 where there is no such seat
abbrev pub role_of : Core → ℕ → ℕ
role_of core seat = role_in core.shape seat

-- ---- chunks

-- the number of a chunk over all segments
abbrev pub chunk_number : ℕ → ℕ → ℕ
chunk_number segment chunk = segment_chunks * segment + chunk

-- who has a chunk, as a number
abbrev pub owner_code : Owner → ℕ
owner_code Free = 0
owner_code (Seat k) = 1 + k
owner_code (Message queue item) = 65536 * (1 + queue) + item

abbrev pub owner_of : Core → ℕ → Owner
owner_of core number = get_or core.owners number Free

-- the segments of a seat's side: the first one, the one behind the last, and how many of them are open
abbrev pub side_start : Core → ℕ → ℕ
side_start core seat = side_start_in core.shape seat

abbrev pub side_end : Core → ℕ → ℕ
side_end core seat = side_end_in core.shape seat

abbrev pub side_opened : Core → ℕ → ℕ
side_opened core seat = if role_of core seat == 0 then core.opened.out else core.opened.back
