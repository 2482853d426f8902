-- Who holds what: items are in one place each, chunks have one owner each, and both are those that the shape has. It holds
-- in the core as it begins, and each step keeps it.
use Rattle.std.specs.Prelude.{ℕ, ◌≡◌, ◌≢◌, ◌+◌, ◌*◌, ◌<◌, ◌≤◌, ◌==◌, ◌&&◌, ◌||◌, nat_lt, nat_le, Bool, true, false, if◌then◌else◌, List, [], ◌∷◌, get_or, length}
use Rattle.unit_model.specs.Limits.{segment_chunks}
use Rattle.unit_model.specs.Conditions.{has_stream}
use Rattle.unit_model.specs.Core.{blank, queue_of, item_of, seat_of, owner_of, first_place, chunk_number}
use Rattle.unit_model.specs.Runs.{chunks_for}
use Rattle.unit_model.specs.Shapes.{IsFrom1To, IsValid}
use Rattle.unit_model.specs.Weights.{weigh, one_if, is_number}
use Rattle.unit_model.specs.declared.machine.Core.{Core}
use Rattle.unit_model.specs.declared.machine.Entry.{Entry}
use Rattle.unit_model.specs.declared.machine.Item.{Item}
use Rattle.unit_model.specs.declared.machine.Owner.TheVariants.{Free, Seat, Message}
use Rattle.unit_model.specs.declared.machine.Queue.{Queue}
use Rattle.unit_model.specs.declared.machine.Whereabouts.{Whereabouts}
use Rattle.unit_model.specs.declared.machine.Whereabouts.TheVariants.{InFreeList, InLine, WithSeat}
use Rattle.unit_model.specs.declared.runs.Run.{Run}
use Rattle.unit_model.specs.declared.shape.Shape.{Shape}

-- ---- what the shape has

-- how many items a queue has
abbrev pub items_of : Shape → ℕ → ℕ
items_of shape queue = if queue == 0 then shape.items else shape.back_items

-- the core has what its shape says
pub record HasItsShape (core : Core) : Type 0 where
  pub shape : IsValid core.shape
  pub chunks : length core.owners
      ≡ segment_chunks * (core.shape.out_segments + core.shape.back_segments)
  pub queues : length core.queues ≡ 1 + core.shape.engines
  pub items : (queue : ℕ) → queue < 1 + core.shape.engines
      → length (queue_of core queue).items ≡ items_of core.shape queue
  pub seats : length core.seats ≡ core.shape.engines + core.shape.workers

-- ---- the items of a queue

-- an item of the queue, and whether it is there
abbrev pub item_in : Queue → ℕ → Item
item_in queue item = get_or queue.items item blank

abbrev pub has_item : Queue → ℕ → Bool
has_item queue item = nat_lt item (length queue.items)

-- how often the item stands in the list
abbrev pub entries_of : ℕ → List Entry → ℕ
entries_of item entries = weigh (λ entry. is_number item entry.item) entries

abbrev pub is_in_free_list : Whereabouts → Bool
is_in_free_list InFreeList = true
is_in_free_list InLine = false
is_in_free_list (WithSeat seat) = false

abbrev pub is_in_line : Whereabouts → Bool
is_in_line InFreeList = false
is_in_line InLine = true
is_in_line (WithSeat seat) = false

-- each place is one more than that before it, and the next place is one more than the last
abbrev pub AreConsecutive : List Entry → ℕ → Type 0
AreConsecutive [] next = Unit {0}
AreConsecutive (entry ∷ entries) next =
    (entry.place + 1 ≡ first_place entries next) × AreConsecutive entries next

-- the items of a queue, where there are so many seats
pub record HasItsItems (seats : ℕ) (queue : Queue) : Type 0 where
  -- an item that is there stands in the free list once where its word says so, and nothing else stands there
  pub free : (item : ℕ) → entries_of item queue.free
      ≡ one_if (has_item queue item && is_in_free_list (item_in queue item).whereabouts)
  -- and so in the line
  pub line : (item : ℕ) → entries_of item queue.line
      ≡ one_if (has_item queue item && is_in_line (item_in queue item).whereabouts)
  -- an item is held by a seat that is there
  pub held : (item seat : ℕ) → (item_in queue item).whereabouts ≡ WithSeat seat → seat < seats
  -- places are consecutive
  pub free_places : AreConsecutive queue.free queue.next_free
  pub line_places : AreConsecutive queue.line queue.next_line
  -- an item in the free list has no tag
  pub untagged : (item : ℕ) → (item_in queue item).whereabouts ≡ InFreeList
      → (item_in queue item).tag ≡ 0
  -- a tag is the item's last stream
  pub tags : (item : ℕ) → (item_in queue item).tag ≢ 0
      → (item_in queue item).tag ≡ (item_in queue item).stream

-- ---- the chunks

-- the item carries a message
abbrev pub IsArmed : Core → ℕ → ℕ → Type 0
IsArmed core queue item = (item_of core queue item).tag ≢ 0

-- the chunk of this number, over all segments, is one of the run's
abbrev pub IsInRun : Run → ℕ → Type 0
IsInRun run number =
    (chunk_number run.segment run.chunk ≤ number)
    × (number < chunk_number run.segment run.chunk + chunks_for run.size)

-- the segments of the side of those who fill the queue, its first and the one behind its last: engines fill queue 0,
-- workers the others
abbrev pub first_segment : Shape → ℕ → ℕ
first_segment shape queue = if queue == 0 then 0 else shape.out_segments

abbrev pub end_segment : Shape → ℕ → ℕ
end_segment shape queue =
    if queue == 0 then shape.out_segments else shape.out_segments + shape.back_segments

-- the run has a size of at least 1, and lies in one segment of the queue's side
pub record FitsQueue (shape : Shape) (queue : ℕ) (run : Run) : Type 0 where
  pub some : 1 ≤ run.size
  pub in_segment : run.chunk + chunks_for run.size ≤ segment_chunks
  pub on_side : (first_segment shape queue ≤ run.segment) × (run.segment < end_segment shape queue)

-- who has the chunks
pub record HasItsOwners (core : Core) : Type 0 where
  -- what a message owns is in the run of its item, which is armed
  pub messages : (number queue item : ℕ) → owner_of core number ≡ Message queue item
      → IsArmed core queue item × IsInRun (item_of core queue item).run number
  -- an armed item's message owns the whole run
  pub runs : (number queue item : ℕ) → IsArmed core queue item
      → IsInRun (item_of core queue item).run number → owner_of core number ≡ Message queue item
  -- that run fits
  pub fits : (queue item : ℕ) → IsArmed core queue item
      → FitsQueue core.shape queue (item_of core queue item).run
  -- a seat that owns a chunk is there
  pub seats : (number seat : ℕ) → owner_of core number ≡ Seat seat
      → seat < core.shape.engines + core.shape.workers

-- ---- the segments

-- the segment is one of the open ones, which are the lowest of each side
abbrev pub is_opened : Core → ℕ → Bool
is_opened core segment =
    nat_lt segment core.opened.out
    || (nat_le core.shape.out_segments segment && nat_lt segment (core.shape.out_segments + core.opened.back))

pub record HasItsSegments (core : Core) : Type 0 where
  -- of each side at least one segment is open, and at most all are
  pub out : IsFrom1To core.shape.out_segments core.opened.out
  pub back : IsFrom1To core.shape.back_segments core.opened.back
  -- no one has a chunk of a segment that isn't open
  pub unopened : (segment chunk : ℕ) → chunk < segment_chunks → is_opened core segment ≡ false
      → owner_of core (chunk_number segment chunk) ≡ Free

-- ---- the streams

-- 0 is no stream
pub record HasNoStreamZero (core : Core) : Type 0 where
  pub next : 1 ≤ core.next
  pub drawn : (seat : ℕ) → has_stream 0 (seat_of core seat).drawn ≡ false
  pub taken : (seat : ℕ) → has_stream 0 (seat_of core seat).taken ≡ false

-- ---- all of it

pub record IsHeldRight (core : Core) : Type 0 where
  -- there is what the shape says, and the shape is one that a fabric can have
  pub shape : HasItsShape core
  -- each item is in one place, once
  pub queues : (queue : ℕ)
      → HasItsItems (core.shape.engines + core.shape.workers) (queue_of core queue)
  -- each chunk is free, or has a seat that is there, or a message whose run it is in
  pub owners : HasItsOwners core
  -- chunks are taken in open segments alone
  pub segments : HasItsSegments core
  -- no stream is 0
  pub streams : HasNoStreamZero core
