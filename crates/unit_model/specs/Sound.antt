-- What is promised of items and chunks, point by point, each in words of its own.
use Rattle.std.specs.Prelude.{ℕ, ◌≡◌, ◌≢◌, ◌↔◌, ◌+◌, ◌<◌, ◌≤◌, false, List, get_or, length}
use Rattle.unit_model.specs.Limits.{segment_chunks}
use Rattle.unit_model.specs.Conditions.{holds}
use Rattle.unit_model.specs.Core.{queue_of, item_of, owner_of, chunk_number}
use Rattle.unit_model.specs.Holding.{HasItsShape, IsArmed, IsInRun, FitsQueue, entries_of, is_opened}
use Rattle.unit_model.specs.Shapes.{IsFrom1To}
use Rattle.unit_model.specs.Weights.{below, one_if}
use Rattle.unit_model.specs.declared.machine.Core.{Core}
use Rattle.unit_model.specs.declared.machine.Entry.{Entry}
use Rattle.unit_model.specs.declared.machine.Owner.TheVariants.{Free, Seat, Message}
use Rattle.unit_model.specs.declared.machine.Whereabouts.TheVariants.{InFreeList, InLine, WithSeat}

-- ---- entries by their indices

abbrev pub no_entry : Entry
no_entry = record { place = 0; item = 0 }

abbrev pub place_at : List Entry → ℕ → ℕ
place_at entries i = (get_or entries i no_entry).place

abbrev pub item_at : List Entry → ℕ → ℕ
item_at entries i = (get_or entries i no_entry).item

-- ---- the points

-- the chunks that a message owns are those of its item's run where the item has a tag, and none where it has none
abbrev pub MessagesOwnTheirRuns : Core → Type 0
MessagesOwnTheirRuns core =
    (number queue item : ℕ) → (owner_of core number ≡ Message queue item)
    ↔ (IsArmed core queue item × IsInRun (item_of core queue item).run number)

-- how often an item is in its free list, in its line and with a seat, all together
abbrev pub places_of : Core → ℕ → ℕ → ℕ
places_of core queue item =
    entries_of item (queue_of core queue).free
    + entries_of item (queue_of core queue).line
    + below (λ seat. one_if (holds core seat queue item)) (core.shape.engines + core.shape.workers)

-- each item is in exactly one of these places, once
abbrev pub ItemsAreInOnePlace : Core → Type 0
ItemsAreInOnePlace core = (queue item : ℕ) → item < length (queue_of core queue).items
    → places_of core queue item ≡ 1

-- a tag that isn't 0 is the item's stream
abbrev pub TagsAreStreams : Core → Type 0
TagsAreStreams core = (queue item : ℕ) → IsArmed core queue item
    → (item_of core queue item).tag ≡ (item_of core queue item).stream

-- the places are consecutive, and the last one is the next place less 1
abbrev pub RunsUpTo : List Entry → ℕ → Type 0
RunsUpTo entries next =
    ((i : ℕ) → i + 1 < length entries → place_at entries (i + 1) ≡ place_at entries i + 1)
    × ((i : ℕ) → i + 1 ≡ length entries → place_at entries i + 1 ≡ next)

abbrev pub PlacesAreConsecutive : Core → Type 0
PlacesAreConsecutive core =
    (queue : ℕ) → RunsUpTo (queue_of core queue).free (queue_of core queue).next_free
    × RunsUpTo (queue_of core queue).line (queue_of core queue).next_line

-- an item in a free list has no tag
abbrev pub FreeItemsHaveNoTag : Core → Type 0
FreeItemsHaveNoTag core =
    (queue i : ℕ) → i < length (queue_of core queue).free
    → (item_of core queue (item_at (queue_of core queue).free i)).tag ≡ 0

-- the run of an item that has a tag has a size of at least 1, and lies in one segment of its side
abbrev pub ArmedRunsFit : Core → Type 0
ArmedRunsFit core = (queue item : ℕ) → IsArmed core queue item
    → FitsQueue core.shape queue (item_of core queue item).run

-- of each side at least one segment is open, and at most all are
abbrev pub SomeSegmentsAreOpen : Core → Type 0
SomeSegmentsAreOpen core =
    IsFrom1To core.shape.out_segments core.opened.out
    × IsFrom1To core.shape.back_segments core.opened.back

-- the chunks of a segment that isn't open are free
abbrev pub UnopenedChunksAreFree : Core → Type 0
UnopenedChunksAreFree core =
    (segment chunk : ℕ) → chunk < segment_chunks → is_opened core segment ≡ false
    → owner_of core (chunk_number segment chunk) ≡ Free

-- all of them
pub record HasSoundHoldings (core : Core) : Type 0 where
  pub messages : MessagesOwnTheirRuns core
  pub places : ItemsAreInOnePlace core
  pub tags : TagsAreStreams core
  pub consecutive : PlacesAreConsecutive core
  pub untagged : FreeItemsHaveNoTag core
  pub fits : ArmedRunsFit core
  pub opened : SomeSegmentsAreOpen core
  pub unopened : UnopenedChunksAreFree core

-- ---- what a core names is there

pub record NamesWhatIsThere (core : Core) : Type 0 where
  -- it has what its shape says
  pub shape : HasItsShape core
  -- owners are seats and items that are there
  pub seats : (number seat : ℕ) → owner_of core number ≡ Seat seat
      → seat < core.shape.engines + core.shape.workers
  pub messages : (number queue item : ℕ) → owner_of core number ≡ Message queue item
      → item < length (queue_of core queue).items
  -- entries are of items that are there
  pub free : (queue i : ℕ) → i < length (queue_of core queue).free
      → item_at (queue_of core queue).free i < length (queue_of core queue).items
  pub line : (queue i : ℕ) → i < length (queue_of core queue).line
      → item_at (queue_of core queue).line i < length (queue_of core queue).items
  -- an item says a list that it is in, or a seat that is there
  pub in_free_list : (queue item : ℕ) → item < length (queue_of core queue).items
      → (item_of core queue item).whereabouts ≡ InFreeList
      → 1 ≤ entries_of item (queue_of core queue).free
  pub in_line : (queue item : ℕ) → item < length (queue_of core queue).items
      → (item_of core queue item).whereabouts ≡ InLine
      → 1 ≤ entries_of item (queue_of core queue).line
  pub with_seat : (queue item seat : ℕ) → (item_of core queue item).whereabouts ≡ WithSeat seat
      → seat < core.shape.engines + core.shape.workers

-- ---- a core at rest

-- no item carries a message
abbrev pub HasNoTag : Core → Type 0
HasNoTag core = (queue item : ℕ) → (item_of core queue item).tag ≡ 0

-- no seat has a chunk
abbrev pub HasNoChunkWithSeats : Core → Type 0
HasNoChunkWithSeats core = (number seat : ℕ) → owner_of core number ≢ Seat seat

abbrev pub AllChunksAreFree : Core → Type 0
AllChunksAreFree core = (number : ℕ) → owner_of core number ≡ Free
