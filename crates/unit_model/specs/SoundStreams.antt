-- What is promised of streams and parts, point by point, each in words of its own.
use Rattle.std.specs.Prelude.{ℕ, ◌≡◌, ◌<◌, ◌≤◌, ◌⊎◌, ◌+◌, ◌==◌, ◌&&◌, true, Contains, length, get_or}
use Rattle.unit_model.specs.Conditions.{part_of, parts_sent}
use Rattle.unit_model.specs.Core.{item_of, number_in, role_of, seat_of}
use Rattle.unit_model.specs.Holding.{IsArmed}
use Rattle.unit_model.specs.PartCounts.{of_stream, sent_parts, no_part, received, times_received, times_under_way, times_withdrawn}
use Rattle.unit_model.specs.StreamCounts.{by_all, line_tags, drawn, posted, cancelled, abandoned, taken, closed}
use Rattle.unit_model.specs.Weights.{weigh, one_if, times, over_all}
use Rattle.unit_model.specs.declared.machine.Core.{Core}
use Rattle.unit_model.specs.declared.machine.Part.{Part}
use Rattle.unit_model.specs.declared.machine.Seat.{Seat as SeatLists}
use Rattle.unit_model.specs.declared.machine.Whereabouts.TheVariants.{WithSeat}

-- ---- words

abbrev pub IsPosted : Core → ℕ → Type 0
IsPosted core stream = (seat : ℕ) × Contains (seat_of core seat).posted stream

abbrev pub IsTaken : Core → ℕ → Type 0
IsTaken core stream = (seat : ℕ) × Contains (seat_of core seat).taken stream

-- the part was sent, with this last mark
abbrev pub WasSent : Core → Part → Type 0
WasSent core part = (seat : ℕ) × Contains (seat_of core seat).sent part

-- no part of the stream with a greater number was sent
abbrev pub IsFinal : Core → Part → Type 0
IsFinal core part = part.number + 1 ≡ parts_sent core part.stream

-- the part that the item of a back queue carries
abbrev pub part_in : Core → ℕ → ℕ → Part
part_in core queue item = part_of (item_of core queue item).tag (item_of core queue item)

-- 1 for a last part of the stream
abbrev pub last_of : ℕ → Part → ℕ
last_of stream part = one_if (part.stream == stream && part.last)

-- ---- the tags

-- no two items of the line's queue have one tag
abbrev pub NoRequestTwice : Core → Type 0
NoRequestTwice core =
    (one other : ℕ) → IsArmed core 0 one → (item_of core 0 one).tag ≡ (item_of core 0 other).tag
    → one ≡ other

-- no two items of a back queue have one tag and one part number
abbrev pub NoPartTwice : Core → Type 0
NoPartTwice core =
    (engine one other : ℕ)
    → IsArmed core (1 + engine) one
    → (item_of core (1 + engine) one).tag ≡ (item_of core (1 + engine) other).tag
    → number_in (item_of core (1 + engine) one).part
    ≡ number_in (item_of core (1 + engine) other).part
    → one ≡ other

-- the part word of an item of the line's queue with a tag is the seat that posted the tag
abbrev pub PartIsPoster : Core → Type 0
PartIsPoster core =
    (item : ℕ) → IsArmed core 0 item
    → Contains (seat_of core (item_of core 0 item).part).posted (item_of core 0 item).tag

-- ---- the streams

-- over all seats, no stream is taken and cancelled, nor twice in either
pub record TakenOrCancelled (core : Core) : Type 0 where
  pub apart : (stream one other : ℕ) → Contains (seat_of core one).taken stream
      → Contains (seat_of core other).cancelled stream → ⊥
  pub taken_once : (stream : ℕ) → by_all taken core stream ≤ 1
  pub cancelled_once : (stream : ℕ) → by_all cancelled core stream ≤ 1

-- over all seats, each part of a stream is received at most once, each stream has at most one last part received, and its
-- stream is taken
pub record ReceivedOnce (core : Core) : Type 0 where
  pub once : (stream number : ℕ) → times_received core stream number ≤ 1
  pub one_last : (stream : ℕ) → over_all (last_of stream) received core.seats ≤ 1
  pub received_is_taken : (seat : ℕ) (part : Part) → Contains (seat_of core seat).received part
      → IsTaken core part.stream

-- the stream is in none of the lists of a seat
pub record IsInNone (lists : SeatLists) (stream : ℕ) : Type 0 where
  pub drawn : times stream lists.drawn ≡ 0
  pub posted : times stream lists.posted ≡ 0
  pub cancelled : times stream lists.cancelled ≡ 0
  pub abandoned : times stream lists.abandoned ≡ 0
  pub received : weigh (of_stream stream) lists.received ≡ 0
  pub taken : times stream lists.taken ≡ 0
  pub sent : weigh (of_stream stream) lists.sent ≡ 0
  pub closed : times stream lists.closed ≡ 0

-- each stream from 1 up to, not including, the next one is in one drawn list, once; no other stream is in any list
pub record DrawnInOrder (core : Core) : Type 0 where
  pub once : (stream : ℕ) → 1 ≤ stream → stream < core.next → by_all drawn core stream ≡ 1
  pub no_other : (stream : ℕ) → (stream ≡ 0) ⊎ (core.next ≤ stream) → (seat : ℕ)
      → IsInNone (seat_of core seat) stream

pub record PostedOnce (core : Core) : Type 0 where
  -- the tags of the line's queue, and what is taken or cancelled, were posted; what is cancelled by its poster
  pub tag_is_posted : (item : ℕ) → IsArmed core 0 item → IsPosted core (item_of core 0 item).tag
  pub taken_is_posted : (seat stream : ℕ) → Contains (seat_of core seat).taken stream
      → IsPosted core stream
  pub cancelled_by_poster : (seat stream : ℕ) → Contains (seat_of core seat).cancelled stream
      → Contains (seat_of core seat).posted stream
  -- a posted stream is posted once, by its drawer
  pub once : (stream : ℕ) → by_all posted core stream ≤ 1
  pub by_drawer : (seat stream : ℕ) → Contains (seat_of core seat).posted stream
      → Contains (seat_of core seat).drawn stream
  -- and is one of: the tag of one item of the line's queue, taken once, cancelled once
  pub one_state : (stream : ℕ) → IsPosted core stream
      → line_tags core stream + by_all taken core stream + by_all cancelled core stream ≡ 1

-- an abandoned stream was posted by that seat, is abandoned once, is taken, and isn't cancelled
pub record AbandonedOnce (core : Core) : Type 0 where
  pub by_poster : (seat stream : ℕ) → Contains (seat_of core seat).abandoned stream
      → Contains (seat_of core seat).posted stream
  pub once : (stream : ℕ) → by_all abandoned core stream ≤ 1
  pub abandoned_is_taken : (seat stream : ℕ) → Contains (seat_of core seat).abandoned stream
      → IsTaken core stream
  pub not_cancelled : (seat other stream : ℕ) → Contains (seat_of core seat).abandoned stream
      → Contains (seat_of core other).cancelled stream → ⊥

-- ---- the parts

-- the sent parts of a stream are in the list of the seat that took it; they are 0, 1, 2 and so on, and only the final one
-- may be the last
pub record SentInOrder (core : Core) : Type 0 where
  pub by_taker : (seat : ℕ) (part : Part) → Contains (seat_of core seat).sent part
      → Contains (seat_of core seat).taken part.stream
  pub in_order : (seat stream place : ℕ) → place < length (sent_parts core seat stream)
      → (get_or (sent_parts core seat stream) place no_part).number ≡ place
  pub last_is_final : (seat stream place : ℕ) → place < length (sent_parts core seat stream)
      → (get_or (sent_parts core seat stream) place no_part).last ≡ true
      → place + 1 ≡ length (sent_parts core seat stream)

pub record SentIsSomewhere (core : Core) : Type 0 where
  -- an item of a back queue with a tag has a sent part, and the queue is that of the stream's poster
  pub under_way : (engine item : ℕ) → IsArmed core (1 + engine) item
      → WasSent core (part_in core (1 + engine) item)
  pub to_poster : (engine item : ℕ) → IsArmed core (1 + engine) item
      → Contains (seat_of core engine).posted (item_of core (1 + engine) item).tag
  -- a received part is a sent one, and the list is that of the stream's poster
  pub received : (seat : ℕ) (part : Part) → Contains (seat_of core seat).received part
      → WasSent core part
  pub by_poster : (seat : ℕ) (part : Part) → Contains (seat_of core seat).received part
      → Contains (seat_of core seat).posted part.stream
  -- a sent part is one of: in one item of a back queue, received once, or taken back, as the final ones of closed streams are
  pub one_state : (seat : ℕ) (part : Part) → Contains (seat_of core seat).sent part
      → times_under_way core part.stream part.number + times_received core part.stream part.number
      + times_withdrawn core part.stream part.number ≡ 1
  -- a stream is closed at most once, by the seat that took it
  pub closed_once : (stream : ℕ) → by_all closed core stream ≤ 1
  pub closed_by_taker : (seat stream : ℕ) → Contains (seat_of core seat).closed stream
      → Contains (seat_of core seat).taken stream
  -- what a worker holds of a back queue with a tag is the final sent part of that stream, which this worker sent
  pub held_is_own : (seat engine item : ℕ) → role_of core seat ≡ 1
      → (item_of core (1 + engine) item).whereabouts ≡ WithSeat seat
      → IsArmed core (1 + engine) item
      → Contains (seat_of core seat).sent (part_in core (1 + engine) item)
  pub held_is_final : (seat engine item : ℕ) → role_of core seat ≡ 1
      → (item_of core (1 + engine) item).whereabouts ≡ WithSeat seat
      → IsArmed core (1 + engine) item → IsFinal core (part_in core (1 + engine) item)

-- ---- all of them

pub record HasSoundStreams (core : Core) : Type 0 where
  pub requests : NoRequestTwice core
  pub parts : NoPartTwice core
  pub posters : PartIsPoster core
  pub taken : TakenOrCancelled core
  pub received : ReceivedOnce core
  pub drawn : DrawnInOrder core
  pub posted : PostedOnce core
  pub abandoned : AbandonedOnce core
  pub sent : SentInOrder core
  pub somewhere : SentIsSomewhere core
