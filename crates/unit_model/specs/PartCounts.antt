-- How often each part of a reply was sent, is under way, was received or was taken back.
use Rattle.std.specs.Prelude.{ℕ, ◌≡◌, ◌≢◌, ◌<◌, ◌≤◌, ◌+◌, ◌==◌, ◌&&◌, nat_lt, true, false, Bool, if◌then◌else◌, List, length, filter, drop, get_or}
use Rattle.unit_model.specs.Conditions.{is_same_part, part_of, parts_sent}
use Rattle.unit_model.specs.Core.{item_of, number_in, role_of, seat_of}
use Rattle.unit_model.specs.StreamCounts.{by_seat, by_all, posted, taken, closed}
use Rattle.unit_model.specs.Weights.{weigh, one_if, over_all}
use Rattle.unit_model.specs.declared.machine.Core.{Core}
use Rattle.unit_model.specs.declared.machine.Item.{Item}
use Rattle.unit_model.specs.declared.machine.Part.{Part}
use Rattle.unit_model.specs.declared.machine.Seat.{Seat as SeatLists}
use Rattle.unit_model.specs.declared.machine.Whereabouts.TheVariants.{WithSeat}

-- ---- the lists of a seat

abbrev pub sent : SeatLists → List Part
sent lists = lists.sent

abbrev pub received : SeatLists → List Part
received lists = lists.received

-- ---- counts

abbrev pub is_of_stream : ℕ → Part → Bool
is_of_stream stream part = part.stream == stream

-- 1 for a part of this stream
abbrev pub of_stream : ℕ → Part → ℕ
of_stream stream part = one_if (is_of_stream stream part)

-- 1 for a part of this stream and number
abbrev pub of_number : ℕ → ℕ → Part → ℕ
of_number stream number part = one_if (part.stream == stream && part.number == number)

-- 1 for the same part with the same last mark
abbrev pub same_part : Part → Part → ℕ
same_part part other = one_if (is_same_part part other)

-- how many parts of the stream this seat's list has
abbrev pub parts_by_seat : (SeatLists → List Part) → Core → ℕ → ℕ → ℕ
parts_by_seat list core seat stream = weigh (of_stream stream) (list (seat_of core seat))

-- the seat's sent parts of a stream, oldest first
abbrev pub sent_parts : Core → ℕ → ℕ → List Part
sent_parts core seat stream = filter (is_of_stream stream) (seat_of core seat).sent

-- what stands where there is no part
abbrev pub no_part : Part
no_part = record { stream = 0; number = 0; last = false }

-- how often the part was sent with this last mark
abbrev pub times_sent : Core → Part → ℕ
times_sent core part = over_all (same_part part) sent core.seats

-- how often a part of this stream and number was received
abbrev pub times_received : Core → ℕ → ℕ → ℕ
times_received core stream number = over_all (of_number stream number) received core.seats

-- 1 for an item that carries a part of this stream and number
abbrev pub carries : ℕ → ℕ → Item → ℕ
carries stream number item = one_if (item.tag == stream && number_in item.part == number)

-- a sum over the items of all back queues
abbrev pub over_back_items : (Item → ℕ) → Core → ℕ
over_back_items f core = weigh (λ queue. weigh f queue.items) (drop 1 core.queues)

-- how many items of the back queues carry the part
abbrev pub times_under_way : Core → ℕ → ℕ → ℕ
times_under_way core stream number = over_back_items (carries stream number) core

-- how often the part was taken back: it is the final one of a stream that is closed
abbrev pub times_withdrawn : Core → ℕ → ℕ → ℕ
times_withdrawn core stream number =
    if number + 1 == parts_sent core stream then by_all closed core stream else 0

-- ---- what holds of them after every step

pub record PartCounts (core : Core) : Type 0 where
  -- a seat closes what it took
  pub closed_by_taker : (seat stream : ℕ)
      → by_seat closed core seat stream ≤ by_seat taken core seat stream
  -- a seat sends parts of what it took
  pub sent_by_taker : (seat stream : ℕ) → 1 ≤ parts_by_seat sent core seat stream
      → 1 ≤ by_seat taken core seat stream
  -- a seat receives parts of what it posted
  pub received_by_poster : (seat stream : ℕ) → 1 ≤ parts_by_seat received core seat stream
      → 1 ≤ by_seat posted core seat stream
  -- the sent parts of a stream are 0, 1, 2 and so on
  pub in_order : (seat stream place : ℕ) → place < length (sent_parts core seat stream)
      → (get_or (sent_parts core seat stream) place no_part).number ≡ place
  -- and only the final one may be the last
  pub last_is_final : (seat stream place : ℕ) → place < length (sent_parts core seat stream)
      → (get_or (sent_parts core seat stream) place no_part).last ≡ true
      → place + 1 ≡ length (sent_parts core seat stream)
  -- a sent part is under way, received, or taken back, and no other part is
  pub one_state : (stream number : ℕ) → stream ≢ 0 → times_under_way core stream number
      + times_received core stream number + times_withdrawn core stream number
      ≡ one_if (nat_lt number (parts_sent core stream))
  -- a part under way in the queue of an engine is of a stream that the engine posted
  pub to_poster : (engine item : ℕ) → (item_of core (1 + engine) item).tag ≢ 0
      → 1 ≤ by_seat posted core engine (item_of core (1 + engine) item).tag
  -- and was sent as it is
  pub under_way_was_sent : (engine item : ℕ) → (item_of core (1 + engine) item).tag ≢ 0 → 1 ≤ times_sent core (part_of (item_of core (1 + engine) item).tag (item_of core (1 + engine) item))
  -- a received part was sent as it is
  pub received_was_sent : (part : Part) → 1 ≤ over_all (same_part part) received core.seats
      → 1 ≤ times_sent core part
  -- what a worker holds of a back queue with a tag is the final part of a stream, and the worker sent it
  pub held_is_own : (seat engine item : ℕ) → role_of core seat ≡ 1
      → (item_of core (1 + engine) item).whereabouts ≡ WithSeat seat
      → (item_of core (1 + engine) item).tag ≢ 0
      → 1 ≤ parts_by_seat sent core seat (item_of core (1 + engine) item).tag
  pub held_is_final : (seat engine item : ℕ) → role_of core seat ≡ 1
      → (item_of core (1 + engine) item).whereabouts ≡ WithSeat seat
      → (item_of core (1 + engine) item).tag ≢ 0
      → number_in (item_of core (1 + engine) item).part + 1
      ≡ parts_sent core (item_of core (1 + engine) item).tag
