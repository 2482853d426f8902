-- How often each stream stands in the lists of the seats, and as the tag of an item of the line's queue.
use Rattle.std.specs.Prelude.{ℕ, ◌≡◌, ◌≢◌, ◌<◌, ◌≤◌, ◌⊎◌, ◌+◌, List, length}
use Rattle.unit_model.specs.Core.{queue_of, item_of, seat_of}
use Rattle.unit_model.specs.Weights.{weigh, is_number, times, over_all}
use Rattle.unit_model.specs.declared.machine.Core.{Core}
use Rattle.unit_model.specs.declared.machine.Seat.{Seat as SeatLists}

-- ---- the lists of a seat

abbrev pub drawn : SeatLists → List ℕ
drawn lists = lists.drawn

abbrev pub posted : SeatLists → List ℕ
posted lists = lists.posted

abbrev pub cancelled : SeatLists → List ℕ
cancelled lists = lists.cancelled

abbrev pub abandoned : SeatLists → List ℕ
abandoned lists = lists.abandoned

abbrev pub taken : SeatLists → List ℕ
taken lists = lists.taken

abbrev pub closed : SeatLists → List ℕ
closed lists = lists.closed

-- ---- counts

-- how often the stream stands in this list of one seat
abbrev pub by_seat : (SeatLists → List ℕ) → Core → ℕ → ℕ → ℕ
by_seat list core seat stream = times stream (list (seat_of core seat))

-- how often it stands in these lists of all seats together
abbrev pub by_all : (SeatLists → List ℕ) → Core → ℕ → ℕ
by_all list core stream = over_all (is_number stream) list core.seats

-- how many items of the line's queue have this tag, wherever they are
abbrev pub line_tags : Core → ℕ → ℕ
line_tags core stream = weigh (λ item. is_number stream item.tag) (queue_of core 0).items

-- ---- what holds of them after every step

pub record StreamCounts (core : Core) : Type 0 where
  -- each seat of the shape is there
  pub seats : length core.seats ≡ core.shape.engines + core.shape.workers
  pub next : 1 ≤ core.next
  -- each stream from 1 up to the next one was drawn once
  pub drawn_once : (stream : ℕ) → 1 ≤ stream → stream < core.next → by_all drawn core stream ≡ 1
  -- and no other was drawn
  pub no_other : (stream : ℕ) → (stream ≡ 0) ⊎ (core.next ≤ stream) → by_all drawn core stream ≡ 0
  -- a seat posts what it drew, as often at most
  pub posted_by_drawer : (seat stream : ℕ)
      → by_seat posted core seat stream ≤ by_seat drawn core seat stream
  -- a posted stream is a tag in the line's queue, taken, or cancelled
  pub one_state : (stream : ℕ) → stream ≢ 0
      → line_tags core stream + by_all taken core stream + by_all cancelled core stream
      ≡ by_all posted core stream
  -- 0 is no stream
  pub no_zero : by_all taken core 0 + by_all cancelled core 0 ≡ by_all posted core 0
  -- a seat cancels what it posted
  pub cancelled_by_poster : (seat stream : ℕ)
      → by_seat cancelled core seat stream ≤ by_seat posted core seat stream
  -- a seat abandons what it posted
  pub abandoned_by_poster : (seat stream : ℕ)
      → by_seat abandoned core seat stream ≤ by_seat posted core seat stream
  -- and what was taken
  pub abandoned_is_taken : (stream : ℕ) → by_all abandoned core stream ≤ by_all taken core stream
  -- the part word of a tagged item of the line's queue is a seat that posted the tag
  pub part_is_poster : (item : ℕ) → (item_of core 0 item).tag ≢ 0
      → 1 ≤ by_seat posted core (item_of core 0 item).part (item_of core 0 item).tag
