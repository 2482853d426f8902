-- What became of each stream that was drawn.
use Rattle.std.specs.Prelude.{ℕ, ◌≡◌, ◌<◌, ◌≤◌, ◌+◌, ◌==◌, ◌&&◌, ◌||◌, not, Bool, List}
use Rattle.std.specs.List.{list_any}
use Rattle.unit_model.specs.Conditions.{has_stream}
use Rattle.unit_model.specs.StreamCounts.{drawn, posted, cancelled, abandoned, taken}
use Rattle.unit_model.specs.Weights.{one_if, over_all, below}
use Rattle.unit_model.specs.declared.machine.Core.{Core}
use Rattle.unit_model.specs.declared.machine.Seat.{Seat as SeatLists}

-- ---- one stream

-- the stream is in this list of some seat
abbrev pub is_in : (SeatLists → List ℕ) → Core → ℕ → Bool
is_in list core stream = list_any (λ lists. has_stream stream (list lists)) core.seats

-- a seat has received its last part and hasn't abandoned it
abbrev pub is_accepted : Core → ℕ → Bool
is_accepted core stream =
    list_any
    (λ lists. list_any (λ part. part.stream == stream && part.last) lists.received
    && not (has_stream stream lists.abandoned))
    core.seats

abbrev pub is_cancelled : Core → ℕ → Bool
is_cancelled core stream = is_in cancelled core stream

abbrev pub is_abandoned : Core → ℕ → Bool
is_abandoned core stream = is_in abandoned core stream

-- drawn and never posted
abbrev pub is_refused : Core → ℕ → Bool
is_refused core stream = is_in drawn core stream && not (is_in posted core stream)

-- posted, and none of accepted, cancelled and abandoned
abbrev pub is_left_open : Core → ℕ → Bool
is_left_open core stream =
    is_in posted core stream
    && not (is_accepted core stream || (is_cancelled core stream || is_abandoned core stream))

-- each stream that was drawn is one of these, and of no two
abbrev pub EachStreamIsOne : Core → Type 0
EachStreamIsOne core =
    (stream : ℕ)
    → 1 ≤ stream
    → stream < core.next
    → one_if (is_accepted core stream) + one_if (is_cancelled core stream)
    + one_if (is_abandoned core stream) + one_if (is_refused core stream)
    + one_if (is_left_open core stream) ≡ 1

-- ---- all streams

-- how many streams are so
abbrev pub streams_that : (Core → ℕ → Bool) → Core → ℕ
streams_that test core = below (λ stream. one_if (test core stream)) core.next

-- how many entries these lists of all seats have
abbrev pub entries_in : (SeatLists → List ℕ) → Core → ℕ
entries_in list core = over_all (λ stream. 1) list core.seats

-- drawn is accepted, cancelled, abandoned, refused and left open, together
abbrev pub AccountIsWhole : Core → Type 0
AccountIsWhole core =
    entries_in drawn core ≡ streams_that is_accepted core + streams_that is_cancelled core
    + streams_that is_abandoned core + streams_that is_refused core
    + streams_that is_left_open core

-- the lists have each stream once: their lengths count streams
pub record EntriesAreStreams (core : Core) : Type 0 where
  pub drawn : entries_in drawn core + 1 ≡ core.next
  pub posted : entries_in posted core ≡ streams_that (is_in posted) core
  pub cancelled : entries_in cancelled core ≡ streams_that (is_in cancelled) core
  pub abandoned : entries_in abandoned core ≡ streams_that (is_in abandoned) core
  pub taken : entries_in taken core ≡ streams_that (is_in taken) core
