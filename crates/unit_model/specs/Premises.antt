-- What has to hold of a seat and of a core for a step, as facts: what the conditions of steps test.
use Rattle.std.specs.Prelude.{ℕ, ◌+◌, ◌-◌, ◌≡◌, ◌≢◌, ◌≤◌, ◌==◌, ◌&&◌, true, false}
use Rattle.std.specs.List.{list_any}
use Rattle.unit_model.specs.Conditions.{has_stream, is_last_sent, is_closed, is_taken, parts_sent, holds_tagged, part_of, is_same_part}
use Rattle.unit_model.specs.Core.{number_in, item_of, owner_of, role_of, seat_of}
use Rattle.unit_model.specs.Holding.{FitsQueue, IsInRun}
use Rattle.unit_model.specs.declared.machine.Core.{Core}
use Rattle.unit_model.specs.declared.machine.Owner.TheVariants.{Seat}
use Rattle.unit_model.specs.declared.machine.Whereabouts.TheVariants.{WithSeat}
use Rattle.unit_model.specs.declared.runs.Run.{Run}

-- ---- seats and items

-- the seat has a role, and fills this queue: engines fill queue 0, workers the others
pub record Fills (core : Core) (seat queue : ℕ) : Type 0 where
  pub role : role_of core seat ≤ 1
  pub side : (role_of core seat == 0) ≡ (queue == 0)

-- a worker empties queue 0, and engine e queue 1 + e
pub data Empties (core : Core) (seat queue : ℕ) : Type 0 where
  Worker : (is : role_of core seat ≡ 1) (line : queue ≡ 0) → Empties core seat queue
  Engine : (is : role_of core seat ≡ 0) (own : queue ≡ 1 + seat) → Empties core seat queue

-- the seat has the item in its hand
abbrev pub IsInHand : Core → ℕ → ℕ → ℕ → Type 0
IsInHand core seat queue item = (item_of core queue item).whereabouts ≡ WithSeat seat

-- the run fits the side of those who fill the queue, and the seat owns its chunks
pub record OwnsRun (core : Core) (seat queue : ℕ) (run : Run) : Type 0 where
  pub fits : FitsQueue core.shape queue run
  pub owns : (number : ℕ) → IsInRun run number → owner_of core number ≡ Seat seat

-- ---- streams

-- an engine that drew the stream may post it once
pub record MayPost (core : Core) (seat queue item stream : ℕ) (part : ℕ) : Type 0 where
  pub line : queue ≡ 0
  pub drawn : has_stream stream (seat_of core seat).drawn ≡ true
  pub unposted : has_stream stream (seat_of core seat).posted ≡ false
  pub own : part ≡ seat

-- a worker that took the stream may send its next part
pub record MaySend (core : Core) (seat queue item stream : ℕ) (part : ℕ) : Type 0 where
  pub back : queue ≢ 0
  pub taken : has_stream stream (seat_of core seat).taken ≡ true
  pub posted : has_stream stream (seat_of core (queue - 1)).posted ≡ true
  pub unfinished : is_last_sent core stream ≡ false
  pub unclosed : is_closed core stream ≡ false
  pub next : number_in part ≡ parts_sent core stream
  pub alone : holds_tagged core seat queue stream ≡ false

-- engines post requests, workers send parts
pub data MayArm (core : Core) (seat queue item stream part : ℕ) : Type 0 where
  Posts : MayPost core seat queue item stream part → MayArm core seat queue item stream part
  Sends : MaySend core seat queue item stream part → MayArm core seat queue item stream part

-- who wins the message of an item, by whose queue it is and what the seat is
pub data MaySettle (core : Core) (seat queue item stream : ℕ) : Type 0 where
  -- the engine that posted the stream cancels it
  Cancels : (engine : role_of core seat ≡ 0) (line : queue ≡ 0)
      (posted : has_stream stream (seat_of core seat).posted ≡ true)
      → MaySettle core seat queue item stream
  -- a worker that holds the item takes the stream
  Takes : (worker : role_of core seat ≡ 1) (line : queue ≡ 0)
      (held : IsInHand core seat queue item)
      → MaySettle core seat queue item stream
  -- an engine that holds an item of its own queue receives the part
  Receives : (engine : role_of core seat ≡ 0) (own : queue ≡ 1 + seat)
      (held : IsInHand core seat queue item)
      → MaySettle core seat queue item stream
  -- a worker that holds the item and sent its part closes the stream
  Closes : (worker : role_of core seat ≡ 1) (back : queue ≢ 0)
      (held : IsInHand core seat queue item)
      (sent : list_any (is_same_part (part_of stream (item_of core queue item))) (seat_of core seat).sent
      ≡ true)
      → MaySettle core seat queue item stream

-- an engine that posted the stream, which a worker took, may give it up once
pub record MayAbandon (core : Core) (seat stream : ℕ) : Type 0 where
  pub posted : has_stream stream (seat_of core seat).posted ≡ true
  pub taken : is_taken core stream ≡ true
  pub uncancelled : has_stream stream (seat_of core seat).cancelled ≡ false
  pub unabandoned : has_stream stream (seat_of core seat).abandoned ≡ false
  pub unreceived :
      list_any (λ part. part.stream == stream && part.last) (seat_of core seat).received ≡ false
