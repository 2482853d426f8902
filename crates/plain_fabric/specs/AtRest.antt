-- A machine of one engine and one worker between two requests: nothing is under way.
use Rattle.std.specs.Prelude.{ℕ, ◌+◌, ◌%◌, ◌≡◌, ◌⊎◌, ◌==◌, ◌&&◌, true, List, [], map}
use Rattle.std.specs.List.{list_any, range_with_len}
use Rattle.unit_model.specs.Conditions.{has_stream}
use Rattle.unit_model.specs.Core.{queue_of, item_of, owner_of, seat_of}
use Rattle.unit_model.specs.AtRest.{IsAtRest as IsItsFreeList}
use Rattle.unit_model.specs.Holding.{items_of}
use Rattle.unit_model.specs.Soundness.{IsSound}
use Rattle.unit_model.specs.declared.machine.Core.{Core}
use Rattle.unit_model.specs.declared.machine.Entry.{Entry}
use Rattle.unit_model.specs.declared.machine.Owner.TheVariants.{Free}
use Rattle.unit_model.specs.declared.machine.Seat.{Seat as SeatLists}
use Rattle.unit_model.specs.declared.shape.Shape.{Shape}

-- the entry of a free list that is the k-th from its beginning: items take turns
abbrev pub turn_of : Shape → ℕ → ℕ → Entry
turn_of shape queue k = record { place = shape.start + k; item = k % items_of shape queue }

-- the free list behind so many messages, each of which was taken and whose item was given back
abbrev pub free_list : Shape → ℕ → ℕ → List Entry
free_list shape queue before =
    map (turn_of shape queue) (range_with_len before (items_of shape queue))

-- So many messages went through the queue, and none is under way: each item is in the free list and
-- has no tag, and the line is empty.
pub record HasPassed (core : Core) (queue before : ℕ) : Type 0 where
  pub items : IsItsFreeList core queue
  pub untagged : (item : ℕ) → (item_of core queue item).tag ≡ 0
  pub free : (queue_of core queue).free ≡ free_list core.shape queue before
  pub next_free : (queue_of core queue).next_free
      ≡ core.shape.start + items_of core.shape queue + before
  pub line : (queue_of core queue).line ≡ []
  pub next_line : (queue_of core queue).next_line ≡ core.shape.start + before

-- An engine has nothing open: it has given no stream up, has posted each one that it drew, and has
-- cancelled each one that it posted or received its last part.
pub record HasNothingOpen (lists : SeatLists) : Type 0 where
  pub abandoned : lists.abandoned ≡ []
  pub posted : (stream : ℕ) → has_stream stream lists.drawn ≡ true
      → has_stream stream lists.posted ≡ true
  pub ended : (stream : ℕ) → has_stream stream lists.posted ≡ true
      → (has_stream stream lists.cancelled ≡ true)
      ⊎ (list_any (λ part. part.stream == stream && part.last) lists.received ≡ true)

-- at rest, with so many streams drawn and so many parts sent
pub record IsAtRest (core : Core) (drawn sent : ℕ) : Type 0 where
  pub sound : IsSound core
  pub engines : core.shape.engines ≡ 1
  pub workers : core.shape.workers ≡ 1
  pub next : core.next ≡ drawn + 1
  pub line : HasPassed core 0 drawn
  pub back : HasPassed core 1 sent
  pub chunks : (number : ℕ) → owner_of core number ≡ Free
  pub nothing_open : HasNothingOpen (seat_of core 0)
