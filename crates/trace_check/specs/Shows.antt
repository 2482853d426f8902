-- When a core in maps shows a core: it has that core's queues, chunks and numbers, and of each stream a record that agrees
-- with what the seats' lists say of it.
use Rattle.std.specs.Prelude.{◌≡◌, ◌≢◌, ℕ, ◌+◌, ◌≤◌, ◌==◌, ◌&&◌, Bool, true, false, List, [], get_or, length, count_by, Option, Some, None, is_some}
use Rattle.std.specs.List.{list_any}
use Rattle.std.specs.BTreeMap.{get}
use Rattle.std.specs.Ordering.{nat_cmp}
use Rattle.trace_check.specs.Streams.{known, drawn_by, posted_by, cancelled_by, abandoned_by, taken_by, sent_of}
use Rattle.trace_check.specs.declared.machine.Machine.{Machine}
use Rattle.trace_check.specs.declared.streams.Stream.{Stream}
use Rattle.unit_model.specs.Conditions.{has_stream, is_same_part, part_of}
use Rattle.unit_model.specs.Core.{item_of, queue_of, role_of, no_seat, whereabouts_code}
use Rattle.unit_model.specs.Limits.{most_items, past_items}
use Rattle.unit_model.specs.Weights.{weigh, below, one_if}
use Rattle.unit_model.specs.declared.machine.Core.{Core}
use Rattle.unit_model.specs.declared.machine.Entry.{Entry}
use Rattle.unit_model.specs.declared.machine.Part.{Part}
use Rattle.unit_model.specs.declared.machine.Seat.{Seat as SeatLists}

abbrev pub lists_at : List SeatLists → ℕ → SeatLists
lists_at seats k = get_or seats k no_seat

-- the part is the last one of the stream
abbrev pub is_last_of : ℕ → Part → Bool
is_last_of stream part = part.stream == stream && part.last

-- the records say of each stream what the lists of the seats say
pub record Agrees (seats : List SeatLists) (at : ℕ → Option Stream) : Type 0 where
  pub drawn : (k s : ℕ) → has_stream s (lists_at seats k).drawn ≡ drawn_by k (at s)
  pub posted : (k s : ℕ) → has_stream s (lists_at seats k).posted ≡ posted_by k (at s)
  pub cancelled : (k s : ℕ) → has_stream s (lists_at seats k).cancelled ≡ cancelled_by k (at s)
  pub abandoned : (k s : ℕ) → has_stream s (lists_at seats k).abandoned ≡ abandoned_by k (at s)
  pub received : (k s : ℕ) → drawn_by k (at s) ≡ true
      → list_any (is_last_of s) (lists_at seats k).received ≡ known (λ r. r.received_last) (at s)
  pub unreceived : (k s : ℕ) → at s ≡ None
      → list_any (is_last_of s) (lists_at seats k).received ≡ false
  pub takers : (k s : ℕ) → has_stream s (lists_at seats k).taken ≡ taken_by k (at s)
  pub eight : (s : ℕ) (r : Stream) → at s ≡ Some r → length r.takers ≡ 8
  pub taken : (s : ℕ)
      → list_any (λ lists. has_stream s lists.taken) seats ≡ known (λ r. r.taken) (at s)
  pub sent : (s : ℕ)
      → weigh (λ lists. count_by (λ part. part.stream == s) lists.sent) seats ≡ sent_of (at s)
  pub last_sent : (s : ℕ) → list_any (λ lists. list_any (is_last_of s) lists.sent) seats
      ≡ known (λ r. r.last_sent) (at s)
  pub closed : (s : ℕ)
      → list_any (λ lists. has_stream s lists.closed) seats ≡ known (λ r. r.closed) (at s)

-- how often an item stands in a list of its queue
abbrev pub times_in : ℕ → List Entry → ℕ
times_in item entries = weigh (λ entry. one_if (entry.item == item)) entries

-- what holds of a core that steps have led to
pub record IsReached (core : Core) (at : ℕ → Option Stream) : Type 0 where
  pub seats : length core.seats ≡ core.shape.engines + core.shape.workers
  pub few : core.shape.engines + core.shape.workers ≤ 8
  pub small : (q : ℕ) → length (queue_of core q).items ≤ most_items
  -- each tag is a stream with a record
  pub tagged : (q i : ℕ) → (item_of core q i).tag ≢ 0 → is_some (at (item_of core q i).tag) ≡ true
  -- an item stands at most once in one list, and only where it is said to be there; one in the free list has tag 0
  pub free : (q i : ℕ) → times_in i (queue_of core q).free ≤ one_if (whereabouts_code (item_of core q i).whereabouts == 0)
  pub in_line : (q i : ℕ) → times_in i (queue_of core q).line ≤ one_if (whereabouts_code (item_of core q i).whereabouts == past_items)
  pub untagged : (q i : ℕ) → whereabouts_code (item_of core q i).whereabouts ≡ 0
      → (item_of core q i).tag ≡ 0
  -- an armed item of a back queue that a worker holds carries a part that this worker sent
  pub held : (q i k : ℕ) → q ≢ 0 → whereabouts_code (item_of core q i).whereabouts ≡ 1 + k
      → role_of core k ≡ 1 → (item_of core q i).tag ≢ 0
      → list_any (is_same_part (part_of (item_of core q i).tag (item_of core q i))) (lists_at core.seats k).sent ≡ true
  -- streams have records from their draw on
  pub recent : (s : ℕ) → core.next ≤ s → at s ≡ None
  pub numbered : (p : ℕ → Bool) → weigh (λ lists. count_by p lists.drawn) core.seats
      ≡ below (λ s. one_if (is_some (at s) && p s)) core.next

-- a machine shows this core
pub record Shows (core : Core) (machine : Machine) : Type 0 where
  pub frame : machine.frame ≡ record core { seats = [] }
  pub agrees : Agrees core.seats (get nat_cmp machine.streams)
  pub reached : IsReached core (get nat_cmp machine.streams)
