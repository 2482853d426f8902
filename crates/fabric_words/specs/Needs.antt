-- What a step needs beside the change of its word, where the words show a sound core. Each is a condition of the step that the
-- words don't show: what the seat is, holds and has done, and what it saw when its change was won.
use Rattle.std.specs.Prelude.{ℕ, ◌+◌, ◌-◌, ◌/◌, ◌%◌, ◌≡◌, ◌≢◌, ◌≤◌, ◌<◌, true}
use Rattle.chunk_map.specs.Words.{is_free}
use Rattle.nncq_ring.specs.Words.{Words}
use Rattle.port_message.specs.Words.{numbers_of}
use Rattle.unit_model.specs.Core.{chunk_number, owner_of, role_of, side_start, side_end}
use Rattle.unit_model.specs.Holding.{items_of}
use Rattle.unit_model.specs.Limits.{segment_chunks, stream_limit, place_limit}
use Rattle.unit_model.specs.Premises.{Fills, Empties, IsInHand, OwnsRun, MayArm, MaySettle, MayAbandon}
use Rattle.unit_model.specs.declared.machine.Core.{Core}
use Rattle.unit_model.specs.declared.machine.Owner.TheVariants.{Seat}
use Rattle.unit_model.specs.declared.machine.Step.{Step}
use Rattle.unit_model.specs.declared.machine.Step.TheVariants.{Draw, Claim, Release, Open, GetItem, SetRun, SetPart, Arm, Push, Pop, Settle, GiveItem, Abandon}
use Rattle.unit_model.specs.declared.runs.Run.{Run}
use Rattle.fabric_words.specs.Places.{HasItem, queues_of, ring_of, map_of, opened_place}
use Rattle.fabric_words.specs.declared.place.Place.{Place}
use Rattle.fabric_words.specs.declared.place.Place.TheVariants.{NextStream, Tag, RunWord, PartWord}
use Rattle.fabric_words.specs.declared.place.Side.TheVariants.{FreeSide, LineSide}

-- ---- rings

-- the entry at the place has the cycle before, in a ring whose tail was at the place at some earlier time
pub record IsVacant (n : ℕ) (w : Words) (place : ℕ) : Type 0 where
  pub seen : place ≤ w.tail
  pub before : w.entry (place % n) / n + 1 ≡ place / n

-- the head is the place, whose entry has its cycle and this value
pub record IsFirst (n : ℕ) (w : Words) (place value : ℕ) : Type 0 where
  pub head : w.head ≡ place
  pub full : w.entry (place % n) / n ≡ place / n
  pub has : w.entry (place % n) % n ≡ value

-- ---- streams and chunks

-- an engine draws the next stream
pub record NeedsDraw (word : Place → ℕ) (core : Core) (seat stream : ℕ) : Type 0 where
  pub role : role_of core seat ≡ 0
  pub next : word NextStream ≡ stream
  pub low : stream < stream_limit

-- a seat takes a chunk of an open segment of its side, whose bit it found set
pub record NeedsClaim (word : Place → ℕ) (core : Core) (seat segment chunk : ℕ) : Type 0 where
  pub role : role_of core seat ≤ 1
  pub in_segment : chunk < segment_chunks
  pub on_side : side_start core seat ≤ segment
  pub opened : segment - side_start core seat < word (opened_place core.shape seat)
  pub was_free : is_free (map_of word) (chunk_number segment chunk) ≡ true

-- a seat gives its own chunk back
pub record NeedsRelease (core : Core) (seat segment chunk : ℕ) : Type 0 where
  pub role : role_of core seat ≤ 1
  pub in_segment : chunk < segment_chunks
  pub own : owner_of core (chunk_number segment chunk) ≡ Seat seat

-- a seat opens one more segment of its side, of which so many are open and not all
pub record NeedsOpen (word : Place → ℕ) (core : Core) (seat count : ℕ) : Type 0 where
  pub role : role_of core seat ≤ 1
  pub opened : word (opened_place core.shape seat) ≡ count
  pub more : count < side_end core seat - side_start core seat

-- ---- items in hand

-- a seat takes the first free item of a queue that it fills
pub record NeedsGetItem (word : Place → ℕ) (core : Core) (seat queue item place : ℕ) : Type 0 where
  pub fills : Fills core seat queue
  pub there : queue < queues_of core.shape
  pub first : IsFirst (items_of core.shape queue) (ring_of word queue FreeSide) place item

-- a seat has an item without a tag, of a queue that it fills, and owns the run that it writes
pub record NeedsSetRun (word : Place → ℕ) (core : Core) (seat queue item : ℕ) (run : Run) : Type 0 where
  pub fills : Fills core seat queue
  pub hand : IsInHand core seat queue item
  pub untagged : word (Tag queue item) ≡ 0
  pub owns : OwnsRun core seat queue run

pub record NeedsSetPart (word : Place → ℕ) (core : Core) (seat queue item : ℕ) : Type 0 where
  pub fills : Fills core seat queue
  pub hand : IsInHand core seat queue item
  pub untagged : word (Tag queue item) ≡ 0

-- a seat may arm the item with the run and the part that its words say
pub record NeedsArm (word : Place → ℕ) (core : Core) (seat queue item stream : ℕ) : Type 0 where
  pub fills : Fills core seat queue
  pub hand : IsInHand core seat queue item
  pub untagged : word (Tag queue item) ≡ 0
  pub owns : OwnsRun core seat queue (numbers_of (word (RunWord queue item)))
  pub may : MayArm core seat queue item stream (word (PartWord queue item))

-- a seat puts an item that it has back into the free ring
pub record NeedsGiveItem (word : Place → ℕ) (core : Core) (seat queue item place : ℕ) : Type 0 where
  pub role : role_of core seat ≤ 1
  pub hand : IsInHand core seat queue item
  pub untagged : word (Tag queue item) ≡ 0
  pub low : place < place_limit
  pub vacant : IsVacant (items_of core.shape queue) (ring_of word queue FreeSide) place

-- ---- messages

-- a seat puts an armed item that it has into the line of a queue that it fills
pub record NeedsPush (word : Place → ℕ) (core : Core) (seat queue item place : ℕ) : Type 0 where
  pub fills : Fills core seat queue
  pub hand : IsInHand core seat queue item
  pub armed : word (Tag queue item) ≢ 0
  pub low : place < place_limit
  pub vacant : IsVacant (items_of core.shape queue) (ring_of word queue LineSide) place

-- a seat takes the first item of a line that it empties
pub record NeedsPop (word : Place → ℕ) (core : Core) (seat queue item place : ℕ) : Type 0 where
  pub empties : Empties core seat queue
  pub first : IsFirst (items_of core.shape queue) (ring_of word queue LineSide) place item

-- a seat wins the message of an item, whose tag it found to be the stream
pub record NeedsSettle (word : Place → ℕ) (core : Core) (seat queue item stream : ℕ) : Type 0 where
  pub there : HasItem core.shape queue item
  pub tag : word (Tag queue item) ≡ stream
  pub armed : stream ≢ 0
  pub may : MaySettle core seat queue item stream

-- an engine gives a stream up
pub record NeedsAbandon (core : Core) (seat stream : ℕ) : Type 0 where
  pub role : role_of core seat ≡ 0
  pub may : MayAbandon core seat stream

-- ---- all of them

abbrev pub Needs : (Place → ℕ) → Core → Step → Type 0
Needs word core (Draw seat stream) = NeedsDraw word core seat stream
Needs word core (Claim seat segment chunk) = NeedsClaim word core seat segment chunk
Needs word core (Release seat segment chunk) = NeedsRelease core seat segment chunk
Needs word core (Open seat count) = NeedsOpen word core seat count
Needs word core (GetItem seat queue item place) = NeedsGetItem word core seat queue item place
Needs word core (SetRun seat queue item run) = NeedsSetRun word core seat queue item run
Needs word core (SetPart seat queue item part) = NeedsSetPart word core seat queue item
Needs word core (Arm seat queue item stream) = NeedsArm word core seat queue item stream
Needs word core (Push seat queue item place) = NeedsPush word core seat queue item place
Needs word core (Pop seat queue item place) = NeedsPop word core seat queue item place
Needs word core (Settle seat queue item stream) = NeedsSettle word core seat queue item stream
Needs word core (GiveItem seat queue item place) = NeedsGiveItem word core seat queue item place
Needs word core (Abandon seat stream) = NeedsAbandon core seat stream
