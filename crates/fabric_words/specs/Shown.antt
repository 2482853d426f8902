-- What the words of a fabric show of a core. They don't show which seat holds an item that is in neither ring of its queue, which
-- seat has a chunk that is neither free nor in the run of an armed item, the last stream of an item without a tag, and what the
-- seats have done.
use Rattle.std.specs.Prelude.{ℕ, ◌*◌, ◌≡◌, ◌<◌, Bool, true, false, List, map}
use Rattle.chunk_map.specs.Words.{is_free}
use Rattle.nncq_ring.specs.Words.{Words, IsWellFormed, line_of, logical_tail}
use Rattle.port_message.specs.Words.{numbers_of}
use Rattle.unit_model.specs.Core.{queue_of, item_of, owner_of}
use Rattle.unit_model.specs.Effects.{after_step}
use Rattle.unit_model.specs.Holding.{items_of}
use Rattle.unit_model.specs.Limits.{segment_chunks}
use Rattle.unit_model.specs.Running.{Enabled}
use Rattle.unit_model.specs.Soundness.{IsSound}
use Rattle.unit_model.specs.declared.machine.Core.{Core}
use Rattle.unit_model.specs.declared.machine.Entry.{Entry}
use Rattle.unit_model.specs.declared.machine.Item.{Item}
use Rattle.unit_model.specs.declared.machine.Owner.{Owner}
use Rattle.unit_model.specs.declared.machine.Owner.TheVariants.{Free, Seat, Message}
use Rattle.unit_model.specs.declared.machine.Step.{Step}
use Rattle.fabric_words.specs.Places.{HasItem, queues_of, segments_of, ring_of, map_of}
use Rattle.fabric_words.specs.declared.place.Place.{Place}
use Rattle.fabric_words.specs.declared.place.Place.TheVariants.{NextStream, OpenedOut, OpenedBack, Tag, RunWord, PartWord}
use Rattle.fabric_words.specs.declared.place.Side.TheVariants.{FreeSide, LineSide}

-- a place of a ring with its value, as an entry of a queue's list
abbrev pub entry_at : ℕ × ℕ → Entry
entry_at pair = record { place = pair.0; item = pair.1 }

-- the ring shows this list, with this place behind it: the list is the ring's line, and the place its logical tail
pub record ShowsList (n : ℕ) (w : Words) (entries : List Entry) (next : ℕ) : Type 0 where
  pub fine : IsWellFormed n w
  pub list : map entry_at (line_of n w) ≡ entries
  pub behind : logical_tail n w ≡ next

-- the three words of an item show its tag, its run and its part
pub record ShowsItem (word : Place → ℕ) (queue item : ℕ) (shown : Item) : Type 0 where
  pub tag : word (Tag queue item) ≡ shown.tag
  pub run : numbers_of (word (RunWord queue item)) ≡ shown.run
  pub part : word (PartWord queue item) ≡ shown.part

abbrev pub is_owned_by_none : Owner → Bool
is_owned_by_none Free = true
is_owned_by_none (Seat seat) = false
is_owned_by_none (Message queue item) = false

-- the words show the core
pub record Shows (word : Place → ℕ) (core : Core) : Type 0 where
  pub next : word NextStream ≡ core.next
  pub out : word OpenedOut ≡ core.opened.out
  pub back : word OpenedBack ≡ core.opened.back
  pub free : (queue : ℕ) → queue < queues_of core.shape
      → ShowsList (items_of core.shape queue) (ring_of word queue FreeSide) (queue_of core queue).free (queue_of core queue).next_free
  pub line : (queue : ℕ) → queue < queues_of core.shape
      → ShowsList (items_of core.shape queue) (ring_of word queue LineSide) (queue_of core queue).line (queue_of core queue).next_line
  pub items : (queue item : ℕ) → HasItem core.shape queue item
      → ShowsItem word queue item (item_of core queue item)
  pub chunks : (number : ℕ) → number < segment_chunks * segments_of core.shape
      → is_free (map_of word) number ≡ is_owned_by_none (owner_of core number)

-- the step is enabled, the words show the core after it, and that is a sound one
pub record IsStep (word' : Place → ℕ) (core : Core) (step : Step) : Type 0 where
  pub enabled : Enabled core step
  pub shows : Shows word' (after_step core step)
  pub sound : IsSound (after_step core step)
