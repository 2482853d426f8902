-- Premises of steps that a seat can show from what it did and from words that it read; and a ring of which no word is set.
use Rattle.std.specs.Prelude.{ℕ, ◌≡◌, ◌≢◌, ◌<◌, true, false}
use Rattle.nncq_ring.specs.Staying.{RingStays}
use Rattle.nncq_ring.specs.Words.{IsWellFormed}
use Rattle.unit_model.specs.Conditions.{has_stream, is_taken}
use Rattle.unit_model.specs.Core.{seat_of}
use Rattle.unit_model.specs.Holding.{items_of}
use Rattle.unit_model.specs.Soundness.{IsSound}
use Rattle.unit_model.specs.declared.machine.Core.{Core}
use Rattle.unit_model.specs.declared.shape.Shape.{Shape}
use Rattle.fabric_words.specs.Places.{HasItem, Sets, is_of_ring, queues_of, ring_of}
use Rattle.fabric_words.specs.Shown.{Shows}
use Rattle.fabric_words.specs.declared.place.Place.{Place}
use Rattle.fabric_words.specs.declared.place.Place.TheVariants.{Tag, PartWord}
use Rattle.fabric_words.specs.declared.place.Side.{Side}

-- A stream that the seat posted and didn't cancel, and that no tag of queue 0 is any more, was taken.
abbrev pub TakenIsShown : Type 0
TakenIsShown = (word : Place → ℕ) (core : Core) → IsSound core → Shows word core
    → (seat stream : ℕ) → has_stream stream (seat_of core seat).posted ≡ true
    → has_stream stream (seat_of core seat).cancelled ≡ false
    → ((item : ℕ) → HasItem core.shape 0 item → word (Tag 0 item) ≢ stream)
    → is_taken core stream ≡ true

-- The part word of an item of queue 0 with a tag is the seat that posted the tag.
abbrev pub PosterIsShown : Type 0
PosterIsShown = (word : Place → ℕ) (core : Core) → IsSound core → Shows word core
    → (item stream : ℕ) → HasItem core.shape 0 item → word (Tag 0 item) ≡ stream → stream ≢ 0
    → has_stream stream (seat_of core (word (PartWord 0 item))).posted ≡ true

-- All of a ring stays where another word is set.
abbrev pub RingIsLeft : Type 0
RingIsLeft = (shape : Shape) (word word' : Place → ℕ) (place : Place) (x : ℕ) → Sets shape word word' place x
    → (queue : ℕ) (side : Side) → queue < queues_of shape → is_of_ring queue side place ≡ false
    → IsWellFormed (items_of shape queue) (ring_of word queue side)
    → RingStays (items_of shape queue) (ring_of word queue side) (ring_of word' queue side)
