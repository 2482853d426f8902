-- What stays shown where a word isn't changed.
use Rattle.std.proofs.Common.{ℕ, ◌*◌, ◌/◌, ◌%◌, ◌≡◌, ◌≢◌, ◌<◌, ◌==◌, ◌&&◌, Bool, true, false, List, length, map, refl, ap, ◌∙◌, arith}
use Rattle.std.specs.Int.{bit_at}
use Rattle.std.proofs.lemmas.Bool.{eq-eqb, ne_eqb}
use Rattle.chunk_map.specs.Words.{is_free}
use Rattle.nncq_ring.specs.Words.{Words, SameWords}
use Rattle.nncq_ring.proofs.Staying.{same_fine, same_line, same_tail}
use Rattle.port_message.specs.Words.{numbers_of}
use Rattle.unit_model.proofs.Presence.{item_is_there}
use Rattle.unit_model.proofs.SoundRuns.{keeps_sound}
use Rattle.unit_model.specs.Core.{queue_of}
use Rattle.unit_model.specs.Effects.{after_step}
use Rattle.unit_model.specs.Holding.{HasItsShape, items_of}
use Rattle.unit_model.specs.Running.{Enabled}
use Rattle.unit_model.specs.Soundness.{IsSound}
use Rattle.unit_model.specs.declared.machine.Core.{Core}
use Rattle.unit_model.specs.declared.machine.Entry.{Entry}
use Rattle.unit_model.specs.declared.machine.Item.{Item}
use Rattle.unit_model.specs.declared.machine.Step.{Step}
use Rattle.unit_model.specs.declared.shape.Shape.{Shape}
use Rattle.fabric_words.specs.Places.{HasItem, Sets, is_of_ring, is_same_side, queues_of, segments_of, ring_of, map_of}
use Rattle.fabric_words.specs.Shown.{entry_at, ShowsList, ShowsItem, Shows, IsStep}
use Rattle.fabric_words.specs.declared.place.Place.{Place}
use Rattle.fabric_words.specs.declared.place.Place.TheVariants.{Head, Tail, Slot, Tag, RunWord, PartWord, Chunks}
use Rattle.fabric_words.specs.declared.place.Side.{Side}
use Rattle.fabric_words.specs.declared.place.Side.TheVariants.{FreeSide, LineSide}

-- ---- which ring a word is of

-- a place that passes a test is none that fails it
pub apart : (test : Place → Bool) (one other : Place) → test one ≡ true → test other ≡ false → one ≢ other
apart test one other passes fails is = absurd (cc (passes, fails, ap test is))

pub own_ring : (queue : ℕ) (side : Side) → (queue == queue && is_same_side side side) ≡ true
own_ring queue FreeSide = rw (eq-eqb queue queue refl) refl
own_ring queue LineSide = rw (eq-eqb queue queue refl) refl

pub other_queue : (queue q : ℕ) (side s : Side) → queue ≢ q → (queue == q && is_same_side side s) ≡ false
other_queue queue q side s other = rw (ne_eqb queue q other) refl

pub other_side : (queue q : ℕ) (side s : Side) → is_same_side side s ≡ false → (queue == q && is_same_side side s) ≡ false
other_side queue q side s other = by (queue == q) (is_same_side side s) other
  where
    by : (a b : Bool) → b ≡ false → (a && b) ≡ false
    by true b fails = fails
    by false b fails = refl

-- ---- lists

pub same_list : (n : ℕ) (w w' : Words) (entries : List Entry) (next : ℕ) → ShowsList n w entries next → SameWords n w w' → ShowsList n w' entries next
same_list n w w' entries next old same = record {
  fine = same_fine n w w' old.fine same;
  list = ap (map entry_at) (same_line n w w' old.fine same) ∙ old.list;
  behind = same_tail n w w' old.fine same ∙ old.behind;
}

-- ---- a word is set

module _ (shape : Shape) (word word' : Place → ℕ) (place : Place) (x : ℕ) (sets : Sets shape word word' place x) where
  -- a ring of which it is no word
  pub ring_stays : (queue : ℕ) (side : Side) → queue < queues_of shape → is_of_ring queue side place ≡ false → SameWords (items_of shape queue) (ring_of word queue side) (ring_of word' queue side)
  ring_stays queue side there off = record {
    head = sets.others (Head queue side) there (apart (is_of_ring queue side) (Head queue side) place (own_ring queue side) off);
    tail = sets.others (Tail queue side) there (apart (is_of_ring queue side) (Tail queue side) place (own_ring queue side) off);
    entries = λ j lt. sets.others (Slot queue side j) (record { in_queues = there; in_items = lt }) (apart (is_of_ring queue side) (Slot queue side j) place (own_ring queue side) off);
  }

  pub list_stays : (queue : ℕ) (side : Side) (entries : List Entry) (next : ℕ) → queue < queues_of shape → is_of_ring queue side place ≡ false
      → ShowsList (items_of shape queue) (ring_of word queue side) entries next → ShowsList (items_of shape queue) (ring_of word' queue side) entries next
  list_stays queue side entries next there off old = same_list (items_of shape queue) (ring_of word queue side) (ring_of word' queue side) entries next old (ring_stays queue side there off)

  -- an item of which it is no word
  pub item_stays : (queue item : ℕ) (shown : Item) → HasItem shape queue item → Tag queue item ≢ place → RunWord queue item ≢ place → PartWord queue item ≢ place → ShowsItem word queue item shown → ShowsItem word' queue item shown
  item_stays queue item shown there tag run part old = record {
    tag = sets.others (Tag queue item) there tag ∙ old.tag;
    run = ap numbers_of (sets.others (RunWord queue item) there run) ∙ old.run;
    part = sets.others (PartWord queue item) there part ∙ old.part;
  }

  -- the map of chunks, of which it is no word
  pub chunk_stays : ((k : ℕ) → Chunks k ≢ place) → (number : ℕ) → number < 640 * segments_of shape → is_free (map_of word') number ≡ is_free (map_of word) number
  chunk_stays off number lt = ap (λ (m : ℕ). bit_at m (number % 64) == 1) (sets.others (Chunks (number / 64)) (omega (arith, lt)) (off (number / 64)))

-- ---- for all steps

-- an item that is there by its queue's list is there by the shape
pub item_there : (core : Core) (queue item : ℕ) → HasItsShape core → item < length (queue_of core queue).items → HasItem core.shape queue item
item_there core queue item shape inside =
    let there = item_is_there core queue item shape inside in
    record { in_queues = there.0; in_items = there.1 }

-- an enabled step whose words are shown keeps the core sound
pub step_of : (word' : Place → ℕ) (core : Core) (step : Step) → IsSound core → Enabled core step → Shows word' (after_step core step) → IsStep word' core step
step_of word' core step sound enabled shows = record { enabled = enabled; shows = shows; sound = keeps_sound core step sound enabled }
