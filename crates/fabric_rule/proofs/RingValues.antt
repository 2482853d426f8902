-- The values that stand in rings.
use Rattle.std.proofs.Common.{ℕ, ◌≡◌, ◌≤◌, ◌<◌, ◌&&◌, Bool, true, false, List, length, refl, sym, ap, ◌∙◌, subst, arith}
use Rattle.std.specs.Prelude.{Option}
use Rattle.std.proofs.lemmas.Bool.{le-ltb}
use Rattle.atomic_table.specs.Table.{State}
use Rattle.app_queue.specs.declared.side.Side.TheVariants.{Free, Line}
use Rattle.nncq_ring.specs.Words.{Words, line_of}
use Rattle.request_context.specs.declared.piece.Parcel.{Parcel}
use Rattle.unit_model.specs.Core.{queue_of}
use Rattle.unit_model.specs.Holding.{entries_of, has_item, is_in_free_list, is_in_line, item_in, items_of}
use Rattle.unit_model.specs.Weights.{is_number, one_if}
use Rattle.unit_model.specs.declared.machine.Core.{Core}
use Rattle.unit_model.specs.declared.machine.Entry.{Entry}
use Rattle.unit_model.specs.declared.machine.Queue.{Queue}
use Rattle.unit_model.specs.declared.shape.Shape.{Shape}
use Rattle.unit_model.proofs.Weights.{weigh-map}
use Rattle.unit_types.specs.declared.message.Reply.{Reply}
use Rattle.unit_types.specs.declared.message.Request.{Request}
use Rattle.fabric_words.specs.Offsets.{word_in}
use Rattle.fabric_words.specs.Places.{queues_of, ring_of}
use Rattle.fabric_words.specs.Shown.{ShowsList, entry_at}
use Rattle.fabric_words.specs.declared.place.Place.{Place}
use Rattle.fabric_words.specs.declared.place.Side.TheVariants.{FreeSide, LineSide}
use Rattle.fabric_rule.specs.Consequences.{HasDistinctValues, RingsDistinctLaw, times_in_ring}
use Rattle.fabric_rule.specs.Rule.{FabricHolds}
use Rattle.fabric_rule.specs.declared.view.FabricView.{FabricView}

at_most_one : (b : Bool) → one_if b ≤ 1
at_most_one true = omega arith
at_most_one false = omega arith

none_where : (a b : Bool) → a ≡ false → one_if (a && b) ≡ 0
none_where false b off = refl
none_where true b off = absurd (cc off)

-- a ring that shows a list in which each item that is there stands once, where a test says so
distinct : (n : ℕ) (w : Words) (entries : List Entry) (next : ℕ) (queue : Queue) (test : ℕ → Bool) → ShowsList n w entries next → length queue.items ≡ n → ((item : ℕ) → entries_of item entries ≡ one_if (has_item queue item && test item)) → HasDistinctValues n w
distinct n w entries next queue test shows sized counts =
    let same : (value : ℕ) → times_in_ring n w value ≡ entries_of value entries = λ value.
    sym (weigh-map (λ (e : Entry). is_number value e.item) entry_at (line_of n w)) ∙ ap (entries_of value) shows.list in
    record {
      once = λ value. omega (arith, same value, counts value, at_most_one (has_item queue value && test value));
      below = λ value le. omega (arith, same value, counts value, none_where (has_item queue value) (test value) (le-ltb value (length queue.items) (omega (arith, le, sized))));
    }

module _ {H : Type 0} (reply_of : List ℕ → Request → Reply) (shape : Shape) (s : State (Option (Parcel H)) FabricView) (holds : FabricHolds reply_of shape s) (queue : ℕ) (lt : queue < queues_of shape) where
  abbrev word : Place → ℕ
  word = word_in shape s.words

  abbrev core : Core
  core = holds.core

  there : queue < queues_of core.shape
  there = subst (λ (sh : Shape). queue < queues_of sh) (sym holds.shaped) lt

  sized : length (queue_of core queue).items ≡ items_of core.shape queue
  sized = holds.keeps.sound.held.shape.items queue there

  free : HasDistinctValues (items_of core.shape queue) (ring_of word queue FreeSide)
  free = distinct (items_of core.shape queue) (ring_of word queue FreeSide) (queue_of core queue).free (queue_of core queue).next_free (queue_of core queue) (λ item. is_in_free_list (item_in (queue_of core queue) item).whereabouts) (holds.shows.free queue there) sized (holds.keeps.sound.held.queues queue).free

  line : HasDistinctValues (items_of core.shape queue) (ring_of word queue LineSide)
  line = distinct (items_of core.shape queue) (ring_of word queue LineSide) (queue_of core queue).line (queue_of core queue).next_line (queue_of core queue) (λ item. is_in_line (item_in (queue_of core queue) item).whereabouts) (holds.shows.line queue there) sized (holds.keeps.sound.held.queues queue).line

pub rings_distinct : (H : Type 0) → RingsDistinctLaw H
rings_distinct H reply_of shape s holds queue Free lt = subst (λ (sh : Shape). HasDistinctValues (items_of sh queue) (ring_of (word_in shape s.words) queue FreeSide)) holds.shaped (free reply_of shape s holds queue lt)
rings_distinct H reply_of shape s holds queue Line lt = subst (λ (sh : Shape). HasDistinctValues (items_of sh queue) (ring_of (word_in shape s.words) queue LineSide)) holds.shaped (line reply_of shape s holds queue lt)
