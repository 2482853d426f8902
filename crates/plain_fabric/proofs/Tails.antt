-- The tail of a ring is moved on to the place where an entry is to be put.
use Rattle.std.proofs.Common.{◌≡◌, ℕ, ◌+◌, ◌/◌, ◌%◌, ◌<◌, ◌==◌, inl, inr, List, refl, sym, subst, ◌∙◌}
use Rattle.std.proofs.lemmas.Bool.{cases_Bool, eqb-true}
use Rattle.nncq_ring.specs.Words.{SameWords, logical_tail}
use Rattle.unit_model.proofs.MetConditions.{each_met}
use Rattle.unit_model.proofs.MetSteps.{next_is}
use Rattle.unit_model.specs.Conditions.{conditions_by, conditions_of, is_next_line_place, is_next_free_place}
use Rattle.unit_model.specs.Core.{queue_of}
use Rattle.unit_model.specs.Holding.{items_of}
use Rattle.unit_model.specs.Running.{Enabled}
use Rattle.unit_model.specs.declared.machine.Core.{Core}
use Rattle.unit_model.specs.declared.machine.Step.TheVariants.{Push, GiveItem}
use Rattle.unit_model.specs.declared.shape.Shape.{Shape}
use Rattle.fabric_words.proofs.Frames.{list_stays, other_queue, other_side, same_list}
use Rattle.fabric_words.proofs.RingSteps.{help_step, ring_step}
use Rattle.fabric_words.specs.Offsets.{word_in}
use Rattle.fabric_words.specs.Places.{Sets, queues_of, ring_of}
use Rattle.fabric_words.specs.Shown.{Shows}
use Rattle.fabric_words.specs.declared.place.Place.{Place}
use Rattle.fabric_words.specs.declared.place.Place.TheVariants.{Head, Tail, Slot}
use Rattle.fabric_words.specs.declared.place.Side.{Side}
use Rattle.fabric_words.specs.declared.place.Side.TheVariants.{FreeSide, LineSide}
use Rattle.plain_fabric.specs.Stepping.{IsShown}

-- a tail that stands where it is to stand
module _ (core : Core) (word word' : Place → ℕ) (queue place : ℕ) (there : queue < queues_of core.shape) (shows : Shows word core) where
  same_ring : (side : Side) → Sets core.shape word word' (Tail queue side) place → place ≡ word (Tail queue side) → SameWords (items_of core.shape queue) (ring_of word queue side) (ring_of word' queue side)
  same_ring side sets is = record {
    head = sets.others (Head queue side) there (λ same. absurd (cc same));
    tail = sets.here ∙ is;
    entries = λ j lt. sets.others (Slot queue side j) (record { in_queues = there; in_items = lt }) (λ same. absurd (cc same));
  }

  same_tail : (side : Side) → Sets core.shape word word' (Tail queue side) place → place ≡ word (Tail queue side) → Shows word' core
  same_tail FreeSide sets is =
      ring_step word word' core shows queue core.queues (queue_of core queue) (Tail queue FreeSide) place sets refl (λ q other. refl) refl (λ q side other. other_queue q queue side FreeSide other)
      (same_list (items_of core.shape queue) (ring_of word queue FreeSide) (ring_of word' queue FreeSide) (queue_of core queue).free (queue_of core queue).next_free (shows.free queue there) (same_ring FreeSide sets is))
      (list_stays core.shape word word' (Tail queue FreeSide) place sets queue LineSide (queue_of core queue).line (queue_of core queue).next_line there (other_side queue queue LineSide FreeSide refl) (shows.line queue there))
      (λ i. record { tag = refl; run = refl; part = refl })
  same_tail LineSide sets is =
      ring_step word word' core shows queue core.queues (queue_of core queue) (Tail queue LineSide) place sets refl (λ q other. refl) refl (λ q side other. other_queue q queue side LineSide other)
      (list_stays core.shape word word' (Tail queue LineSide) place sets queue FreeSide (queue_of core queue).free (queue_of core queue).next_free there (other_side queue queue FreeSide LineSide refl) (shows.free queue there))
      (same_list (items_of core.shape queue) (ring_of word queue LineSide) (ring_of word' queue LineSide) (queue_of core queue).line (queue_of core queue).next_line (shows.line queue there) (same_ring LineSide sets is))
      (λ i. record { tag = refl; run = refl; part = refl })

  -- it stands there, or one place before it
  moved : (side : Side) → Sets core.shape word word' (Tail queue side) place → logical_tail (items_of core.shape queue) (ring_of word queue side) ≡ place → Shows word' core
  moved side sets behind =
      let n : ℕ = items_of core.shape queue in
      let tail : ℕ = word (Tail queue side) in
      elim (cases_Bool ((ring_of word queue side).entry (tail % n) / n == tail / n)) [
        | inl full ↦
            let on : tail + 1 ≡ place = sym (rw full refl) ∙ behind in
            help_step word word' core shows queue tail side there refl (eqb-true _ _ full) (subst (λ (p : ℕ). Sets core.shape word word' (Tail queue side) p) (sym on) sets)
        | inr vacant ↦
            let here : logical_tail n (ring_of word queue side) ≡ tail = rw vacant refl in
            same_tail side sets (sym behind ∙ here)
      ]

pub line_moved : (shape : Shape) (words words' : List ℕ) (seat queue item place : ℕ) → queue < queues_of shape → Sets shape (word_in shape words) (word_in shape words') (Tail queue LineSide) place
    → (core : Core) → IsShown shape words core → Enabled core (Push seat queue item place) → IsShown shape words' core
unfolding conditions_by is_next_line_place
line_moved shape words words' seat queue item place there sets core shown met =
    let at : place ≡ (queue_of core queue).next_line = next_is (queue_of core queue).next_line place (each_met (conditions_of core (Push seat queue item place)) met 4) in
    let there' : queue < queues_of core.shape = subst (λ (s : Shape). queue < queues_of s) (sym shown.shape_is) there in
    let sets' : Sets core.shape (word_in shape words) (word_in shape words') (Tail queue LineSide) place = subst (λ (s : Shape). Sets s (word_in shape words) (word_in shape words') (Tail queue LineSide) place) (sym shown.shape_is) sets in
    record {
      shape_is = shown.shape_is;
      sound = shown.sound;
      shows = moved core (word_in shape words) (word_in shape words') queue place there' shown.shows LineSide sets' ((shown.shows.line queue there').behind ∙ sym at);
    }

pub free_moved : (shape : Shape) (words words' : List ℕ) (seat queue item place : ℕ) → queue < queues_of shape → Sets shape (word_in shape words) (word_in shape words') (Tail queue FreeSide) place
    → (core : Core) → IsShown shape words core → Enabled core (GiveItem seat queue item place) → IsShown shape words' core
unfolding conditions_by is_next_free_place
free_moved shape words words' seat queue item place there sets core shown met =
    let at : place ≡ (queue_of core queue).next_free = next_is (queue_of core queue).next_free place (each_met (conditions_of core (GiveItem seat queue item place)) met 4) in
    let there' : queue < queues_of core.shape = subst (λ (s : Shape). queue < queues_of s) (sym shown.shape_is) there in
    let sets' : Sets core.shape (word_in shape words) (word_in shape words') (Tail queue FreeSide) place = subst (λ (s : Shape). Sets s (word_in shape words) (word_in shape words') (Tail queue FreeSide) place) (sym shown.shape_is) sets in
    record {
      shape_is = shown.shape_is;
      sound = shown.sound;
      shows = moved core (word_in shape words) (word_in shape words') queue place there' shown.shows FreeSide sets' ((shown.shows.free queue there').behind ∙ sym at);
    }
