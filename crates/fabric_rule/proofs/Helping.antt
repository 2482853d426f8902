-- A tail is moved on.
use Rattle.std.proofs.Common.{⊎_elim, ℕ, ◌+◌, ◌/◌, ◌%◌, ◌≡◌, ◌≢◌, ◌≤◌, ◌<◌, inl, inr, eqb, List, ◌∷◌, set, slice_index, refl, sym, ap, ◌∙◌, subst, arith, length-set}
use Rattle.std.specs.Prelude.{Option}
use Rattle.std.proofs.lemmas.Bool.{cases_eq}
use Rattle.std.proofs.lemmas.List.{set-get_or}
use mathlib.Core.Option.{some}
use prog.Atomic.{either}
use lib.ListN.{get_elem?}
use Rattle.atomic_table.specs.Table.{Act, State, Valid, carried_after, keeps, stepped}
use Rattle.atomic_table.proofs.Lists.{exchanged, set_else, set_here}
use Rattle.nncq_ring.specs.Notes.{Noted, RingPart}
use Rattle.nncq_ring.specs.Words.{SetsTail, Words, logical_tail}
use Rattle.nncq_ring.specs.declared.view.RingEvent.{RingEvent}
use Rattle.nncq_ring.specs.declared.view.RingEvent.TheVariants.{SawTail, SawHead, SawEntry, Pushed, Popped}
use Rattle.nncq_ring.proofs.Exchanges.{helped_tail, tail_cases}
use Rattle.nncq_ring.proofs.Noting.{may_help}
use Rattle.nncq_ring.proofs.RingParts.{note_at, part_helps}
use Rattle.app_queue.specs.declared.side.Side.{Side}
use Rattle.app_queue.specs.declared.side.Side.TheVariants.{Free, Line}
use Rattle.app_queue.proofs.ArmFrames.{is_there}
use Rattle.app_queue.proofs.RingFrames.{rings_step}
use Rattle.request_context.specs.declared.piece.Parcel.{Parcel}
use Rattle.unit_model.specs.Holding.{items_of}
use Rattle.unit_model.specs.declared.machine.Core.{Core}
use Rattle.unit_model.specs.declared.shape.Shape.{Shape}
use Rattle.unit_types.specs.declared.message.Reply.{Reply}
use Rattle.unit_types.specs.declared.message.Request.{Request}
use Rattle.fabric_words.specs.Offsets.{offset_of, word_in}
use Rattle.fabric_words.specs.Places.{Sets, queues_of}
use Rattle.fabric_words.specs.Shown.{Shows}
use Rattle.fabric_words.specs.declared.place.Place.{Place}
use Rattle.fabric_words.specs.declared.place.Place.TheVariants.{Head, Slot, Tail}
use Rattle.fabric_words.specs.declared.place.Side.TheVariants.{FreeSide}
use Rattle.fabric_words.proofs.EachStep.{tail_helped}
use Rattle.fabric_words.proofs.Frames.{chunk_stays, ring_stays}
use Rattle.fabric_words.proofs.Standing.{set_word}
use Rattle.fabric_rule.specs.Logs.{looked_log, own_log}
use Rattle.fabric_rule.specs.Rule.{FabricHolds, NotesAreTrue}
use Rattle.fabric_rule.specs.Steps.{HelpLaw, IsEndAbove, IsNoStep}
use Rattle.fabric_rule.specs.Told.{Helps, Moment}
use Rattle.fabric_rule.specs.Views.{item_log, log_at, logged, queues_in, ring_in, word_side}
use Rattle.fabric_rule.specs.declared.event.FabricEvent.TheVariants.{AtRing}
use Rattle.fabric_rule.specs.declared.view.FabricView.{FabricView}
use Rattle.fabric_rule.proofs.Logged.{moves_on}
use Rattle.fabric_rule.proofs.LookSteps.{look}
use Rattle.fabric_rule.proofs.Logs.{other_log, off_ring}
use Rattle.fabric_rule.proofs.ItemNotes.{ItemsStill, items_noted, still_beside}

-- what the event says, where it is true of the ring
is_above : (n place : ℕ) (w : Words) (e : RingEvent) → IsEndAbove n place e → Noted n w e → place < logical_tail n w
is_above n place w (SawTail tail) above noted = absurd above
is_above n place w (SawHead head) above noted = absurd above
is_above n place w (SawEntry at entry) above noted = subst (λ (p : ℕ). p < logical_tail n w) above.0 (noted.above (above.1 ∙ ap (λ (p : ℕ). p / n) (sym above.0)))
is_above n place w (Pushed at value) above noted = subst (λ (p : ℕ). p < logical_tail n w) above noted
is_above n place w (Popped at value) above noted = absurd above

module _ {H : Type 0} (reply_of : List ℕ → Request → Reply) (shape : Shape) (s : State (Option (Parcel H)) FabricView) (holds : FabricHolds reply_of shape s) (id : ℕ) (v : FabricView) (carried : List (ℕ × Option (Parcel H)))
    (at : get_elem? s.views id ≡ some v) (queue : ℕ) (side : Side) (place : ℕ) (there : queue < queues_of shape) (where_noted : ℕ) (noted_event : RingEvent) (in_log : get_elem? (log_at queue side v) where_noted ≡ some noted_event) (above : IsEndAbove (items_of shape queue) place noted_event)
    (found : word_in shape s.words (Tail queue (word_side side)) ≡ place) where
  abbrev n : ℕ
  n = items_of shape queue

  abbrev e : RingEvent
  e = SawTail (place + 1)

  abbrev u : FabricView
  u = logged (AtRing queue side e) v

  abbrev word : Place → ℕ
  word = word_in shape s.words

  abbrev words' : List ℕ
  words' = set s.words (offset_of shape (Tail queue (word_side side))) (place + 1)

  abbrev word' : Place → ℕ
  word' = word_in shape words'

  abbrev core : Core
  core = holds.core

  abbrev w : Words
  w = ring_in word queue side

  abbrev w' : Words
  w' = ring_in word' queue side

  sets : Sets shape word word' (Tail queue (word_side side)) (place + 1)
  sets = set_word shape s.words (Tail queue (word_side side)) (place + 1) holds.wide there

  part : RingPart n (log_at queue side) w s.views
  part = holds.notes.rings.rings queue there side

  end_above : place < logical_tail n w
  end_above = is_above n place w noted_event above (note_at n w (log_at queue side v) where_noted noted_event in_log (part.noted id v at))

  full : w.entry (w.tail % n) / n ≡ w.tail / n
  full = may_help n place w found end_above

  shows' : Shows word' core
  shows' = tail_helped shape word word' queue n place (word_side side) refl there found (subst (λ (p : ℕ). w.entry (p % n) / n ≡ p / n) found full) sets core holds.shaped holds.shows

  tail_sets : SetsTail n w w' (w.tail + 1)
  tail_sets = record {
    head = sets.others (Head queue (word_side side)) there (λ is. absurd (cc is));
    tail = sets.here ∙ ap (λ (m : ℕ). m + 1) (sym found);
    entries = λ j lt. sets.others (Slot queue (word_side side) j) (record { in_queues = there; in_items = lt }) (λ is. absurd (cc is));
  }

  same_items : (r : ℕ) → item_log r u.log ≡ item_log r v.log
  same_items r = looked_log queue side e v.log r tt

  notes' : NotesAreTrue shape word' (set s.views id u)
  notes' =
      let old = holds.notes in
      let still : ItemsStill shape word word' = still_beside shape word word' (Tail queue (word_side side)) (place + 1) sets (λ q i. ((λ is. absurd (cc is)), (λ is. absurd (cc is)), (λ is. absurd (cc is)))) in
      items_noted shape word word' still (λ q lt. omega (arith, sets.others (Head q FreeSide) lt (λ is. absurd (cc is)))) s.views id v at v.ledgers v.works v.chunks v.items v.kept (AtRing queue side e ∷ v.log) (λ q i mine. mine) (λ q i p got. got) same_items
      (rings_step FabricView log_at (queues_in shape) (ring_in word) (ring_in word') s.views id v u at queue side
      (λ r lt other apart. ring_stays shape word word' (Tail queue (word_side side)) (place + 1) sets r (word_side other) lt (off_ring queue side r other apart))
      (λ r lt other apart. other_log queue side e v.log r other apart)
      (part_helps n (log_at queue side) w s.views id v at part w' u place end_above found (own_log queue side e v.log) tail_sets)
      (omega (arith, old.rings.worn queue there side, helped_tail n w w' part.fine full tail_sets))
      old.rings)
      old

  rises : (s1 : Side) → s1 ≡ side → (q : ℕ) → q < queues_of shape → word (Tail q FreeSide) ≤ word' (Tail q FreeSide)
  rises Line is q lt =
      let same : word' (Tail q FreeSide) ≡ word (Tail q FreeSide) = sets.others (Tail q FreeSide) lt (λ same_place. absurd (cc (same_place, ap word_side is))) in
      omega (arith, same)
  rises Free is q lt =
      elim (cases_eq q queue) [
        | inl here ↦
            let now : word' (Tail q FreeSide) ≡ place + 1 = subst (λ (s2 : Side). word' (Tail q (word_side s2)) ≡ place + 1) (sym is) (subst (λ (r : ℕ). word' (Tail r (word_side side)) ≡ place + 1) (sym here) sets.here) in
            let was : word (Tail q FreeSide) ≡ place = subst (λ (s2 : Side). word (Tail q (word_side s2)) ≡ place) (sym is) (subst (λ (r : ℕ). word (Tail r (word_side side)) ≡ place) (sym here) found) in
            omega (arith, now, was)
        | inr ne ↦ let same : word' (Tail q FreeSide) ≡ word (Tail q FreeSide) = sets.others (Tail q FreeSide) lt (λ same_place. ne (cc same_place)) in omega (arith, same)
      ]

  pub helped : IsNoStep reply_of shape s holds (stepped s (offset_of shape (Tail queue (word_side side))) (place + 1) id carried u keeps)
  helped = moves_on reply_of shape s holds id v at (AtRing queue side e) words' (omega (arith, holds.wide, length-set s.words (offset_of shape (Tail queue (word_side side))) (place + 1))) shows'
      (λ q lt. rises side refl q (subst (λ (sh : Shape). q < queues_of sh) holds.shaped lt))
      (λ chunk lt is. holds.free chunk lt (sym (chunk_stays shape word word' (Tail queue (word_side side)) (place + 1) sets (λ k same_place. absurd (cc same_place)) chunk lt) ∙ is))
      notes' (record { out = (holds.views.opens id v at).out; back = (holds.views.opens id v at).back })

pub help : (H : Type 0) → HelpLaw H
help H reply_of shape s holds id v carried at queue side place there k e in_log above found = helped reply_of shape s holds id v carried at queue side place there k e in_log above found

-- ---- on the table

module _ {H : Type 0} (reply_of : List ℕ → Request → Reply) (shape : Shape) (id : ℕ) (v : FabricView) (carried : List (ℕ × Option (Parcel H))) (s : State (Option (Parcel H)) FabricView) (holds : FabricHolds reply_of shape s) (at : get_elem? s.views id ≡ some v)
    (queue : ℕ) (side : Side) (place : ℕ) (there : queue < queues_of shape) (end_at : ℕ) (end_event : RingEvent) (end_in : get_elem? (log_at queue side v) end_at ≡ some end_event) (above : IsEndAbove (items_of shape queue) place end_event) where
  abbrev pub index : ℕ
  index = offset_of shape (Tail queue (word_side side))

  abbrev pub now : ℕ
  now = slice_index s.words index

  abbrev pub After : ℕ → Type 0
  After new = (u : FabricView) × (a : Act (Option (Parcel H))) × Valid s.homes carried a × FabricHolds reply_of shape (stepped s index new id carried u a)
      × ((carried_after carried a ≡ carried) × (u.chunks ≡ v.chunks) × Helps H reply_of shape id queue side place (v, carried) now (u, carried_after carried a))

  abbrev moment : (new : ℕ) (u : FabricView) → Moment H reply_of shape id v u
  moment new u = record { before = s; holds = holds; was = at; after = stepped s index new id carried u keeps; is = set_here s.views id u (is_there s.views id v at); others = λ k ne. set_else s.views id k u ne }

  hit : now ≡ place → After (place + 1)
  hit is =
      let u : FabricView = logged (AtRing queue side (SawTail (place + 1))) v in
      let none : IsNoStep reply_of shape s holds (stepped s index (place + 1) id carried u keeps) = help H reply_of shape s holds id v carried at queue side place there end_at end_event end_in above is in (
        u,
        keeps,
        tt,
        none.after,
        (refl, refl, record { moment = moment (place + 1) u; was = refl; slots = refl; won = λ same. refl; missed = λ ne. absurd (ne is); later = λ ne. absurd (ne is); none = none }),
      )

  miss : now ≢ place → After now
  miss ne =
      let w : Words = ring_in (word_in shape s.words) queue side in
      let n : ℕ = items_of shape queue in
      let end_above : place < logical_tail n w = is_above n place w end_event above (note_at n w (log_at queue side v) end_at end_event end_in ((holds.notes.rings.rings queue there side).noted id v at)) in
      let noted : place ≤ w.tail = ⊎_elim (λ is. omega (arith, is, end_above)) (λ is. omega (arith, is, end_above)) (tail_cases n w) in
      let u : FabricView = logged (AtRing queue side (SawTail now)) v in
      let words : set s.words index now ≡ s.words = set-get_or s.words index 0 in
      let least : now ≤ w.tail = omega arith in
      let none : IsNoStep reply_of shape s holds (stepped s index now id carried u keeps) =
      subst (λ (ws : List ℕ). IsNoStep reply_of shape s holds (record { words = ws; homes = s.homes; views = set s.views id u })) (sym words)
      (look H reply_of shape s holds id v at queue side (SawTail now) there tt least) in (
        u,
        keeps,
        tt,
        none.after,
        (refl, refl, record { moment = moment now u; was = refl; slots = refl; won = λ same. absurd (ne same); missed = λ other. refl; later = λ other. omega (arith, noted, ne); none = none }),
      )

  pub exchanges : After (either (eqb now place) (place + 1) now)
  exchanges = exchanged now place (place + 1) After hit miss
