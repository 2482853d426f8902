-- A seat stores the run or the part word of an item that it got.
use Rattle.std.proofs.Common.{ℕ, ◌≡◌, ◌≢◌, ◌<◌, ◌⊎◌, ◌==◌, inl, inr, ⊎_elim, Bool, true, false, List, ◌∷◌, length, set, refl, sym, ap, ◌∙◌, subst, arith, length-set}
use Rattle.std.specs.Prelude.{Option}
use mathlib.Core.Option.{some}
use lib.ListN.{get_elem?}
use Rattle.atomic_table.specs.Table.{State, keeps, stepped}
use Rattle.app_queue.specs.Parts.{WordsKnown}
use Rattle.app_queue.specs.Queues.{RingsStay, SetsWord, WordsStay}
use Rattle.app_queue.specs.Views.{last_tag, last_run, last_part, is_armed}
use Rattle.app_queue.specs.declared.view.ItemEvent.{ItemEvent}
use Rattle.app_queue.specs.declared.view.ItemEvent.TheVariants.{RunNoted, PartNoted}
use Rattle.app_queue.proofs.ArmFrames.{arms_stay}
use Rattle.app_queue.proofs.KnownFrames.{tags_known, words_known, words_known_set}
use Rattle.app_queue.proofs.RingFrames.{rings_stay}
use Rattle.port_message.specs.Words.{numbers_of}
use Rattle.port_message.proofs.RunWords.{packed_numbers}
use Rattle.request_context.specs.declared.piece.Parcel.{Parcel}
use Rattle.unit_model.specs.Core.{item_of, queue_of}
use Rattle.unit_model.specs.Effects.{after_step}
use Rattle.unit_model.specs.Holding.{FitsQueue, items_of}
use Rattle.unit_model.specs.PartOrder.{IsOther}
use Rattle.unit_model.specs.Premises.{Fills, IsInHand}
use Rattle.unit_model.specs.Shapes.{role_in}
use Rattle.unit_model.specs.Sharing.{Owned}
use Rattle.unit_model.specs.declared.machine.Core.{Core}
use Rattle.unit_model.specs.declared.machine.Item.{Item}
use Rattle.unit_model.specs.declared.machine.Step.{Step}
use Rattle.unit_model.specs.declared.machine.Step.TheVariants.{SetPart, SetRun}
use Rattle.unit_model.specs.declared.runs.Run.{Run}
use Rattle.unit_model.specs.declared.shape.Shape.{Shape}
use Rattle.unit_model.proofs.ItemChanges.{SetsItem, item_here}
use Rattle.unit_model.proofs.PartOrderOthers.{others_in_order}
use Rattle.unit_model.proofs.StepFacts.{sets_after_part, sets_after_run}
use Rattle.unit_types.specs.declared.message.Reply.{Reply}
use Rattle.unit_types.specs.declared.message.Request.{Request}
use Rattle.fabric_words.specs.Needs.{NeedsSetPart, NeedsSetRun}
use Rattle.fabric_words.specs.Offsets.{offset_of, word_in}
use Rattle.fabric_words.specs.Places.{HasItem, IsThere, Sets, is_of_ring}
use Rattle.fabric_words.specs.Shown.{IsStep}
use Rattle.fabric_words.specs.declared.place.Place.{Place}
use Rattle.fabric_words.specs.declared.place.Place.TheVariants.{NextStream, OpenedOut, OpenedBack, Head, Tail, Slot, Tag, RunWord, PartWord, Chunks}
use Rattle.fabric_words.specs.declared.place.Side.{Side as WordSide}
use Rattle.fabric_words.specs.declared.place.Side.TheVariants.{FreeSide}
use Rattle.fabric_words.proofs.EachStep.{made_step}
use Rattle.fabric_words.proofs.Frames.{apart, chunk_stays, ring_stays}
use Rattle.fabric_words.proofs.Standing.{set_word}
use Rattle.fabric_rule.specs.FrameLaws.{SameLists}
use Rattle.fabric_rule.specs.Hands.{items_elsewhere}
use Rattle.fabric_rule.specs.Rule.{FabricHolds, NotesAreTrue}
use Rattle.fabric_rule.specs.Steps.{IsMachineStep}
use Rattle.fabric_rule.specs.Storing.{HasRun, MayWrite, StorePartLaw, StoreRunLaw}
use Rattle.fabric_rule.specs.Views.{arms_at, got_at, held_at, log_at, logged, part_in, part_said, queues_in, ring_in, run_in, run_said, tag_in, tag_kept, tag_said, word_side}
use Rattle.fabric_rule.specs.declared.event.FabricEvent.TheVariants.{AtItem}
use Rattle.fabric_rule.specs.declared.view.FabricView.{FabricView}
use Rattle.fabric_rule.proofs.Beside.{IsWhereItWas, tails_same, views_beside}
use Rattle.fabric_rule.proofs.Contents.{filled_stay}
use Rattle.fabric_rule.proofs.CoreSteps.{LeavesSeats, part_leaves, run_leaves}
use Rattle.fabric_rule.proofs.RuleSteps.{step_made}
use Rattle.fabric_rule.proofs.Staying.{unchanged}
use Rattle.fabric_rule.proofs.Frames.{chunks_stay, opens_stay}
use Rattle.fabric_rule.proofs.Hands.{chunk_in_hand, hands_owned, in_hand}
use Rattle.fabric_rule.proofs.ItemLooks.{said, said_else, said_here}
use Rattle.fabric_rule.proofs.Passing.{this_or_other}

-- a word of an item that isn't its tag
abbrev is_written : Place → Bool
is_written NextStream = false
is_written OpenedOut = false
is_written OpenedBack = false
is_written (Head q s) = false
is_written (Tail q s) = false
is_written (Slot q s slot) = false
is_written (Tag q i) = false
is_written (RunWord q i) = true
is_written (PartWord q i) = true
is_written (Chunks k) = false

-- ---- the item

module _ {H : Type 0} (reply_of : List ℕ → Request → Reply) (shape : Shape) (s : State (Option (Parcel H)) FabricView) (holds : FabricHolds reply_of shape s) (id : ℕ) (v : FabricView) (at : get_elem? s.views id ≡ some v)
    (queue item : ℕ) (may : MayWrite shape v queue item) where
  abbrev held_word : Place → ℕ
  held_word = word_in shape s.words

  abbrev held_core : Core
  held_core = holds.core

  there' : HasItem held_core.shape queue item
  there' = subst (λ (sh : Shape). HasItem sh queue item) (sym holds.shaped) may.there

  zero_tag : held_word (Tag queue item) ≡ 0
  zero_tag = ⊎_elim (λ is. is) (λ zero. zero) (holds.notes.tags queue may.there.in_queues id v at item may.there.in_items may.mine 0 may.untagged)

  was_zero : (item_of held_core queue item).tag ≡ 0
  was_zero = sym (holds.shows.items queue item there').tag ∙ zero_tag

  hand : IsInHand held_core v.seat queue item
  hand = in_hand held_core s.views id v at holds.views.items queue item there'.in_queues may.mine

  fills : Fills held_core v.seat queue
  fills = record { role = (holds.views.there id v at).role; side = ap (λ (sh : Shape). role_in sh v.seat == 0) holds.shaped ∙ may.fills }

  inside : item < length (queue_of held_core queue).items
  inside = omega (arith, there'.in_items, holds.keeps.sound.held.shape.items queue there'.in_queues)

  owned : Owned (held_at queue) (items_elsewhere held_core s.views queue) (items_of shape queue) s.views
  owned = subst (λ (sh : Shape). Owned (held_at queue) (items_elsewhere held_core s.views queue) (items_of sh queue) s.views) holds.shaped (hands_owned held_core s.views holds.views.items queue there'.in_queues)

-- ---- either store

module _ {H : Type 0} (reply_of : List ℕ → Request → Reply) (shape : Shape) (s : State (Option (Parcel H)) FabricView) (holds : FabricHolds reply_of shape s) (id : ℕ) (v : FabricView) (at : get_elem? s.views id ≡ some v)
    (queue item : ℕ) (may : MayWrite shape v queue item) (place : Place) (x : ℕ) (placed : IsThere shape place) (written : is_written place ≡ true) (off_rings : (q : ℕ) (side : WordSide) → is_of_ring q side place ≡ false)
    (e : ItemEvent) (untagging : (i : ℕ) (es : List ItemEvent) → last_tag i (e ∷ es) ≡ last_tag i es) (unarming : (i : ℕ) (es : List ItemEvent) → is_armed i (e ∷ es) ≡ is_armed i es) where
  abbrev word : Place → ℕ
  word = word_in shape s.words

  abbrev word' : Place → ℕ
  word' = word_in shape (set s.words (offset_of shape place) x)

  abbrev core : Core
  core = holds.core

  abbrev u : FabricView
  u = logged (AtItem queue e) v

  sets : Sets shape word word' place x
  sets = set_word shape s.words place x holds.wide placed

  off : (other : Place) → is_written other ≡ false → other ≢ place
  off other is same = apart is_written place other written is (sym same)

  rings_same : RingsStay (queues_in shape) (ring_in word) (ring_in word')
  rings_same q lt side = ring_stays shape word word' place x sets q (word_side side) lt (off_rings q (word_side side))

  tags_same : WordsStay (queues_in shape) (tag_in word) (tag_in word')
  tags_same q lt i below_n = sets.others (Tag q i) (record { in_queues = lt; in_items = below_n }) (off (Tag q i) refl)

  -- ---- notes

  notes_of : WordsKnown held_at run_said (queues_in shape) (run_in word') (set s.views id u) → WordsKnown held_at part_said (queues_in shape) (part_in word') (set s.views id u)
      → ((q i : ℕ) → HasItem shape q i → (q ≢ queue) ⊎ (i ≢ item) → (run_in word' q i ≡ run_in word q i) × (part_in word' q i ≡ part_in word q i))
      → NotesAreTrue shape word' (set s.views id u)
  notes_of runs' parts' others = record {
    rings = rings_stay FabricView log_at (queues_in shape) (ring_in word) (ring_in word') s.views id v u at rings_same (λ q side. refl) holds.notes.rings;
    tags = tags_known FabricView tag_said held_at (queues_in shape) (tag_in word) (tag_in word') s.views id v u at tags_same
        (λ q i mine. (mine, λ y told. sym (said reply_of shape s holds id v at queue may.there.in_queues (Option ℕ) last_tag e untagging q i) ∙ told)) holds.notes.tags;
    kept_tags = words_known FabricView (tag_kept shape) held_at (queues_in shape) (tag_in word) (tag_in word') s.views id v u at tags_same
        (λ q i mine. (mine, λ y told. (sym (said reply_of shape s holds id v at queue may.there.in_queues (Option ℕ) last_tag e untagging q i) ∙ told.0, told.1))) holds.notes.kept_tags;
    runs = runs';
    parts = parts';
    arms = λ q lt. arms_stay FabricView (got_at q) (arms_at q) (held_at q) (items_of shape q) (word (Head q FreeSide)) (word' (Head q FreeSide)) (tag_in word q) (tag_in word' q) (run_in word q) (run_in word' q) (part_in word q) (part_in word' q) s.views id v u at
        (omega (arith, sets.others (Head q FreeSide) lt (off (Head q FreeSide) refl)))
        (λ i below_n. ⊎_elim
        (λ this. inl (tags_same q lt i below_n ∙ subst (λ (r : ℕ). word (Tag r i) ≡ 0) (sym this.0) (subst (λ (j : ℕ). word (Tag queue j) ≡ 0) (sym this.1) (zero_tag reply_of shape s holds id v at queue item may))))
        (λ other. let same = others q i (record { in_queues = lt; in_items = below_n }) other in inr (tags_same q lt i below_n, same.0, same.1))
        (this_or_other queue item q i))
        refl
        (λ i mine p got. (mine, (got.0, sym (said reply_of shape s holds id v at queue may.there.in_queues Bool is_armed e unarming q i) ∙ got.1))) (holds.notes.arms q lt);
  }

  -- ---- the step

  made : (step : Step) → IsOther step → IsStep word' core step → LeavesSeats core (after_step core step)
      → (now : Item) → SetsItem core (after_step core step) queue item now → IsWhereItWas (item_of core queue item) now
      → NotesAreTrue shape word' (set s.views id u) → (carried : List (ℕ × Option (Parcel H)))
      → IsMachineStep reply_of shape s holds step (stepped s (offset_of shape place) x id carried u keeps)
  made step other_step link leaves now changed as_before notes' carried =
      let core' : Core = after_step core step in
      let same : SameLists core core' = leaves.lists in
      let others : (q i : ℕ) → (q ≢ queue) ⊎ (i ≢ item) → item_of core' q i ≡ item_of core q i = unchanged core core' queue item now changed in
      let here : IsWhereItWas (item_of core queue item) (item_of core' queue item) = subst (IsWhereItWas (item_of core queue item)) (sym (item_here core core' queue item now changed)) as_before in
      let items : (q i : ℕ) → IsWhereItWas (item_of core q i) (item_of core' q i) = λ q i. ⊎_elim
      (λ this. subst (λ (r : ℕ). IsWhereItWas (item_of core r i) (item_of core' r i)) (sym this.0) (subst (λ (j : ℕ). IsWhereItWas (item_of core queue j) (item_of core' queue j)) (sym this.1) here))
      (λ other. subst (IsWhereItWas (item_of core q i)) (sym (others q i other)) (record { tag = refl; place = refl; last = refl }))
      (this_or_other queue item q i) in
      step_made reply_of shape s holds step (set s.words (offset_of shape place) x) s.homes (set s.views id u) holds.popped holds.armed
      (omega (arith, holds.wide, length-set s.words (offset_of shape place) x)) link (same.shape ∙ holds.shaped)
      (others_in_order holds.popped holds.armed core step holds.keeps.sound holds.keeps.order other_step link.enabled) notes'
      (views_beside shape word word' holds.popped holds.armed holds.records core core' s.views id v at v.chunks (AtItem queue e) same items (tails_same core shape word word' holds.shaped rings_same)
      (chunks_stay core core' s.views id v u at same.shape leaves.owners (λ f. refl) holds.views.chunks) (opens_stay core core' s.views id v u at leaves.opened refl refl holds.views.opens)
      (λ none. (holds.views.idle id v at none).chunks) holds.views)
      (λ chunk lt is_set. holds.free chunk lt (sym (chunk_stays shape word word' place x sets (λ k. off (Chunks k) refl) chunk lt) ∙ is_set))
      (filled_stay H reply_of holds.records holds.records core core' s.homes s.homes same.shape
      (λ q i has armed. ⊎_elim
      (λ this. absurd (armed (subst (λ (r : ℕ). (item_of core' r i).tag ≡ 0) (sym this.0) (subst (λ (j : ℕ). (item_of core' queue j).tag ≡ 0) (sym this.1) (here.tag ∙ was_zero reply_of shape s holds id v at queue item may)))))
      (λ other. let is = others q i other in (ap (λ (y : Item). y.tag) is, ap (λ (y : Item). y.run) is, ap (λ (y : Item). y.part) is, refl, λ chunk in_run. refl))
      (this_or_other queue item q i)) holds.filled)

-- ---- each

module _ {H : Type 0} (reply_of : List ℕ → Request → Reply) (shape : Shape) (s : State (Option (Parcel H)) FabricView) (holds : FabricHolds reply_of shape s) (id : ℕ) (v : FabricView) (at : get_elem? s.views id ≡ some v)
    (queue item x : ℕ) (may : MayWrite shape v queue item) (carried : List (ℕ × Option (Parcel H))) where
  store_run_step : HasRun shape v queue (numbers_of x) → IsMachineStep reply_of shape s holds (SetRun v.seat queue item (numbers_of x)) (stepped s (offset_of shape (RunWord queue item)) x id carried (logged (AtItem queue (RunNoted item x)) v) keeps)
  store_run_step has =
      let core : Core = holds.core in
      let run : Run = numbers_of x in
      let place : Place = RunWord queue item in
      let e : ItemEvent = RunNoted item x in
      let word : Place → ℕ = word_in shape s.words in
      let word' : Place → ℕ = word_in shape (set s.words (offset_of shape place) x) in
      let u : FabricView = logged (AtItem queue e) v in
      let off_rings : (q : ℕ) (side : WordSide) → is_of_ring q side place ≡ false = λ q side. refl in
      let sets_run : Sets shape word word' place x = set_word shape s.words place x holds.wide may.there in
      let needs : NeedsSetRun word core v.seat queue item run = record {
        fills = fills reply_of shape s holds id v at queue item may;
        hand = hand reply_of shape s holds id v at queue item may;
        untagged = zero_tag reply_of shape s holds id v at queue item may;
        owns = record {
          fits = subst (λ (sh : Shape). FitsQueue sh queue run) (sym holds.shaped) has.fits;
          owns = λ chunk within. (chunk_in_hand core s.views id v at holds.views.chunks chunk (has.chunks chunk within)).owner;
        };
      } in
      let link : IsStep word' core (SetRun v.seat queue item run) = made_step shape word word' (SetRun v.seat queue item run) (subst (Sets shape word word' place) (sym (packed_numbers x)) sets_run) core holds.shaped holds.keeps.sound holds.shows needs in
      let runs_set : SetsWord (queues_in shape) (run_in word) (run_in word') queue item x = record {
        here = record { here = sets_run.here; others = λ i lt ne. sets_run.others (RunWord queue i) (record { in_queues = may.there.in_queues; in_items = lt }) (λ is. ne (cc is)) };
        others = λ r lt ne i lt'. sets_run.others (RunWord r i) (record { in_queues = lt; in_items = lt' }) (λ is. ne (cc is));
      } in
      let runs' : WordsKnown held_at run_said (queues_in shape) (run_in word') (set s.views id u) = words_known_set FabricView run_said held_at (items_elsewhere core s.views) (queues_in shape) (run_in word) (run_in word') s.views id v u at queue item x may.there.in_queues may.there.in_items runs_set may.mine
      (owned reply_of shape s holds id v at queue item may)
      (λ r i lt other holds_it. (holds_it, said_else reply_of shape s holds id v at queue may.there.in_queues last_run item x e (λ j es. refl) r i other))
      (λ y told. sym (said_here reply_of shape s holds id v at queue may.there.in_queues last_run item x e (λ j es. refl) y told)) holds.notes.runs in
      let parts' : WordsKnown held_at part_said (queues_in shape) (part_in word') (set s.views id u) = words_known FabricView part_said held_at (queues_in shape) (part_in word) (part_in word') s.views id v u at
      (λ q lt i below_n. sets_run.others (PartWord q i) (record { in_queues = lt; in_items = below_n }) (λ is. absurd (cc is)))
      (λ q i mine. (mine, λ y told. sym (said reply_of shape s holds id v at queue may.there.in_queues (Option ℕ) last_part e (λ j es. refl) q i) ∙ told)) holds.notes.parts in
      made reply_of shape s holds id v at queue item may place x may.there refl off_rings e (λ i es. refl) (λ i es. refl)
      (SetRun v.seat queue item run) tt link (run_leaves core v.seat queue item run) (record (item_of core queue item) { run = run })
      (sets_after_run core v.seat queue item run (inside reply_of shape s holds id v at queue item may)) (record { tag = refl; place = refl; last = refl })
      (notes_of reply_of shape s holds id v at queue item may place x may.there refl off_rings e (λ i es. refl) (λ i es. refl) runs' parts'
      (λ q i is other. (sets_run.others (RunWord q i) is (λ same. ⊎_elim (λ ne. ne (cc same)) (λ ne. ne (cc same)) other), sets_run.others (PartWord q i) is (λ same. absurd (cc same)))))
      carried

  store_part_step : IsMachineStep reply_of shape s holds (SetPart v.seat queue item x) (stepped s (offset_of shape (PartWord queue item)) x id carried (logged (AtItem queue (PartNoted item x)) v) keeps)
  store_part_step =
      let core : Core = holds.core in
      let place : Place = PartWord queue item in
      let e : ItemEvent = PartNoted item x in
      let word : Place → ℕ = word_in shape s.words in
      let word' : Place → ℕ = word_in shape (set s.words (offset_of shape place) x) in
      let u : FabricView = logged (AtItem queue e) v in
      let off_rings : (q : ℕ) (side : WordSide) → is_of_ring q side place ≡ false = λ q side. refl in
      let sets_part : Sets shape word word' place x = set_word shape s.words place x holds.wide may.there in
      let needs : NeedsSetPart word core v.seat queue item = record {
        fills = fills reply_of shape s holds id v at queue item may;
        hand = hand reply_of shape s holds id v at queue item may;
        untagged = zero_tag reply_of shape s holds id v at queue item may;
      } in
      let link : IsStep word' core (SetPart v.seat queue item x) = made_step shape word word' (SetPart v.seat queue item x) sets_part core holds.shaped holds.keeps.sound holds.shows needs in
      let parts_set : SetsWord (queues_in shape) (part_in word) (part_in word') queue item x = record {
        here = record { here = sets_part.here; others = λ i lt ne. sets_part.others (PartWord queue i) (record { in_queues = may.there.in_queues; in_items = lt }) (λ is. ne (cc is)) };
        others = λ r lt ne i lt'. sets_part.others (PartWord r i) (record { in_queues = lt; in_items = lt' }) (λ is. ne (cc is));
      } in
      let runs' : WordsKnown held_at run_said (queues_in shape) (run_in word') (set s.views id u) = words_known FabricView run_said held_at (queues_in shape) (run_in word) (run_in word') s.views id v u at
      (λ q lt i below_n. sets_part.others (RunWord q i) (record { in_queues = lt; in_items = below_n }) (λ is. absurd (cc is)))
      (λ q i mine. (mine, λ y told. sym (said reply_of shape s holds id v at queue may.there.in_queues (Option ℕ) last_run e (λ j es. refl) q i) ∙ told)) holds.notes.runs in
      let parts' : WordsKnown held_at part_said (queues_in shape) (part_in word') (set s.views id u) = words_known_set FabricView part_said held_at (items_elsewhere core s.views) (queues_in shape) (part_in word) (part_in word') s.views id v u at queue item x may.there.in_queues may.there.in_items parts_set may.mine
      (owned reply_of shape s holds id v at queue item may)
      (λ r i lt other holds_it. (holds_it, said_else reply_of shape s holds id v at queue may.there.in_queues last_part item x e (λ j es. refl) r i other))
      (λ y told. sym (said_here reply_of shape s holds id v at queue may.there.in_queues last_part item x e (λ j es. refl) y told)) holds.notes.parts in
      made reply_of shape s holds id v at queue item may place x may.there refl off_rings e (λ i es. refl) (λ i es. refl)
      (SetPart v.seat queue item x) tt link (part_leaves core v.seat queue item x) (record (item_of core queue item) { part = x })
      (sets_after_part core v.seat queue item x (inside reply_of shape s holds id v at queue item may)) (record { tag = refl; place = refl; last = refl })
      (notes_of reply_of shape s holds id v at queue item may place x may.there refl off_rings e (λ i es. refl) (λ i es. refl) runs' parts'
      (λ q i is other. (sets_part.others (RunWord q i) is (λ same. absurd (cc same)), sets_part.others (PartWord q i) is (λ same. ⊎_elim (λ ne. ne (cc same)) (λ ne. ne (cc same)) other))))
      carried

pub store_run : (H : Type 0) → StoreRunLaw H
store_run H reply_of shape s holds id v carried at queue item run_word may has = store_run_step reply_of shape s holds id v at queue item run_word may carried has

pub store_part : (H : Type 0) → StorePartLaw H
store_part H reply_of shape s holds id v carried at queue item part may = store_part_step reply_of shape s holds id v at queue item part may carried
