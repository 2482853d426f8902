-- A seat gets an item from a free ring.
use Rattle.std.proofs.Common.{ℕ, ◌+◌, ◌/◌, ◌%◌, ◌^◌, ◌≡◌, ◌≢◌, ◌≤◌, ◌<◌, ◌⊎◌, ◌==◌, ◌&&◌, inl, inr, Bool, true, false, cond, List, [], ◌∷◌, length, set, refl, sym, ap, ◌∙◌, subst, arith, length-set}
use Rattle.std.specs.Prelude.{Option}
use Rattle.std.proofs.lemmas.Bool.{ne_eqb}
use mathlib.Core.Option.{some}
use lib.ListN.{get_elem?}
use Rattle.atomic_table.specs.Table.{State, keeps, stepped}
use Rattle.nncq_ring.specs.Words.{Words}
use Rattle.nncq_ring.specs.declared.view.RingEvent.TheVariants.{SawEntry}
use Rattle.app_queue.specs.Arms.{ArmsPlaced}
use Rattle.app_queue.specs.Views.{is_armed}
use Rattle.app_queue.specs.declared.side.Side.TheVariants.{Free}
use Rattle.app_queue.specs.declared.view.ItemEvent.{ItemEvent}
use Rattle.app_queue.specs.declared.view.ItemEvent.TheVariants.{Taken}
use Rattle.app_queue.proofs.ArmFrames.{placed_get}
use Rattle.request_context.specs.declared.piece.Parcel.{Parcel}
use Rattle.unit_model.specs.Conditions.{conditions_by, conditions_of}
use Rattle.unit_model.specs.Core.{first_item, item_of, queue_of}
use Rattle.unit_model.specs.Effects.{after_step}
use Rattle.unit_model.specs.Holding.{entries_of, is_in_free_list, items_of}
use Rattle.unit_model.specs.Running.{Enabled}
use Rattle.unit_model.specs.Shapes.{role_in}
use Rattle.unit_model.specs.Sharing.{Holds}
use Rattle.unit_model.specs.Soundness.{IsSound}
use Rattle.unit_model.specs.Weights.{weigh, is_number, one_if}
use Rattle.unit_model.specs.declared.machine.Core.{Core}
use Rattle.unit_model.specs.declared.machine.Item.{Item}
use Rattle.unit_model.specs.declared.machine.Step.TheVariants.{GetItem}
use Rattle.unit_model.specs.declared.machine.Whereabouts.{Whereabouts}
use Rattle.unit_model.specs.declared.machine.Whereabouts.TheVariants.{InFreeList, InLine, WithSeat}
use Rattle.unit_model.specs.declared.shape.Shape.{Shape}
use Rattle.unit_model.proofs.HeldItems.{counts_at, word_of_free}
use Rattle.unit_model.proofs.ItemChanges.{SetsItem, queue_there}
use Rattle.unit_model.proofs.MetConditions.{each_met}
use Rattle.unit_model.proofs.MetSteps.{first_free, item_is_low}
use Rattle.unit_model.proofs.PartOrderBack.{first_counts}
use Rattle.unit_model.proofs.PartOrderOthers.{others_in_order}
use Rattle.unit_model.proofs.StepFacts.{fill_inside, sets_after_get}
use Rattle.unit_types.specs.declared.message.Reply.{Reply}
use Rattle.unit_types.specs.declared.message.Request.{Request}
use Rattle.fabric_words.specs.Needs.{IsFirst}
use Rattle.fabric_words.specs.Offsets.{offset_of, word_in}
use Rattle.fabric_words.specs.Places.{HasItem, Sets, queues_of}
use Rattle.fabric_words.specs.Shown.{IsStep}
use Rattle.fabric_words.specs.declared.place.Place.{Place}
use Rattle.fabric_words.specs.declared.place.Place.TheVariants.{Head, Tail, Tag}
use Rattle.fabric_words.specs.declared.place.Side.TheVariants.{FreeSide}
use Rattle.fabric_words.proofs.EachStep.{made_step}
use Rattle.fabric_words.proofs.Frames.{chunk_stays, item_there}
use Rattle.fabric_rule.specs.FrameLaws.{SameLists}
use Rattle.fabric_rule.specs.Parts.{ItemsHeld, hand_weight}
use Rattle.fabric_rule.specs.Rule.{FabricHolds, NotesAreTrue, ViewsShow}
use Rattle.fabric_rule.specs.Steps.{GetItemLaw, IsMachineStep, got_item, with_got}
use Rattle.fabric_rule.specs.Views.{arms_at, got_at, held_at, is_got, item_log, log_at, queues_in, ring_in, words_in}
use Rattle.fabric_rule.specs.declared.view.FabricView.{FabricView}
use Rattle.fabric_rule.proofs.Contents.{filled_stay}
use Rattle.fabric_rule.proofs.Frames.{chunks_stay, opens_stay}
use Rattle.fabric_rule.proofs.ItemNotes.{ItemsStill}
use Rattle.fabric_rule.proofs.Staying.{SaysTheSame, moved_alone, streams_left, views_stay}
use Rattle.fabric_rule.proofs.CoreSteps.{LeavesSeats, get_leaves}
use Rattle.fabric_rule.proofs.RuleSteps.{step_made}
use Rattle.fabric_rule.proofs.TakenItems.{got_held, not_in_hand}
use Rattle.fabric_rule.proofs.TakenItems as taken
use Rattle.fabric_rule.proofs.ListFrames.{in_work_stay, works_stay}
use Rattle.std.proofs.lemmas.Bool.{cases_lt, eqb-true}
use Rattle.fabric_rule.proofs.ListFrames.{lists_stay}

-- ---- the item was in its free ring

was_inside : (core : Core) (seat queue item place : ℕ) → Enabled core (GetItem seat queue item place) → item < length (queue_of core queue).items
unfolding conditions_by
was_inside core seat queue item place met = fill_inside core seat queue item (each_met (conditions_of core (GetItem seat queue item place)) met 1)

was_first : (core : Core) (seat queue item place : ℕ) → Enabled core (GetItem seat queue item place) → first_item (queue_of core queue).free ≡ item
unfolding conditions_by
was_first core seat queue item place met = first_free core queue item (each_met (conditions_of core (GetItem seat queue item place)) met 3)

free_word : (w : Whereabouts) → is_in_free_list w ≡ true → w ≡ InFreeList
free_word InFreeList is = refl
free_word InLine is = absurd (cc is)
free_word (WithSeat k) is = absurd (cc is)

was_free : (core : Core) (seat queue item place : ℕ) → IsSound core → Enabled core (GetItem seat queue item place) → (item_of core queue item).whereabouts ≡ InFreeList
was_free core seat queue item place sound met =
    let inside = was_inside core seat queue item place met in
    let low : item < 2 ^ 32 = item_is_low core queue item sound.held.shape (queue_there core queue item inside) inside in
    let some_there = first_counts (queue_of core queue).free item (was_first core seat queue item place met) low in
    let is : is_in_free_list (item_of core queue item).whereabouts ≡ true =
    word_of_free (is_in_free_list (item_of core queue item).whereabouts) (entries_of item (queue_of core queue).free) (sym (counts_at is_in_free_list (queue_of core queue).items (queue_of core queue).free item inside (sound.held.queues queue).free)) some_there in
    free_word (item_of core queue item).whereabouts is

-- the item alone was got by the step, at its place
got_one : (queue item place q i p : ℕ) → 1 ≤ is_got q i p (got_item queue item place) → (item ≡ i) × (place ≡ p)
got_one queue item place q i p has = by (queue == q) (item == i) (place == p) refl refl has
  where
    by : (a b c : Bool) → (item == i) ≡ b → (place == p) ≡ c → 1 ≤ one_if (a && (b && c)) → (item ≡ i) × (place ≡ p)
    by true true true items places some_there = (eqb-true item i items, eqb-true place p places)
    by true true false items places some_there = absurd (omega (arith, some_there))
    by true false c items places some_there = absurd (omega (arith, some_there))
    by false b c items places some_there = absurd (omega (arith, some_there))

-- ---- the step

module _ {H : Type 0} (reply_of : List ℕ → Request → Reply) (shape : Shape) (s : State (Option (Parcel H)) FabricView) (holds : FabricHolds reply_of shape s) (id : ℕ) (v : FabricView)
    (at : get_elem? s.views id ≡ some v) (busy : v.works ≢ []) (queue : ℕ) (first_queue : queue < queues_of shape) (side_is : (role_in shape v.seat == 0) ≡ (queue == 0))
    (place entry : ℕ) (saw : get_elem? (log_at queue Free v) 0 ≡ some (SawEntry place entry)) (full : entry / items_of shape queue ≡ place / items_of shape queue)
    (found : word_in shape s.words (Head queue FreeSide) ≡ place) where
  abbrev pub n : ℕ
  n = items_of shape queue

  abbrev pub item : ℕ
  item = entry % items_of shape queue

  abbrev pub u : FabricView
  u = with_got queue item place v

  abbrev pub word : Place → ℕ
  word = word_in shape s.words

  abbrev pub word' : Place → ℕ
  word' = word_in shape (set s.words (offset_of shape (Head queue FreeSide)) (place + 1))

  abbrev pub w : Words
  w = ring_in word queue Free

  abbrev pub w' : Words
  w' = ring_in word' queue Free

  abbrev pub core : Core
  core = holds.core

  abbrev pub core' : Core
  core' = after_step core (GetItem v.seat queue item place)

  sets : Sets shape word word' (Head queue FreeSide) (place + 1)
  sets = taken.sets reply_of shape s holds id v at queue first_queue Free place entry saw full found v.ledgers

  link : IsStep word' core (GetItem v.seat queue item place)
  link =
      made_step shape word word' (GetItem v.seat queue item place) sets core holds.shaped holds.keeps.sound holds.shows
      (record {
        fills = record { role = (holds.views.there id v at).role; side = ap (λ (sh : Shape). role_in sh v.seat == 0) holds.shaped ∙ side_is };
        there = subst (λ (sh : Shape). queue < queues_of sh) (sym holds.shaped) first_queue;
        first = subst (λ (sh : Shape). IsFirst (items_of sh queue) w place item) (sym holds.shaped) (taken.is_first reply_of shape s holds id v at queue first_queue Free place entry saw full found v.ledgers);
      })

  leaves : LeavesSeats core core'
  leaves = get_leaves core v.seat queue item place

  same : SameLists core core'
  same = leaves.lists

  shape' : core'.shape ≡ shape
  shape' = same.shape ∙ holds.shaped

  inside : item < length (queue_of core queue).items
  inside = was_inside core v.seat queue item place link.enabled

  there : HasItem core.shape queue item
  there = item_there core queue item holds.keeps.sound.held.shape inside

  in_free : (item_of core queue item).whereabouts ≡ InFreeList
  in_free = was_free core v.seat queue item place holds.keeps.sound link.enabled

  abbrev pub now : Item
  now = record (item_of core queue item) { whereabouts = WithSeat v.seat }

  changed : SetsItem core core' queue item now
  changed = sets_after_get core v.seat queue item place inside

  -- no seat had the item
  away : (f : ℕ → ℕ → ℕ) → hand_weight f (item_of core queue item).whereabouts item ≡ 0
  away f = ap (λ (x : Whereabouts). hand_weight f x item) in_free

  not_mine : held_at queue (is_number item) v ≡ 0
  not_mine = not_in_hand core s.views id v at holds.views.items queue item (subst (λ (sh : Shape). queue < queues_of sh) (sym holds.shaped) first_queue) away

  -- ---- notes

  still : ItemsStill shape word word'
  still = taken.still reply_of shape s holds id v at queue first_queue Free place entry saw full found v.ledgers

  same_events : (r : ℕ) → r ≢ queue → item_log r u.log ≡ item_log r v.log
  same_events = taken.same_events reply_of shape s holds id v at queue first_queue Free place entry saw full found v.ledgers

  -- an item in its free ring has no tag
  word_tag : word (Tag queue item) ≡ 0
  word_tag = (holds.shows.items queue item there).tag ∙ (holds.keeps.sound.held.queues queue).untagged item in_free

  -- the item was got now, and of others is said what was
  was_got : (i : ℕ) → Holds (held_at queue) i u → (p : ℕ) → got_at queue u i p → ((i ≡ item) × (p ≡ word (Head queue FreeSide))) ⊎ (Holds (held_at queue) i v × got_at queue v i p)
  was_got i held p got =
      elim (cases_lt 0 (is_got queue i p (got_item queue item place))) [
        | inl now_got ↦ let one = got_one queue item place queue i p (omega (arith, now_got)) in inl (sym one.0, sym one.1 ∙ sym found)
        | inr before ↦
            let some_before : 1 ≤ weigh (is_got queue i p) v.items = omega (arith, got.0, before) in
            let held_before : Holds (held_at queue) i v = omega (arith, some_before, got_held queue i p v.items) in
            let other : item ≢ i = λ same_item. absurd (omega (arith, not_mine, held_before, ap (λ (j : ℕ). held_at queue (is_number j) v) same_item)) in
            let told : is_armed i (Taken Free item place ∷ item_log queue v.log) ≡ false = sym (ap (is_armed i) (taken.own_events reply_of shape s holds id v at queue first_queue Free place entry saw full found v.ledgers)) ∙ got.1 in
            inr (held_before, (some_before, sym (ap (λ (b : Bool). cond b false (is_armed i (item_log queue v.log))) (ne_eqb item i other)) ∙ told))
      ]

  got_elsewhere : (r i : ℕ) → r ≢ queue → (p : ℕ) → got_at r u i p → got_at r v i p
  got_elsewhere r i ne p got =
      let none : is_got r i p (got_item queue item place) ≡ 0 = ap (λ (b : Bool). one_if (b && (item == i && place == p))) (ne_eqb queue r (λ is. ne (sym is))) in
      (omega (arith, got.0, none), subst (λ (es : List ItemEvent). is_armed i es ≡ false) (same_events r ne) got.1)

  arms' : ArmsPlaced arms_at held_at got_at (queues_in shape) (words_in word') (set s.views id u)
  arms' = placed_get FabricView got_at arms_at held_at (queues_in shape) (words_in word) (words_in word') s.views id v u at queue item
      (sets.here ∙ ap (λ (p : ℕ). p + 1) (sym found))
      (λ r lt ne. let is : word' (Head r FreeSide) ≡ word (Head r FreeSide) = sets.others (Head r FreeSide) lt (λ same_place. ne (cc same_place)) in omega (arith, is))
      still.tags still.runs still.parts
      (λ r. refl) word_tag was_got
      (λ r lt ne i held p got. (taken.was_held reply_of shape s holds id v at queue first_queue Free place entry saw full found v.ledgers r i (inl ne) held, got_elsewhere r i ne p got)) holds.notes.arms

  notes' : NotesAreTrue shape word' (set s.views id u)
  notes' = taken.items_taken reply_of shape s holds id v at queue first_queue Free place entry saw full found v.ledgers (λ x is. let zero_is : 0 ≡ x = cc is in word_tag ∙ zero_is) arms'

  -- ---- views

  items' : ItemsHeld core' (set s.views id u)
  items' = taken.item_comes reply_of shape s holds id v at queue first_queue Free place entry saw full found v.ledgers core' same.shape there.in_items changed away

  same_item : (q i : ℕ) → SaysTheSame (item_of core q i) (item_of core' q i)
  same_item = moved_alone core core' queue item (WithSeat v.seat) changed

  views' : ViewsShow shape word' holds.popped holds.armed holds.records core' (set s.views id u)
  views' =
      let tails : (q : ℕ) → q < queues_of core.shape → (ring_in word q Free).tail ≤ (ring_in word' q Free).tail = λ q lt.
      let is : word' (Tail q FreeSide) ≡ word (Tail q FreeSide) = sets.others (Tail q FreeSide) (subst (λ (sh : Shape). q < queues_of sh) holds.shaped lt) (λ is_head. absurd (cc is_head)) in omega (arith, is) in
      views_stay shape word word' holds.popped holds.armed holds.popped holds.armed holds.records core core'
      (streams_left core core' same same_item) s.views id v u at
      (record { shape = refl; number = refl; arms = refl; records = refl; kept = refl })
      tails
      (record {
        items = items';
        chunks = chunks_stay core core' s.views id v u at same.shape leaves.owners (λ f. refl) holds.views.chunks;
        opens = opens_stay core core' s.views id v u at leaves.opened refl refl holds.views.opens;
        lists = lists_stay core core' holds.popped s.views id v u at same refl holds.views.lists;
        numbers = λ k. refl;
        works = works_stay core core' holds.armed s.views id v u at same refl refl refl holds.views.works;
        counted = λ k. refl;
        idle = λ spent. absurd (busy spent);
        in_work = in_work_stay core core' s.views id v u at same refl holds.views.in_work;
      })
      holds.views

  pub gets : (carried : List (ℕ × Option (Parcel H))) → IsMachineStep reply_of shape s holds (GetItem v.seat queue item place) (stepped s (offset_of shape (Head queue FreeSide)) (place + 1) id carried u keeps)
  gets carried =
      step_made reply_of shape s holds (GetItem v.seat queue item place) (set s.words (offset_of shape (Head queue FreeSide)) (place + 1)) s.homes (set s.views id u) holds.popped holds.armed
      (omega (arith, holds.wide, length-set s.words (offset_of shape (Head queue FreeSide)) (place + 1))) link shape'
      (others_in_order holds.popped holds.armed core (GetItem v.seat queue item place) holds.keeps.sound holds.keeps.order tt link.enabled) notes' views'
      (λ chunk lt is. holds.free chunk lt (sym (chunk_stays shape word word' (Head queue FreeSide) (place + 1) sets (λ k is_head. absurd (cc is_head)) chunk lt) ∙ is))
      (filled_stay H reply_of holds.records holds.records core core' s.homes s.homes same.shape (λ q i has armed. let it = same_item q i in (it.tag, it.run, it.part, refl, λ chunk in_run. refl)) holds.filled)

pub get_item : (H : Type 0) → GetItemLaw H
get_item H reply_of shape s holds id v carried at busy queue there side place entry saw full found = gets reply_of shape s holds id v at busy queue there side place entry saw full found carried
