-- An item goes into a ring.
use Rattle.std.proofs.Common.{ℕ, ⊎_elim, ◌+◌, ◌%◌, ◌≡◌, ◌≢◌, ◌≤◌, ◌<◌, ◌==◌, ◌&&◌, inl, inr, Bool, true, false, cond, List, [], ◌∷◌, length, set, refl, sym, ap, ◌∙◌, subst, arith, length-set}
use Rattle.std.specs.Prelude.{Option}
use Rattle.std.proofs.lemmas.Bool.{cases_eq, ne_eqb}
use mathlib.Core.Option.{some}
use lib.ListN.{get_elem?}
use Rattle.atomic_table.specs.Table.{State, keeps, stepped}
use Rattle.nncq_ring.specs.Notes.{RingPart}
use Rattle.nncq_ring.specs.Words.{SetsEntry, Words, entry_of, line_of, logical_tail}
use Rattle.nncq_ring.specs.declared.view.RingEvent.{RingEvent}
use Rattle.nncq_ring.specs.declared.view.RingEvent.TheVariants.{Pushed, SawTail}
use Rattle.nncq_ring.proofs.Exchanges.{places_long, pushed_tail}
use Rattle.nncq_ring.proofs.RingParts.{note_at, part_pushes}
use Rattle.app_queue.specs.declared.side.Side.{Side}
use Rattle.app_queue.specs.declared.side.Side.TheVariants.{Free, Line}
use Rattle.app_queue.proofs.RingFrames.{rings_step}
use Rattle.request_context.specs.declared.piece.Parcel.{Parcel}
use Rattle.unit_model.specs.Core.{item_of, queue_of, role_of}
use Rattle.unit_model.specs.Effects.{after_step}
use Rattle.unit_model.specs.Holding.{is_in_free_list, is_in_line, items_of}
use Rattle.unit_model.specs.PartOrder.{PartsInOrder}
use Rattle.unit_model.specs.Premises.{Fills, IsInHand}
use Rattle.unit_model.specs.Shapes.{role_in}
use Rattle.unit_model.specs.Sharing.{Holds}
use Rattle.unit_model.specs.Weights.{weigh, is_number, one_if}
use Rattle.unit_model.specs.declared.machine.Core.{Core}
use Rattle.unit_model.specs.declared.machine.Item.{Item}
use Rattle.unit_model.specs.declared.machine.Step.{Step}
use Rattle.unit_model.specs.declared.machine.Step.TheVariants.{GiveItem, Push}
use Rattle.unit_model.specs.declared.machine.Whereabouts.{Whereabouts}
use Rattle.unit_model.specs.declared.machine.Whereabouts.TheVariants.{InFreeList, InLine}
use Rattle.unit_model.specs.declared.shape.Shape.{Shape}
use Rattle.unit_model.proofs.ItemChanges.{SetsItem, item_here}
use Rattle.unit_model.proofs.PartOrderOthers.{others_in_order}
use Rattle.unit_model.proofs.StepFacts.{sets_after_give, sets_after_push}
use Rattle.unit_types.specs.declared.message.Reply.{Reply}
use Rattle.unit_types.specs.declared.message.Request.{Request}
use Rattle.fabric_words.specs.Needs.{IsVacant}
use Rattle.fabric_words.specs.Offsets.{offset_of, word_in}
use Rattle.fabric_words.specs.Places.{HasItem, Sets, queues_of}
use Rattle.fabric_words.specs.Shown.{IsStep}
use Rattle.fabric_words.specs.declared.place.Place.{Place}
use Rattle.fabric_words.specs.declared.place.Place.TheVariants.{Head, Tail, Slot, Tag}
use Rattle.fabric_words.specs.declared.place.Side.TheVariants.{FreeSide, LineSide}
use Rattle.fabric_words.proofs.EachStep.{made_step}
use Rattle.fabric_words.proofs.Frames.{chunk_stays, ring_stays}
use Rattle.fabric_words.proofs.Standing.{set_word}
use Rattle.fabric_rule.specs.Logs.{own_log}
use Rattle.fabric_rule.specs.Parts.{ItemsHeld, PostsInWork, WorksShown, hand_weight}
use Rattle.fabric_rule.specs.Rule.{FabricHolds, NotesAreTrue, ViewsShow}
use Rattle.fabric_rule.specs.Steps.{GiveItemLaw, IsMachineStep, MayPut, PushLineLaw, is_held, slot_of, with_put}
use Rattle.fabric_rule.specs.Views.{held_at, is_got, item_log, log_at, queues_in, ring_in, word_side, works_at}
use Rattle.fabric_rule.specs.declared.view.FabricView.{FabricView}
use Rattle.fabric_rule.specs.declared.view.HeldItem.{HeldItem}
use Rattle.fabric_rule.specs.declared.view.Work.{Work}
use Rattle.fabric_rule.proofs.Contents.{filled_stay}
use Rattle.fabric_rule.proofs.Frames.{item_moves, chunks_stay, opens_stay}
use Rattle.fabric_rule.proofs.Logs.{other_log, off_ring}
use Rattle.fabric_rule.proofs.ListFrames.{in_work_stay, works_stay}
use Rattle.fabric_rule.proofs.Staying.{SaysTheSame, moved_alone, streams_left, unchanged, views_stay}
use Rattle.fabric_rule.proofs.CoreSteps.{LeavesSeats, give_leaves, push_leaves}
use Rattle.fabric_rule.proofs.ItemNotes.{ItemsStill, items_noted, still_beside}
use Rattle.fabric_rule.proofs.RuleSteps.{step_made}
use Rattle.std.proofs.Common.{◌-◌, mod-lt}
use Rattle.std.proofs.lemmas.List.{length-map}
use Rattle.std.proofs.lemmas.Bool.{and_parts, cases_Bool, eqb-true}
use Rattle.unit_model.specs.PartOrder.{IsOther as OtherStep}
use Rattle.unit_model.specs.Weights.{count_of, without_first}
use Rattle.unit_model.specs.declared.machine.Entry.{Entry}
use Rattle.unit_model.proofs.Rooms.{list_has_room}
use Rattle.unit_model.proofs.Weights.{weigh-without_first}
use Rattle.fabric_words.specs.Places.{ring_of}
use Rattle.fabric_words.specs.Shown.{ShowsList, entry_at}
use Rattle.fabric_rule.proofs.Hands.{in_hand}
use Rattle.fabric_rule.proofs.ListFrames.{lists_stay}

-- ---- lists

-- what an item that is held weighs, and what other ones do
holds_it : (queue item : ℕ) (f : ℕ → ℕ) (h : HeldItem) → is_held queue item h ≡ true → cond {A = ℕ} (h.queue == queue) (f h.item) 0 ≡ f item
holds_it queue item f h is =
    let parts = and_parts (h.queue == queue) (h.item == item) is in
    ap (λ (b : Bool). cond {A = ℕ} b (f h.item) 0) parts.0 ∙ ap f (eqb-true h.item item parts.1)

not_elsewhere : (queue item q : ℕ) (f : ℕ → ℕ) (h : HeldItem) → q ≢ queue → is_held queue item h ≡ true → cond {A = ℕ} (h.queue == q) (f h.item) 0 ≡ 0
not_elsewhere queue item q f h ne is =
    let parts = and_parts (h.queue == queue) (h.item == item) is in
    ap (λ (b : Bool). cond {A = ℕ} b (f h.item) 0) (ne_eqb h.queue q (λ same. ne (sym same ∙ eqb-true h.queue queue parts.0)))

counts_it : (queue item : ℕ) (items : List HeldItem) → 0 < weigh (λ (h : HeldItem). cond {A = ℕ} (h.queue == queue) (is_number item h.item) 0) items → 0 < count_of (is_held queue item) items
counts_it queue item [] held = held
counts_it queue item (h ∷ hs) held =
    elim (cases_Bool (is_held queue item h)) [
      | inl is ↦ omega (arith, ap one_if is)
      | inr off ↦ omega (arith, counts_it queue item hs (omega (arith, held, none (h.queue == queue) (h.item == item) off)))
    ]
  where
    none : (a b : Bool) → (a && b) ≡ false → cond {A = ℕ} a (one_if b) 0 ≡ 0
    none true b off = ap one_if off
    none false b off = refl

-- what is left was there
fewer_got : (queue item q i p : ℕ) (items : List HeldItem) → weigh (is_got q i p) (without_first (is_held queue item) items) ≤ weigh (is_got q i p) items
fewer_got queue item q i p [] = omega arith
fewer_got queue item q i p (h ∷ hs) = by (is_held queue item h) (fewer_got queue item q i p hs)
  where
    by : (b : Bool) → weigh (is_got q i p) (without_first (is_held queue item) hs) ≤ weigh (is_got q i p) hs → weigh (is_got q i p) (cond b hs (h ∷ without_first (is_held queue item) hs)) ≤ weigh (is_got q i p) (h ∷ hs)
    by true fewer = omega arith
    by false fewer = omega (arith, fewer)

-- a ring that shows a list which is shorter than its size has room
room_of : (n : ℕ) (w : Words) (entries : List Entry) (next : ℕ) → ShowsList n w entries next → length entries < n → logical_tail n w < w.head + n
room_of n w entries next shows short =
    omega (arith, short, ap (length {A = Entry}) shows.list, length-map (line_of n w) entry_at, places_long n w.entry w.head (logical_tail n w - w.head), shows.fine.front)

-- ---- what the step leaves of a core

pub record Leaves (word' : Place → ℕ) (core : Core) (step : Step) (queue item : ℕ) (gone : Whereabouts) : Type 0 where
  pub link : IsStep word' core step
  pub leaves : LeavesSeats core (after_step core step)
  pub sets : SetsItem core (after_step core step) queue item (record (item_of core queue item) { whereabouts = gone })
  pub weightless : (f : ℕ → ℕ → ℕ) (i : ℕ) → hand_weight f gone i ≡ 0

-- what is said of works then, and the order of parts
pub record OfWorks (popped armed : ℕ → List ℕ) (core : Core) (v u : FabricView) (views : List FabricView) : Type 0 where
  pub works : WorksShown core armed views
  pub many : (k : ℕ) → works_at k u ≡ works_at k v
  pub in_work : PostsInWork core views
  pub order : PartsInOrder popped armed core

-- ---- the step

module _ {H : Type 0} (reply_of : List ℕ → Request → Reply) (shape : Shape) (s : State (Option (Parcel H)) FabricView) (holds : FabricHolds reply_of shape s) (id : ℕ) (v : FabricView) (at : get_elem? s.views id ≡ some v) (new_works : List Work) (busy : new_works ≢ [])
    (queue item place : ℕ) (side : Side) (there : HasItem shape queue item) (mine : Holds (held_at queue) item v) (may : MayPut shape s.words v queue side place) where
  abbrev n : ℕ
  n = items_of shape queue

  abbrev e : RingEvent
  e = Pushed place item

  -- the seat's works may change with the step
  abbrev u : FabricView
  u = record (with_put queue side item place v) { works = new_works }

  abbrev word : Place → ℕ
  word = word_in shape s.words

  abbrev words' : List ℕ
  words' = set s.words (offset_of shape (slot_of shape queue side place)) (entry_of n place item)

  abbrev word' : Place → ℕ
  word' = word_in shape words'

  abbrev core : Core
  core = holds.core

  abbrev w : Words
  w = ring_in word queue side

  abbrev w' : Words
  w' = ring_in word' queue side

  part : RingPart n (log_at queue side) w s.views
  part = holds.notes.rings.rings queue there.in_queues side

  in_slots : place % n < n
  in_slots = mod-lt place part.fine.size

  pub sets : Sets shape word word' (slot_of shape queue side place) (entry_of n place item)
  sets = set_word shape s.words (slot_of shape queue side place) (entry_of n place item) holds.wide (record { in_queues = there.in_queues; in_items = in_slots })

  entry_sets : SetsEntry n w w' (place % n) (entry_of n place item)
  entry_sets = record {
    head = sets.others (Head queue (word_side side)) there.in_queues (λ is. absurd (cc is));
    tail = sets.others (Tail queue (word_side side)) there.in_queues (λ is. absurd (cc is));
    here = sets.here;
    others = λ j lt ne. sets.others (Slot queue (word_side side) j) (record { in_queues = there.in_queues; in_items = lt }) (λ is. ne (cc is));
  }

  pub there' : HasItem core.shape queue item
  there' = subst (λ (sh : Shape). HasItem sh queue item) (sym holds.shaped) there

  pub hand : IsInHand core v.seat queue item
  hand = in_hand core s.views id v at holds.views.items queue item there'.in_queues mine

  pub vacant : IsVacant (items_of core.shape queue) w place
  vacant = subst (λ (sh : Shape). IsVacant (items_of sh queue) w place) (sym holds.shaped)
      (record { seen = note_at n w (log_at queue side v) may.seen_at (SawTail place) may.seen (part.noted id v at); before = may.vacant })

  pub inside : item < length (queue_of core queue).items
  inside = omega (arith, there'.in_items, holds.keeps.sound.held.shape.items queue there'.in_queues)

  pub sized : length (queue_of core queue).items ≡ n
  sized = holds.keeps.sound.held.shape.items queue there'.in_queues ∙ ap (λ (sh : Shape). items_of sh queue) holds.shaped

  same_items : (r : ℕ) → item_log r u.log ≡ item_log r v.log
  same_items r = by (queue == r)
    where
      by : (b : Bool) → cond b (item_log r v.log) (item_log r v.log) ≡ item_log r v.log
      by true = refl
      by false = refl

  -- what is held was held
  held_here : (f : ℕ → ℕ) → held_at queue f u + f item ≡ held_at queue f v
  held_here f = weigh-without_first (λ (h : HeldItem). cond {A = ℕ} (h.queue == queue) (f h.item) 0) (is_held queue item) (f item) (holds_it queue item f) v.items (counts_it queue item v.items mine)

  held_else : (q : ℕ) (f : ℕ → ℕ) → q ≢ queue → held_at q f u ≡ held_at q f v
  held_else q f ne = omega (arith, weigh-without_first (λ (h : HeldItem). cond {A = ℕ} (h.queue == q) (f h.item) 0) (is_held queue item) 0 (λ h is. not_elsewhere queue item q f h ne is) v.items (counts_it queue item v.items mine))

  was_held : (q i : ℕ) → Holds (held_at q) i u → Holds (held_at q) i v
  was_held q i held =
      elim (cases_eq q queue) [
        | inl is ↦ subst (λ (r : ℕ). 0 < held_at r (is_number i) v) (sym is) (omega (arith, held_here (is_number i), subst (λ (r : ℕ). 0 < held_at r (is_number i) u) is held))
        | inr ne ↦ omega (arith, held, held_else q (is_number i) ne)
      ]

  notes' : logical_tail n w < w.head + n → NotesAreTrue shape word' (set s.views id u)
  notes' room =
      let old = holds.notes in
      let seen : place ≤ w.tail = note_at n w (log_at queue side v) may.seen_at (SawTail place) may.seen (part.noted id v at) in
      let still : ItemsStill shape word word' = still_beside shape word word' (slot_of shape queue side place) (entry_of n place item) sets (λ q i. ((λ is. absurd (cc is)), (λ is. absurd (cc is)), (λ is. absurd (cc is)))) in
      items_noted shape word word' still (λ q lt. omega (arith, sets.others (Head q FreeSide) lt (λ is. absurd (cc is)))) s.views id v at v.ledgers new_works v.chunks u.items v.kept u.log was_held (λ q i p got. omega (arith, got, fewer_got queue item q i p v.items)) same_items
      (rings_step FabricView log_at (queues_in shape) (ring_in word) (ring_in word') s.views id v u at queue side
      (λ r lt other apart. ring_stays shape word word' (slot_of shape queue side place) (entry_of n place item) sets r (word_side other) lt (off_ring queue side r other apart))
      (λ r lt other apart. other_log queue side e v.log r other apart)
      (part_pushes n (log_at queue side) w s.views id v at part w' u place item may.seen_at may.seen (own_log queue side e v.log) may.vacant there.in_items room entry_sets)
      (omega (arith, pushed_tail n place item w w' part.fine seen may.vacant there.in_items room entry_sets, may.low))
      old.rings)
      old

  -- ---- views

  module _ (step : Step) (gone : Whereabouts) (leaves : Leaves word' core step queue item gone) where
    abbrev core' : Core
    core' = after_step core step

    here : item_of core' queue item ≡ record (item_of core queue item) { whereabouts = gone }
    here = item_here core core' queue item (record (item_of core queue item) { whereabouts = gone }) leaves.sets

    same_item : (q i : ℕ) → SaysTheSame (item_of core q i) (item_of core' q i)
    same_item = moved_alone core core' queue item gone leaves.sets

    items' : ItemsHeld core' (set s.views id u)
    items' =
        let was : (f : ℕ → ℕ → ℕ) → hand_weight f (item_of core queue item).whereabouts item ≡ f v.seat item = λ f. ap (λ (x : Whereabouts). hand_weight f x item) hand in
        let is : (f : ℕ → ℕ → ℕ) → hand_weight f (item_of core' queue item).whereabouts item ≡ 0 = λ f. ap (λ (x : Item). hand_weight f x.whereabouts item) here ∙ leaves.weightless f item in
        item_moves core core' s.views id v u at leaves.leaves.lists.shape queue item there'.in_items (λ q i apart. ap (λ (x : Item). x.whereabouts) (unchanged core core' queue item (record (item_of core queue item) { whereabouts = gone }) leaves.sets q i apart))
        (λ f. omega (arith, was f, is f, held_here (f v.seat)))
        (λ q f ne. omega (arith, held_else q (f v.seat) ne))
        holds.views.items

    views' : (armed' : ℕ → List ℕ) → OfWorks holds.popped armed' core' v u (set s.views id u) → ViewsShow shape word' holds.popped armed' holds.records core' (set s.views id u)
    views' armed' says =
        let tails : (q : ℕ) → q < queues_of core.shape → (ring_in word q Free).tail ≤ (ring_in word' q Free).tail = λ q lt.
        let is : word' (Tail q FreeSide) ≡ word (Tail q FreeSide) = sets.others (Tail q FreeSide) (subst (λ (sh : Shape). q < queues_of sh) holds.shaped lt) (λ is_slot. absurd (cc is_slot)) in omega (arith, is) in
        views_stay shape word word' holds.popped holds.armed holds.popped armed' holds.records core core' (streams_left core core' leaves.leaves.lists same_item) s.views id v u at
        (record { shape = refl; number = refl; arms = refl; records = refl; kept = refl })
        tails
        (record {
          items = items';
          chunks = chunks_stay core core' s.views id v u at leaves.leaves.lists.shape leaves.leaves.owners (λ f. refl) holds.views.chunks;
          opens = opens_stay core core' s.views id v u at leaves.leaves.opened refl refl holds.views.opens;
          lists = lists_stay core core' holds.popped s.views id v u at leaves.leaves.lists refl holds.views.lists;
          numbers = λ k. refl;
          works = says.works;
          counted = λ k. omega (arith, says.many k);
          idle = λ spent. absurd (busy spent);
          in_work = says.in_work;
        })
        holds.views

    pub puts : logical_tail n w < w.head + n → (armed' : ℕ → List ℕ) → OfWorks holds.popped armed' core' v u (set s.views id u) → (carried : List (ℕ × Option (Parcel H)))
        → IsMachineStep reply_of shape s holds step (stepped s (offset_of shape (slot_of shape queue side place)) (entry_of n place item) id carried u keeps)
    puts room armed' says carried =
        step_made reply_of shape s holds step words' s.homes (set s.views id u) holds.popped armed'
        (omega (arith, holds.wide, length-set s.words (offset_of shape (slot_of shape queue side place)) (entry_of n place item))) leaves.link (leaves.leaves.lists.shape ∙ holds.shaped) says.order (notes' room) (views' armed' says)
        (λ chunk lt is. holds.free chunk lt (sym (chunk_stays shape word word' (slot_of shape queue side place) (entry_of n place item) sets (λ k is_slot. absurd (cc is_slot)) chunk lt) ∙ is))
        (filled_stay H reply_of holds.records holds.records core core' s.homes s.homes leaves.leaves.lists.shape (λ q i has armed. let it = same_item q i in (it.tag, it.run, it.part, refl, λ chunk in_run. refl)) holds.filled)

    -- where works stay
    pub still : new_works ≡ v.works → OtherStep step → OfWorks holds.popped holds.armed core' v u (set s.views id u)
    still same other = record {
      works = works_stay core core' holds.armed s.views id v u at leaves.leaves.lists refl same refl holds.views.works;
      many = λ k. ap (λ (l : List Work). cond {A = ℕ} (v.seat == k) (length l) 0) same;
      in_work = in_work_stay core core' s.views id v u at leaves.leaves.lists same holds.views.in_work;
      order = others_in_order holds.popped holds.armed core step holds.keeps.sound holds.keeps.order other leaves.link.enabled;
    }

-- ---- Push

-- by a seat that fills the queue, of an item that is armed
module _ {H : Type 0} (reply_of : List ℕ → Request → Reply) (shape : Shape) (s : State (Option (Parcel H)) FabricView) (holds : FabricHolds reply_of shape s) (id : ℕ) (v : FabricView) (at : get_elem? s.views id ≡ some v) (new_works : List Work) (busy : new_works ≢ [])
    (queue item place : ℕ) (there : HasItem shape queue item) (mine : Holds (held_at queue) item v) (may : MayPut shape s.words v queue Line place) (fills : Fills holds.core v.seat queue) (tagged : word_in shape s.words (Tag queue item) ≢ 0) where
  abbrev pub pushed : Core
  pushed = after_step holds.core (Push v.seat queue item place)

  abbrev pub put : FabricView
  put = record (with_put queue Line item place v) { works = new_works }

  abbrev put_words : List ℕ
  put_words = set s.words (offset_of shape (slot_of shape queue Line place)) (entry_of (items_of shape queue) place item)

  in_hand_now : IsInHand holds.core v.seat queue item
  in_hand_now = hand reply_of shape s holds id v at new_works busy queue item place Line there mine may

  below_n : item < length (queue_of holds.core queue).items
  below_n = inside reply_of shape s holds id v at new_works busy queue item place Line there mine may

  pub push_left : Leaves (word_in shape put_words) holds.core (Push v.seat queue item place) queue item InLine
  push_left =
      let core : Core = holds.core in
      record {
        link = made_step shape (word_in shape s.words) (word_in shape put_words) (Push v.seat queue item place) (sets reply_of shape s holds id v at new_works busy queue item place Line there mine may) core holds.shaped holds.keeps.sound holds.shows
            (record { fills = fills; hand = in_hand_now; armed = tagged; low = omega (arith, may.low); vacant = vacant reply_of shape s holds id v at new_works busy queue item place Line there mine may });
        leaves = push_leaves core v.seat queue item place;
        sets = sets_after_push core v.seat queue item place below_n;
        weightless = λ f i. refl;
      }

  pub pushes : (armed' : ℕ → List ℕ) → OfWorks holds.popped armed' pushed v put (set s.views id put) → (carried : List (ℕ × Option (Parcel H)))
      → IsMachineStep reply_of shape s holds (Push v.seat queue item place) (stepped s (offset_of shape (slot_of shape queue Line place)) (entry_of (items_of shape queue) place item) id carried put keeps)
  pushes armed' says carried =
      let core : Core = holds.core in
      let off : is_in_line (item_of core queue item).whereabouts ≡ false = ap is_in_line in_hand_now in
      let short : length (queue_of core queue).line < length (queue_of core queue).items = list_has_room (queue_of core queue) is_in_line (queue_of core queue).line (holds.keeps.sound.held.queues queue).line item below_n off in
      puts reply_of shape s holds id v at new_works busy queue item place Line there mine may (Push v.seat queue item place) InLine push_left
      (room_of (items_of shape queue) (ring_in (word_in shape s.words) queue Line) (queue_of core queue).line (queue_of core queue).next_line
      (subst (λ (sh : Shape). ShowsList (items_of sh queue) (ring_of (word_in shape s.words) queue LineSide) (queue_of core queue).line (queue_of core queue).next_line) holds.shaped (holds.shows.line queue (subst (λ (sh : Shape). queue < queues_of sh) (sym holds.shaped) there.in_queues)))
      (omega (arith, short, sized reply_of shape s holds id v at new_works busy queue item place Line there mine may)))
      armed' says carried

-- ---- the laws

pub push_line : (H : Type 0) → PushLineLaw H
push_line H reply_of shape s holds id v carried at busy engine item place stream there mine said some_stream own may =
    let role : role_of holds.core v.seat ≡ 0 = ap (λ (sh : Shape). role_in sh v.seat) holds.shaped ∙ engine in
    let fills : Fills holds.core v.seat 0 = record { role = omega (arith, role); side = ap (λ (r : ℕ). r == 0) role } in
    let tag : word_in shape s.words (Tag 0 item) ≡ stream = holds.notes.kept_tags 0 there.in_queues id v at item there.in_items mine stream (said, inr (engine, own)) in
    let tagged : word_in shape s.words (Tag 0 item) ≢ 0 = λ none. some_stream (sym tag ∙ none) in
    pushes reply_of shape s holds id v at v.works busy 0 item place there mine may fills tagged holds.armed
    (still reply_of shape s holds id v at v.works busy 0 item place Line there mine may (Push v.seat 0 item place) InLine (push_left reply_of shape s holds id v at v.works busy 0 item place there mine may fills tagged) refl refl)
    carried

pub give_item : (H : Type 0) → GiveItemLaw H
give_item H reply_of shape s holds id v carried at busy queue item place there mine said may =
    let core : Core = holds.core in
    let word : Place → ℕ = word_in shape s.words in
    let in_hand_now : IsInHand core v.seat queue item = hand reply_of shape s holds id v at v.works busy queue item place Free there mine may in
    let tag : word (Tag queue item) ≡ 0 = ⊎_elim (λ is. is) (λ is. is) (holds.notes.tags queue there.in_queues id v at item there.in_items mine 0 said) in
    let below_n : item < length (queue_of core queue).items = inside reply_of shape s holds id v at v.works busy queue item place Free there mine may in
    let off : is_in_free_list (item_of core queue item).whereabouts ≡ false = ap is_in_free_list in_hand_now in
    let short : length (queue_of core queue).free < length (queue_of core queue).items = list_has_room (queue_of core queue) is_in_free_list (queue_of core queue).free (holds.keeps.sound.held.queues queue).free item below_n off in
    let words' : List ℕ = set s.words (offset_of shape (slot_of shape queue Free place)) (entry_of (items_of shape queue) place item) in
    let link = made_step shape word (word_in shape words') (GiveItem v.seat queue item place) (sets reply_of shape s holds id v at v.works busy queue item place Free there mine may) core holds.shaped holds.keeps.sound holds.shows
    (record {
      role = (holds.views.there id v at).role;
      hand = in_hand_now;
      untagged = tag;
      low = omega (arith, may.low);
      vacant = vacant reply_of shape s holds id v at v.works busy queue item place Free there mine may;
    }) in
    let leaves : Leaves (word_in shape words') core (GiveItem v.seat queue item place) queue item InFreeList =
    record { link = link; leaves = give_leaves core v.seat queue item place; sets = sets_after_give core v.seat queue item place below_n; weightless = λ f i. refl } in
    puts reply_of shape s holds id v at v.works busy queue item place Free there mine may (GiveItem v.seat queue item place) InFreeList leaves
    (room_of (items_of shape queue) (ring_in word queue Free) (queue_of core queue).free (queue_of core queue).next_free
    (subst (λ (sh : Shape). ShowsList (items_of sh queue) (ring_of word queue FreeSide) (queue_of core queue).free (queue_of core queue).next_free) holds.shaped (holds.shows.free queue (subst (λ (sh : Shape). queue < queues_of sh) (sym holds.shaped) there.in_queues)))
    (omega (arith, short, sized reply_of shape s holds id v at v.works busy queue item place Free there mine may)))
    holds.armed (still reply_of shape s holds id v at v.works busy queue item place Free there mine may (GiveItem v.seat queue item place) InFreeList leaves refl tt) carried
