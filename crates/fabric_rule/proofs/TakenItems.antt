-- A seat takes the first item of a ring: what is noted of rings and items then.
use Rattle.std.proofs.Common.{ℕ, ⊎_elim, ◌+◌, ◌/◌, ◌%◌, ◌≡◌, ◌≢◌, ◌≤◌, ◌<◌, ◌⊎◌, ◌==◌, ◌&&◌, inl, inr, Bool, true, false, cond, List, [], ◌∷◌, set, refl, sym, ap, ◌∙◌, subst, arith, mod-lt, Some, None}
use Rattle.std.specs.Prelude.{Option}
use Rattle.std.proofs.lemmas.Bool.{cases_eq, eq-eqb, ne_eqb}
use mathlib.Core.Option.{some}
use lib.ListN.{get_elem?}
use Rattle.atomic_table.specs.Table.{State}
use Rattle.nncq_ring.specs.Notes.{EntryNoted, RingPart}
use Rattle.nncq_ring.specs.Words.{Words, SetsHead}
use Rattle.nncq_ring.specs.declared.view.RingEvent.{RingEvent}
use Rattle.nncq_ring.specs.declared.view.RingEvent.TheVariants.{SawEntry, Popped}
use Rattle.nncq_ring.proofs.Exchanges.{popped_tail}
use Rattle.nncq_ring.proofs.Noting.{may_take}
use Rattle.nncq_ring.proofs.RingParts.{note_at, part_pops}
use Rattle.app_queue.specs.Parts.{RingParts}
use Rattle.app_queue.specs.Arms.{ArmsPlaced}
use Rattle.app_queue.specs.Views.{last_tag, last_run, last_part, tag_got}
use Rattle.app_queue.specs.declared.side.Side.{Side}
use Rattle.app_queue.specs.declared.side.Side.TheVariants.{Free}
use Rattle.app_queue.specs.declared.view.ItemEvent.{ItemEvent}
use Rattle.app_queue.specs.declared.view.ItemEvent.TheVariants.{Taken}
use Rattle.app_queue.proofs.KnownFrames.{tags_known_one, words_known_one}
use Rattle.app_queue.proofs.QueueViews.{told_else, told_here}
use Rattle.app_queue.proofs.RingFrames.{rings_step}
use Rattle.request_context.specs.declared.piece.Parcel.{Parcel}
use Rattle.unit_model.specs.Core.{item_of}
use Rattle.unit_model.specs.Holding.{items_of}
use Rattle.unit_model.specs.Sharing.{Holds}
use Rattle.unit_model.specs.Weights.{weigh, below, is_number, one_if}
use Rattle.unit_model.specs.declared.machine.Core.{Core}
use Rattle.unit_model.specs.declared.machine.Item.{Item}
use Rattle.unit_model.specs.declared.machine.Whereabouts.{Whereabouts}
use Rattle.unit_model.specs.declared.machine.Whereabouts.TheVariants.{InFreeList, InLine, WithSeat}
use Rattle.unit_model.specs.declared.shape.Shape.{Shape}
use Rattle.unit_model.proofs.ItemChanges.{SetsItem, item_here}
use Rattle.unit_model.proofs.Views.{sum_at}
use Rattle.unit_model.proofs.Weights.{below_none, is_number_other}
use Rattle.unit_types.specs.declared.message.Reply.{Reply}
use Rattle.unit_types.specs.declared.message.Request.{Request}
use Rattle.fabric_words.specs.Needs.{IsFirst}
use Rattle.fabric_words.specs.Offsets.{offset_of, word_in}
use Rattle.fabric_words.specs.Places.{Sets, queues_of}
use Rattle.fabric_words.specs.declared.place.Place.{Place}
use Rattle.fabric_words.specs.declared.place.Place.TheVariants.{Head, Tail, Slot, Tag}
use Rattle.fabric_words.proofs.Frames.{ring_stays}
use Rattle.fabric_words.proofs.Standing.{set_word}
use Rattle.fabric_rule.specs.Logs.{own_log}
use Rattle.fabric_rule.specs.Parts.{ItemsHeld, hand_weight}
use Rattle.fabric_rule.specs.Rule.{FabricHolds, NotesAreTrue}
use Rattle.fabric_rule.specs.Views.{arms_at, got_at, hand_at, held_at, is_got, is_side, item_log, log_at, part_in, part_said, queues_in, ring_in, run_in, run_said, tag_in, tag_kept, tag_said, word_side, words_in}
use Rattle.fabric_rule.specs.declared.event.FabricEvent.TheVariants.{AtRing}
use Rattle.fabric_rule.specs.declared.view.FabricView.{FabricView}
use Rattle.fabric_rule.specs.declared.view.HeldItem.{HeldItem}
use Rattle.fabric_rule.specs.declared.view.Ledger.{Ledger}
use Rattle.fabric_rule.proofs.Hands.{nothing_of}
use Rattle.fabric_rule.proofs.ItemNotes.{ItemsStill, still_beside}
use Rattle.fabric_rule.proofs.Logs.{off_ring, other_log}
use Rattle.fabric_rule.proofs.Frames.{item_moves}
use Rattle.fabric_rule.proofs.Staying.{unchanged}

-- ---- an item that no seat has is in no view

hand_none : (item i : ℕ) (w : Whereabouts) → ((i ≡ item) → hand_weight (λ seat j. is_number item j) w i ≡ 0) → hand_weight (λ seat j. is_number item j) w i ≡ 0
hand_none item i InFreeList away = refl
hand_none item i InLine away = refl
hand_none item i (WithSeat k) away =
    elim (cases_eq i item) [
      | inl same ↦ away same
      | inr other ↦ is_number_other item i other
    ]

pub not_in_hand : (core : Core) (views : List FabricView) (id : ℕ) (v : FabricView) → get_elem? views id ≡ some v → ItemsHeld core views → (queue item : ℕ) → queue < queues_of core.shape
    → ((f : ℕ → ℕ → ℕ) → hand_weight f (item_of core queue item).whereabouts item ≡ 0) → held_at queue (is_number item) v ≡ 0
not_in_hand core views id v at held queue item lt away =
    let f : ℕ → ℕ → ℕ = λ seat j. is_number item j in
    let none : below (λ i. hand_weight f (item_of core queue i).whereabouts i) (items_of core.shape queue) ≡ 0 =
    below_none (λ i. hand_weight f (item_of core queue i).whereabouts i) (items_of core.shape queue)
    (λ i below_n. hand_none item i (item_of core queue i).whereabouts (λ same. subst (λ (j : ℕ). hand_weight f (item_of core queue j).whereabouts j ≡ 0) (sym same) (away f))) in
    omega (arith, held queue lt f, none, sum_at (hand_at queue f) views id v at)

-- an item that was got is held
got_below : (queue item place : ℕ) (h : HeldItem) → is_got queue item place h ≤ cond (h.queue == queue) (is_number item h.item) 0
got_below queue item place h = by (is_side h.side Free) (h.queue == queue) (h.item == item) (h.place == place)
  where
    by : (a b c d : Bool) → one_if (a && (b && (c && d))) ≤ cond b (one_if c) 0
    by false false c d = omega arith
    by false true false d = omega arith
    by false true true d = omega arith
    by true false c d = omega arith
    by true true false d = omega arith
    by true true true false = omega arith
    by true true true true = omega arith

pub got_held : (queue item place : ℕ) (items : List HeldItem) → weigh (is_got queue item place) items ≤ weigh (λ (h : HeldItem). cond (h.queue == queue) (is_number item h.item) 0) items
got_held queue item place [] = omega arith
got_held queue item place (h ∷ hs) = omega (arith, got_below queue item place h, got_held queue item place hs)

-- ---- the step

module _ {H : Type 0} (reply_of : List ℕ → Request → Reply) (shape : Shape) (s : State (Option (Parcel H)) FabricView) (holds : FabricHolds reply_of shape s) (id : ℕ) (v : FabricView) (at : get_elem? s.views id ≡ some v)
    (queue : ℕ) (first_queue : queue < queues_of shape) (side : Side) (place entry : ℕ) (saw : get_elem? (log_at queue side v) 0 ≡ some (SawEntry place entry)) (full : entry / items_of shape queue ≡ place / items_of shape queue)
    (found : word_in shape s.words (Head queue (word_side side)) ≡ place) (ledgers : List Ledger) where
  abbrev n : ℕ
  n = items_of shape queue

  abbrev item : ℕ
  item = entry % n

  -- a main seat may note in its lists that it popped the item
  abbrev u : FabricView
  u = record v { ledgers = ledgers; items = (record { queue = queue; side = side; item = item; place = place }) ∷ v.items; log = AtRing queue side (Popped place item) ∷ v.log }

  abbrev word : Place → ℕ
  word = word_in shape s.words

  abbrev word' : Place → ℕ
  word' = word_in shape (set s.words (offset_of shape (Head queue (word_side side))) (place + 1))

  abbrev w : Words
  w = ring_in word queue side

  pub sets : Sets shape word word' (Head queue (word_side side)) (place + 1)
  sets = set_word shape s.words (Head queue (word_side side)) (place + 1) holds.wide first_queue

  part : RingPart n (log_at queue side) w s.views
  part = holds.notes.rings.rings queue first_queue side

  noted : EntryNoted n w place entry
  noted = note_at n w (log_at queue side v) 0 (SawEntry place entry) saw (part.noted id v at)

  pub is_first : IsFirst n w place item
  is_first =
      let there = may_take n place entry w found full noted in
      record {
        head = found;
        full = subst (λ (p : ℕ). w.entry (p % n) / n ≡ p / n) found there.1;
        has = ap (λ (p : ℕ). w.entry (p % n) % n) (sym found) ∙ ap (λ (y : ℕ). y % n) there.0;
      }

  head_sets : SetsHead n w (ring_in word' queue side) (w.head + 1)
  head_sets = record {
    head = sets.here ∙ ap (λ (m : ℕ). m + 1) (sym found);
    tail = sets.others (Tail queue (word_side side)) first_queue (λ is. absurd (cc is));
    entries = λ j lt. sets.others (Slot queue (word_side side) j) (record { in_queues = first_queue; in_items = lt }) (λ is. absurd (cc is));
  }

  rings' : RingParts log_at (queues_in shape) (ring_in word') (set s.views id u)
  rings' =
      let e : RingEvent = Popped place item in
      let full_now = may_take n place entry w found full noted in
      rings_step FabricView log_at (queues_in shape) (ring_in word) (ring_in word') s.views id v u at queue side
      (λ r lt other apart. ring_stays shape word word' (Head queue (word_side side)) (place + 1) sets r (word_side other) lt (off_ring queue side r other apart))
      (λ r lt other apart. other_log queue side e v.log r other apart)
      (part_pops n (log_at queue side) w s.views id v at part (ring_in word' queue side) u place entry item 0 saw full found (own_log queue side e v.log) head_sets)
      (omega (arith, holds.notes.rings.worn queue first_queue side, popped_tail n w (ring_in word' queue side) part.fine full_now.1 head_sets))
      holds.notes.rings

  -- what is held was held, but for the item
  pub was_held : (r i : ℕ) → (r ≢ queue) ⊎ (i ≢ item) → Holds (held_at r) i u → Holds (held_at r) i v
  was_held r i apart held =
      let none : cond {A = ℕ} (queue == r) (is_number i item) 0 ≡ 0 =
      ⊎_elim (λ ne. ap (λ (b : Bool). cond {A = ℕ} b (is_number i item) 0) (ne_eqb queue r (λ is. ne (sym is)))) (λ ne. nothing_of (queue == r) (is_number i item) (is_number_other i item (λ is. ne (sym is)))) apart in
      omega (arith, held, none)

  pub same_events : (r : ℕ) → r ≢ queue → item_log r u.log ≡ item_log r v.log
  same_events r ne = ap (λ (b : Bool). cond b (Taken side item place ∷ item_log r v.log) (item_log r v.log)) (ne_eqb queue r (λ is. ne (sym is)))

  pub own_events : item_log queue u.log ≡ Taken side item place ∷ item_log queue v.log
  own_events = ap (λ (b : Bool). cond b (Taken side item place ∷ item_log queue v.log) (item_log queue v.log)) (eq-eqb queue queue refl)

  -- of other items is said what was
  was_said : (says : ℕ → List ItemEvent → Option ℕ) (first : Option ℕ) → ((i : ℕ) (es : List ItemEvent) → says i (Taken side item place ∷ es) ≡ cond (item == i) first (says i es)) → (r i : ℕ) → (r ≢ queue) ⊎ (i ≢ item) → (x : ℕ) → says i (item_log r u.log) ≡ Some x → says i (item_log r v.log) ≡ Some x
  was_said says first taken r i apart x told =
      elim (cases_eq r queue) [
        | inl is ↦ ⊎_elim
            (λ ne. absurd (ne is))
            (λ ne.
            let here : says i (item_log queue u.log) ≡ Some x = subst (λ (q : ℕ). says i (item_log q u.log) ≡ Some x) is told in
            let before : says i (item_log queue v.log) ≡ Some x = told_else item i first (says i (item_log queue v.log)) x ne (sym (taken i (item_log queue v.log)) ∙ sym (ap (says i) own_events) ∙ here) in
            subst (λ (q : ℕ). says i (item_log q v.log) ≡ Some x) (sym is) before)
            apart
        | inr ne ↦ subst (λ (es : List ItemEvent). says i es ≡ Some x) (same_events r ne) told
      ]

  -- of the one that was taken this is said, where it is anything
  said_first : (says : ℕ → List ItemEvent → Option ℕ) (first : Option ℕ) → ((i : ℕ) (es : List ItemEvent) → says i (Taken side item place ∷ es) ≡ cond (item == i) first (says i es)) → (x : ℕ) → says item (item_log queue u.log) ≡ Some x → first ≡ Some x
  said_first says first taken x told = told_here item first (says item (item_log queue v.log)) x (sym (taken item (item_log queue v.log)) ∙ sym (ap (says item) own_events) ∙ told)

  nothing : (x : ℕ) → None ≡ Some x → ⊥
  nothing x is = absurd (cc is)

  pub still : ItemsStill shape word word'
  still = still_beside shape word word' (Head queue (word_side side)) (place + 1) sets (λ q i. ((λ is. absurd (cc is)), (λ is. absurd (cc is)), (λ is. absurd (cc is))))

  -- what is known of the tag of an item from this ring is so
  pub items_taken : ((x : ℕ) → tag_got side ≡ Some x → word (Tag queue item) ≡ x) → ArmsPlaced arms_at held_at got_at (queues_in shape) (words_in word') (set s.views id u) → NotesAreTrue shape word' (set s.views id u)
  items_taken tag_is arms =
      let tag_now : (x : ℕ) → tag_said queue u item x → word' (Tag queue item) ≡ x = λ x told.
      still.tags queue first_queue item (mod-lt entry part.fine.size) ∙ tag_is x (said_first last_tag (tag_got side) (λ j es. refl) x told) in
      record {
        rings = rings';
        tags = tags_known_one FabricView tag_said held_at (queues_in shape) (tag_in word) (tag_in word') s.views id v u at still.tags queue item
            (λ r i lt apart mine. (was_held r i apart mine, was_said last_tag (tag_got side) (λ j es. refl) r i apart)) (λ x told. inl (tag_now x told)) holds.notes.tags;
        kept_tags = words_known_one FabricView (tag_kept shape) held_at (queues_in shape) (tag_in word) (tag_in word') s.views id v u at still.tags queue item
            (λ r i lt apart mine. (was_held r i apart mine, λ x told. (was_said last_tag (tag_got side) (λ j es. refl) r i apart x told.0, told.1))) (λ x told. tag_now x told.0) holds.notes.kept_tags;
        runs = words_known_one FabricView run_said held_at (queues_in shape) (run_in word) (run_in word') s.views id v u at still.runs queue item
            (λ r i lt apart mine. (was_held r i apart mine, was_said last_run None (λ j es. refl) r i apart)) (λ x told. absurd (nothing x (said_first last_run None (λ j es. refl) x told))) holds.notes.runs;
        parts = words_known_one FabricView part_said held_at (queues_in shape) (part_in word) (part_in word') s.views id v u at still.parts queue item
            (λ r i lt apart mine. (was_held r i apart mine, was_said last_part None (λ j es. refl) r i apart)) (λ x told. absurd (nothing x (said_first last_part None (λ j es. refl) x told))) holds.notes.parts;
        arms = arms;
      }

  -- it comes to the seat
  pub item_comes : (core' : Core) → core'.shape ≡ holds.core.shape → item < items_of holds.core.shape queue → SetsItem holds.core core' queue item (record (item_of holds.core queue item) { whereabouts = WithSeat v.seat })
      → ((f : ℕ → ℕ → ℕ) → hand_weight f (item_of holds.core queue item).whereabouts item ≡ 0) → ItemsHeld core' (set s.views id u)
  item_comes core' same inside changed away =
      let now : Item = record (item_of holds.core queue item) { whereabouts = WithSeat v.seat } in
      let is : (f : ℕ → ℕ → ℕ) → hand_weight f (item_of core' queue item).whereabouts item ≡ f v.seat item = λ f. ap (λ (x : Item). hand_weight f x.whereabouts item) (item_here holds.core core' queue item now changed) in
      item_moves holds.core core' s.views id v u at same queue item inside (λ q i apart. ap (λ (x : Item). x.whereabouts) (unchanged holds.core core' queue item now changed q i apart))
      (λ f. omega (arith, away f, is f, ap (λ (b : Bool). cond {A = ℕ} b (f v.seat item) 0) (eq-eqb queue queue refl)))
      (λ q f ne. let none : cond {A = ℕ} (queue == q) (f v.seat item) 0 ≡ 0 = ap (λ (b : Bool). cond {A = ℕ} b (f v.seat item) 0) (ne_eqb queue q (λ is_queue. ne (sym is_queue))) in omega (arith, none))
      holds.views.items
