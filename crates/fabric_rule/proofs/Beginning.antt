-- The rule holds of a table that was just made.
use Rattle.std.proofs.Common.{ℕ, zero, suc, ◌+◌, ◌*◌, ◌^◌, ◌≡◌, ◌≤◌, ◌<◌, ◌==◌, inl, inr, cond, get_or, replicate, List, [], ◌∷◌, length, map, refl, sym, ap, ◌∙◌, subst, arith}
use Rattle.std.specs.Prelude.{None}
use Rattle.std.specs.List.{range_with_len}
use Rattle.std.proofs.lemmas.Bool.{cases_eq, cases_lt, eq-eqb, lt-ltb, ne_eqb}
use Rattle.std.proofs.lemmas.List.{get_or-replicate, get_or_past, length-replicate}
use mathlib.Core.Option.{some, some-ne-none}
use lib.ListN.{get_elem?}
use Rattle.atomic_table.specs.Table.{opening}
use Rattle.nncq_ring.specs.Notes.{AllNoted, RingPart}
use Rattle.nncq_ring.specs.Words.{logical_tail}
use Rattle.app_queue.specs.Arms.{Arm, WasArmed}
use Rattle.app_queue.specs.declared.side.Side.{Side}
use Rattle.app_queue.specs.declared.side.Side.TheVariants.{Free, Line}
use Rattle.carried_slots.proofs.FreeSlots.{free_first}
use Rattle.request_context.specs.declared.piece.Parcel.{Parcel}
use Rattle.unit_model.specs.Core.{blank, item_of, no_queue, no_seat, queue_of, seat_of}
use Rattle.unit_model.specs.Holding.{items_of}
use Rattle.unit_model.specs.Limits.{segment_chunks}
use Rattle.unit_model.specs.Opening.{fresh_queue, opened_core}
use Rattle.unit_model.specs.PartOrder.{Each}
use Rattle.unit_model.specs.Shapes.{IsValid, role_in}
use Rattle.unit_model.specs.Sharing.{Holds}
use Rattle.unit_model.specs.StreamCounts.{by_all, posted}
use Rattle.unit_model.specs.Weights.{weigh, is_number, times}
use Rattle.unit_model.specs.declared.machine.Core.{Core}
use Rattle.unit_model.specs.declared.machine.Item.{Item}
use Rattle.unit_model.specs.declared.machine.Owner.{Owner}
use Rattle.unit_model.specs.declared.machine.Owner.TheVariants.{Free as Unowned}
use Rattle.unit_model.specs.declared.machine.Queue.{Queue}
use Rattle.unit_model.specs.declared.machine.Seat.{Seat as SeatLists}
use Rattle.unit_model.specs.declared.shape.Shape.{Shape}
use Rattle.unit_model.proofs.PartOrderOthers.{in_order_at_first}
use Rattle.unit_model.proofs.RoleLists.{items_at_first, seats_at_first}
use Rattle.unit_model.proofs.SoundRuns.{sound_at_first}
use Rattle.unit_model.proofs.Views.{only_view}
use Rattle.unit_model.proofs.Weights.{below_none, times_in_range, times_off_range, weigh-map, weigh_below, weigh_none}
use Rattle.unit_types.specs.declared.message.Reply.{Reply}
use Rattle.unit_types.specs.declared.message.Request.{Request}
use Rattle.fabric_words.specs.Offsets.{width_of, word_in}
use Rattle.fabric_words.specs.Opened.{IsOpened}
use Rattle.fabric_words.specs.Places.{map_of, queues_of, segments_of}
use Rattle.fabric_words.specs.Shown.{Shows}
use Rattle.fabric_words.specs.declared.place.Place.{Place}
use Rattle.fabric_words.proofs.Opened.{opened_shows}
use Rattle.fabric_rule.specs.Opening.{first_view, fresh_ledger}
use Rattle.fabric_rule.specs.Parts.{IsIdle, IsOfFabric, IsTrueLedger, KeptAreWorn, OpensNoted, RecordsKnown, ShowsLists, ShowsWorks, hand_weight, owner_weight}
use Rattle.fabric_rule.specs.Rule.{NotesAreTrue, ViewsShow}
use Rattle.fabric_rule.specs.Seats.{IsOpening, OpensLaw}
use Rattle.fabric_rule.specs.Views.{arms_at, draw_weight, emptied_by, held_at, lists_at, log_at, opens_at, popped_at, ring_in, take_weight}
use Rattle.fabric_rule.specs.declared.view.FabricView.{FabricView}
use Rattle.fabric_rule.specs.declared.view.Ledger.{Ledger}
use Rattle.fabric_rule.proofs.Hands.{nothing_of}

-- of a list of one value, what stands where nothing stands is that value
the_same : {X : Type 0} (n i : ℕ) (x : X) → get_or (replicate n x) i x ≡ x
the_same n i x =
    elim (cases_lt i n) [
      | inl inside ↦ get_or-replicate n i x x inside
      | inr past ↦ get_or_past (replicate n x) i x (omega (arith, length-replicate n x))
    ]

each_map : {X Y : Type 0} (P : Y → Type 0) (f : X → Y) (xs : List X) → ((x : X) → P (f x)) → Each P (map f xs)
each_map P f [] so = tt
each_map P f (x ∷ xs) so = (so x, each_map P f xs so)

-- ---- the core

queue_there : (shape : Shape) (queue : ℕ) → queue < queues_of shape → queue_of (opened_core shape) queue ≡ fresh_queue shape.start (items_of shape queue)
queue_there shape zero there = refl
queue_there shape (suc e) there =
    let back : items_of shape (suc e) ≡ shape.back_items = rw (ne_eqb (suc e) 0 (omega arith)) refl in
    get_or-replicate shape.engines e (fresh_queue shape.start shape.back_items) no_queue (omega (arith, there)) ∙ ap (fresh_queue shape.start) (sym back)

item_there : (shape : Shape) (queue item : ℕ) → queue < queues_of shape → item_of (opened_core shape) queue item ≡ blank
item_there shape queue item there = ap (λ (k : Queue). get_or k.items item blank) (queue_there shape queue there) ∙ the_same (items_of shape queue) item blank

seat_there : (shape : Shape) (seat : ℕ) → seat_of (opened_core shape) seat ≡ no_seat
seat_there shape seat = the_same (shape.engines + shape.workers) seat no_seat

none_posted : (shape : Shape) (stream : ℕ) → by_all posted (opened_core shape) stream ≡ 0
none_posted shape stream =
    let f : SeatLists → ℕ = λ lists. times stream lists.posted in
    let n : ℕ = length (opened_core shape).seats in
    weigh_below f (opened_core shape).seats no_seat ∙ below_none (λ k. f (get_or (opened_core shape).seats k no_seat)) n (λ k lt. ap f (seat_there shape k))

few_items : (shape : Shape) → IsValid shape → (queue : ℕ) → shape.start + items_of shape queue ≤ 2 ^ 62
few_items shape valid queue =
    elim (cases_eq queue 0) [
      | inl line ↦ let is : items_of shape queue ≡ shape.items = rw (eq-eqb queue 0 line) refl in omega (arith, is, valid.items.1, valid.room_behind)
      | inr back ↦ let is : items_of shape queue ≡ shape.back_items = rw (ne_eqb queue 0 back) refl in omega (arith, is, valid.back_items.1, valid.room_behind)
    ]

-- ---- the first view

module _ (shape : Shape) (words : List ℕ) (valid : IsValid shape) (wide : width_of shape ≤ length words) (opened : IsOpened shape (word_in shape words)) where
  abbrev word : Place → ℕ
  word = word_in shape words

  abbrev core : Core
  core = opened_core shape

  abbrev first : FabricView
  first = first_view shape

  abbrev views : List FabricView
  views = first ∷ []

  abbrev numbered : List ℕ
  numbered = range_with_len 0 (shape.engines + shape.workers)

  abbrev nothing : ℕ → List ℕ
  nothing key = []

  shows : Shows word core
  shows = opened_shows shape word valid opened

  none_held : (k : ℕ) (v : FabricView) → get_elem? views k ≡ some v → (queue item : ℕ) → Holds (held_at queue) item v → ⊥
  none_held k v at queue item mine = let none : held_at queue (is_number item) v ≡ 0 = sym (ap (held_at queue (is_number item)) (only_view first v k at)) in absurd (omega (arith, mine, none))

  none_armed : (queue : ℕ) (a : Arm) → WasArmed (arms_at queue) views a → ⊥
  none_armed queue a (k, v, at, j, here) = absurd (some-ne-none a (sym (subst (λ (y : FabricView). get_elem? (arms_at queue y) j ≡ some a) (sym (only_view first v k at)) here)))

  ring_part : (queue : ℕ) → queue < queues_of shape → (side : Side) → RingPart (items_of shape queue) (log_at queue side) (ring_in word queue side) views
  ring_part queue lt Free = record { fine = (shows.free queue lt).fine; noted = λ k v at. subst (λ (y : FabricView). AllNoted (items_of shape queue) (ring_in word queue Free) (log_at queue Free y)) (only_view first v k at) tt }
  ring_part queue lt Line = record { fine = (shows.line queue lt).fine; noted = λ k v at. subst (λ (y : FabricView). AllNoted (items_of shape queue) (ring_in word queue Line) (log_at queue Line y)) (only_view first v k at) tt }

  ring_low : (queue : ℕ) → queue < queues_of shape → (side : Side) → logical_tail (items_of shape queue) (ring_in word queue side) ≤ 2 ^ 62
  ring_low queue lt Free = let end = ap (λ (k : Queue). k.next_free) (queue_there shape queue lt) in omega (arith, end, (shows.free queue lt).behind, few_items shape valid queue)
  ring_low queue lt Line = let end = ap (λ (k : Queue). k.next_line) (queue_there shape queue lt) in omega (arith, end, (shows.line queue lt).behind, few_items shape valid queue)

  notes : NotesAreTrue shape word views
  notes = record {
    rings = record { rings = ring_part; worn = ring_low };
    tags = λ q lt k v at i below_n mine. absurd (none_held k v at q i mine);
    kept_tags = λ q lt k v at i below_n mine. absurd (none_held k v at q i mine);
    runs = λ q lt k v at i below_n mine. absurd (none_held k v at q i mine);
    parts = λ q lt k v at i below_n mine. absurd (none_held k v at q i mine);
    arms = λ q lt. record {
      below = λ a was. absurd (none_armed q a was);
      once = λ i p. omega arith;
      standing = λ i below_n some_tag. absurd (some_tag (opened.tag q i (record { in_queues = lt; in_items = below_n })));
      fresh = λ k v at i below_n mine. absurd (none_held k v at q i mine);
    };
  }

  -- ---- its lists

  lists_once : (key : ℕ) → lists_at key first ≡ times key numbered
  lists_once key = weigh-map (λ (c : Ledger). is_number key c.seat) fresh_ledger numbered

  at_most_once : (key : ℕ) → lists_at key first ≤ 1
  at_most_once key =
      elim (cases_lt key (shape.engines + shape.workers)) [
        | inl lt ↦ omega (arith, lists_once key, times_in_range key 0 (shape.engines + shape.workers) (omega arith) (omega (arith, lt)))
        | inr le ↦ omega (arith, lists_once key, times_off_range key 0 (shape.engines + shape.workers) (inr (omega (arith, le))))
      ]

  true_ledger : (seat : ℕ) → IsTrueLedger core nothing (fresh_ledger seat)
  true_ledger seat = record { lists = sym (seat_there shape seat); refused = tt; popped_item = λ engine. refl }

  none_open : (number : ℕ) → opens_at number first ≡ 0
  none_open number = weigh-map (λ (c : Ledger). cond (c.seat == number) c.opened_works 0) fresh_ledger numbered ∙ weigh_none (λ k. cond {A = ℕ} (k == number) 0 0) numbered (λ k. nothing_of (k == number) 0 refl)

  none_popped : (queue : ℕ) (f : ℕ → ℕ) → popped_at shape queue f first ≡ 0
  none_popped queue f =
      weigh-map (λ (c : Ledger). cond (emptied_by shape c.seat == queue) (weigh f c.popped) 0) fresh_ledger numbered
      ∙ weigh_none (λ k. cond {A = ℕ} (emptied_by shape k == queue) 0 0) numbered (λ k. nothing_of (emptied_by shape k == queue) 0 refl)

  some_engine : role_in shape 0 ≤ 1
  some_engine = rw (lt-ltb 0 shape.engines (omega (arith, valid.engines.0))) (omega arith)

  shown : ViewsShow shape word nothing nothing nothing core views
  shown = record {
    there = λ k v at. subst (λ (y : FabricView). IsOfFabric core y) (only_view first v k at) (record { shape = refl; role = some_engine });
    items = λ q lt f. sym (below_none (λ i. hand_weight f (item_of core q i).whereabouts i) (items_of shape q) (λ i below_n. ap (λ (it : Item). hand_weight f it.whereabouts i) (item_there shape q i lt)));
    chunks = λ f. sym (below_none (λ k. owner_weight f (get_or core.owners k Unowned) k) (segment_chunks * segments_of shape) (λ k lt. ap (λ (o : Owner). owner_weight f o k) (the_same (segment_chunks * segments_of shape) k Unowned)));
    opens = λ k v at. subst (λ (y : FabricView). OpensNoted core y) (only_view first v k at) (record { out = omega arith; back = omega arith });
    posts = λ stream. sym (none_posted shape stream);
    streams = λ q i there. ap (λ (it : Item). it.stream) (item_there shape q i there.in_queues);
    records_known = λ k v at. subst (λ (y : FabricView). RecordsKnown core nothing y) (only_view first v k at) tt;
    records_there = λ stream was. absurd (omega (arith, was, none_posted shape stream));
    lists = record {
      once = λ key. omega (arith, at_most_once key);
      each = λ key k v at has. subst (λ (y : FabricView). ShowsLists core nothing key y) (only_view first v k at)
          (each_map (λ (c : Ledger). c.seat ≡ key → IsTrueLedger core nothing c) fresh_ledger numbered (λ seat is. true_ledger seat));
    };
    lists_there = λ number lt. omega (arith, lists_once number, times_in_range number 0 (shape.engines + shape.workers) (omega arith) (omega (arith, lt)));
    works = record {
      draws = record { once = λ key. omega arith; each = λ key k v at has. subst (λ (y : FabricView). ShowsWorks draw_weight core nothing key y) (only_view first v k at) tt };
      takes = record { once = λ key. omega arith; each = λ key k v at has. subst (λ (y : FabricView). ShowsWorks take_weight core nothing key y) (only_view first v k at) tt };
    };
    counted = λ number. omega (arith, none_open number, nothing_of (0 == number) 0 refl);
    idle = λ k v at. subst (λ (y : FabricView). IsIdle shape y) (only_view first v k at) (λ none. record { chunks = refl; items = λ q f. sym (none_popped q f) });
    in_work = λ engine stream awaits. absurd (omega (arith, awaits.was_posted, ap (λ (l : SeatLists). times stream l.posted) (seat_there shape engine)));
    kept = λ k v at. subst (λ (y : FabricView). KeptAreWorn core (ring_in word) y) (only_view first v k at) tt;
  }

  opens : (H : Type 0) (reply_of : List ℕ → Request → Reply) → IsOpening {H = H} reply_of shape (opening words (replicate (segment_chunks * segments_of shape) None) first)
  opens H reply_of = record {
    holds = record {
      wide = wide;
      core = core;
      popped = nothing;
      armed = nothing;
      records = nothing;
      shaped = refl;
      keeps = record { sound = sound_at_first shape valid; items = items_at_first shape valid; seats = seats_at_first shape; order = in_order_at_first shape };
      shows = shows;
      notes = notes;
      views = shown;
      free = free_first {T = Parcel H} (segment_chunks * segments_of shape) (map_of word);
      filled = λ q i there armed. absurd (armed (ap (λ (it : Item). it.tag) (item_there shape q i there.in_queues)));
    };
    is = refl;
  }

pub opens_law : (H : Type 0) → OpensLaw H
opens_law H reply_of shape words valid wide opened = opens shape words valid wide opened H reply_of
