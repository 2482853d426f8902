-- The words and the holdings say the whole core.
use Rattle.std.proofs.Common.{ℕ, zero, suc, ◌+◌, ◌*◌, ◌≡◌, ◌≢◌, ◌<◌, ◌≤◌, nat_lt, ◌⊎◌, inl, inr, true, List, [], ◌∷◌, length, get_or, map, refl, sym, ap, subst, ap₂, ◌∙◌, arith}
use Rattle.std.specs.List.{range_with_len}
use Rattle.std.proofs.lemmas.Bool.{and_parts, cases_Bool, cases_eq, le-leb, leb-true, lt-ltb, ltb-true, ne_eqb, eq-eqb}
use Rattle.port_message.specs.Words.{numbers_of}
use Rattle.unit_model.specs.Core.{blank, no_queue, queue_of, item_of, owner_of}
use Rattle.unit_model.specs.Holding.{HasItsItems, IsArmed, IsInRun, entries_of, is_in_free_list, is_in_line, items_of}
use Rattle.unit_model.specs.Soundness.{IsSound}
use Rattle.unit_model.specs.Weights.{one_if}
use Rattle.unit_model.specs.declared.machine.Core.{Core}
use Rattle.unit_model.specs.declared.machine.Entry.{Entry}
use Rattle.unit_model.specs.declared.machine.Item.{Item}
use Rattle.unit_model.specs.declared.machine.Owner.{Owner}
use Rattle.unit_model.specs.declared.machine.Owner.TheVariants.{Free, Seat, Message}
use Rattle.unit_model.specs.declared.machine.Queue.{Queue}
use Rattle.unit_model.specs.declared.machine.Seat.{Seat as SeatLists}
use Rattle.unit_model.specs.declared.machine.Sides.{Sides}
use Rattle.unit_model.specs.declared.machine.Whereabouts.{Whereabouts}
use Rattle.unit_model.specs.declared.machine.Whereabouts.TheVariants.{InFreeList, InLine, WithSeat}
use Rattle.unit_model.specs.declared.runs.Run.{Run}
use Rattle.unit_model.proofs.HeldItems.{counts_at}
use Rattle.unit_model.proofs.Presence.{item_is_there}
use Rattle.unit_model.proofs.StreamPoints.{armed_inside}
use Rattle.fabric_words.specs.CoreOf.{AreHoldingsOf, EachHasHoldings, Holdings, ShownIsCoreOf, core_of, entries_in, is_in_message, is_in_run, item_from, message_of_item, message_of_queue, owner_from, queue_from, seat_owning, seat_with, stream_of, where_is}
use Rattle.fabric_words.specs.Places.{HasItem, queues_of, segments_of}
use Rattle.fabric_words.specs.Shown.{Shows, is_owned_by_none}
use Rattle.fabric_words.specs.declared.place.Place.{Place}
use Rattle.fabric_words.specs.declared.place.Place.TheVariants.{Tag, RunWord}
use Rattle.fabric_words.specs.declared.place.Side.TheVariants.{FreeSide, LineSide}

-- ---- lists

-- a list is what it has at each index
list_is : {X : Type 0} (f : ℕ → X) (d : X) (xs : List X) (from n : ℕ) → length xs ≡ n → ((i : ℕ) → i < n → get_or xs i d ≡ f (from + i)) → xs ≡ map f (range_with_len from n)
list_is f d [] from zero long at = refl
list_is f d [] from (suc n) long at = absurd (omega (arith, long))
list_is f d (x ∷ xs) from zero long at = absurd (omega (arith, long))
list_is {X = X} f d (x ∷ xs) from (suc n) long at =
    let start : from + 0 ≡ from = omega arith in
    ap₂ (λ (y : X) (ys : List X). y ∷ ys) (at 0 (omega arith) ∙ ap f start)
    (list_is f d xs (from + 1) n (omega (arith, long)) (λ i lt. let next : from + suc i ≡ (from + 1) + i = omega arith in at (suc i) (omega (arith, lt)) ∙ ap f next))

all_is : {X : Type 0} (f : ℕ → X) (d : X) (xs : List X) (n : ℕ) → length xs ≡ n → ((i : ℕ) → i < n → get_or xs i d ≡ f i) → xs ≡ map f (range_with_len 0 n)
all_is f d xs n long at = list_is f d xs 0 n long (λ i lt. let same : i ≡ 0 + i = omega arith in at i lt ∙ ap f same)

-- ---- items

where_right : (w : Whereabouts) (item seat : ℕ) (free line : List Entry) → entries_of item free ≡ one_if (is_in_free_list w) → entries_of item line ≡ one_if (is_in_line w) → ((k : ℕ) → w ≡ WithSeat k → seat ≡ k) → w ≡ where_is item free line seat
where_right InFreeList item seat free line in_free in_line with_seat = rw in_free refl
where_right InLine item seat free line in_free in_line with_seat = rw in_free (rw in_line refl)
where_right (WithSeat k) item seat free line in_free in_line with_seat =
    rw in_free (rw in_line (ap WithSeat (sym (with_seat k refl))))

stream_right : (tag stream told : ℕ) → (tag ≢ 0 → tag ≡ stream) → (tag ≡ 0 → told ≡ stream) → stream ≡ stream_of tag told
stream_right tag stream told tagged untagged =
    elim (cases_eq tag 0) [
      | inl none ↦ rw (eq-eqb tag 0 none) (sym (untagged none))
      | inr some ↦ rw (ne_eqb tag 0 some) (sym (tagged some))
    ]

module _ (word : Place → ℕ) (core : Core) (holdings : Holdings) (sound : IsSound core) (shows : Shows word core) (are : AreHoldingsOf core holdings) where
  there : (q i : ℕ) → HasItem core.shape q i → i < length (queue_of core q).items
  there q i has = omega (arith, has.in_items, sound.held.shape.items q has.in_queues)

  is_where : (q i : ℕ) → HasItem core.shape q i → (item_of core q i).whereabouts ≡ where_is i (entries_in core.shape word q FreeSide) (entries_in core.shape word q LineSide) (holdings.holder q i)
  is_where q i has =
      let queue : Queue = queue_of core q in
      let items : HasItsItems (core.shape.engines + core.shape.workers) queue = sound.held.queues q in
      rw (shows.free q has.in_queues).list (rw (shows.line q has.in_queues).list
      (where_right (item_of core q i).whereabouts i (holdings.holder q i) queue.free queue.line (counts_at is_in_free_list queue.items queue.free i (there q i has) items.free) (counts_at is_in_line queue.items queue.line i (there q i has) items.line) (λ k is. are.holder q i k has is)))

  item_is : (q i : ℕ) → HasItem core.shape q i → item_of core q i ≡ item_from core.shape word holdings q i
  item_is q i has =
      let old : Item = item_of core q i in
      let new : Item = item_from core.shape word holdings q i in
      let shown = shows.items q i has in
      let stream : old.stream ≡ new.stream = rw shown.tag (stream_right old.tag old.stream (holdings.stream q i) ((sound.held.queues q).tags i) (are.stream q i has)) in
      ap₂ (λ (tag part : ℕ). record old { tag = tag; part = part }) (sym shown.tag) (sym shown.part)
      ∙ ap₂ (λ (run : Run) (s : ℕ). record old { tag = new.tag; part = new.part; run = run; stream = s }) (sym shown.run) stream
      ∙ ap (λ (w : Whereabouts). record new { whereabouts = w }) (is_where q i has)

  queue_is : (q : ℕ) → q < queues_of core.shape → queue_of core q ≡ queue_from core.shape word holdings q
  queue_is q has =
      let old : Queue = queue_of core q in
      let new : Queue = queue_from core.shape word holdings q in
      let items : old.items ≡ new.items = all_is (item_from core.shape word holdings q) blank old.items (items_of core.shape q) (sound.held.shape.items q has) (λ i lt. item_is q i (record { in_queues = has; in_items = lt })) in
      ap₂ (λ (entries : List Entry) (next : ℕ). record old { free = entries; next_free = next }) (sym (shows.free q has).list) (sym (shows.free q has).behind)
      ∙ ap₂ (λ (entries : List Entry) (next : ℕ). record old { free = new.free; next_free = new.next_free; line = entries; next_line = next }) (sym (shows.line q has).list) (sym (shows.line q has).behind)
      ∙ ap (λ (all : List Item). record new { items = all }) items

  -- ---- chunks

  -- what the test of a message says of the core
  in_message : (n q i : ℕ) → HasItem core.shape q i → is_in_message word n q i ≡ true → owner_of core n ≡ Message q i
  in_message n q i has is =
      let shown = shows.items q i has in
      let run : Run = numbers_of (word (RunWord q i)) in
      let both = and_parts (nat_lt 0 (word (Tag q i))) (is_in_run run n) is in
      let armed : IsArmed core q i = λ none. absurd (omega (arith, ltb-true 0 (word (Tag q i)) both.0, shown.tag, none)) in
      let ends = and_parts _ _ both.1 in
      let inside : IsInRun run n = (leb-true _ n ends.0, ltb-true n _ ends.1) in
      sound.held.owners.runs n q i armed (subst (λ (r : Run). IsInRun r n) shown.run inside)

  of_message : (n q i : ℕ) → HasItem core.shape q i → owner_of core n ≡ Message q i → is_in_message word n q i ≡ true
  of_message n q i has owned =
      let shown = shows.items q i has in
      let is = sound.held.owners.messages n q i owned in
      let run : Run = numbers_of (word (RunWord q i)) in
      let inside : IsInRun run n = subst (λ (r : Run). IsInRun r n) (sym shown.run) is.1 in
      let some : 0 < word (Tag q i) = omega (arith, shown.tag, is.0) in
      rw (lt-ltb 0 (word (Tag q i)) some) (rw (le-leb _ n inside.0) (rw (lt-ltb n _ inside.1) refl))

  -- the search finds the owner, where one of these items has the chunk, or where the owner is what else it answers
  by_item : (n q count : ℕ) (otherwise : Owner) → q < queues_of core.shape → count ≤ items_of core.shape q → (owner_of core n ≡ otherwise) ⊎ ((i : ℕ) × (i < count) × (owner_of core n ≡ Message q i))
      → message_of_item word n q count otherwise ≡ owner_of core n
  by_item n q zero otherwise has most (inl same) = sym same
  by_item n q zero otherwise has most (inr one) = absurd (omega (arith, one.1))
  by_item n q (suc count) otherwise has most known =
      let here : HasItem core.shape q count = record { in_queues = has; in_items = omega (arith, most) } in
      elim (cases_Bool (is_in_message word n q count)) [
        | inl is ↦ rw is (sym (in_message n q count here is))
        | inr not ↦ rw not (by_item n q count otherwise has (omega (arith, most)) (elim known [
          | inl same ↦ inl same
          | inr one ↦ inr (
            one.0,
            elim (cases_eq one.0 count) [
              | inl last ↦ absurd (cc (not, of_message n q count here (one.2 ∙ ap (Message q) last)))
              | inr other ↦ omega (arith, one.1, other)
            ],
            one.2,
          )
        ]))
      ]

  by_queue : (n count : ℕ) (otherwise : Owner) → count ≤ queues_of core.shape → (owner_of core n ≡ otherwise) ⊎ ((q i : ℕ) × (q < count) × HasItem core.shape q i × (owner_of core n ≡ Message q i))
      → message_of_queue core.shape word n count otherwise ≡ owner_of core n
  by_queue n zero otherwise most (inl same) = sym same
  by_queue n zero otherwise most (inr one) = absurd (omega (arith, one.2))
  by_queue n (suc count) otherwise most known =
      let rest : Owner = message_of_queue core.shape word n count otherwise in
      let all : (owner_of core n ≡ rest) ⊎ ((i : ℕ) × (i < items_of core.shape count) × (owner_of core n ≡ Message count i)) = elim known [
        | inl same ↦ inl (sym (by_queue n count otherwise (omega (arith, most)) (inl same)))
        | inr one ↦ elim (cases_eq one.0 count) [
          | inl last ↦ inr (one.1, subst (λ (q : ℕ). one.1 < items_of core.shape q) last (one.3).in_items, subst (λ (q : ℕ). owner_of core n ≡ Message q one.1) last one.4)
          | inr other ↦ inl (sym (by_queue n count otherwise (omega (arith, most)) (inr (one.0, one.1, omega (arith, one.2, other), one.3, one.4))))
        ]
      ] in
      by_item n count (items_of core.shape count) rest (omega (arith, most)) (omega arith) all

  owner_by : (n : ℕ) → n < 640 * segments_of core.shape → (owner : Owner) → owner_of core n ≡ owner → owner_of core n ≡ owner_from core.shape word (holdings.keeper n) n
  owner_by n inside Free is = rw (shows.chunks n inside ∙ ap is_owned_by_none is) is
  owner_by n inside (Seat k) is =
      rw (shows.chunks n inside ∙ ap is_owned_by_none is)
      (sym (by_queue n (queues_of core.shape) (Seat (holdings.keeper n)) (omega arith) (inl (is ∙ ap Seat (sym (are.keeper n k inside is))))))
  owner_by n inside (Message q i) is =
      let armed = sound.held.owners.messages n q i is in
      let has = item_is_there core q i sound.held.shape (armed_inside core q i armed.0) in
      let place : HasItem core.shape q i = record { in_queues = has.0; in_items = has.1 } in
      rw (shows.chunks n inside ∙ ap is_owned_by_none is)
      (sym (by_queue n (queues_of core.shape) (Seat (holdings.keeper n)) (omega arith) (inr (q, i, has.0, place, is))))

  all_of_it : core ≡ core_of core.shape word holdings
  all_of_it =
      let new : Core = core_of core.shape word holdings in
      let opened : core.opened ≡ new.opened = ap₂ (λ (out back : ℕ). let sides : Sides = record { out = out; back = back } in sides) (sym shows.out) (sym shows.back) in
      let owners : core.owners ≡ new.owners = all_is (λ chunk. owner_from core.shape word (holdings.keeper chunk) chunk) Free core.owners (640 * segments_of core.shape) sound.held.shape.chunks (λ i lt. owner_by i lt (owner_of core i) refl) in
      let queues : core.queues ≡ new.queues = all_is (queue_from core.shape word holdings) no_queue core.queues (queues_of core.shape) sound.held.shape.queues (λ q lt. queue_is q lt) in
      ap₂ (λ (next : ℕ) (sides : Sides). record core { next = next; opened = sides }) (sym shows.next) opened
      ∙ ap₂ (λ (all : List Owner) (every : List Queue). record core { next = new.next; opened = new.opened; owners = all; queues = every }) owners queues
      ∙ ap (λ (all : List SeatLists). record new { seats = all }) (sym are.seats)

pub shown_is_core_of : ShownIsCoreOf
shown_is_core_of = all_of_it

pub each_has_holdings : EachHasHoldings
each_has_holdings core = record {
  stream = λ q i has none. refl;
  holder = λ q i seat has is. ap seat_with is;
  keeper = λ n seat inside is. ap seat_owning is;
  seats = refl;
}
