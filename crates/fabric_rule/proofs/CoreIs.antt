-- What the rule shows is the core of words and views.
use Rattle.std.proofs.Common.{ℕ, zero, suc, ◌+◌, ◌*◌, ◌≡◌, ◌≤◌, ◌<◌, ◌==◌, ◌&&◌, ◌||◌, inl, inr, Bool, true, false, cond, if◌then◌else◌, List, [], ◌∷◌, length, get_or, map, refl, sym, ap, ap₂, ◌∙◌, subst, arith}
use Rattle.std.specs.List.{list_any, range_with_len}
use Rattle.std.proofs.lemmas.Bool.{and_parts, cases_Bool, cases_eq, cases_lt, eq-eqb, eqb-true, ne_eqb}
use mathlib.Core.Option.{some}
use lib.ListN.{get_elem?}
use Rattle.unit_model.specs.Core.{item_of, no_seat, owner_of, seat_of}
use Rattle.unit_model.specs.Holding.{items_of}
use Rattle.unit_model.specs.Limits.{segment_chunks}
use Rattle.unit_model.specs.PartOrder.{Each}
use Rattle.unit_model.specs.Weights.{weigh, below, is_number, one_if}
use Rattle.unit_model.specs.declared.machine.Core.{Core}
use Rattle.unit_model.specs.declared.machine.Owner.{Owner}
use Rattle.unit_model.specs.declared.machine.Owner.TheVariants.{Free as Unowned, Seat as OfSeat, Message as OfMessage}
use Rattle.unit_model.specs.declared.machine.Seat.{Seat as SeatLists}
use Rattle.unit_model.specs.declared.machine.Whereabouts.{Whereabouts}
use Rattle.unit_model.specs.declared.machine.Whereabouts.TheVariants.{InFreeList, InLine, WithSeat}
use Rattle.unit_model.specs.declared.shape.Shape.{Shape}
use Rattle.unit_model.proofs.Weights.{below_at, below_none, is_number_same}
use Rattle.fabric_words.specs.CoreOf.{AreHoldingsOf}
use Rattle.fabric_words.specs.Offsets.{word_in}
use Rattle.fabric_words.specs.Places.{HasItem, segments_of}
use Rattle.fabric_words.proofs.OneCore.{shown_is_core_of}
use Rattle.fabric_rule.specs.Consequences.{CoreIsLaw}
use Rattle.fabric_rule.specs.CoreOf.{core_in, hand_among, holdings_in, kept_among, lists_among, lists_in_ledgers, seat_among}
use Rattle.fabric_rule.specs.Parts.{ChunksHeld, IsTrueLedger, ItemsHeld, ShowsLists, hand_weight, owner_weight}
use Rattle.fabric_rule.specs.Views.{chunks_at, hand_at, lists_at}
use Rattle.fabric_rule.specs.declared.view.FabricView.{FabricView}
use Rattle.fabric_rule.specs.declared.view.HeldItem.{HeldItem}
use Rattle.fabric_rule.specs.declared.view.KeptItem.{KeptItem}
use Rattle.fabric_rule.specs.declared.view.Ledger.{Ledger}

-- ---- weights of one number

-- 1 for this number with another seat
abbrev elsewhere : ℕ → ℕ → ℕ → ℕ → ℕ
elsewhere seat number k other = cond (other == number) (cond (k == seat) 0 1) 0

-- 1 for it with any
abbrev anywhere : ℕ → ℕ → ℕ → ℕ
anywhere number k other = is_number number other

elsewhere_here : (seat number other : ℕ) → elsewhere seat number seat other ≡ 0
elsewhere_here seat number other = by (other == number) (seat == seat) (eq-eqb seat seat refl)
  where
    by : (a b : Bool) → b ≡ true → cond {A = ℕ} a (cond b 0 1) 0 ≡ 0
    by true b is = ap (λ (t : Bool). cond {A = ℕ} t 0 1) is
    by false b is = refl

-- where it weighs nothing with other seats, its seat is this one
is_seat : (seat number k : ℕ) → elsewhere seat number k number ≡ 0 → k ≡ seat
is_seat seat number k none =
    elim (cases_eq k seat) [
      | inl is ↦ is
      | inr ne ↦ absurd (omega (
        arith,
        none,
        ap (λ (t : Bool). cond {A = ℕ} t (cond (k == seat) 0 1) 0) (eq-eqb number number refl),
        ap (λ (t : Bool). cond {A = ℕ} t 0 1) (ne_eqb k seat ne),
      ))
    ]

-- ---- lists in which a number is looked for

-- what an element weighs that is found, and that nothing weighs where none is
found_weighs : {X : Type 0} (test : X → Bool) (f : X → ℕ) (w : ℕ) (xs : List X) → ((x : X) → test x ≡ true → w ≤ f x) → list_any test xs ≡ true → w ≤ weigh f xs
found_weighs test f w [] each is = absurd (cc is)
found_weighs test f w (x ∷ xs) each is =
    elim (cases_Bool (test x)) [
      | inl here ↦ omega (arith, each x here)
      | inr off ↦ omega (arith, found_weighs test f w xs each (subst (λ (t : Bool). (t || list_any test xs) ≡ true) off is))
    ]

missed_weighs : {X : Type 0} (test : X → Bool) (f : X → ℕ) (xs : List X) → ((x : X) → test x ≡ false → f x ≡ 0) → list_any test xs ≡ false → weigh f xs ≡ 0
missed_weighs test f [] each none = refl
missed_weighs test f (x ∷ xs) each none =
    elim (cases_Bool (test x)) [
      | inl here ↦ absurd (cc (subst (λ (t : Bool). (t || list_any test xs) ≡ false) here none))
      | inr off ↦ omega (arith, each x off, missed_weighs test f xs each (subst (λ (t : Bool). (t || list_any test xs) ≡ false) off none))
    ]

-- ---- items

module _ (queue item seat : ℕ) where
  abbrev is_it : HeldItem → Bool
  is_it h = h.queue == queue && h.item == item

  held_found : (f : ℕ → ℕ) (h : HeldItem) → is_it h ≡ true → f item ≤ cond {A = ℕ} (h.queue == queue) (f h.item) 0
  held_found f h is =
      let parts = and_parts (h.queue == queue) (h.item == item) is in
      omega (arith, ap (λ (t : Bool). cond {A = ℕ} t (f h.item) 0) parts.0, ap f (eqb-true h.item item parts.1))

  by_queue : (a b : Bool) (n : ℕ) → (a && b) ≡ false → (b ≡ false → n ≡ 0) → cond {A = ℕ} a n 0 ≡ 0
  by_queue true b n off zero_where = zero_where off
  by_queue false b n off zero_where = refl

  held_missed : (h : HeldItem) → is_it h ≡ false → cond {A = ℕ} (h.queue == queue) (is_number item h.item) 0 ≡ 0
  held_missed h off = by_queue (h.queue == queue) (h.item == item) (is_number item h.item) off (λ ne. ap one_if ne)

  -- the seat that keeps it is this one, where no other does
  keeps_it : (kept : List KeptItem) (otherwise : ℕ) → weigh (λ (h : KeptItem). cond {A = ℕ} (h.queue == queue) (elsewhere seat item h.seat h.item) 0) kept ≡ 0
      → (weigh (λ (h : KeptItem). cond {A = ℕ} (h.queue == queue) (is_number item h.item) 0) kept ≡ 0 → otherwise ≡ seat)
      → kept_among queue item kept otherwise ≡ seat
  keeps_it [] otherwise none not_kept = not_kept refl
  keeps_it (h ∷ hs) otherwise none not_kept =
      elim (cases_Bool (h.queue == queue && h.item == item)) [
        | inl here ↦
            let parts = and_parts (h.queue == queue) (h.item == item) here in
            let first : cond {A = ℕ} (h.queue == queue) (elsewhere seat item h.seat h.item) 0 ≡ 0 = omega (arith, none) in
            let weighs : elsewhere seat item h.seat item ≡ 0 = omega (arith, first, ap (λ (t : Bool). cond {A = ℕ} t (elsewhere seat item h.seat h.item) 0) parts.0, ap (elsewhere seat item h.seat) (eqb-true h.item item parts.1)) in
            ap (λ (t : Bool). if t then h.seat else kept_among queue item hs otherwise) here ∙ is_seat seat item h.seat weighs
        | inr off ↦
            let nothing : cond {A = ℕ} (h.queue == queue) (is_number item h.item) 0 ≡ 0 = by_queue (h.queue == queue) (h.item == item) (is_number item h.item) off (λ ne. ap one_if ne) in
            ap (λ (t : Bool). if t then h.seat else kept_among queue item hs otherwise) off
            ∙ keeps_it hs otherwise (omega (arith, none)) (λ rest. not_kept (omega (arith, rest, nothing)))
      ]

  hand_is : (views : List FabricView) → weigh (hand_at queue (elsewhere seat item)) views ≡ 0 → 1 ≤ weigh (hand_at queue (anywhere item)) views → hand_among views queue item ≡ seat
  hand_is [] none some_there = absurd (omega (arith, some_there))
  hand_is (v ∷ vs) none some_there =
      elim (cases_Bool (list_any is_it v.items)) [
        | inl here ↦
            let weighs : elsewhere seat item v.seat item ≡ 0 =
            omega (arith, none, found_weighs is_it (λ (h : HeldItem). cond {A = ℕ} (h.queue == queue) (elsewhere seat item v.seat h.item) 0) (elsewhere seat item v.seat item) v.items (held_found (elsewhere seat item v.seat)) here) in
            ap (λ (t : Bool). if t then v.seat else kept_among queue item v.kept (hand_among vs queue item)) here ∙ is_seat seat item v.seat weighs
        | inr off ↦
            let nothing : weigh (λ (h : HeldItem). cond {A = ℕ} (h.queue == queue) (is_number item h.item) 0) v.items ≡ 0 = missed_weighs is_it (λ (h : HeldItem). cond {A = ℕ} (h.queue == queue) (is_number item h.item) 0) v.items held_missed off in
            ap (λ (t : Bool). if t then v.seat else kept_among queue item v.kept (hand_among vs queue item)) off
            ∙ keeps_it v.kept (hand_among vs queue item) (omega (arith, none)) (λ unkept. hand_is vs (omega (arith, none)) (omega (arith, some_there, nothing, unkept)))
      ]

-- what the machine has with seats weighs nothing with others than its own
away_none : (seat item other : ℕ) (w : Whereabouts) → ((other ≡ item) → w ≡ WithSeat seat) → hand_weight (elsewhere seat item) w other ≡ 0
away_none seat item other InFreeList is = refl
away_none seat item other InLine is = refl
away_none seat item other (WithSeat k) is =
    elim (cases_eq other item) [
      | inl same ↦
          let with_it : WithSeat k ≡ WithSeat seat = is same in
          let k_is : k ≡ seat = cc with_it in
          ap (λ (n : ℕ). elsewhere seat item n other) k_is ∙ elsewhere_here seat item other
      | inr ne ↦ ap (λ (t : Bool). cond {A = ℕ} t (cond (k == seat) 0 1) 0) (ne_eqb other item ne)
    ]

hand_right : (core : Core) (views : List FabricView) → ItemsHeld core views → (queue item seat : ℕ) → HasItem core.shape queue item → (item_of core queue item).whereabouts ≡ WithSeat seat → hand_among views queue item ≡ seat
hand_right core views held queue item seat there is =
    let n : ℕ = items_of core.shape queue in
    let away : below (λ i. hand_weight (elsewhere seat item) (item_of core queue i).whereabouts i) n ≡ 0 =
    below_none (λ i. hand_weight (elsewhere seat item) (item_of core queue i).whereabouts i) n (λ i lt. away_none seat item i (item_of core queue i).whereabouts (λ same. ap (λ (j : ℕ). (item_of core queue j).whereabouts) same ∙ is)) in
    let mine : hand_weight (anywhere item) (item_of core queue item).whereabouts item ≡ 1 = ap (λ (w : Whereabouts). hand_weight (anywhere item) w item) is ∙ is_number_same item in
    hand_is queue item seat views
    (held queue there.in_queues (elsewhere seat item) ∙ away)
    (omega (arith, held queue there.in_queues (anywhere item), below_at (λ i. hand_weight (anywhere item) (item_of core queue i).whereabouts i) n item there.in_items, mine))

-- ---- chunks

seat_is : (chunk seat : ℕ) (views : List FabricView) → weigh (chunks_at (elsewhere seat chunk)) views ≡ 0 → 1 ≤ weigh (chunks_at (anywhere chunk)) views → seat_among views chunk ≡ seat
seat_is chunk seat [] none some_there = absurd (omega (arith, some_there))
seat_is chunk seat (v ∷ vs) none some_there =
    elim (cases_Bool (list_any (λ (c : ℕ). c == chunk) v.chunks)) [
      | inl here ↦
          let weighs : elsewhere seat chunk v.seat chunk ≡ 0 =
          omega (arith, none, found_weighs (λ (c : ℕ). c == chunk) (elsewhere seat chunk v.seat) (elsewhere seat chunk v.seat chunk) v.chunks (λ c is. omega (arith, ap (elsewhere seat chunk v.seat) (eqb-true c chunk is))) here) in
          ap (λ (t : Bool). if t then v.seat else seat_among vs chunk) here ∙ is_seat seat chunk v.seat weighs
      | inr off ↦
          let nothing : weigh (is_number chunk) v.chunks ≡ 0 = missed_weighs (λ (c : ℕ). c == chunk) (is_number chunk) v.chunks (λ c ne. ap one_if ne) off in
          ap (λ (t : Bool). if t then v.seat else seat_among vs chunk) off
          ∙ seat_is chunk seat vs (omega (arith, none)) (omega (arith, some_there, nothing))
    ]

owned_none : (seat chunk other : ℕ) (o : Owner) → ((other ≡ chunk) → o ≡ OfSeat seat) → owner_weight (elsewhere seat chunk) o other ≡ 0
owned_none seat chunk other Unowned is = refl
owned_none seat chunk other (OfMessage queue item) is = refl
owned_none seat chunk other (OfSeat k) is =
    elim (cases_eq other chunk) [
      | inl same ↦
          let with_it : OfSeat k ≡ OfSeat seat = is same in
          let k_is : k ≡ seat = cc with_it in
          ap (λ (n : ℕ). elsewhere seat chunk n other) k_is ∙ elsewhere_here seat chunk other
      | inr ne ↦ ap (λ (t : Bool). cond {A = ℕ} t (cond (k == seat) 0 1) 0) (ne_eqb other chunk ne)
    ]

seat_right : (core : Core) (views : List FabricView) → ChunksHeld core views → (chunk seat : ℕ) → chunk < segment_chunks * segments_of core.shape → owner_of core chunk ≡ OfSeat seat → seat_among views chunk ≡ seat
seat_right core views held chunk seat lt is =
    let n : ℕ = segment_chunks * segments_of core.shape in
    let away : below (λ c. owner_weight (elsewhere seat chunk) (owner_of core c) c) n ≡ 0 =
    below_none (λ c. owner_weight (elsewhere seat chunk) (owner_of core c) c) n (λ c below_n. owned_none seat chunk c (owner_of core c) (λ same. ap (owner_of core) same ∙ is)) in
    let mine : owner_weight (anywhere chunk) (owner_of core chunk) chunk ≡ 1 = ap (λ (o : Owner). owner_weight (anywhere chunk) o chunk) is ∙ is_number_same chunk in
    seat_is chunk seat views
    (held (elsewhere seat chunk) ∙ away)
    (omega (arith, held (anywhere chunk), below_at (λ c. owner_weight (anywhere chunk) (owner_of core c) c) n chunk lt, mine))

-- ---- lists

module _ (core : Core) (popped : ℕ → List ℕ) (number : ℕ) where
  -- a view's ledgers of this number have the machine's lists
  ledgers_are : (cs : List Ledger) (otherwise : SeatLists) → Each (λ (c : Ledger). c.seat ≡ number → IsTrueLedger core popped c) cs → 1 ≤ weigh (λ (c : Ledger). is_number number c.seat) cs → lists_in_ledgers number cs otherwise ≡ seat_of core number
  ledgers_are [] otherwise shown some_there = absurd (omega (arith, some_there))
  ledgers_are (c ∷ cs) otherwise shown some_there =
      elim (cases_Bool (c.seat == number)) [
        | inl here ↦
            let is : c.seat ≡ number = eqb-true c.seat number here in
            ap (λ (t : Bool). if t then c.lists else lists_in_ledgers number cs otherwise) here ∙ (shown.0 is).lists ∙ ap (seat_of core) is
        | inr off ↦ ap (λ (t : Bool). if t then c.lists else lists_in_ledgers number cs otherwise) off
            ∙ ledgers_are cs otherwise shown.1 (omega (arith, some_there, ap one_if off))
      ]

  -- and a view without any has none
  no_ledger : (cs : List Ledger) (otherwise : SeatLists) → weigh (λ (c : Ledger). is_number number c.seat) cs ≡ 0 → lists_in_ledgers number cs otherwise ≡ otherwise
  no_ledger [] otherwise none = refl
  no_ledger (c ∷ cs) otherwise none =
      elim (cases_Bool (c.seat == number)) [
        | inl here ↦ absurd (omega (arith, none, ap one_if here))
        | inr off ↦ ap (λ (t : Bool). if t then c.lists else lists_in_ledgers number cs otherwise) off ∙ no_ledger cs otherwise (omega (arith, none))
      ]

  lists_right : (views : List FabricView) → ((at : ℕ) (v : FabricView) → get_elem? views at ≡ some v → 1 ≤ lists_at number v → ShowsLists core popped number v) → 1 ≤ weigh (lists_at number) views → lists_among views number ≡ seat_of core number
  lists_right [] each some_there = absurd (omega (arith, some_there))
  lists_right (v ∷ vs) each some_there =
      elim (cases_lt 0 (lists_at number v)) [
        | inl here ↦ ledgers_are v.ledgers (lists_among vs number) (each 0 v refl (omega (arith, here))) (omega (arith, here))
        | inr none ↦ no_ledger v.ledgers (lists_among vs number) (omega (arith, none))
            ∙ lists_right vs (λ at y there. each (suc at) y there) (omega (arith, some_there, none))
      ]

-- a list is what it has at each index
list_is : {X : Type 0} (f : ℕ → X) (d : X) (xs : List X) (from n : ℕ) → length xs ≡ n → ((i : ℕ) → i < n → get_or xs i d ≡ f (from + i)) → xs ≡ map f (range_with_len from n)
list_is f d [] from zero long at = refl
list_is f d [] from (suc n) long at = absurd (omega (arith, long))
list_is f d (x ∷ xs) from zero long at = absurd (omega (arith, long))
list_is {X = X} f d (x ∷ xs) from (suc n) long at =
    let start : from + 0 ≡ from = omega arith in
    ap₂ (λ (y : X) (ys : List X). y ∷ ys) (at 0 (omega arith) ∙ ap f start)
    (list_is f d xs (from + 1) n (omega (arith, long)) (λ i lt. let next : from + suc i ≡ (from + 1) + i = omega arith in at (suc i) (omega (arith, lt)) ∙ ap f next))

-- ---- all of it

pub core_is : (H : Type 0) → CoreIsLaw H
core_is H reply_of shape s holds =
    let core : Core = holds.core in
    let seats : ℕ = core.shape.engines + core.shape.workers in
    let are : AreHoldingsOf core (holdings_in core.shape s.views) = record {
      stream = λ queue item there none. sym (holds.views.streams queue item there);
      holder = λ queue item seat there is. hand_right core s.views holds.views.items queue item seat there is;
      keeper = λ chunk seat lt is. seat_right core s.views holds.views.chunks chunk seat lt is;
      seats = sym (list_is (lists_among s.views) no_seat core.seats 0 seats holds.keeps.sound.streams.seats
          (λ i lt. let same : 0 + i ≡ i = omega arith in
          sym (ap (lists_among s.views) same ∙ lists_right core holds.popped i s.views (holds.views.lists.each i) (holds.views.lists_there i lt))));
    } in
    shown_is_core_of (word_in shape s.words) core (holdings_in core.shape s.views) holds.keeps.sound holds.shows are
    ∙ ap (λ (sh : Shape). core_in sh (word_in shape s.words) s.views) holds.shaped
