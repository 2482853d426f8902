-- A main seat's account changes without a word: no step.
use Rattle.std.proofs.Common.{ℕ, suc, zero, ◌+◌, ◌-◌, ◌≡◌, ◌≢◌, ◌≤◌, ◌<◌, ◌==◌, inl, inr, ⊎_elim, Bool, true, false, cond, List, [], ◌∷◌, length, map, replicate, set, refl, sym, ap, ◌∙◌, subst, arith}
use Rattle.std.specs.Prelude.{Option}
use Rattle.std.proofs.lemmas.Bool.{cases_eq, cases_lt, eq-eqb, ne_eqb}
use Rattle.std.proofs.lemmas.List.{length-append, length-replicate}
use mathlib.Core.Option.{some, some-injective, some-ne-none}
use lib.ListN.{get_elem?}
use Rattle.atomic_table.specs.Table.{State}
use Rattle.nncq_ring.specs.Words.{Words}
use Rattle.nncq_ring.specs.declared.view.RingEvent.TheVariants.{SawTail}
use Rattle.nncq_ring.proofs.RingParts.{note_at}
use Rattle.app_queue.specs.declared.side.Side.TheVariants.{Free}
use Rattle.request_context.specs.declared.piece.Parcel.{Parcel}
use Rattle.unit_model.specs.Core.{role_of, seat_of}
use Rattle.unit_model.specs.Holding.{items_of}
use Rattle.unit_model.specs.PartOrder.{Each}
use Rattle.unit_model.specs.Shapes.{role_in}
use Rattle.unit_model.specs.Sharing.{Holds}
use Rattle.unit_model.specs.StreamCounts.{by_all, by_seat, drawn, posted}
use Rattle.unit_model.specs.Weights.{weigh, is_number, one_if, times}
use Rattle.unit_model.specs.declared.machine.Core.{Core}
use Rattle.unit_model.specs.declared.machine.Seat.{Seat as SeatLists}
use Rattle.unit_model.specs.declared.shape.Shape.{Shape}
use Rattle.unit_model.proofs.Sharing.{owned_below}
use Rattle.unit_model.proofs.SeatNotes.{one_seat}
use Rattle.unit_model.proofs.Views.{sum_at, sum_set, sum_two}
use Rattle.unit_model.proofs.Weights.{is_number_same, weigh-append, weigh-map}
use Rattle.unit_types.specs.declared.message.Reply.{Reply}
use Rattle.unit_types.specs.declared.message.Request.{Request}
use Rattle.fabric_words.specs.Offsets.{word_in}
use Rattle.fabric_words.specs.Places.{queues_of}
use Rattle.fabric_words.specs.declared.place.Place.{Place}
use Rattle.fabric_words.specs.declared.place.Place.TheVariants.{Tag}
use Rattle.fabric_rule.specs.FrameLaws.{SameLists}
use Rattle.fabric_rule.specs.Hands.{items_elsewhere}
use Rattle.fabric_rule.specs.Keyed.{Keyed}
use Rattle.fabric_rule.specs.Parts.{AwaitsReply, IsCauseOf, IsIdle, IsRefused, IsTrueLedger, IsWornOut, KeptAreWorn, KnowsWork, ListsShown, OpensNoted, PostsInWork, RecordsKnown, ShowsLists, ShowsWorks, WorksCounted}
use Rattle.fabric_rule.specs.Rule.{FabricHolds, NotesAreTrue, ViewsShow}
use Rattle.fabric_rule.specs.Seats.{Account, AccountLaw, MayAccount, MayEnd, MayKeep, accounted, kept_by}
use Rattle.fabric_rule.specs.Steps.{IsNoStep}
use Rattle.fabric_rule.specs.Views.{chunks_at, draw_at, draw_weight, hand_at, held_at, is_got, lists_at, log_at, opens_at, ring_in, take_weight, works_at}
use Rattle.fabric_rule.specs.declared.cause.Refusal.{Refusal}
use Rattle.fabric_rule.specs.declared.view.FabricView.{FabricView}
use Rattle.fabric_rule.specs.declared.view.HeldItem.{HeldItem}
use Rattle.fabric_rule.specs.declared.view.KeptItem.{KeptItem}
use Rattle.fabric_rule.specs.declared.view.Ledger.{Ledger}
use Rattle.fabric_rule.specs.declared.view.Work.{Work}
use Rattle.fabric_rule.specs.declared.view.Work.TheVariants.{Drawn, Posted, Taken, Sending, Holding}
use Rattle.fabric_rule.proofs.ArmLists.{each_append}
use Rattle.fabric_rule.proofs.Frames.{of_each, of_fabric}
use Rattle.fabric_rule.proofs.Hands.{hands_owned}
use Rattle.fabric_rule.proofs.KeyedSteps.{each_zero, keyed_step}
use Rattle.fabric_rule.proofs.ListFrames.{lists_there, posts_stay, streams_stay, records_there}
use Rattle.fabric_rule.proofs.RuleSteps.{views_change}
use Rattle.fabric_rule.proofs.Sharing.{shared_long, shared_one, shared_other, shared_weighs}
use Rattle.fabric_rule.proofs.Sums.{each_gives, sum_stays}
use Rattle.fabric_rule.proofs.ItemNotes.{all_still, heads_still, items_noted, rings_kept}

-- works that hold chunks or an item have no stream
pub holding_none : (f : Work → ℕ) → f Holding ≡ 0 → (n : ℕ) → weigh f (replicate n Holding) ≡ 0
holding_none f none zero = refl
holding_none f none (suc n) = omega (arith, none, holding_none f none n)

each_holding : (P : Work → Type 0) → P Holding → (n : ℕ) → Each P (replicate n Holding)
each_holding P so zero = tt
each_holding P so (suc n) = (so, each_holding P so n)

-- no number of a list's ledgers
open_none : (number : ℕ) (ledgers : List Ledger) → weigh (λ (c : Ledger). is_number number c.seat) ledgers ≡ 0 → weigh (λ (c : Ledger). cond (c.seat == number) c.opened_works 0) ledgers ≡ 0
open_none number [] none = refl
open_none number (c ∷ cs) none =
    let off : cond {A = ℕ} (c.seat == number) c.opened_works 0 ≡ 0 = elim (cases_eq c.seat number) [
      | inl is ↦ absurd (omega (arith, none, ap (is_number number) is, is_number_same number))
      | inr ne ↦ ap (λ (b : Bool). cond {A = ℕ} b c.opened_works 0) (ne_eqb c.seat number ne)
    ] in
    omega (arith, off, open_none number cs (omega (arith, none)))

only_there : {V : Type 0} (f : V → ℕ) (views : List V) (id : ℕ) (v : V) → get_elem? views id ≡ some v → ((k : ℕ) (y : V) → k ≢ id → get_elem? views k ≡ some y → f y ≡ 0) → weigh f views ≡ f v
only_there f [] id v at others = absurd (some-ne-none v (sym at))
only_there f (x ∷ xs) zero v at others = omega (arith, ap f (some-injective x v at), each_zero f xs (λ k y there. others (suc k) y (λ is. absurd (omega (arith, is))) there))
only_there f (x ∷ xs) (suc id) v at others = omega (arith, others 0 x (λ is. absurd (omega (arith, is))) refl, only_there f xs id v at (λ k y ne there. others (suc k) y (λ is. ne (omega (arith, is))) there))

module _ {H : Type 0} (reply_of : List ℕ → Request → Reply) (shape : Shape) (s : State (Option (Parcel H)) FabricView) (holds : FabricHolds reply_of shape s) (id : ℕ) (v : FabricView) (a : Account) (c : Ledger) (at : get_elem? s.views id ≡ some v) (may : MayAccount a c v) where
  abbrev word : Place → ℕ
  word = word_in shape s.words

  abbrev core : Core
  core = holds.core

  abbrev u : FabricView
  u = accounted a c v

  same : SameLists core core
  same = record { shape = refl; seats = refl }

  shaped : v.shape ≡ shape
  shaped = (holds.views.there id v at).shape ∙ holds.shaped

  -- ---- the lists

  at_own : lists_at v.seat v ≡ 1
  at_own = let is = ap (weigh (λ (l : Ledger). is_number v.seat l.seat)) may.only in omega (arith, is, ap (is_number v.seat) may.number, is_number_same v.seat)

  own : IsTrueLedger core holds.popped c
  own =
      let all : Each (λ (l : Ledger). l.seat ≡ v.seat → IsTrueLedger core holds.popped l) v.ledgers = holds.views.lists.each v.seat id v at (omega (arith, at_own)) in
      let here : Each (λ (l : Ledger). l.seat ≡ v.seat → IsTrueLedger core holds.popped l) (c ∷ []) = subst (Each (λ (l : Ledger). l.seat ≡ v.seat → IsTrueLedger core holds.popped l)) may.only all in
      here.0 may.number

  lists_are : c.lists ≡ seat_of core v.seat
  lists_are = own.lists ∙ ap (seat_of core) may.number

  new_refused : Each (IsRefused core c.seat) a.refused
  new_refused = each_gives (λ (r : Refusal). IsCauseOf v.shape c.seat c.lists r.stream r.cause) (IsRefused core c.seat) a.refused
      (λ (r : Refusal) is. subst (λ (l : SeatLists). IsCauseOf core.shape c.seat l r.stream r.cause) own.lists (subst (λ (sh : Shape). IsCauseOf sh c.seat c.lists r.stream r.cause) (holds.views.there id v at).shape is))
      may.causes

  popped_same : role_of core c.seat ≡ 0 → holds.popped c.seat ≡ a.popped
  popped_same engine =
      ⊎_elim
      (λ is. own.popped_item engine ∙ sym is)
      (λ other. absurd (other (subst (λ (n : ℕ). role_in v.shape n ≡ 0) may.number (subst (λ (sh : Shape). role_in sh c.seat ≡ 0) (sym (holds.views.there id v at).shape) engine))))
      may.popped

  as_many : (key : ℕ) → lists_at key u ≡ lists_at key v
  as_many key = sym (ap (weigh (λ (l : Ledger). is_number key l.seat)) may.only)

  lists' : ListsShown core holds.popped (set s.views id u)
  lists' =
      keyed_step FabricView lists_at (ShowsLists core holds.popped) (ShowsLists core holds.popped) s.views id v u at
      (λ key. omega (arith, as_many key, holds.views.lists.once key))
      (λ key has. (
        (λ is. record {
          lists = own.lists;
          refused = each_append (IsRefused core c.seat) a.refused c.refusals new_refused own.refused;
          popped_item = popped_same;
        }),
        tt,
      ))
      (λ key none y has is. is)
      holds.views.lists

  -- ---- works

  works_sum : (f : Work → ℕ) → weigh f a.stay + weigh f a.ended ≡ weigh f v.works
  works_sum f = shared_weighs f v.works a.stay a.ended may.works

  now_works : (f : Work → ℕ) → f Holding ≡ 0 → weigh f u.works ≡ weigh f a.stay
  now_works f none = omega (arith, weigh-append f (replicate a.begun Holding) a.stay, holding_none f none a.begun)

  keyed_works : (weight : ℕ → Work → ℕ) → ((key : ℕ) → weight key Holding ≡ 0)
      → Keyed (λ key (y : FabricView). weigh (weight key) y.works) (ShowsWorks weight core holds.armed) s.views
      → Keyed (λ key (y : FabricView). weigh (weight key) y.works) (ShowsWorks weight core holds.armed) (set s.views id u)
  keyed_works weight none old =
      keyed_step FabricView (λ key (y : FabricView). weigh (weight key) y.works) (ShowsWorks weight core holds.armed) (ShowsWorks weight core holds.armed) s.views id v u at
      (λ key. omega (arith, old.once key, now_works (weight key) (none key), works_sum (weight key)))
      (λ key has.
      let before : ShowsWorks weight core holds.armed key v = old.each key id v at (omega (arith, has, now_works (weight key) (none key), works_sum (weight key))) in
      each_append (λ (w : Work). 1 ≤ weight key w → KnowsWork core holds.armed v.seat v.arms w) (replicate a.begun Holding) a.stay
      (each_holding (λ (w : Work). 1 ≤ weight key w → KnowsWork core holds.armed v.seat v.arms w) (λ some_weight. tt) a.begun)
      (shared_one (λ (w : Work). 1 ≤ weight key w → KnowsWork core holds.armed v.seat v.arms w) v.works a.stay a.ended may.works before))
      (λ key nothing y has is. is)
      old

  -- ---- the count

  open_here : weigh (opens_at v.seat) s.views ≡ opens_at v.seat v
  open_here = only_there (opens_at v.seat) s.views id v at (λ k y ne there. open_none v.seat y.ledgers (omega (arith, at_own, holds.views.lists.once v.seat, sum_two (lists_at v.seat) s.views k id y v ne there at)))

  counts : opens_at v.seat v ≡ c.opened_works
  counts =
      let is = ap (weigh (λ (l : Ledger). cond (l.seat == v.seat) l.opened_works 0)) may.only in
      let here : cond {A = ℕ} (c.seat == v.seat) c.opened_works 0 ≡ c.opened_works = ap (λ (b : Bool). cond {A = ℕ} b c.opened_works 0) (eq-eqb c.seat v.seat may.number) in
      omega (arith, is, here)

  works_here : works_at v.seat v ≡ length v.works
  works_here = ap (λ (b : Bool). cond {A = ℕ} b (length v.works) 0) (eq-eqb v.seat v.seat refl)

  enough : length a.ended ≤ c.opened_works
  enough = omega (arith, counts, open_here, holds.views.counted v.seat, sum_at (works_at v.seat) s.views id v at, works_here, shared_long v.works a.stay a.ended may.works)

  works_now : length u.works ≡ a.begun + length a.stay
  works_now = length-append (replicate a.begun Holding) a.stay ∙ ap (λ (n : ℕ). n + length a.stay) (length-replicate a.begun Holding)

  now_open : (number : ℕ) → opens_at number u ≡ cond {A = ℕ} (v.seat == number) (c.opened_works + a.begun - length a.ended) 0
  now_open number = let is = ap (λ (n : ℕ). cond {A = ℕ} (n == number) (c.opened_works + a.begun - length a.ended) 0) may.number in omega (arith, is)

  was_open : (number : ℕ) → opens_at number v ≡ cond {A = ℕ} (v.seat == number) c.opened_works 0
  was_open number =
      let is = ap (weigh (λ (l : Ledger). cond (l.seat == number) l.opened_works 0)) may.only in
      let there = ap (λ (n : ℕ). cond {A = ℕ} (n == number) c.opened_works 0) may.number in
      omega (arith, is, there)

  count : (number : ℕ) → opens_at number u + works_at number v ≡ opens_at number v + works_at number u
  count number =
      elim (cases_eq v.seat number) [
        | inl is ↦
            let yes : (v.seat == number) ≡ true = eq-eqb v.seat number is in
            omega (
              arith,
              now_open number,
              was_open number,
              ap (λ (b : Bool). cond {A = ℕ} b (c.opened_works + a.begun - length a.ended) 0) yes,
              ap (λ (b : Bool). cond {A = ℕ} b c.opened_works 0) yes,
              ap (λ (b : Bool). cond {A = ℕ} b (length v.works) 0) yes,
              ap (λ (b : Bool). cond {A = ℕ} b (length u.works) 0) yes,
              enough,
              works_now,
              shared_long v.works a.stay a.ended may.works,
            )
        | inr ne ↦
            let no : (v.seat == number) ≡ false = ne_eqb v.seat number ne in
            omega (
              arith,
              now_open number,
              was_open number,
              ap (λ (b : Bool). cond {A = ℕ} b (c.opened_works + a.begun - length a.ended) 0) no,
              ap (λ (b : Bool). cond {A = ℕ} b c.opened_works 0) no,
              ap (λ (b : Bool). cond {A = ℕ} b (length v.works) 0) no,
              ap (λ (b : Bool). cond {A = ℕ} b (length u.works) 0) no,
            )
      ]

  counted' : WorksCounted (set s.views id u)
  counted' number = omega (arith, holds.views.counted number, count number, sum_set (opens_at number) s.views id v u at, sum_set (works_at number) s.views id v u at)

  -- ---- posts that still await their reply

  -- who posted a stream is who drew it
  poster : (engine stream : ℕ) → 1 ≤ by_seat posted core engine stream → 1 ≤ by_seat drawn core v.seat stream → engine ≡ v.seat
  poster engine stream was_posted drew =
      let streams = holds.keeps.sound.streams in
      let drawn_there : 1 ≤ by_seat drawn core engine stream = omega (arith, was_posted, streams.posted_by_drawer engine stream) in
      let at_most : by_all drawn core stream ≤ 1 = elim (cases_lt 0 stream) [
        | inr none ↦ omega (arith, streams.no_other stream (inl (omega (arith, none))))
        | inl some_stream ↦ elim (cases_lt stream core.next) [
          | inl lt ↦ omega (arith, streams.drawn_once stream (omega (arith, some_stream)) lt)
          | inr le ↦ omega (arith, streams.no_other stream (inr le))
        ]
      ] in
      one_seat drawn core stream engine v.seat refl at_most drawn_there drew

  -- a work that ends is of no such post
  ends : (stream : ℕ) (engine : ℕ) → AwaitsReply (seat_of core engine) stream → (w : Work) → MayEnd c.lists w → KnowsWork core holds.armed v.seat v.arms w → draw_weight stream w ≡ 0
  ends stream engine awaits (Drawn x) may_end knows =
      elim (cases_eq x stream) [
        | inr ne ↦ ap one_if (ne_eqb x stream ne)
        | inl is ↦
            let drew : 1 ≤ by_seat drawn core v.seat stream = subst (λ (n : ℕ). 1 ≤ times n (seat_of core v.seat).drawn) is knows.drew in
            let one : engine ≡ v.seat = poster engine stream awaits.was_posted drew in
            let mine : 1 ≤ times stream (seat_of core v.seat).posted = subst (λ (k : ℕ). 1 ≤ times stream (seat_of core k).posted) one awaits.was_posted in
            absurd (omega (arith, mine, ap (λ (n : ℕ). times n (seat_of core v.seat).posted) is, knows.unposted))
      ]
  ends stream engine awaits (Posted x item) may_end knows =
      elim (cases_eq x stream) [
        | inr ne ↦ ap one_if (ne_eqb x stream ne)
        | inl is ↦
            let was : 1 ≤ by_seat posted core v.seat stream = subst (λ (n : ℕ). 1 ≤ times n (seat_of core v.seat).posted) is knows.was_posted in
            let drew : 1 ≤ by_seat drawn core v.seat stream = omega (arith, was, holds.keeps.sound.streams.posted_by_drawer v.seat stream) in
            let one : engine ≡ v.seat = poster engine stream awaits.was_posted drew in
            let here : AwaitsReply c.lists stream = subst (λ (l : SeatLists). AwaitsReply l stream) (ap (seat_of core) one ∙ sym lists_are) awaits in
            absurd (may_end (subst (AwaitsReply c.lists) (sym is) here))
      ]
  ends stream engine awaits (Taken x p parts) may_end knows = refl
  ends stream engine awaits (Sending x p parts last item) may_end knows = refl
  ends stream engine awaits Holding may_end knows = refl

  none_ended : (stream engine : ℕ) → AwaitsReply (seat_of core engine) stream → (ws : List Work) → Each (MayEnd c.lists) ws → Each (λ (w : Work). 1 ≤ draw_weight stream w → KnowsWork core holds.armed v.seat v.arms w) ws → weigh (draw_weight stream) ws ≡ 0
  none_ended stream engine awaits [] may_end knows = refl
  none_ended stream engine awaits (w ∷ ws) may_end knows =
      let off : draw_weight stream w ≡ 0 = elim (cases_lt 0 (draw_weight stream w)) [
        | inl some_weight ↦ ends stream engine awaits w may_end.0 (knows.0 (omega (arith, some_weight)))
        | inr none ↦ omega (arith, none)
      ] in
      omega (arith, off, none_ended stream engine awaits ws may_end.1 knows.1)

  in_work' : PostsInWork core (set s.views id u)
  in_work' engine stream awaits =
      let gone : weigh (draw_weight stream) a.ended ≡ 0 = elim (cases_lt 0 (draw_at stream v)) [
        | inr none ↦ omega (arith, none, works_sum (draw_weight stream))
        | inl has ↦ none_ended stream engine awaits a.ended may.may_end
            (shared_other (λ (w : Work). 1 ≤ draw_weight stream w → KnowsWork core holds.armed v.seat v.arms w) v.works a.stay a.ended may.works (holds.views.works.draws.each stream id v at (omega (arith, has))))
      ] in
      omega (arith, holds.views.in_work engine stream awaits, sum_set (draw_at stream) s.views id v u at, now_works (draw_weight stream) refl, works_sum (draw_weight stream), gone)

  -- ---- items

  held_sum : (q : ℕ) (f : ℕ → ℕ) → held_at q f u + weigh (λ (h : HeldItem). cond (h.queue == q) (f h.item) 0) a.gone ≡ held_at q f v
  held_sum q f = shared_weighs (λ (h : HeldItem). cond (h.queue == q) (f h.item) 0) v.items a.items a.gone may.items

  hand_same : (q : ℕ) (f : ℕ → ℕ → ℕ) → hand_at q f u ≡ hand_at q f v
  hand_same q f =
      let g : KeptItem → ℕ = λ h. cond (h.queue == q) (f h.seat h.item) 0 in
      omega (arith, held_sum q (f v.seat), weigh-append g (map (kept_by v.seat) a.gone) v.kept, weigh-map g (kept_by v.seat) a.gone)

  now_holds : (q i : ℕ) → Holds (held_at q) i u → Holds (held_at q) i v
  now_holds q i mine = omega (arith, mine, held_sum q (is_number i))

  notes' : NotesAreTrue shape word (set s.views id u)
  notes' =
      items_noted shape word word (all_still shape word) (heads_still shape word) s.views id v at u.ledgers u.works v.chunks u.items u.kept v.log now_holds (λ q i p got. omega (arith, got, shared_weighs (is_got q i p) v.items a.items a.gone may.items)) (λ q. refl)
      (rings_kept shape word s.views id v u at (λ q side. refl) holds.notes.rings) holds.notes

  -- ---- what is kept

  in_v : (h : HeldItem) → 1 ≤ weigh (λ (k : HeldItem). cond (k.queue == h.queue) (is_number h.item k.item) 0) (h ∷ [])
  in_v h = omega (arith, ap (λ (b : Bool). cond {A = ℕ} b (is_number h.item h.item) 0) (eq-eqb h.queue h.queue refl), is_number_same h.item)

  worn : (h : HeldItem) → MayKeep v h → Holds (held_at h.queue) h.item v → IsWornOut core (ring_in word) (kept_by v.seat h)
  worn h keep mine =
      let there : h.queue < queues_of core.shape = subst (λ (sh : Shape). h.queue < queues_of sh) (holds.views.there id v at).shape keep.there in
      let here : h.queue < queues_of shape = subst (λ (sh : Shape). h.queue < queues_of sh) holds.shaped there in
      let inside : h.item < items_of core.shape h.queue = owned_below (held_at h.queue) (items_elsewhere core s.views h.queue) (items_of core.shape h.queue) s.views id v at h.item mine (hands_owned core s.views holds.views.items h.queue there) in
      let inside' : h.item < items_of shape h.queue = subst (λ (sh : Shape). h.item < items_of sh h.queue) holds.shaped inside in
      let w : Words = ring_in word h.queue Free in
      let noted : keep.place ≤ w.tail = note_at (items_of shape h.queue) w (log_at h.queue Free v) keep.seen_at (SawTail keep.place) keep.seen ((holds.notes.rings.rings h.queue here Free).noted id v at) in
      let zero_tag : word (Tag h.queue h.item) ≡ 0 = ⊎_elim (λ is. is) (λ is. is) (holds.notes.tags h.queue here id v at h.item inside' mine 0 keep.untagged) in
      record {
        there = there;
        worn = omega (arith, noted, keep.worn);
        untagged = sym (holds.shows.items h.queue h.item (record { in_queues = there; in_items = inside })).tag ∙ zero_tag;
      }

  all_worn : (hs : List HeldItem) → ((q i : ℕ) → weigh (λ (h : HeldItem). cond (h.queue == q) (is_number i h.item) 0) hs ≤ held_at q (is_number i) v) → Each (MayKeep v) hs → Each (IsWornOut core (ring_in word)) (map (kept_by v.seat) hs)
  all_worn [] among keeps = tt
  all_worn (h ∷ hs) among keeps = (
    worn h keeps.0 (omega (arith, in_v h, among h.queue h.item)),
    all_worn hs (λ q i. omega (arith, among q i)) keeps.1,
  )

  kept' : KeptAreWorn core (ring_in word) u
  kept' = each_append (IsWornOut core (ring_in word)) (map (kept_by v.seat) a.gone) v.kept (all_worn a.gone (λ q i. omega (arith, held_sum q (is_number i))) may.may_keep) (holds.views.kept id v at)

  -- ---- what views show

  shown : ViewsShow shape word holds.popped holds.armed holds.records core (set s.views id u)
  shown =
      let old = holds.views in
      record {
        there = of_fabric core core s.views id v u at refl refl refl old.there;
        items = λ q lt f. sum_stays (hand_at q f) s.views id v u at (hand_same q f) ∙ old.items q lt f;
        chunks = λ f. sum_stays (chunks_at f) s.views id v u at refl ∙ old.chunks f;
        opens = of_each (OpensNoted core) (OpensNoted core) s.views id u (record { out = (old.opens id v at).out; back = (old.opens id v at).back }) (λ y is. is) old.opens;
        posts = posts_stay core core s.views id v u at (λ k. refl) refl old.posts;
        streams = streams_stay core core s.views id v u at refl (λ q i. refl) refl old.streams;
        records_known = of_each (RecordsKnown core holds.records) (RecordsKnown core holds.records) s.views id u (old.records_known id v at) (λ y is. is) old.records_known;
        records_there = records_there core core s.views id v u at (λ k. omega arith) (λ k. omega arith) old.records_there;
        lists = lists';
        lists_there = lists_there core core s.views id v u at refl as_many old.lists_there;
        works = record { draws = keyed_works draw_weight (λ key. refl) old.works.draws; takes = keyed_works take_weight (λ key. refl) old.works.takes };
        counted = counted';
        idle = of_each (IsIdle shape) (IsIdle shape) s.views id u (subst (λ (sh : Shape). IsIdle sh u) shaped may.idle) (λ y is. is) old.idle;
        in_work = in_work';
        kept = of_each (KeptAreWorn core (ring_in word)) (KeptAreWorn core (ring_in word)) s.views id u kept' (λ y is. is) old.kept;
      }

  pub accounts : IsNoStep reply_of shape s holds (record s { views = set s.views id u })
  accounts = views_change reply_of shape s holds (set s.views id u) notes' shown

pub account : (H : Type 0) → AccountLaw H
account H reply_of shape s holds id v a c at may = accounts reply_of shape s holds id v a c at may
