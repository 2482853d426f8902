-- A view is cut in two: no step.
use Rattle.std.proofs.Common.{ℕ, ◌+◌, ◌≡◌, ◌≤◌, ◌<◌, ◌==◌, ◌&&◌, inl, inr, ⊎_elim, Bool, true, false, cond, List, [], length, set, Some, sym, ap, ◌∙◌, subst, arith, ◌∷◌}
use Rattle.std.specs.Prelude.{Option}
use mathlib.Core.Option.{some}
use lib.ListN.{get_elem?}
use Rattle.atomic_table.specs.Table.{State}
use Rattle.atomic_table.proofs.Lists.{at_set, at_snoc}
use Rattle.app_queue.specs.Arms.{Arm}
use Rattle.app_queue.specs.SeatLaws.{halved}
use Rattle.app_queue.specs.Views.{is_armed, last_part, last_run, last_tag}
use Rattle.app_queue.proofs.ArmSeats.{placed_split}
use Rattle.app_queue.proofs.KnownFrames.{tags_known_split, words_known_split}
use Rattle.app_queue.proofs.RingFrames.{rings_split}
use Rattle.chunk_map.specs.Looks.{open_seen}
use Rattle.request_context.specs.declared.piece.Parcel.{Parcel}
use Rattle.unit_model.specs.Core.{role_of}
use Rattle.unit_model.specs.PartOrder.{Each}
use Rattle.unit_model.specs.Shapes.{role_in}
use Rattle.unit_model.specs.Sharing.{Holds}
use Rattle.unit_model.specs.Weights.{weigh, is_number, one_if}
use Rattle.unit_model.specs.declared.machine.Core.{Core}
use Rattle.unit_model.specs.declared.shape.Shape.{Shape}
use Rattle.unit_model.proofs.Views.{sum_split, sum_set}
use Rattle.unit_types.specs.declared.message.Reply.{Reply}
use Rattle.unit_types.specs.declared.message.Request.{Request}
use Rattle.fabric_words.specs.Offsets.{word_in}
use Rattle.fabric_words.specs.Places.{queues_of}
use Rattle.fabric_words.specs.declared.place.Place.{Place}
use Rattle.fabric_rule.specs.Parts.{IsIdle, IsOfFabric, IsPosting, IsTrueLedger, IsWornOut, KeptAreWorn, KnowsWork, OfEach, OpensNoted, RecordsKnown, ShowsLists, ShowsWorks}
use Rattle.fabric_rule.specs.Rule.{FabricHolds, NotesAreTrue, ViewsShow}
use Rattle.fabric_rule.specs.Seats.{HasItsArm, IsCut}
use Rattle.fabric_rule.specs.Steps.{IsNoStep}
use Rattle.fabric_rule.specs.Views.{arms_at, chunks_at, draw_at, draw_weight, got_at, hand_at, held_at, is_got, item_log, kept_at, lists_at, log_at, map_log, opens_at, part_in, part_said, posts_at, queues_in, ring_in, ring_log, run_in, run_said, tag_in, tag_kept, tag_said, take_at, take_weight, words_in, works_at, records_at}
use Rattle.fabric_rule.specs.declared.event.FabricEvent.{FabricEvent}
use Rattle.fabric_rule.specs.declared.event.Segments.TheVariants.{Out, Back}
use Rattle.fabric_rule.specs.declared.view.ArmNote.{ArmNote}
use Rattle.fabric_rule.specs.declared.view.FabricView.{FabricView}
use Rattle.fabric_rule.specs.declared.view.HeldItem.{HeldItem}
use Rattle.fabric_rule.specs.declared.view.KeptItem.{KeptItem}
use Rattle.fabric_rule.specs.declared.view.Ledger.{Ledger}
use Rattle.fabric_rule.specs.declared.view.Posting.{Posting}
use Rattle.fabric_rule.specs.declared.view.Work.{Work}
use Rattle.fabric_rule.specs.declared.view.Work.TheVariants.{Drawn, Posted, Taken, Sending, Holding}
use Rattle.fabric_rule.proofs.Hands.{nothing_of}
use Rattle.fabric_rule.proofs.KeyedSteps.{keyed_split}
use Rattle.fabric_rule.proofs.LatestArms.{streams_same}
use Rattle.fabric_rule.proofs.RuleSteps.{views_change}
use Rattle.fabric_rule.proofs.Sharing.{among, among_weighs, shared_long, shared_one, shared_other, shared_weighs}
use Rattle.fabric_rule.proofs.Sums.{each_both}
use Rattle.unit_model.proofs.Weights.{weigh-append}

-- what is known of a work is known by who has the arm of its post
pub re_armed : (core : Core) (armed : ℕ → List ℕ) (seat : ℕ) (arms arms' : List ArmNote) (w : Work) → HasItsArm arms' w → KnowsWork core armed seat arms w → KnowsWork core armed seat arms' w
re_armed core armed seat arms arms' (Drawn stream) has old = old
re_armed core armed seat arms arms' (Posted stream item) has old = record { was_posted = old.was_posted; uncancelled = old.uncancelled; unabandoned = old.unabandoned; arm = has }
re_armed core armed seat arms arms' (Taken stream poster parts) has old = old
re_armed core armed seat arms arms' (Sending stream poster parts last item) has old = old
re_armed core armed seat arms arms' Holding has old = old

-- a number that is chosen in both cases or in none
pub sum_chosen : (b : Bool) (x y z : ℕ) → x + y ≡ z → cond {A = ℕ} b x 0 + cond {A = ℕ} b y 0 ≡ cond b z 0
sum_chosen true x y z is = is
sum_chosen false x y z is = omega arith

-- so of each view, where it is so of both halves
pub halves_each : (P : FabricView → Type 0) (views : List FabricView) (id : ℕ) (left right : FabricView) → P left → P right → OfEach P views → OfEach P (halved views id left right)
halves_each P views id left right one two old k y there =
    ⊎_elim
    (λ before. ⊎_elim (λ t. subst P t.1 one) (λ t. old k y t.1) (at_set views id k left y before))
    (λ is. subst P is two)
    (at_snoc (set views id left) right y k there)

module _ {H : Type 0} (reply_of : List ℕ → Request → Reply) (shape : Shape) (s : State (Option (Parcel H)) FabricView) (holds : FabricHolds reply_of shape s) (id : ℕ) (v left right : FabricView) (at : get_elem? s.views id ≡ some v) (cut : IsCut v left right) where
  abbrev word : Place → ℕ
  word = word_in shape s.words

  abbrev core : Core
  core = holds.core

  abbrev views' : List FabricView
  views' = halved s.views id left right

  -- the view has the table's shape
  shaped : v.shape ≡ shape
  shaped = (holds.views.there id v at).shape ∙ holds.shaped

  sums : (f : FabricView → ℕ) → f left + f right ≡ f v → weigh f views' ≡ weigh f s.views
  sums f parts = sum_split f s.views id v left right at parts

  each : (P : FabricView → Type 0) → P left → P right → OfEach P s.views → OfEach P views'
  each P one two old = halves_each P s.views id left right one two old

  -- ---- items in hand

  held_sum : (q : ℕ) (f : ℕ → ℕ) → held_at q f left + held_at q f right ≡ held_at q f v
  held_sum q f = shared_weighs (λ (h : HeldItem). cond (h.queue == q) (f h.item) 0) v.items left.items right.items cut.items

  kept_sum : (q : ℕ) (f : ℕ → ℕ → ℕ) → kept_at q f left + kept_at q f right ≡ kept_at q f v
  kept_sum q f = shared_weighs (λ (h : KeptItem). cond (h.queue == q) (f h.seat h.item) 0) v.kept left.kept right.kept cut.kept

  -- who holds something is of the seat's number
  right_same : (f : ℕ → FabricView → ℕ) → (right.items ≡ [] → (n : ℕ) → f n right ≡ 0) → f right.seat right ≡ f v.seat right
  right_same f none = ⊎_elim (λ is. ap (λ (n : ℕ). f n right) is) (λ alone. none alone.items right.seat ∙ sym (none alone.items v.seat)) cut.right_seat

  hand_sum : (q : ℕ) (f : ℕ → ℕ → ℕ) → hand_at q f left + hand_at q f right ≡ hand_at q f v
  hand_sum q f = omega (
    arith,
    ap (λ (n : ℕ). held_at q (f n) left) cut.left_seat,
    right_same (λ n y. held_at q (f n) y) (λ none n. ap (weigh (λ (h : HeldItem). cond (h.queue == q) (f n h.item) 0)) none),
    held_sum q (f v.seat),
    kept_sum q f,
  )

  left_holds : (q i : ℕ) → Holds (held_at q) i left → Holds (held_at q) i v
  left_holds q i mine = omega (arith, mine, held_sum q (is_number i))

  right_holds : (q i : ℕ) → Holds (held_at q) i right → Holds (held_at q) i v
  right_holds q i mine = omega (arith, mine, held_sum q (is_number i))

  left_role : role_in shape left.seat ≡ role_in shape v.seat
  left_role = ap (role_in shape) cut.left_seat

  right_role : (q i : ℕ) → Holds (held_at q) i right → role_in shape right.seat ≡ role_in shape v.seat
  right_role q i mine =
      ⊎_elim
      (λ is. ap (role_in shape) is)
      (λ alone. absurd (omega (arith, mine, ap (weigh (λ (h : HeldItem). cond (h.queue == q) (is_number i h.item) 0)) alone.items)))
      cut.right_seat

  left_got : (q i p : ℕ) → got_at q left i p → got_at q v i p
  left_got q i p got = (omega (arith, got.0, shared_weighs (is_got q i p) v.items left.items right.items cut.items), subst (λ (es : List FabricEvent). is_armed i (item_log q es) ≡ false) cut.left_log got.1)

  right_got : (q i p : ℕ) → got_at q right i p → got_at q v i p
  right_got q i p got = (omega (arith, got.0, shared_weighs (is_got q i p) v.items left.items right.items cut.items), subst (λ (es : List FabricEvent). is_armed i (item_log q es) ≡ false) cut.right_log got.1)

  arms_sum : (q : ℕ) (g : Arm → ℕ) → weigh g (arms_at q left) + weigh g (arms_at q right) ≡ weigh g (arms_at q v)
  arms_sum q g = omega (arith, among_weighs q g left.arms, among_weighs q g right.arms, among_weighs q g v.arms, shared_weighs (among q g) v.arms left.arms right.arms cut.arms)

  -- ---- notes

  notes' : NotesAreTrue shape word views'
  notes' =
      let old = holds.notes in
      record {
        rings = rings_split FabricView log_at (queues_in shape) (ring_in word) s.views id v left right at (λ q side. inl (ap (ring_log q side) cut.left_log)) (λ q side. inl (ap (ring_log q side) cut.right_log)) old.rings;
        tags = tags_known_split FabricView tag_said held_at (queues_in shape) (tag_in word) s.views id v left right at
            (λ q i mine. (left_holds q i mine, λ x told. subst (λ (es : List FabricEvent). last_tag i (item_log q es) ≡ Some x) cut.left_log told))
            (λ q i mine. (right_holds q i mine, λ x told. subst (λ (es : List FabricEvent). last_tag i (item_log q es) ≡ Some x) cut.right_log told)) old.tags;
        kept_tags = words_known_split FabricView (tag_kept shape) held_at (queues_in shape) (tag_in word) s.views id v left right at
            (λ q i mine. (left_holds q i mine, λ x told. (subst (λ (es : List FabricEvent). last_tag i (item_log q es) ≡ Some x) cut.left_log told.0, ⊎_elim (λ ne. inl ne) (λ own. inr (sym left_role ∙ own.0, omega (arith, own.1, arms_sum 0 (λ (a : Arm). one_if (a.stream == x && a.item == i))))) told.1)))
            (λ q i mine. (right_holds q i mine, λ x told. (subst (λ (es : List FabricEvent). last_tag i (item_log q es) ≡ Some x) cut.right_log told.0, ⊎_elim (λ ne. inl ne) (λ own. inr (sym (right_role q i mine) ∙ own.0, omega (arith, own.1, arms_sum 0 (λ (a : Arm). one_if (a.stream == x && a.item == i))))) told.1))) old.kept_tags;
        runs = words_known_split FabricView run_said held_at (queues_in shape) (run_in word) s.views id v left right at
            (λ q i mine. (left_holds q i mine, λ x told. subst (λ (es : List FabricEvent). last_run i (item_log q es) ≡ Some x) cut.left_log told))
            (λ q i mine. (right_holds q i mine, λ x told. subst (λ (es : List FabricEvent). last_run i (item_log q es) ≡ Some x) cut.right_log told)) old.runs;
        parts = words_known_split FabricView part_said held_at (queues_in shape) (part_in word) s.views id v left right at
            (λ q i mine. (left_holds q i mine, λ x told. subst (λ (es : List FabricEvent). last_part i (item_log q es) ≡ Some x) cut.left_log told))
            (λ q i mine. (right_holds q i mine, λ x told. subst (λ (es : List FabricEvent). last_part i (item_log q es) ≡ Some x) cut.right_log told)) old.parts;
        arms = placed_split FabricView got_at arms_at held_at (queues_in shape) (words_in word) s.views id v left right at arms_sum
            (λ q i mine p got. (left_holds q i mine, left_got q i p got)) (λ q i mine p got. (right_holds q i mine, right_got q i p got)) old.arms;
      }

  -- ---- lists and works

  lists_sum : (f : Ledger → ℕ) → weigh f left.ledgers + weigh f right.ledgers ≡ weigh f v.ledgers
  lists_sum f = shared_weighs f v.ledgers left.ledgers right.ledgers cut.ledgers

  works_sum : (f : Work → ℕ) → weigh f left.works + weigh f right.works ≡ weigh f v.works
  works_sum f = shared_weighs f v.works left.works right.works cut.works

  right_works : (n : ℕ) → cond (right.seat == n) (length right.works) 0 ≡ cond {A = ℕ} (v.seat == n) (length right.works) 0
  right_works n =
      ⊎_elim
      (λ is. ap (λ (m : ℕ). cond {A = ℕ} (m == n) (length right.works) 0) is)
      (λ alone. let none : length right.works ≡ 0 = ap length alone.works in nothing_of (right.seat == n) (length right.works) none ∙ sym (nothing_of (v.seat == n) (length right.works) none))
      cut.right_seat

  works_cut : (n : ℕ) → works_at n left + works_at n right ≡ works_at n v
  works_cut n = omega (
    arith,
    ap (λ (m : ℕ). cond {A = ℕ} (m == n) (length left.works) 0) cut.left_seat,
    right_works n,
    sum_chosen (v.seat == n) (length left.works) (length right.works) (length v.works) (shared_long v.works left.works right.works cut.works),
  )

  left_works : (weight : ℕ → Work → ℕ) (key : ℕ) → ShowsWorks weight core holds.armed key v → ShowsWorks weight core holds.armed key left
  left_works weight key old =
      subst (λ (n : ℕ). Each (λ (w : Work). 1 ≤ weight key w → KnowsWork core holds.armed n left.arms w) left.works) (sym cut.left_seat)
      (each_both (λ (w : Work). 1 ≤ weight key w → KnowsWork core holds.armed v.seat v.arms w) (HasItsArm left.arms) (λ (w : Work). 1 ≤ weight key w → KnowsWork core holds.armed v.seat left.arms w) left.works
      (λ w knows has some_weight. re_armed core holds.armed v.seat v.arms left.arms w has (knows some_weight))
      (shared_one (λ (w : Work). 1 ≤ weight key w → KnowsWork core holds.armed v.seat v.arms w) v.works left.works right.works cut.works old)
      cut.left_arms)

  right_works_know : (weight : ℕ → Work → ℕ) (key : ℕ) → ShowsWorks weight core holds.armed key v → ShowsWorks weight core holds.armed key right
  right_works_know weight key old =
      ⊎_elim
      (λ is. subst (λ (n : ℕ). Each (λ (w : Work). 1 ≤ weight key w → KnowsWork core holds.armed n right.arms w) right.works) (sym is)
      (each_both (λ (w : Work). 1 ≤ weight key w → KnowsWork core holds.armed v.seat v.arms w) (HasItsArm right.arms) (λ (w : Work). 1 ≤ weight key w → KnowsWork core holds.armed v.seat right.arms w) right.works
      (λ w knows has some_weight. re_armed core holds.armed v.seat v.arms right.arms w has (knows some_weight))
      (shared_other (λ (w : Work). 1 ≤ weight key w → KnowsWork core holds.armed v.seat v.arms w) v.works left.works right.works cut.works old)
      cut.right_arms))
      (λ alone. subst (λ (ws : List Work). Each (λ (w : Work). 1 ≤ weight key w → KnowsWork core holds.armed right.seat right.arms w) ws) (sym alone.works) tt)
      cut.right_seat

  chunks_cut : (f : ℕ → ℕ → ℕ) → chunks_at f left + chunks_at f right ≡ chunks_at f v
  chunks_cut f = omega (
    arith,
    ap (λ (n : ℕ). weigh (f n) left.chunks) cut.left_seat,
    ap (weigh (f v.seat)) cut.left_chunks,
    ap (weigh (f right.seat)) cut.right_chunks,
  )

  -- ---- what views show

  left_there : IsOfFabric core v → IsOfFabric core left
  left_there old = record { shape = cut.left_shape ∙ old.shape; role = subst (λ (n : ℕ). role_of core n ≤ 1) (sym cut.left_seat) old.role }

  right_there : IsOfFabric core v → IsOfFabric core right
  right_there old = record {
    shape = cut.right_shape ∙ old.shape;
    role = ⊎_elim
        (λ is. subst (λ (n : ℕ). role_of core n ≤ 1) (sym is) old.role)
        (λ alone. subst (λ (sh : Shape). role_in sh right.seat ≤ 1) (cut.right_shape ∙ old.shape) alone.role)
        cut.right_seat;
  }

  shown : ViewsShow shape word holds.popped holds.armed holds.records core views'
  shown =
      let old = holds.views in
      let mine = old.opens id v at in
      record {
        there = each (IsOfFabric core) (left_there (old.there id v at)) (right_there (old.there id v at)) old.there;
        items = λ q lt f. sums (hand_at q f) (hand_sum q f) ∙ old.items q lt f;
        chunks = λ f. sums (chunks_at f) (chunks_cut f) ∙ old.chunks f;
        opens = each (OpensNoted core)
            (record { out = subst (λ (es : List FabricEvent). open_seen (map_log Out es) ≤ core.opened.out) (sym cut.left_log) mine.out; back = subst (λ (es : List FabricEvent). open_seen (map_log Back es) ≤ core.opened.back) (sym cut.left_log) mine.back })
            (record { out = subst (λ (es : List FabricEvent). open_seen (map_log Out es) ≤ core.opened.out) (sym cut.right_log) mine.out; back = subst (λ (es : List FabricEvent). open_seen (map_log Back es) ≤ core.opened.back) (sym cut.right_log) mine.back })
            old.opens;
        posts = λ stream. sums (posts_at stream) (arms_sum 0 (λ (a : Arm). is_number stream a.stream)) ∙ old.posts stream;
        streams = streams_same core s.views views' (λ f. sums (λ (y : FabricView). weigh f y.arms) (shared_weighs f v.arms left.arms right.arms cut.arms))
            (λ q lt i p. (holds.notes.arms q (subst (λ (sh : Shape). q < queues_of sh) holds.shaped lt)).once i p) old.streams;
        records_known = each (RecordsKnown core holds.records)
            (subst (λ (l : List Posting). Each (IsPosting core holds.records) l) (sym cut.left_records) (old.records_known id v at))
            (subst (λ (l : List Posting). Each (IsPosting core holds.records) l) (sym cut.right_records) (old.records_known id v at))
            old.records_known;
        records_there = λ k was. omega (arith, old.records_there k was, sum_set (records_at k) s.views id v left at, weigh-append (records_at k) (set s.views id left) (right ∷ []), ap (weigh (λ (p : Posting). is_number k p.stream)) cut.left_records);
        lists = keyed_split FabricView lists_at (ShowsLists core holds.popped) s.views id v left right at
            (λ key. lists_sum (λ (c : Ledger). is_number key c.seat))
            (λ key has is. shared_one (λ (c : Ledger). c.seat ≡ key → IsTrueLedger core holds.popped c) v.ledgers left.ledgers right.ledgers cut.ledgers is)
            (λ key has is. shared_other (λ (c : Ledger). c.seat ≡ key → IsTrueLedger core holds.popped c) v.ledgers left.ledgers right.ledgers cut.ledgers is)
            old.lists;
        lists_there = λ number lt. omega (arith, old.lists_there number lt, sums (lists_at number) (lists_sum (λ (c : Ledger). is_number number c.seat)));
        works = record {
          draws = keyed_split FabricView draw_at (ShowsWorks draw_weight core holds.armed) s.views id v left right at (λ key. works_sum (draw_weight key)) (λ key has is. left_works draw_weight key is) (λ key has is. right_works_know draw_weight key is) old.works.draws;
          takes = keyed_split FabricView take_at (ShowsWorks take_weight core holds.armed) s.views id v left right at (λ key. works_sum (take_weight key)) (λ key has is. left_works take_weight key is) (λ key has is. right_works_know take_weight key is) old.works.takes;
        };
        counted = λ number. sums (opens_at number) (lists_sum (λ (c : Ledger). cond (c.seat == number) c.opened_works 0)) ∙ old.counted number ∙ sym (sums (works_at number) (works_cut number));
        idle = each (IsIdle shape) (subst (λ (sh : Shape). IsIdle sh left) shaped cut.left_idle) (subst (λ (sh : Shape). IsIdle sh right) shaped cut.right_idle) old.idle;
        in_work = λ engine stream awaits. omega (arith, old.in_work engine stream awaits, sums (draw_at stream) (works_sum (draw_weight stream)));
        kept = each (KeptAreWorn core (ring_in word))
            (shared_one (IsWornOut core (ring_in word)) v.kept left.kept right.kept cut.kept (old.kept id v at))
            (shared_other (IsWornOut core (ring_in word)) v.kept left.kept right.kept cut.kept (old.kept id v at)) old.kept;
      }

  pub cuts : IsNoStep reply_of shape s holds (record s { views = views' })
  cuts = views_change reply_of shape s holds views' notes' shown
