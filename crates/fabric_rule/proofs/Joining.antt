-- A view takes another one in: no step.
use Rattle.std.proofs.Common.{ℕ, ◌+◌, ◌≡◌, ◌≢◌, ◌≤◌, ◌<◌, ◌==◌, ◌⊎◌, ◌&&◌, inl, inr, ⊎_elim, cond, List, [], ◌∷◌, ◌++◌, length, set, refl, sym, ap, ◌∙◌, subst, arith}
use Rattle.std.specs.Prelude.{Option}
use Rattle.std.proofs.lemmas.Bool.{cases_eq, cases_lt, lt-ltb}
use Rattle.std.proofs.lemmas.List.{length-append}
use mathlib.Core.Option.{some}
use lib.ListN.{get_elem?}
use Rattle.atomic_table.specs.Table.{State}
use Rattle.atomic_table.proofs.Lists.{at_set, set_else}
use Rattle.app_queue.specs.Arms.{Arm}
use Rattle.app_queue.specs.SeatLaws.{AreTwo, merged}
use Rattle.app_queue.specs.declared.side.Side.{Side}
use Rattle.app_queue.proofs.ArmSeats.{placed_join}
use Rattle.app_queue.proofs.KnownFrames.{tags_known_join, words_known_join}
use Rattle.nncq_ring.specs.Notes.{AllNoted, RingPart}
use Rattle.request_context.specs.declared.piece.Parcel.{Parcel}
use Rattle.unit_model.specs.Core.{role_of}
use Rattle.unit_model.specs.Holding.{items_of}
use Rattle.unit_model.specs.PartOrder.{Each}
use Rattle.unit_model.specs.Shapes.{role_in}
use Rattle.unit_model.specs.Sharing.{Holds}
use Rattle.unit_model.specs.Weights.{weigh, is_number, one_if}
use Rattle.unit_model.specs.declared.machine.Core.{Core}
use Rattle.unit_model.specs.declared.shape.Shape.{Shape}
use Rattle.unit_model.proofs.StreamPoints.{posted_some}
use Rattle.unit_model.proofs.Views.{sum_at, sum_join, sum_two}
use Rattle.unit_model.proofs.Weights.{is_number_same, weigh-append}
use Rattle.unit_types.specs.declared.message.Reply.{Reply}
use Rattle.unit_types.specs.declared.message.Request.{Request}
use Rattle.fabric_words.specs.Offsets.{word_in}
use Rattle.fabric_words.specs.Places.{queues_of}
use Rattle.fabric_words.specs.declared.place.Place.{Place}
use Rattle.fabric_rule.specs.Keyed.{Keyed}
use Rattle.fabric_rule.specs.Parts.{IsEmptyHanded, IsIdle, IsOfFabric, IsPosting, IsTrueLedger, IsWornOut, KeptAreWorn, KnowsWork, ListsShown, OfEach, OpensNoted, RecordsKnown, ShowsLists, ShowsWorks}
use Rattle.fabric_rule.specs.Rule.{FabricHolds, NotesAreTrue, ViewsShow}
use Rattle.fabric_rule.specs.Seats.{HasItsArm, MayJoin, together}
use Rattle.fabric_rule.specs.Steps.{IsNoStep}
use Rattle.fabric_rule.specs.Views.{arms_at, chunks_at, draw_at, draw_weight, emptied_by, empty, got_at, hand_at, held_at, lists_at, log_at, opens_at, part_in, part_said, posts_at, posts_of, queues_in, ring_in, run_in, run_said, tag_in, tag_kept, tag_said, take_weight, words_in, works_at, records_at}
use Rattle.fabric_rule.specs.declared.view.ArmNote.{ArmNote}
use Rattle.fabric_rule.specs.declared.view.FabricView.{FabricView}
use Rattle.fabric_rule.specs.declared.view.HeldItem.{HeldItem}
use Rattle.fabric_rule.specs.declared.view.KeptItem.{KeptItem}
use Rattle.fabric_rule.specs.declared.view.Ledger.{Ledger}
use Rattle.fabric_rule.specs.declared.view.Work.{Work}
use Rattle.fabric_rule.specs.declared.view.Work.TheVariants.{Drawn, Posted, Taken, Sending, Holding}
use Rattle.fabric_rule.proofs.ArmLists.{each_append}
use Rattle.fabric_rule.proofs.Cutting.{re_armed, sum_chosen}
use Rattle.fabric_rule.proofs.KeyedSteps.{keyed_join}
use Rattle.fabric_rule.proofs.LatestArms.{streams_same}
use Rattle.fabric_rule.proofs.Hands.{nothing_of}
use Rattle.fabric_rule.proofs.RuleSteps.{views_change}
use Rattle.fabric_rule.proofs.OwnViews.{has_posts}
use Rattle.fabric_rule.proofs.Sharing.{among, among_weighs}
use Rattle.fabric_rule.proofs.Sums.{each_gives}
use Rattle.fabric_rule.specs.declared.view.Posting.{Posting}

-- so of each view, where it is so of the two that are left
pub merged_each : (P : FabricView → Type 0) (views : List FabricView) (id other : ℕ) (both spent : FabricView) → P both → P spent → OfEach P views → OfEach P (merged views id both other spent)
merged_each P views id other both spent one two old k y there =
    ⊎_elim
    (λ t. subst P t.1 two)
    (λ t. ⊎_elim (λ r. subst P r.1 one) (λ r. old k y r.1) (at_set views id k both y t.1))
    (at_set (set views id both) other k spent y there)

none_left : {X : Type 0} (xs ys : List X) → xs ++ ys ≡ [] → xs ≡ []
none_left [] ys none = refl
none_left (x ∷ xs) ys none = absurd (cc none)

none_right : {X : Type 0} (xs ys : List X) → xs ++ ys ≡ [] → ys ≡ []
none_right [] ys none = none
none_right (x ∷ xs) ys none = absurd (cc none)

-- who knows of a post knows its arm
has_its_arm : (core : Core) (armed : ℕ → List ℕ) (seat : ℕ) (arms : List ArmNote) (w : Work) → KnowsWork core armed seat arms w → HasItsArm arms w
has_its_arm core armed seat arms (Drawn stream) knows = tt
has_its_arm core armed seat arms (Posted stream item) knows = knows.arm
has_its_arm core armed seat arms (Taken stream poster parts) knows = tt
has_its_arm core armed seat arms (Sending stream poster parts last item) knows = tt
has_its_arm core armed seat arms Holding knows = tt

-- with more arms too
module _ (one more : List ArmNote) (grows : (stream item : ℕ) → posts_of stream item one ≤ posts_of stream item more) where
  arm_stays : (w : Work) → HasItsArm one w → HasItsArm more w
  arm_stays (Drawn stream) has = tt
  arm_stays (Posted stream item) has = omega (arith, has, grows stream item)
  arm_stays (Taken stream poster parts) has = tt
  arm_stays (Sending stream poster parts last item) has = tt
  arm_stays Holding has = tt

module _ {H : Type 0} (reply_of : List ℕ → Request → Reply) (shape : Shape) (s : State (Option (Parcel H)) FabricView) (holds : FabricHolds reply_of shape s) (id other : ℕ) (v w : FabricView) (at : get_elem? s.views id ≡ some v) (apart : other ≢ id) (also : get_elem? s.views other ≡ some w) (may : MayJoin v w) where
  abbrev word : Place → ℕ
  word = word_in shape s.words

  abbrev core : Core
  core = holds.core

  abbrev both : FabricView
  both = together v w

  abbrev spent : FabricView
  spent = empty shape

  abbrev views' : List FabricView
  views' = merged s.views id both other spent

  there : get_elem? (set s.views id both) other ≡ some w
  there = set_else s.views id other both apart ∙ also

  two : AreTwo s.views id v both other w
  two = record { first = at; apart = apart; second = there }

  sums : (f : FabricView → ℕ) → f both + f spent ≡ f v + f w → weigh f views' ≡ weigh f s.views
  sums f parts = sum_join f s.views id other v w both spent at there parts

  each : (P : FabricView → Type 0) → P both → P spent → OfEach P s.views → OfEach P views'
  each P one nothing old = merged_each P s.views id other both spent one nothing old

  arms_sum : (q : ℕ) (g : Arm → ℕ) → weigh g (arms_at q both) + weigh g (arms_at q spent) ≡ weigh g (arms_at q v) + weigh g (arms_at q w)
  arms_sum q g = omega (arith, among_weighs q g (v.arms ++ w.arms), among_weighs q g v.arms, among_weighs q g w.arms, weigh-append (among q g) v.arms w.arms)

  none_held : (q : ℕ) (f : ℕ → ℕ) → held_at q f w ≡ 0
  none_held q f = ap (weigh (λ (h : HeldItem). cond (h.queue == q) (f h.item) 0)) may.items

  hand_sum : (q : ℕ) (f : ℕ → ℕ → ℕ) → hand_at q f both + hand_at q f spent ≡ hand_at q f v + hand_at q f w
  hand_sum q f = omega (arith, none_held q (f w.seat), weigh-append (λ (h : KeptItem). cond (h.queue == q) (f h.seat h.item) 0) v.kept w.kept)

  -- ---- notes

  rings' : (q : ℕ) → q < queues_of shape → (side : Side) → RingPart (items_of shape q) (log_at q side) (ring_in word q side) views'
  rings' q lt side =
      let old = holds.notes.rings.rings q lt side in
      record { fine = old.fine; noted = each (λ (y : FabricView). AllNoted (items_of shape q) (ring_in word q side) (log_at q side y)) (old.noted id v at) tt old.noted }

  -- no arm is of stream 0
  never_posted : (k : ℕ) (y : FabricView) → get_elem? s.views k ≡ some y → (i : ℕ) → 1 ≤ posts_of 0 i y.arms → ⊥
  never_posted k y there i has = posted_some core holds.keeps.sound.streams 0 (omega (arith, has_posts 0 i y has, sum_at (posts_at 0) s.views k y there, holds.views.posts 0)) refl

  none_of_zero : (i : ℕ) → 1 ≤ posts_of 0 i both.arms → ⊥
  none_of_zero i has =
      elim (cases_lt 0 (posts_of 0 i v.arms)) [
        | inl mine ↦ never_posted id v at i (omega (arith, mine))
        | inr none ↦ never_posted other w also i (omega (arith, none, has, arms_sum 0 (λ (a : Arm). one_if (a.stream == 0 && a.item == i))))
      ]

  -- what the seat knows of a tag it knew
  kept_both : (q i x : ℕ) → Holds (held_at q) i v → tag_kept shape q both i x → tag_kept shape q v i x
  kept_both q i x mine told = (
    told.0,
    ⊎_elim
        (λ ne. inl ne)
        (λ (own : (role_in shape v.seat ≡ 0) × (1 ≤ posts_of x i both.arms)). elim (cases_eq q 0) [
          | inr ne ↦ inl ne
          | inl is ↦ inr (
            own.0,
            ⊎_elim
                (λ zero. absurd (none_of_zero i (subst (λ (n : ℕ). 1 ≤ posts_of n i both.arms) zero own.1)))
                (λ has. has)
                (may.posts i x (subst (λ (r : ℕ). Holds (held_at r) i v) is mine) (subst (λ (r : ℕ). tag_said r v i x) is told.0)),
          )
        ])
        told.1,
  )

  notes' : NotesAreTrue shape word views'
  notes' =
      let old = holds.notes in
      record {
        rings = record { rings = rings'; worn = old.rings.worn };
        tags = tags_known_join FabricView tag_said held_at (queues_in shape) (tag_in word) s.views id other v w both spent two (λ q i x mine told. inl (mine, told)) (λ q i mine. absurd (omega (arith, mine))) old.tags;
        kept_tags = words_known_join FabricView (tag_kept shape) held_at (queues_in shape) (tag_in word) s.views id other v w both spent two (λ q i x mine told. inl (mine, kept_both q i x mine told)) (λ q i mine. absurd (omega (arith, mine))) old.kept_tags;
        runs = words_known_join FabricView run_said held_at (queues_in shape) (run_in word) s.views id other v w both spent two (λ q i x mine told. inl (mine, told)) (λ q i mine. absurd (omega (arith, mine))) old.runs;
        parts = words_known_join FabricView part_said held_at (queues_in shape) (part_in word) s.views id other v w both spent two (λ q i x mine told. inl (mine, told)) (λ q i mine. absurd (omega (arith, mine))) old.parts;
        arms = placed_join FabricView got_at arms_at held_at (queues_in shape) (words_in word) s.views id other v w both spent two arms_sum (λ q i p mine got. inl (mine, got)) (λ q i mine. absurd (omega (arith, mine))) old.arms;
      }

  -- ---- lists and works

  works_join : (n : ℕ) → works_at n both + works_at n spent ≡ works_at n v + works_at n w
  works_join n = omega (
    arith,
    nothing_of (0 == n) 0 refl,
    sum_chosen (v.seat == n) (length v.works) (length w.works) (length (v.works ++ w.works)) (sym (length-append v.works w.works)),
    ⊎_elim
        (λ none. nothing_of (v.seat == n) (length w.works) (ap length none) ∙ sym (nothing_of (w.seat == n) (length w.works) (ap length none)))
        (λ is. ap (λ (m : ℕ). cond {A = ℕ} (m == n) (length w.works) 0) (sym is))
        may.works,
  )

  fewer : (stream item : ℕ) → posts_of stream item v.arms ≤ posts_of stream item (v.arms ++ w.arms)
  fewer stream item =
      let g : Arm → ℕ = λ a. one_if (a.stream == stream && a.item == item) in
      omega (arith, among_weighs 0 g (v.arms ++ w.arms), among_weighs 0 g v.arms, weigh-append (among 0 g) v.arms w.arms)

  fewer_there : (stream item : ℕ) → posts_of stream item w.arms ≤ posts_of stream item (v.arms ++ w.arms)
  fewer_there stream item =
      let g : Arm → ℕ = λ a. one_if (a.stream == stream && a.item == item) in
      omega (arith, among_weighs 0 g (v.arms ++ w.arms), among_weighs 0 g w.arms, weigh-append (among 0 g) v.arms w.arms)

  -- what is said of the works that weigh, which one of the two has
  abbrev Says : (ℕ → Work → ℕ) → ℕ → ℕ → List ArmNote → Work → Type 0
  Says weight key seat arms work = 1 ≤ weight key work → KnowsWork core holds.armed seat arms work

  with_arms : (arms : List ArmNote) → ((stream item : ℕ) → posts_of stream item arms ≤ posts_of stream item (v.arms ++ w.arms)) → (weight : ℕ → Work → ℕ) (key seat : ℕ) (works : List Work) → Each (Says weight key seat arms) works → Each (Says weight key seat (v.arms ++ w.arms)) works
  with_arms arms grows weight key seat works old =
      each_gives (Says weight key seat arms) (Says weight key seat (v.arms ++ w.arms)) works
      (λ work knows some_weight. re_armed core holds.armed seat arms (v.arms ++ w.arms) work (arm_stays arms (v.arms ++ w.arms) grows work (has_its_arm core holds.armed seat arms work (knows some_weight))) (knows some_weight))
      old

  -- works that don't weigh say nothing
  no_weight : (weight : ℕ → Work → ℕ) (key seat : ℕ) (arms : List ArmNote) (works : List Work) → weigh (weight key) works ≡ 0 → Each (Says weight key seat arms) works
  no_weight weight key seat arms [] none = tt
  no_weight weight key seat arms (x ∷ xs) none = ((λ some_weight. absurd (omega (arith, some_weight, none))), no_weight weight key seat arms xs (omega (arith, none)))

  keyed_works : (weight : ℕ → Work → ℕ) (key : ℕ) → ShowsWorks weight core holds.armed key v ⊎ (weigh (weight key) v.works ≡ 0) → ShowsWorks weight core holds.armed key w ⊎ (weigh (weight key) w.works ≡ 0) → ShowsWorks weight core holds.armed key both
  keyed_works weight key one other =
      each_append (Says weight key v.seat (v.arms ++ w.arms)) v.works w.works
      (⊎_elim (λ is. with_arms v.arms fewer weight key v.seat v.works is) (λ none. no_weight weight key v.seat (v.arms ++ w.arms) v.works none) one)
      (⊎_elim
      (λ is. ⊎_elim
      (λ none. subst (λ (ws : List Work). Each (Says weight key v.seat (v.arms ++ w.arms)) ws) (sym none) tt)
      (λ same. subst (λ (n : ℕ). Each (Says weight key n (v.arms ++ w.arms)) w.works) same (with_arms w.arms fewer_there weight key w.seat w.works is))
      may.works)
      (λ none. no_weight weight key v.seat (v.arms ++ w.arms) w.works none)
      other)

  -- at most one of the two has the key
  one_has : (f : FabricView → ℕ) → weigh f s.views ≤ 1 → f v + f w ≤ 1
  one_has f once = omega (arith, once, sum_two f s.views id other v w (λ is. apart (sym is)) at also)

  keyed : (weight : ℕ → Work → ℕ) → Keyed (λ key (y : FabricView). weigh (weight key) y.works) (ShowsWorks weight core holds.armed) s.views → Keyed (λ key (y : FabricView). weigh (weight key) y.works) (ShowsWorks weight core holds.armed) views'
  keyed weight old =
      keyed_join FabricView (λ key (y : FabricView). weigh (weight key) y.works) (ShowsWorks weight core holds.armed) s.views id other v w both spent at also there
      (λ key. weigh-append (weight key) v.works w.works)
      (λ key. refl)
      (λ key has is. keyed_works weight key (inl is) (inr (omega (arith, has, one_has (λ (y : FabricView). weigh (weight key) y.works) (old.once key)))))
      (λ key has is. keyed_works weight key (inr (omega (arith, has, one_has (λ (y : FabricView). weigh (weight key) y.works) (old.once key)))) (inl is))
      old

  -- lists of a number that the view doesn't have
  no_lists : (key : ℕ) (ledgers : List Ledger) → weigh (λ (c : Ledger). is_number key c.seat) ledgers ≡ 0 → Each (λ (c : Ledger). c.seat ≡ key → IsTrueLedger core holds.popped c) ledgers
  no_lists key [] none = tt
  no_lists key (c ∷ cs) none = ((λ is. absurd (omega (arith, none, ap (is_number key) is, is_number_same key))), no_lists key cs (omega (arith, none)))

  lists' : ListsShown core holds.popped views'
  lists' =
      let old = holds.views.lists in
      keyed_join FabricView lists_at (ShowsLists core holds.popped) s.views id other v w both spent at also there
      (λ key. weigh-append (λ (c : Ledger). is_number key c.seat) v.ledgers w.ledgers)
      (λ key. refl)
      (λ key has is. each_append (λ (c : Ledger). c.seat ≡ key → IsTrueLedger core holds.popped c) v.ledgers w.ledgers is (no_lists key w.ledgers (omega (arith, has, one_has (lists_at key) (old.once key)))))
      (λ key has is. each_append (λ (c : Ledger). c.seat ≡ key → IsTrueLedger core holds.popped c) v.ledgers w.ledgers (no_lists key v.ledgers (omega (arith, has, one_has (lists_at key) (old.once key)))) is)
      old

  -- ---- what views show

  idle' : IsIdle shape v → IsIdle shape w → IsIdle shape both
  idle' one more none =
      let first : v.works ≡ [] = none_left v.works w.works none in
      let last : w.works ≡ [] = none_right v.works w.works none in
      let one_is : IsEmptyHanded shape v = one first in
      let more_is : IsEmptyHanded shape w = more last in
      record {
        chunks = one_is.chunks;
        items = λ q f. omega (arith, one_is.items q f, more_is.items q f, none_held q f, weigh-append (λ (c : Ledger). cond (emptied_by shape c.seat == q) (weigh f c.popped) 0) v.ledgers w.ledgers);
      }

  shown : ViewsShow shape word holds.popped holds.armed holds.records core views'
  shown =
      let old = holds.views in
      record {
        there = each (IsOfFabric core) (record { shape = (old.there id v at).shape; role = (old.there id v at).role }) (record { shape = sym holds.shaped; role = first_role }) old.there;
        items = λ q lt f. sums (hand_at q f) (hand_sum q f) ∙ old.items q lt f;
        chunks = λ f. sums (chunks_at f) (let none = ap (weigh (f w.seat)) may.chunks in omega (arith, none)) ∙ old.chunks f;
        opens = each (OpensNoted core) (record { out = (old.opens id v at).out; back = (old.opens id v at).back }) (record { out = holds.keeps.sound.held.segments.out.0; back = holds.keeps.sound.held.segments.back.0 }) old.opens;
        posts = λ stream. sums (posts_at stream) (arms_sum 0 (λ (a : Arm). is_number stream a.stream)) ∙ old.posts stream;
        streams = streams_same core s.views views' (λ f. sums (λ (y : FabricView). weigh f y.arms) (omega (arith, weigh-append f v.arms w.arms)))
            (λ q lt i p. (holds.notes.arms q (subst (λ (sh : Shape). q < queues_of sh) holds.shaped lt)).once i p) old.streams;
        records_known = each (RecordsKnown core holds.records) (each_append (IsPosting core holds.records) v.records w.records (old.records_known id v at) (old.records_known other w also)) tt old.records_known;
        records_there = λ k was. omega (arith, old.records_there k was, sums (records_at k) (omega (arith, weigh-append (λ (p : Posting). is_number k p.stream) v.records w.records)));
        lists = lists';
        lists_there = λ number lt. omega (arith, old.lists_there number lt, sums (lists_at number) (omega (arith, weigh-append (λ (c : Ledger). is_number number c.seat) v.ledgers w.ledgers)));
        works = record { draws = keyed draw_weight old.works.draws; takes = keyed take_weight old.works.takes };
        counted = λ number. sums (opens_at number) (omega (arith, weigh-append (λ (c : Ledger). cond (c.seat == number) c.opened_works 0) v.ledgers w.ledgers)) ∙ old.counted number ∙ sym (sums (works_at number) (works_join number));
        idle = each (IsIdle shape) (idle' (old.idle id v at) (old.idle other w also)) (λ none. record { chunks = refl; items = λ q f. refl }) old.idle;
        in_work = λ engine stream awaits. omega (arith, old.in_work engine stream awaits, sums (draw_at stream) (omega (arith, weigh-append (draw_weight stream) v.works w.works)));
        kept = each (KeptAreWorn core (ring_in word)) (each_append (IsWornOut core (ring_in word)) v.kept w.kept (old.kept id v at) (old.kept other w also)) tt old.kept;
      }
    where
      -- seat 0 is an engine
      first_role : role_of core 0 ≤ 1
      first_role = rw (lt-ltb 0 core.shape.engines (omega (arith, holds.keeps.sound.held.shape.shape.engines.0))) (omega arith)

  pub joins : IsNoStep reply_of shape s holds (record s { views = views' })
  joins = views_change reply_of shape s holds views' notes' shown
