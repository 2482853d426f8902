-- A seat pops the queue that it empties.
use Rattle.std.proofs.Common.{ℕ, ◌+◌, ◌/◌, ◌%◌, ◌^◌, ◌≡◌, ◌≢◌, ◌≤◌, ◌<◌, ◌==◌, inl, inr, Bool, true, false, cond, List, [], ◌∷◌, length, set, refl, sym, ap, ◌∙◌, subst, arith, length-set}
use Rattle.std.specs.Prelude.{Option}
use Rattle.std.proofs.lemmas.Bool.{cases_eq, eq-eqb, ne_eqb}
use mathlib.Core.Option.{some}
use lib.ListN.{get_elem?}
use Rattle.atomic_table.specs.Table.{State, keeps, stepped}
use Rattle.nncq_ring.specs.Words.{Words}
use Rattle.nncq_ring.specs.declared.view.RingEvent.TheVariants.{SawEntry}
use Rattle.app_queue.specs.Arms.{ArmsPlaced}
use Rattle.app_queue.specs.Views.{is_armed}
use Rattle.app_queue.specs.declared.side.Side.TheVariants.{Free, Line}
use Rattle.app_queue.specs.declared.view.ItemEvent.{ItemEvent}
use Rattle.app_queue.specs.declared.view.ItemEvent.TheVariants.{Taken}
use Rattle.app_queue.proofs.ArmFrames.{arms_stay}
use Rattle.request_context.specs.declared.piece.Parcel.{Parcel}
use Rattle.unit_model.specs.Conditions.{conditions_by, conditions_of}
use Rattle.unit_model.specs.Core.{first_item, item_of, queue_of, role_of}
use Rattle.unit_model.specs.Effects.{after_step}
use Rattle.unit_model.specs.Holding.{entries_of, is_in_line, items_of}
use Rattle.unit_model.specs.PartOrder.{PartsInOrder}
use Rattle.unit_model.specs.Limits.{past_items}
use Rattle.unit_model.specs.Premises.{Empties, Engine, Worker}
use Rattle.unit_model.specs.Running.{Enabled}
use Rattle.unit_model.specs.Shapes.{role_in}
use Rattle.unit_model.specs.Sharing.{Holds}
use Rattle.unit_model.specs.Soundness.{IsSound}
use Rattle.unit_model.specs.Weights.{weigh, is_number}
use Rattle.unit_model.specs.declared.machine.Core.{Core}
use Rattle.unit_model.specs.declared.machine.Item.{Item}
use Rattle.unit_model.specs.declared.machine.Step.TheVariants.{Pop}
use Rattle.unit_model.specs.declared.machine.Whereabouts.{Whereabouts}
use Rattle.unit_model.specs.declared.machine.Whereabouts.TheVariants.{InLine, WithSeat}
use Rattle.unit_model.specs.declared.shape.Shape.{Shape}
use Rattle.unit_model.proofs.HeldItems.{counts_at, line_word, word_of_free}
use Rattle.unit_model.proofs.ItemChanges.{SetsItem, queue_there}
use Rattle.unit_model.proofs.MetConditions.{each_met}
use Rattle.unit_model.proofs.MetSteps.{first_in_line, item_is_low}
use Rattle.unit_model.proofs.PartOrderBack.{first_counts, pop_in_order}
use Rattle.unit_model.proofs.Presence.{engine_is_low}
use Rattle.unit_model.proofs.PartOrderOthers.{others_in_order}
use Rattle.unit_model.proofs.StepFacts.{empty_inside, sets_after_pop}
use Rattle.unit_model.proofs.Weights.{is_number_same}
use Rattle.unit_types.specs.declared.message.Reply.{Reply}
use Rattle.unit_types.specs.declared.message.Request.{Request}
use Rattle.fabric_words.specs.Needs.{IsFirst}
use Rattle.fabric_words.specs.Offsets.{offset_of, word_in}
use Rattle.fabric_words.specs.Places.{HasItem, Sets, queues_of}
use Rattle.fabric_words.specs.Shown.{IsStep}
use Rattle.fabric_words.specs.declared.place.Place.{Place}
use Rattle.fabric_words.specs.declared.place.Place.TheVariants.{Head, Tail}
use Rattle.fabric_words.specs.declared.place.Side.TheVariants.{FreeSide, LineSide}
use Rattle.fabric_words.proofs.EachStep.{made_step}
use Rattle.fabric_words.proofs.Frames.{chunk_stays, item_there}
use Rattle.fabric_rule.specs.FrameLaws.{SameLists}
use Rattle.fabric_rule.specs.Parts.{ItemsHeld, IsEmptyHanded, IsIdle, IsTrueLedger, ListsShown, ShowsLists, hand_weight}
use Rattle.fabric_rule.specs.Rule.{FabricHolds, NotesAreTrue, ViewsShow}
use Rattle.fabric_rule.specs.Steps.{IsMachineStep, IsMain, PopLaw, with_popped}
use Rattle.fabric_rule.specs.Views.{arms_at, emptied_by, got_at, held_at, is_got, item_log, lists_at, log_at, part_in, popped_at, queues_in, ring_in, run_in, tag_in, words_in}
use Rattle.fabric_rule.specs.declared.view.Ledger.{Ledger}
use Rattle.fabric_rule.specs.declared.view.FabricView.{FabricView}
use Rattle.fabric_rule.proofs.Contents.{filled_stay}
use Rattle.fabric_rule.proofs.Frames.{chunks_stay, opens_stay}
use Rattle.fabric_rule.proofs.KeyedSteps.{keyed_step}
use Rattle.fabric_rule.proofs.ItemNotes.{ItemsStill}
use Rattle.fabric_rule.proofs.Staying.{SaysTheSame, moved_alone, streams_left, views_stay}
use Rattle.fabric_rule.proofs.CoreSteps.{LeavesSeats, pop_leaves}
use Rattle.fabric_rule.proofs.Hands.{nothing_of}
use Rattle.fabric_rule.proofs.Ledgers.{own_ledger, own_popped}
use Rattle.fabric_rule.proofs.RuleSteps.{step_made}
use Rattle.fabric_rule.proofs.TakenItems.{got_held, not_in_hand}
use Rattle.fabric_rule.proofs.TakenItems as taken
use Rattle.fabric_rule.proofs.Sums.{each_gives}
use Rattle.fabric_rule.proofs.ListFrames.{ledger_same, in_work_stay, lists_same, works_stay}

-- the item that is popped is there, and was in the line
was_inside : (core : Core) (seat queue item place : ℕ) → Enabled core (Pop seat queue item place) → item < length (queue_of core queue).items
unfolding conditions_by
was_inside core seat queue item place met = empty_inside core seat queue item (each_met (conditions_of core (Pop seat queue item place)) met 1)

was_first : (core : Core) (seat queue item place : ℕ) → Enabled core (Pop seat queue item place) → first_item (queue_of core queue).line ≡ item
unfolding conditions_by
was_first core seat queue item place met = first_in_line core queue item (each_met (conditions_of core (Pop seat queue item place)) met 3)

was_in_line : (core : Core) (seat queue item place : ℕ) → IsSound core → Enabled core (Pop seat queue item place) → (item_of core queue item).whereabouts ≡ InLine
was_in_line core seat queue item place sound met =
    let inside = was_inside core seat queue item place met in
    let low : item < 2 ^ 32 = item_is_low core queue item sound.held.shape (queue_there core queue item inside) inside in
    let some_there = first_counts (queue_of core queue).line item (was_first core seat queue item place met) low in
    let is : is_in_line (item_of core queue item).whereabouts ≡ true =
    word_of_free (is_in_line (item_of core queue item).whereabouts) (entries_of item (queue_of core queue).line) (sym (counts_at is_in_line (queue_of core queue).items (queue_of core queue).line item inside (sound.held.queues queue).line)) some_there in
    line_word (item_of core queue item).whereabouts is

one_more : (b : Bool) (n : ℕ) → cond {A = ℕ} b (n + 0) 0 ≡ cond {A = ℕ} b n 0
one_more true n = omega arith
one_more false n = refl

-- ---- the step

module _ {H : Type 0} (reply_of : List ℕ → Request → Reply) (shape : Shape) (s : State (Option (Parcel H)) FabricView) (holds : FabricHolds reply_of shape s) (id : ℕ) (v : FabricView) (c : Ledger)
    (at : get_elem? s.views id ≡ some v) (main : IsMain v c) (queue : ℕ) (first_queue : queue < queues_of shape) (empties : Empties holds.core v.seat queue) (mine : emptied_by shape v.seat ≡ queue)
    (place entry : ℕ) (saw : get_elem? (log_at queue Line v) 0 ≡ some (SawEntry place entry)) (full : entry / items_of shape queue ≡ place / items_of shape queue)
    (found : word_in shape s.words (Head queue LineSide) ≡ place) where
  abbrev pub n : ℕ
  n = items_of shape queue

  abbrev pub item : ℕ
  item = entry % items_of shape queue

  abbrev pub u : FabricView
  u = with_popped queue item place c v

  abbrev pub word : Place → ℕ
  word = word_in shape s.words

  abbrev pub word' : Place → ℕ
  word' = word_in shape (set s.words (offset_of shape (Head queue LineSide)) (place + 1))

  abbrev pub w : Words
  w = ring_in word queue Line

  abbrev pub w' : Words
  w' = ring_in word' queue Line

  abbrev pub core : Core
  core = holds.core

  abbrev pub core' : Core
  core' = after_step core (Pop v.seat queue item place)

  sets : Sets shape word word' (Head queue LineSide) (place + 1)
  sets = taken.sets reply_of shape s holds id v at queue first_queue Line place entry saw full found u.ledgers

  link : IsStep word' core (Pop v.seat queue item place)
  link =
      made_step shape word word' (Pop v.seat queue item place) sets core holds.shaped holds.keeps.sound holds.shows
      (record { empties = empties; first = subst (λ (sh : Shape). IsFirst (items_of sh queue) w place item) (sym holds.shaped) (taken.is_first reply_of shape s holds id v at queue first_queue Line place entry saw full found u.ledgers) })

  leaves : LeavesSeats core core'
  leaves = pop_leaves core v.seat queue item place

  same : SameLists core core'
  same = leaves.lists

  shape' : core'.shape ≡ shape
  shape' = same.shape ∙ holds.shaped

  inside : item < length (queue_of core queue).items
  inside = was_inside core v.seat queue item place link.enabled

  there : HasItem core.shape queue item
  there = item_there core queue item holds.keeps.sound.held.shape inside

  in_line : (item_of core queue item).whereabouts ≡ InLine
  in_line = was_in_line core v.seat queue item place holds.keeps.sound link.enabled

  abbrev pub now : Item
  now = record (item_of core queue item) { whereabouts = WithSeat v.seat }

  changed : SetsItem core core' queue item now
  changed = sets_after_pop core v.seat queue item place inside

  -- no seat had the item
  away : (f : ℕ → ℕ → ℕ) → hand_weight f (item_of core queue item).whereabouts item ≡ 0
  away f = ap (λ (x : Whereabouts). hand_weight f x item) in_line

  not_mine : held_at queue (is_number item) v ≡ 0
  not_mine = not_in_hand core s.views id v at holds.views.items queue item (subst (λ (sh : Shape). queue < queues_of sh) (sym holds.shaped) first_queue) away

  -- ---- notes

  still : ItemsStill shape word word'
  still = taken.still reply_of shape s holds id v at queue first_queue Line place entry saw full found u.ledgers

  -- the item wasn't got from the free ring
  was_got : (q i : ℕ) → (p : ℕ) → got_at q u i p → Holds (held_at q) i v × got_at q v i p
  was_got q i p got =
      let before : 1 ≤ weigh (is_got q i p) v.items = omega (arith, got.0) in
      let held : Holds (held_at q) i v = omega (arith, before, got_held q i p v.items) in
      let unarmed : is_armed i (item_log q v.log) ≡ false = elim (cases_eq q queue) [
        | inl is ↦
            let other : item ≢ i = λ same_item. absurd (omega (arith, not_mine, subst (λ (r : ℕ). 0 < held_at r (is_number i) v) is held, ap (λ (j : ℕ). held_at queue (is_number j) v) same_item)) in
            let told : is_armed i (Taken Line item place ∷ item_log queue v.log) ≡ false = sym (ap (is_armed i) (taken.own_events reply_of shape s holds id v at queue first_queue Line place entry saw full found u.ledgers)) ∙ subst (λ (r : ℕ). is_armed i (item_log r u.log) ≡ false) is got.1 in
            subst (λ (r : ℕ). is_armed i (item_log r v.log) ≡ false) (sym is) (sym (ap (λ (b : Bool). cond b false (is_armed i (item_log queue v.log))) (ne_eqb item i other)) ∙ told)
        | inr ne ↦ subst (λ (es : List ItemEvent). is_armed i es ≡ false) (taken.same_events reply_of shape s holds id v at queue first_queue Line place entry saw full found u.ledgers q ne) got.1
      ] in
      (held, (before, unarmed))

  arms' : ArmsPlaced arms_at held_at got_at (queues_in shape) (words_in word') (set s.views id u)
  arms' q lt =
      let heads : word' (Head q FreeSide) ≡ word (Head q FreeSide) = sets.others (Head q FreeSide) lt (λ is. absurd (cc is)) in
      arms_stay FabricView (got_at q) (arms_at q) (held_at q) (items_of shape q) (word (Head q FreeSide)) (word' (Head q FreeSide)) (tag_in word q) (tag_in word' q) (run_in word q) (run_in word' q) (part_in word q) (part_in word' q) s.views id v u at
      (omega (arith, heads)) (λ i below_n. inr (still.tags q lt i below_n, still.runs q lt i below_n, still.parts q lt i below_n)) refl (λ i held p got. was_got q i p got) (holds.notes.arms q lt)

  notes' : NotesAreTrue shape word' (set s.views id u)
  notes' = taken.items_taken reply_of shape s holds id v at queue first_queue Line place entry saw full found u.ledgers (λ x is. absurd (cc is)) arms'

  -- ---- views

  items' : ItemsHeld core' (set s.views id u)
  items' = taken.item_comes reply_of shape s holds id v at queue first_queue Line place entry saw full found u.ledgers core' same.shape there.in_items changed away

  lists' : (popped' : ℕ → List ℕ) → (role_of core v.seat ≡ 0 → popped' v.seat ≡ item ∷ []) → ((k : ℕ) → k ≢ v.seat → popped' k ≡ holds.popped k) → ListsShown core' popped' (set s.views id u)
  lists' popped' pops others =
      let as_many : (key : ℕ) → lists_at key u ≡ lists_at key v = λ key. sym (ap (weigh (λ (d : Ledger). is_number key d.seat)) main.only) in
      let mine_at : lists_at v.seat v ≡ 1 = ap (weigh (λ (d : Ledger). is_number v.seat d.seat)) main.only ∙ omega (arith, ap (is_number v.seat) main.number, is_number_same v.seat) in
      let kept_ledger = ledger_same core core' holds.popped same c (own_ledger core holds.popped s.views id v c at main.only holds.views.lists) in
      keyed_step FabricView lists_at (ShowsLists core holds.popped) (ShowsLists core' popped') s.views id v u at
      (λ key. omega (arith, as_many key, holds.views.lists.once key))
      (λ key has. (
        (λ is. record {
          lists = kept_ledger.lists;
          refused = kept_ledger.refused;
          popped_item = λ engine. ap popped' main.number ∙ pops (sym (ap (role_of core) main.number) ∙ sym (ap (λ (sh : Shape). role_in sh c.seat) same.shape) ∙ engine);
        }),
        tt,
      ))
      (λ key none y has is.
      let other : key ≢ v.seat = λ same_key. absurd (omega (arith, none, ap (λ (k : ℕ). lists_at k v) same_key, mine_at)) in
      each_gives (λ (d : Ledger). d.seat ≡ key → IsTrueLedger core' holds.popped d) (λ (d : Ledger). d.seat ≡ key → IsTrueLedger core' popped' d) y.ledgers
      (λ d was is_key. record {
        lists = (was is_key).lists;
        refused = (was is_key).refused;
        popped_item = λ engine. others d.seat (λ same_seat. other (sym is_key ∙ same_seat)) ∙ (was is_key).popped_item engine;
      })
      (lists_same core core' holds.popped same key y is))
      holds.views.lists

  idle' : IsIdle shape u
  idle' spent =
      let rest : IsEmptyHanded shape v = holds.views.idle id v at spent in
      let own_queue : emptied_by shape c.seat ≡ queue = ap (emptied_by shape) main.number ∙ mine in
      record {
        chunks = rest.chunks;
        items = λ q f.
            let old : popped_at shape q f v ≡ 0 =
            ap (weigh (λ (d : Ledger). cond (emptied_by shape d.seat == q) (weigh f d.popped) 0)) main.only
            ∙ omega (arith, nothing_of (emptied_by shape c.seat == q) (weigh f c.popped) (ap (weigh f) main.nothing)) in
            let now_popped : cond {A = ℕ} (emptied_by shape c.seat == q) (f item + 0) 0 ≡ cond {A = ℕ} (queue == q) (f item) 0 =
            ap (λ (m : ℕ). cond {A = ℕ} (m == q) (f item + 0) 0) own_queue ∙ one_more (queue == q) (f item) in
            omega (arith, rest.items q f, old, now_popped);
      }

  same_item : (q i : ℕ) → SaysTheSame (item_of core q i) (item_of core' q i)
  same_item = moved_alone core core' queue item (WithSeat v.seat) changed

  views' : (popped' : ℕ → List ℕ) → (role_of core v.seat ≡ 0 → popped' v.seat ≡ item ∷ []) → ((k : ℕ) → k ≢ v.seat → popped' k ≡ holds.popped k) → ViewsShow shape word' popped' holds.armed holds.records core' (set s.views id u)
  views' popped' pops others =
      let tails : (q : ℕ) → q < queues_of core.shape → (ring_in word q Free).tail ≤ (ring_in word' q Free).tail = λ q lt.
      let is : word' (Tail q FreeSide) ≡ word (Tail q FreeSide) = sets.others (Tail q FreeSide) (subst (λ (sh : Shape). q < queues_of sh) holds.shaped lt) (λ e. absurd (cc e)) in omega (arith, is) in
      views_stay shape word word' holds.popped holds.armed popped' holds.armed holds.records core core'
      (streams_left core core' same same_item) s.views id v u at
      (record { shape = refl; number = refl; arms = refl; records = refl; kept = refl })
      tails
      (record {
        items = items';
        chunks = chunks_stay core core' s.views id v u at same.shape leaves.owners (λ f. refl) holds.views.chunks;
        opens = opens_stay core core' s.views id v u at leaves.opened refl refl holds.views.opens;
        lists = lists' popped' pops others;
        numbers = λ k. sym (ap (weigh (λ (d : Ledger). is_number k d.seat)) main.only);
        works = works_stay core core' holds.armed s.views id v u at same refl refl refl holds.views.works;
        counted = λ k. omega (arith, ap (weigh (λ (d : Ledger). cond (d.seat == k) d.opened_works 0)) main.only);
        idle = idle';
        in_work = in_work_stay core core' s.views id v u at same refl holds.views.in_work;
      })
      holds.views

  -- ---- the machine, slots

  popped_before : role_of core v.seat ≡ 0 → holds.popped v.seat ≡ []
  popped_before engine = own_popped core holds.popped s.views id v c at main engine holds.views.lists ∙ main.nothing

  -- an item in the line of a back queue has a tag
  tagged : queue ≢ 0 → (item_of core queue item).tag ≢ 0
  tagged back = (holds.keeps.items queue item).in_line back in_line

  pub pops : (popped' : ℕ → List ℕ) → (role_of core v.seat ≡ 0 → popped' v.seat ≡ item ∷ []) → ((k : ℕ) → k ≢ v.seat → popped' k ≡ holds.popped k) → PartsInOrder popped' holds.armed core'
      → (carried : List (ℕ × Option (Parcel H))) → IsMachineStep reply_of shape s holds (Pop v.seat queue item place) (stepped s (offset_of shape (Head queue LineSide)) (place + 1) id carried u keeps)
  pops popped' pops_it others order carried =
      step_made reply_of shape s holds (Pop v.seat queue item place) (set s.words (offset_of shape (Head queue LineSide)) (place + 1)) s.homes (set s.views id u) popped' holds.armed
      (omega (arith, holds.wide, length-set s.words (offset_of shape (Head queue LineSide)) (place + 1))) link shape' order notes' (views' popped' pops_it others)
      (λ chunk lt is. holds.free chunk lt (sym (chunk_stays shape word word' (Head queue LineSide) (place + 1) sets (λ k e. absurd (cc e)) chunk lt) ∙ is))
      (filled_stay H reply_of holds.records holds.records core core' s.homes s.homes same.shape (λ q i has armed. let it = same_item q i in (it.tag, it.run, it.part, refl, λ chunk in_run. refl)) holds.filled)

  -- a worker, which pops no item of a back queue
  pub worker_pops : role_of core v.seat ≡ 1 → queue ≡ 0 → (carried : List (ℕ × Option (Parcel H))) → IsMachineStep reply_of shape s holds (Pop v.seat queue item place) (stepped s (offset_of shape (Head queue LineSide)) (place + 1) id carried u keeps)
  worker_pops role line carried =
      pops holds.popped (λ engine. absurd (omega (arith, role, engine))) (λ k ne. refl)
      (others_in_order holds.popped holds.armed core (Pop v.seat queue item place) holds.keeps.sound holds.keeps.order line link.enabled) carried

  abbrev now_popped : ℕ → List ℕ
  now_popped k = cond (k == v.seat) (item ∷ []) (holds.popped k)

  pub engine_pops : role_of core v.seat ≡ 0 → queue ≡ 1 + v.seat → (carried : List (ℕ × Option (Parcel H))) → IsMachineStep reply_of shape s holds (Pop v.seat queue item place) (stepped s (offset_of shape (Head queue LineSide)) (place + 1) id carried u keeps)
  engine_pops role own carried =
      let here : now_popped v.seat ≡ item ∷ [] = ap (λ (b : Bool). cond b (item ∷ []) (holds.popped v.seat)) (eq-eqb v.seat v.seat refl) in
      let others : (k : ℕ) → k ≢ v.seat → now_popped k ≡ holds.popped k = λ k ne. ap (λ (b : Bool). cond b (item ∷ []) (holds.popped k)) (ne_eqb k v.seat ne) in
      let low : item < past_items = item_is_low core queue item holds.keeps.sound.held.shape (queue_there core queue item inside) inside in
      let first : first_item (queue_of core queue).line ≡ item = was_first core v.seat queue item place link.enabled in
      let order : PartsInOrder now_popped holds.armed (after_step core (Pop v.seat (1 + v.seat) item place)) =
      pop_in_order holds.popped now_popped holds.armed core holds.keeps.sound holds.keeps.order v.seat item place role
      (subst (λ (q : ℕ). first_item (queue_of core q).line ≡ item) own first) low (subst (λ (q : ℕ). (item_of core q item).tag ≢ 0) own (tagged (λ is. absurd (omega (arith, own, is)))))
      (record { before = popped_before role; after = here; others = others }) in
      pops now_popped (λ engine. here) others (subst (λ (q : ℕ). PartsInOrder now_popped holds.armed (after_step core (Pop v.seat q item place))) (sym own) order) carried

-- ---- the law

pub pop : (H : Type 0) → PopLaw H
pop H reply_of shape s holds id v c carried at main some_role queue is place entry saw full found =
    let role : role_of holds.core v.seat ≡ role_in shape v.seat = ap (λ (sh : Shape). role_in sh v.seat) holds.shaped in
    elim (cases_eq (role_in shape v.seat) 0) [
      | inl engine ↦
          let own : queue ≡ 1 + v.seat = is ∙ ap (λ (b : Bool). cond b (1 + v.seat) 0) (eq-eqb (role_in shape v.seat) 0 engine) in
          let low : v.seat < shape.engines = subst (λ (sh : Shape). v.seat < sh.engines) holds.shaped (engine_is_low holds.core v.seat (role ∙ engine)) in
          engine_pops reply_of shape s holds id v c at main queue (omega (arith, low, own)) (Engine (role ∙ engine) own) (sym is) place entry saw full found (role ∙ engine) own carried
      | inr other ↦
          let line : queue ≡ 0 = is ∙ ap (λ (b : Bool). cond b (1 + v.seat) 0) (ne_eqb (role_in shape v.seat) 0 other) in
          let worker : role_in shape v.seat ≡ 1 = omega (arith, some_role, other) in
          worker_pops reply_of shape s holds id v c at main queue (omega (arith, line)) (Worker (role ∙ worker) line) (sym is) place entry saw full found (role ∙ worker) line carried
    ]
