-- An engine cancels a request that it posted.
use Rattle.std.proofs.Common.{ℕ, ◌≡◌, ◌≢◌, ◌≤◌, ◌<◌, ◌==◌, inl, inr, ⊎_elim, Bool, List, [], ◌∷◌, length, replicate, set, refl, sym, ap, ◌∙◌, subst, arith}
use Rattle.std.specs.Prelude.{Option}
use Rattle.std.proofs.lemmas.Bool.{cases_eq, cases_lt, eq-eqb}
use Rattle.std.proofs.lemmas.List.{length-replicate}
use mathlib.Core.Option.{some}
use lib.ListN.{get_elem?}
use Rattle.atomic_table.specs.Table.{State}
use Rattle.atomic_table.proofs.Lists.{at_set}
use Rattle.app_queue.specs.Arms.{Arm, IsStanding, WasArmed}
use Rattle.app_queue.specs.Parts.{WordsKnown}
use Rattle.port_message.specs.Words.{numbers_of}
use Rattle.request_context.specs.declared.piece.Parcel.{Parcel}
use Rattle.unit_model.specs.ByRole.{SeatByRole}
use Rattle.unit_model.specs.Core.{item_of, role_of, seat_of}
use Rattle.unit_model.specs.Effects.{after_step, noted, settled_note}
use Rattle.unit_model.specs.Holding.{items_of}
use Rattle.unit_model.specs.PartCounts.{of_stream}
use Rattle.unit_model.specs.PartOrder.{Each}
use Rattle.unit_model.specs.Premises.{Cancels, MaySettle}
use Rattle.unit_model.specs.Shapes.{role_in}
use Rattle.unit_model.specs.Sharing.{Holds}
use Rattle.unit_model.specs.StreamCounts.{StreamCounts, by_seat, posted}
use Rattle.unit_model.specs.Weights.{weigh, is_number, times}
use Rattle.unit_model.specs.declared.machine.Core.{Core}
use Rattle.unit_model.specs.declared.machine.Note.{Note}
use Rattle.unit_model.specs.declared.machine.Note.TheVariants.{Cancelled}
use Rattle.unit_model.specs.declared.machine.Seat.{Seat as SeatLists}
use Rattle.unit_model.specs.declared.machine.Step.TheVariants.{Settle}
use Rattle.unit_model.specs.declared.shape.Shape.{Shape}
use Rattle.unit_model.proofs.PartOrderOthers.{others_in_order}
use Rattle.unit_model.proofs.SeatNotes.{one_seat, seat_in_all}
use Rattle.unit_model.proofs.StreamPoints.{posted_some}
use Rattle.unit_model.proofs.StreamSteps.{posted_at_most_once}
use Rattle.unit_model.proofs.Views.{sum_two}
use Rattle.unit_model.proofs.Weights.{is_number_same, weigh_push}
use Rattle.unit_types.specs.declared.message.Reply.{Reply}
use Rattle.unit_types.specs.declared.message.Request.{Request}
use Rattle.fabric_words.specs.Offsets.{offset_of, word_in}
use Rattle.fabric_words.specs.Places.{HasItem, queues_of}
use Rattle.fabric_words.specs.declared.place.Place.{Place}
use Rattle.fabric_words.specs.declared.place.Place.TheVariants.{RunWord, Tag}
use Rattle.fabric_rule.specs.Parts.{AwaitsReply, IsTrueLedger, KnowsDrawn, KnowsPosted, KnowsWork, has_last}
use Rattle.fabric_rule.specs.Rule.{FabricHolds}
use Rattle.fabric_rule.specs.Settling.{CancelLaw, HasPost, NothingReceivedLaw, RequestReturns, UnpushedLaw, with_cancelled}
use Rattle.fabric_rule.specs.Steps.{HasLists, with_note}
use Rattle.fabric_rule.specs.Views.{arms_at, draw_at, draw_weight, held_at, part_in, posts_at, queues_in, run_in, tag_in, tag_kept, tag_said, take_at, take_weight}
use Rattle.fabric_rule.specs.declared.view.Ledger.{Ledger}
use Rattle.fabric_rule.specs.declared.view.FabricView.{FabricView}
use Rattle.fabric_rule.specs.declared.view.Work.{Work}
use Rattle.fabric_rule.specs.declared.view.Work.TheVariants.{Holding, Posted}
use Rattle.fabric_rule.proofs.Accounting.{holding_none}
use Rattle.fabric_rule.proofs.ArmSteps.{has_of_times}
use Rattle.fabric_rule.proofs.OwnViews.{awaits_end, has_posts, one_arm, own_arm, works_end}
use Rattle.fabric_rule.proofs.Ledgers.{own_ledger, own_popped}
use Rattle.fabric_rule.proofs.Noting.{noted_here}
use Rattle.fabric_rule.proofs.Passing.{this_or_other}
use Rattle.fabric_rule.proofs.SettleSteps.{IsNoted, comes, contents, enabled, kept_else, notes_one, parcels, postings, said_zero, same_posted, was_kept, zero_here}
use Rattle.fabric_rule.proofs.TakeSteps.{none_last_of, request_of}

-- ---- who posted a stream

module _ {H : Type 0} (reply_of : List ℕ → Request → Reply) (shape : Shape) (s : State (Option (Parcel H)) FabricView) (holds : FabricHolds reply_of shape s) (id : ℕ) (v : FabricView) (c : Ledger) (at : get_elem? s.views id ≡ some v)
    (item stream : ℕ) (main : HasLists v c (Posted stream item ∷ [])) where
  abbrev core : Core
  core = holds.core

  abbrev word : Place → ℕ
  word = word_in shape s.words

  counts : StreamCounts core
  counts = holds.keeps.sound.streams

  pub has_draw : (key : ℕ) → draw_at key v ≡ is_number key stream
  has_draw key = omega (arith, ap (weigh (draw_weight key)) main.has)

  pub knows_posted : KnowsPosted (seat_of core v.seat) v.arms stream item
  knows_posted = (subst (λ (ws : List Work). Each (λ (w : Work). 1 ≤ draw_weight stream w → KnowsWork core holds.armed v.seat v.arms w) ws) main.has
      (holds.views.works.draws.each stream id v at (omega (arith, has_draw stream, is_number_same stream)))).0 (omega (arith, is_number_same stream))

  -- who posts is an engine
  pub poster_engine : role_of core v.seat ≡ 0
  poster_engine = elim (cases_eq (role_of core v.seat) 0) [
    | inl is ↦ is
    | inr ne ↦ absurd (omega (arith, knows_posted.was_posted, ap (times stream) ((holds.keeps.seats v.seat).engine ne).1))
  ]

  pub poster_lists : SeatByRole 0 (seat_of core v.seat)
  poster_lists = subst (λ (r : ℕ). SeatByRole r (seat_of core v.seat)) poster_engine (holds.keeps.seats v.seat)

  pub some_stream : stream ≢ 0
  some_stream = posted_some core counts stream (omega (arith, knows_posted.was_posted, seat_in_all posted core v.seat stream refl))

  pub only_poster : (k : ℕ) → 1 ≤ by_seat posted core k stream → k ≡ v.seat
  only_poster k has = one_seat posted core stream k v.seat refl (posted_at_most_once core counts stream) has knows_posted.was_posted

  pub arms_once : weigh (posts_at stream) s.views ≤ 1
  arms_once = omega (arith, holds.views.posts stream, posted_at_most_once core counts stream)

  -- an item whose tag is the stream was armed with it by this seat
  pub standing_arm : (i : ℕ) → HasItem shape 0 i → word (Tag 0 i) ≡ stream → (arm : Arm) → WasArmed (arms_at 0) s.views arm → arm.stream ≡ stream → (arm.item ≡ i) × (arm.run ≡ word (RunWord 0 i))
  standing_arm i there is arm was of =
      let standing : IsStanding (arms_at 0) (tag_in word 0) (run_in word 0) (part_in word 0) s.views i = (holds.notes.arms 0 there.in_queues).standing i there.in_items (λ none. some_stream (sym is ∙ none)) in
      let same : arm ≡ standing.arm = one_arm stream s.views arms_once arm standing.arm was standing.latest.was of (standing.has_tag ∙ is) in
      (ap (λ (a : Arm). a.item) same ∙ standing.of_item, ap (λ (a : Arm). a.run) same ∙ standing.has_run)

  -- so it is the item that it posted
  pub tag_is_item : (i : ℕ) → HasItem shape 0 i → word (Tag 0 i) ≡ stream → i ≡ item
  tag_is_item i there is =
      let arm = own_arm stream item v.arms knows_posted.arm in
      sym (standing_arm i there is arm.1 (id, v, at, arm.0, arm.2) arm.3).0 ∙ arm.4

  pub popped_is : role_of core v.seat ≡ 0 → holds.popped v.seat ≡ c.popped
  popped_is engine = own_popped core holds.popped s.views id v c at main.main engine holds.views.lists

-- ---- the step

module _ {H : Type 0} (reply_of : List ℕ → Request → Reply) (shape : Shape) (s : State (Option (Parcel H)) FabricView) (holds : FabricHolds reply_of shape s) (id : ℕ) (v : FabricView) (c : Ledger) (carried : List (ℕ × Option (Parcel H))) (at : get_elem? s.views id ≡ some v)
    (item stream run_word more : ℕ) (main : HasLists v c (Posted stream item ∷ [])) (there : HasItem shape 0 item) (post : HasPost v item stream run_word) (tag : word_in shape s.words (Tag 0 item) ≡ stream) where
  abbrev old_core : Core
  old_core = holds.core

  abbrev new_core : Core
  new_core = after_step old_core (Settle v.seat 0 item stream)

  abbrev old_word : Place → ℕ
  old_word = word_in shape s.words

  abbrev new_word : Place → ℕ
  new_word = word_in shape (set s.words (offset_of shape (Tag 0 item)) 0)

  abbrev note : Note
  note = Cancelled stream

  abbrev ledger' : Ledger
  ledger' = with_note note more c

  abbrev u : FabricView
  u = with_cancelled item stream (numbers_of run_word) more c v

  nonzero : stream ≢ 0
  nonzero = some_stream reply_of shape s holds id v c at item stream main

  engine : role_of old_core v.seat ≡ 0
  engine = poster_engine reply_of shape s holds id v c at item stream main

  knows : KnowsPosted (seat_of old_core v.seat) v.arms stream item
  knows = knows_posted reply_of shape s holds id v c at item stream main

  run_word_is : old_word (RunWord 0 item) ≡ run_word
  run_word_is = sym (standing_arm reply_of shape s holds id v c at item stream main item there tag post.arm (id, v, at, post.place, post.there) post.of_stream).1 ∙ post.of_run

  may : MaySettle old_core v.seat 0 item stream
  may = Cancels engine refl (has_of_times stream (seat_of old_core v.seat).posted knows.was_posted)

  note_is : settled_note (role_of old_core v.seat == 0) 0 stream (item_of old_core 0 item) ≡ note
  note_is = ap (λ (b : Bool). settled_note b 0 stream (item_of old_core 0 item)) (eq-eqb (role_of old_core v.seat) 0 engine)

  ledger : IsNoted v c ledger' note (Holding ∷ replicate more Holding)
  ledger = record {
    only = main.main.only;
    number = main.main.number;
    seat = refl;
    lists = refl;
    refusals = refl;
    more = more;
    opened = refl;
    works_more = omega (arith, length-replicate more Holding, ap (length {A = Work}) main.has);
  }

  -- ---- no other view of this engine holds the item as its poster

  clash : (k : ℕ) (y : FabricView) → k ≢ id → get_elem? s.views k ≡ some y → (x : ℕ) → Holds (held_at 0) item y → tag_kept shape 0 y item x → ⊥
  clash k y ne at_y x held told =
      let is : old_word (Tag 0 item) ≡ x = holds.notes.kept_tags 0 there.in_queues k y at_y item there.in_items held x told in
      ⊎_elim
      (λ off. off refl)
      (λ own.
      let theirs : 1 ≤ posts_at stream y = subst (λ (n : ℕ). 1 ≤ posts_at n y) (sym is ∙ tag) (has_posts x item y own.1) in
      let mine : 1 ≤ posts_at stream v = has_posts stream item v knows.arm in
      absurd (omega (arith, theirs, mine, arms_once reply_of shape s holds id v c at item stream main, sum_two (posts_at stream) s.views k id y v ne at_y at)))
      told.1

  kept_other : (k : ℕ) (y : FabricView) → k ≢ id → get_elem? s.views k ≡ some y → (r i : ℕ) → r < queues_of shape → i < items_of shape r → Holds (held_at r) i y → (x : ℕ) → tag_kept shape r y i x → tag_in new_word r i ≡ x
  kept_other k y ne at_y r i lt below_n held x told = ⊎_elim
      (λ this. absurd (clash k y ne at_y x
      (subst (λ (j : ℕ). Holds (held_at 0) j y) this.1 (subst (λ (q : ℕ). Holds (held_at q) i y) this.0 held))
      (subst (λ (j : ℕ). tag_kept shape 0 y j x) this.1 (subst (λ (q : ℕ). tag_kept shape q y i x) this.0 told))))
      (λ other. kept_else reply_of shape s holds id v carried at 0 item stream run_word there tag nonzero run_word_is may note note_is (λ l. refl) c ledger' Holding (replicate more Holding) v.records ledger r i x lt below_n other (holds.notes.kept_tags r lt k y at_y i below_n held x told))
      (this_or_other 0 item r i)

  kept_mine : (r i : ℕ) → r < queues_of shape → i < items_of shape r → Holds (held_at r) i u → (x : ℕ) → tag_kept shape r u i x → tag_in new_word r i ≡ x
  kept_mine r i lt below_n held x told = ⊎_elim
      (λ this.
      let zero_tag : tag_in new_word 0 item ≡ 0 = zero_here reply_of shape s holds id v carried at 0 item stream run_word there tag nonzero run_word_is may note note_is (λ l. refl) c ledger' Holding (replicate more Holding) v.records ledger in
      let said : tag_said 0 u item x = subst (λ (j : ℕ). tag_said 0 u j x) this.1 (subst (λ (q : ℕ). tag_said q u i x) this.0 told.0) in
      let is : x ≡ 0 = said_zero reply_of shape s holds id v carried at 0 item stream run_word there tag nonzero run_word_is may note note_is (λ l. refl) c ledger' Holding (replicate more Holding) v.records ledger x said in
      subst (λ (q : ℕ). tag_in new_word q i ≡ x) (sym this.0) (subst (λ (j : ℕ). tag_in new_word 0 j ≡ x) (sym this.1) (zero_tag ∙ sym is)))
      (λ other.
      let before : tag_kept shape r v i x = was_kept reply_of shape s holds id v carried at 0 item stream run_word there tag nonzero run_word_is may note note_is (λ l. refl) c ledger' Holding (replicate more Holding) v.records ledger r i x other told in
      kept_else reply_of shape s holds id v carried at 0 item stream run_word there tag nonzero run_word_is may note note_is (λ l. refl) c ledger' Holding (replicate more Holding) v.records ledger r i x lt below_n other (holds.notes.kept_tags r lt id v at i below_n held x before))
      (this_or_other 0 item r i)

  kept_tags' : WordsKnown held_at (tag_kept shape) (queues_in shape) (tag_in new_word) (set s.views id u)
  kept_tags' r lt k y at_y i below_n held x told = ⊎_elim
      (λ t. kept_mine r i lt below_n (subst (λ (z : FabricView). Holds (held_at r) i z) (sym t.1) held) x (subst (λ (z : FabricView). tag_kept shape r z i x) (sym t.1) told))
      (λ t. kept_other k y t.0 t.1 r i lt below_n held x told)
      (at_set s.views id k u y at_y)

  -- ---- the seat's lists then

  ended : AwaitsReply (seat_of new_core v.seat) stream → ⊥
  ended awaits =
      let now : seat_of new_core v.seat ≡ noted note (seat_of old_core v.seat) = noted_here old_core new_core v.seat note (notes_one reply_of shape s holds id v carried at 0 item stream run_word there tag nonzero run_word_is may note note_is (λ l. refl)) in
      absurd (omega (arith, awaits.uncancelled, ap (λ (l : SeatLists). times stream l.cancelled) now, weigh_push (is_number stream) (seat_of old_core v.seat).cancelled stream, is_number_same stream))

  draws_u : (key : ℕ) → draw_at key u ≡ 0
  draws_u key = omega (arith, holding_none (draw_weight key) refl more)

  takes_u : (key : ℕ) → take_at key u ≡ 0
  takes_u key = omega (arith, holding_none (take_weight key) refl more)

  pub cancels : RequestReturns reply_of shape s holds id v c carried item stream (numbers_of run_word) more
  cancels =
      let one = notes_one reply_of shape s holds id v carried at 0 item stream run_word there tag nonzero run_word_is may note note_is (λ l. refl) in
      let draws_v : (key : ℕ) → draw_at key v ≡ is_number key stream = has_draw reply_of shape s holds id v c at item stream main in
      record {
        parcels = parcels reply_of shape s holds id v carried at 0 item stream run_word there tag nonzero run_word_is may note note_is (λ l. refl);
        request = request_of reply_of holds.records stream _ _ (contents reply_of shape s holds id v carried at 0 item stream run_word there tag nonzero run_word_is may note note_is (λ l. refl));
        comes = comes reply_of shape s holds id v carried at 0 item stream run_word there tag nonzero run_word_is may note note_is (λ l. refl) c ledger' Holding (replicate more Holding) v.records ledger
            holds.popped holds.armed (popped_is reply_of shape s holds id v c at item stream main) (λ k ne. refl)
            (others_in_order holds.popped holds.armed old_core (Settle v.seat 0 item stream) holds.keeps.sound holds.keeps.order refl (enabled reply_of shape s holds id v carried at 0 item stream run_word there tag nonzero run_word_is may note note_is (λ l. refl)))
            kept_tags'
            (works_end old_core new_core holds.armed s.views id v u at stream note one refl draws_v draws_u takes_u (poster_lists reply_of shape s holds id v c at item stream main) holds.views.works)
            (postings reply_of shape s holds id v carried at 0 item stream run_word there tag nonzero run_word_is may note note_is (λ l. refl) v (holds.views.records_known id v at)) (λ k. omega arith)
            (awaits_end old_core new_core holds.armed s.views id v u at stream note one refl draws_v draws_u takes_u ended (only_poster reply_of shape s holds id v c at item stream main)
            (λ k. (same_posted reply_of shape s holds id v carried at 0 item stream run_word there tag nonzero run_word_is may note note_is (λ l. refl)).each k stream) holds.views.in_work);
      }

pub cancel : (H : Type 0) → CancelLaw H
cancel H reply_of shape s holds id v c carried at item stream run_word more main there post tag =
    cancels reply_of shape s holds id v c carried at item stream run_word more main there post tag

-- the poster finds the tag of the item in its hand
pub unpushed : (H : Type 0) → UnpushedLaw H
unpushed H reply_of shape s holds id v c at item stream main there mine said =
    let engine : role_in shape v.seat ≡ 0 = sym (ap (λ (sh : Shape). role_in sh v.seat) holds.shaped) ∙ poster_engine reply_of shape s holds id v c at item stream main in
    holds.notes.kept_tags 0 there.in_queues id v at item there.in_items mine stream (said, inr (engine, (knows_posted reply_of shape s holds id v c at item stream main).arm))

-- a reply is received of what was posted alone
pub nothing_received : (H : Type 0) → NothingReceivedLaw H
nothing_received H reply_of shape s holds id v c at stream main =
    let core : Core = holds.core in
    let lists : SeatLists = seat_of core v.seat in
    let has : (key : ℕ) → draw_at key v ≡ is_number key stream = λ key. omega (arith, ap (weigh (draw_weight key)) main.has) in
    let knows : KnowsDrawn lists stream =
    (subst (λ (ws : List Work). Each (λ (w : Work). 1 ≤ draw_weight stream w → KnowsWork core holds.armed v.seat v.arms w) ws) main.has
    (holds.views.works.draws.each stream id v at (omega (arith, has stream, is_number_same stream)))).0 (omega (arith, is_number_same stream)) in
    let none : weigh (of_stream stream) lists.received ≡ 0 = elim (cases_lt 0 (weigh (of_stream stream) lists.received)) [
      | inl some_part ↦ absurd (omega (arith, knows.unposted, holds.keeps.sound.parts.received_by_poster v.seat stream (omega (arith, some_part))))
      | inr not_any ↦ omega (arith, not_any)
    ] in
    let ledger : IsTrueLedger core holds.popped c = own_ledger core holds.popped s.views id v c at main.main.only holds.views.lists in
    ap (λ (l : SeatLists). has_last stream l.received) (ledger.lists ∙ ap (seat_of core) main.main.number) ∙ none_last_of stream lists.received none
