-- A seat arms an item of any queue: what is said of words, slots, items and chunks then.
use Rattle.std.proofs.Common.{ℕ, ⊎_elim, ◌+◌, ◌-◌, ◌*◌, ◌≡◌, ◌≢◌, ◌≤◌, ◌<◌, ◌⊎◌, ◌==◌, ◌&&◌, inl, inr, Bool, true, false, cond, if◌then◌else◌, List, [], ◌∷◌, length, set, refl, sym, ap, ◌∙◌, subst, arith, length-set, Some}
use Rattle.std.specs.Prelude.{Option}
use Rattle.std.specs.List.{range_with_len}
use Rattle.std.proofs.lemmas.Bool.{and_right, cases_eq, eq-eqb, ne_eqb}
use mathlib.Core.Option.{some}
use lib.ListN.{get_elem?}
use Rattle.atomic_table.specs.Table.{State, homes_after, stepped}
use Rattle.app_queue.specs.Arms.{ArmsPlaced}
use Rattle.app_queue.specs.Parts.{RingParts, TagsKnown, WordsKnown}
use Rattle.app_queue.specs.Queues.{SetsWord}
use Rattle.app_queue.specs.Views.{last_tag, last_run, last_part, is_armed}
use Rattle.app_queue.specs.declared.side.Side.{Side}
use Rattle.app_queue.specs.declared.side.Side.TheVariants.{Free}
use Rattle.app_queue.specs.declared.view.ItemEvent.{ItemEvent}
use Rattle.app_queue.proofs.KnownFrames.{words_known, words_known_set}
use Rattle.app_queue.proofs.QueueViews.{told_else, told_here}
use Rattle.app_queue.proofs.RingFrames.{rings_stay}
use Rattle.carried_slots.specs.FreeSlots.{FreeSlots}
use Rattle.port_message.specs.Words.{numbers_of}
use Rattle.request_context.specs.declared.piece.Parcel.{Parcel}
use Rattle.unit_model.specs.ChunkWeights.{run_numbers}
use Rattle.unit_model.specs.Core.{item_of, owner_of, queue_of}
use Rattle.unit_model.specs.Effects.{after_step, with_item, with_note, with_run_owner}
use Rattle.unit_model.specs.Holding.{IsInRun, items_of}
use Rattle.unit_model.specs.Limits.{segment_chunks}
use Rattle.unit_model.specs.PartOrder.{Each, PartsInOrder}
use Rattle.unit_model.specs.Premises.{Fills, IsInHand, MayArm}
use Rattle.unit_model.specs.Runs.{chunks_for}
use Rattle.unit_model.specs.Shapes.{role_in}
use Rattle.unit_model.specs.Sharing.{Holds, Owned}
use Rattle.unit_model.specs.Weights.{weigh, is_number, times, one_if}
use Rattle.unit_model.specs.declared.machine.Core.{Core}
use Rattle.unit_model.specs.declared.machine.Item.{Item}
use Rattle.unit_model.specs.declared.machine.Owner.{Owner}
use Rattle.unit_model.specs.declared.machine.Owner.TheVariants as owner
use Rattle.unit_model.specs.declared.runs.Run.{Run}
use Rattle.unit_model.specs.declared.shape.Shape.{Shape}
use Rattle.unit_model.proofs.ChangedCore.{set_all_outside}
use Rattle.unit_model.proofs.ItemChanges.{SetsItem, item_here}
use Rattle.unit_model.proofs.RoleLists.{seats_by_role_stay}
use Rattle.unit_model.proofs.RoleSteps.{by_role_stays}
use Rattle.unit_types.specs.declared.message.Reply.{Reply}
use Rattle.unit_types.specs.declared.message.Request.{Request}
use Rattle.fabric_words.specs.Offsets.{offset_of, word_in}
use Rattle.fabric_words.specs.Places.{HasItem, Sets, map_of, queues_of, segments_of}
use Rattle.fabric_words.specs.Shown.{IsStep, ShowsItem}
use Rattle.fabric_words.specs.declared.place.Place.{Place}
use Rattle.fabric_words.specs.declared.place.Place.TheVariants.{Head, PartWord, RunWord, Tag, Tail}
use Rattle.fabric_words.specs.declared.place.Side.TheVariants.{FreeSide}
use Rattle.fabric_words.proofs.EachStep.{made_step}
use Rattle.fabric_words.proofs.Frames.{chunk_stays, ring_stays}
use Rattle.fabric_words.proofs.Standing.{set_word}
use Rattle.fabric_rule.specs.Contents.{Carries, CarriesSlots}
use Rattle.fabric_rule.specs.FrameLaws.{StaysUntagged}
use Rattle.fabric_rule.specs.Hands.{items_elsewhere}
use Rattle.fabric_rule.specs.Parts.{ChunksHeld, IsIdle, KeptAreWorn, ListsShown, PostsArmed, RecordsKnown, WorksShown, owner_weight, RecordsThere}
use Rattle.fabric_rule.specs.Passing.{OthersStay, first_of}
use Rattle.fabric_rule.specs.Rule.{FabricHolds, NotesAreTrue, ViewsShow}
use Rattle.fabric_rule.specs.Steps.{IsMachineStep}
use Rattle.fabric_rule.specs.Views.{arms_among, posts_of, arms_at, got_at, held_at, item_log, log_at, part_in, part_said, queues_in, ring_in, run_in, run_said, tag_in, tag_kept, tag_said, word_side, words_in}
use Rattle.unit_model.proofs.Weights.{below_none, below_same, weigh_range}
use Rattle.fabric_words.specs.Places.{is_of_ring}
use Rattle.fabric_rule.specs.Views.{opens_at, works_at}
use Rattle.fabric_rule.specs.declared.event.FabricEvent.TheVariants.{AtItem}
use Rattle.fabric_rule.specs.declared.view.ArmNote.{ArmNote}
use Rattle.fabric_rule.specs.declared.view.Ledger.{Ledger}
use Rattle.fabric_rule.specs.declared.view.FabricView.{FabricView}
use Rattle.fabric_rule.specs.declared.view.Posting.{Posting}
use Rattle.fabric_rule.specs.declared.view.Work.{Work}
use Rattle.fabric_rule.proofs.CarriedSlots.{carried_once, mine_of}
use Rattle.fabric_rule.proofs.Contents.{kept_stay}
use Rattle.fabric_rule.proofs.Frames.{chunks_move, items_stay, of_each, of_fabric, opens_stay}
use Rattle.fabric_rule.proofs.Staying.{unchanged}
use Rattle.fabric_rule.proofs.Hands.{hands_owned, in_hand}
use Rattle.fabric_rule.proofs.ListFrames.{counted_stay, lists_there}
use Rattle.fabric_rule.proofs.Passing.{this_or_other}
use Rattle.fabric_rule.proofs.Sums.{each_gives}
use Rattle.app_queue.specs.Arms.{Arm as ArmedNote, IsFresh}
use Rattle.app_queue.specs.declared.view.ItemEvent.TheVariants.{Armed}
use Rattle.app_queue.proofs.ArmFrames.{placed_arm}
use Rattle.app_queue.proofs.KnownFrames.{tags_known_set}
use Rattle.atomic_table.proofs.Lists.{at_set}
use Rattle.carried_slots.specs.Acts.{becomes}
use Rattle.carried_slots.specs.Carried.{IsDistinct, numbers}
use Rattle.carried_slots.specs.RunLaws.{RunGiven}
use Rattle.carried_slots.specs.RunSlots.{HasValues, run_gone}
use Rattle.carried_slots.proofs.RunMoving.{run_given}
use Rattle.carried_slots.proofs.RunLists.{in_range}
use Rattle.unit_model.specs.Holding.{FitsQueue}
use Rattle.unit_model.specs.Premises.{OwnsRun}
use Rattle.unit_model.specs.declared.machine.Step.TheVariants.{Arm}
use Rattle.unit_model.proofs.StepFacts.{sets_after_arm}
use Rattle.fabric_words.specs.Needs.{NeedsArm}
use Rattle.fabric_words.proofs.ItemSteps.{arm_gives_run}
use Rattle.fabric_rule.specs.Hands.{IsChunkInHand}
use Rattle.fabric_rule.specs.Parts.{OfEach, PostsInWork, StreamsLatest}
use Rattle.fabric_rule.specs.Passing.{SlotsGo}
use Rattle.fabric_rule.specs.Steps.{slots_left}
use Rattle.fabric_rule.specs.Views.{lists_at}
use Rattle.fabric_rule.specs.declared.view.KeptItem.{KeptItem}
use Rattle.fabric_rule.proofs.ArmLists.{arms_before, streams_arm}
use Rattle.fabric_rule.proofs.Hands.{chunk_in_hand, none_keeps}
use Rattle.fabric_rule.proofs.Passing.{slots_go}

-- ---- what Arm leaves of a core

module _ (core : Core) (seat queue item stream : ℕ) where
  armed_shape : (after_step core (Arm seat queue item stream)).shape ≡ core.shape
  unfolding after_step with_item with_note with_run_owner
  armed_shape = refl

  armed_opened : (after_step core (Arm seat queue item stream)).opened ≡ core.opened
  unfolding after_step with_item with_note with_run_owner
  armed_opened = refl

  armed_owner : (chunk : ℕ) → (chunk < first_of (item_of core queue item).run) ⊎ (first_of (item_of core queue item).run + chunks_for (item_of core queue item).run.size ≤ chunk)
      → owner_of (after_step core (Arm seat queue item stream)) chunk ≡ owner_of core chunk
  unfolding after_step with_item with_note with_run_owner
  armed_owner chunk off = set_all_outside core.owners (first_of (item_of core queue item).run) (chunks_for (item_of core queue item).run.size) (owner.Message queue item) owner.Free chunk off

-- what is said of lists, works and records then, and the order of parts
pub record OfLists (popped armed records : ℕ → List ℕ) (core : Core) (v u : FabricView) (views : List FabricView) : Type 0 where
  pub posts : PostsArmed core views
  pub records_known : OfEach (RecordsKnown core records) views
  pub records_there : RecordsThere core views
  pub lists : ListsShown core popped views
  pub numbers : (number : ℕ) → lists_at number u ≡ lists_at number v
  pub works : WorksShown core armed views
  pub counted : (number : ℕ) → opens_at number u + works_at number v ≡ opens_at number v + works_at number u
  pub busy : u.works ≢ []
  pub in_work : PostsInWork core views
  pub order : PartsInOrder popped armed core

-- a run that fits a queue's side lies in the fabric
pub fits_all : (shape : Shape) (queue : ℕ) (run : Run) → FitsQueue shape queue run → first_of run + chunks_for run.size ≤ segment_chunks * segments_of shape
fits_all shape queue run fits = by (queue == 0) fits.on_side.1
  where
    by : (b : Bool) → run.segment < (if b then shape.out_segments else shape.out_segments + shape.back_segments) → first_of run + chunks_for run.size ≤ segment_chunks * segments_of shape
    by true low = omega (arith, fits.in_segment, low)
    by false low = omega (arith, fits.in_segment, low)

-- ---- the step

-- A seat that fills the queue arms an item that it got from the free ring. Its lists, works and
-- records become these.
module _ {H : Type 0} (reply_of : List ℕ → Request → Reply) (shape : Shape) (s : State (Option (Parcel H)) FabricView) (holds : FabricHolds reply_of shape s) (id : ℕ) (v : FabricView) (carried : List (ℕ × Option (Parcel H)))
    (homes_are : length s.homes ≡ segment_chunks * segments_of shape) (at : get_elem? s.views id ≡ some v) (carries : CarriesSlots (v, carried))
    (queue item place stream run_word part : ℕ) (there : HasItem shape queue item) (mine : Holds (held_at queue) item v) (got : got_at queue v item place) (said : run_said queue v item run_word) (said_part : part_said queue v item part)
    (fits : FitsQueue shape queue (numbers_of run_word)) (parcels : List (Parcel H)) (long : length parcels ≡ chunks_for (numbers_of run_word).size) (values : HasValues (first_of (numbers_of run_word)) parcels carried)
    (fills : Fills holds.core v.seat queue) (may : MayArm holds.core v.seat queue item stream part) (new_ledgers : List Ledger) (new_works : List Work) (new_records : List Posting) where
  abbrev pub word : Place → ℕ
  word = word_in shape s.words

  abbrev pub word' : Place → ℕ
  word' = word_in shape (set s.words (offset_of shape (Tag queue item)) stream)

  abbrev pub core : Core
  core = holds.core

  abbrev pub core' : Core
  core' = after_step core (Arm v.seat queue item stream)

  abbrev pub it : Item
  it = item_of core queue item

  abbrev pub run : Run
  run = numbers_of run_word

  abbrev pub n : ℕ
  n = chunks_for run.size

  -- the chunks of the slots that the seat still carries then
  abbrev pub left : List ℕ
  left = numbers (slots_left run carried)

  abbrev pub note : ArmNote
  note = record { queue = queue; item = item; place = place; stream = stream; run = run_word; part = part }

  abbrev pub u : FabricView
  u = record v {
    ledgers = new_ledgers;
    works = new_works;
    chunks = left;
    arms = note ∷ v.arms;
    records = new_records;
    log = AtItem queue (Armed item stream) ∷ v.log;
  }

  there' : HasItem core.shape queue item
  there' = subst (λ (sh : Shape). HasItem sh queue item) (sym holds.shaped) there

  sets : Sets shape word word' (Tag queue item) stream
  sets = set_word shape s.words (Tag queue item) stream holds.wide there

  item_shown : ShowsItem word queue item it
  item_shown = holds.shows.items queue item there'

  run_word_is : word (RunWord queue item) ≡ run_word
  run_word_is = holds.notes.runs queue there.in_queues id v at item there.in_items mine run_word said

  part_word_is : word (PartWord queue item) ≡ part
  part_word_is = holds.notes.parts queue there.in_queues id v at item there.in_items mine part said_part

  run_is : it.run ≡ run
  run_is = sym item_shown.run ∙ ap numbers_of run_word_is

  pub part_is : it.part ≡ part
  part_is = sym item_shown.part ∙ part_word_is

  pub hand : IsInHand core v.seat queue item
  hand = in_hand core s.views id v at holds.views.items queue item there'.in_queues mine

  fresh : IsFresh (arms_at queue) (word (Head queue FreeSide)) (tag_in word queue) s.views item place
  fresh = (holds.notes.arms queue there.in_queues).fresh id v at item there.in_items mine place got

  pub untagged_now : it.tag ≡ 0
  untagged_now = sym item_shown.tag ∙ fresh.untagged

  -- ---- chunks

  owned_chunk : (chunk : ℕ) → 1 ≤ times chunk v.chunks → IsChunkInHand core s.views v chunk
  owned_chunk chunk mine_too = chunk_in_hand core s.views id v at holds.views.chunks chunk mine_too

  slots_once : IsDistinct carried
  slots_once = carried_once core s.views id v at holds.views.chunks carried carries

  own_slots : (chunk : ℕ) → 0 < times chunk (numbers carried) → (owner_of core chunk ≡ owner.Seat v.seat) × (chunk < length s.homes)
  own_slots chunk some_there =
      let mine_too = mine_of core s.views id v at holds.views.chunks carried carries chunk some_there in
      (mine_too.owner, omega (arith, homes_are, subst (λ (sh : Shape). chunk < segment_chunks * segments_of sh) holds.shaped mine_too.within))

  given_run : RunGiven (first_of run) parcels s.homes carried
  given_run = run_given (first_of run) parcels s.homes carried slots_once (λ k some_there. (own_slots k some_there).1) values

  -- the run's chunks are parted from what the seat has
  parted : (f : ℕ → ℕ) → weigh f left + weigh f (run_numbers run) ≡ weigh f v.chunks
  parted f = subst (λ (m : ℕ). weigh f (numbers (run_gone (first_of run) m carried)) + weigh f (range_with_len (first_of run) m) ≡ weigh f (numbers carried)) long (given_run.weighs f) ∙ carries f

  in_run : (chunk : ℕ) → IsInRun run chunk → 1 ≤ times chunk v.chunks
  in_run chunk within =
      let i : ℕ = chunk - first_of run in
      let at_i : first_of run + i ≡ chunk = omega (arith, within.0) in
      let one : 1 ≤ times (first_of run + i) (range_with_len (first_of run) n) = in_range (first_of run) n i (omega (arith, within.0, within.1)) in
      omega (arith, parted (is_number chunk), subst (λ (k : ℕ). 1 ≤ times k (range_with_len (first_of run) n)) at_i one)

  owns : OwnsRun core v.seat queue run
  owns = record {
    fits = subst (λ (sh : Shape). FitsQueue sh queue run) (sym holds.shaped) fits;
    owns = λ chunk within. (owned_chunk chunk (in_run chunk within)).owner;
  }

  needs : NeedsArm word core v.seat queue item stream
  needs = record {
    fills = fills;
    hand = hand;
    untagged = fresh.untagged;
    owns = subst (λ (w : ℕ). OwnsRun core v.seat queue (numbers_of w)) (sym run_word_is) owns;
    may = subst (MayArm core v.seat queue item stream) (sym part_word_is) may;
  }

  pub link : IsStep word' core (Arm v.seat queue item stream)
  link = made_step shape word word' (Arm v.seat queue item stream) sets core holds.shaped holds.keeps.sound holds.shows needs

  inside : item < length (queue_of core queue).items
  inside = omega (arith, there'.in_items, holds.keeps.sound.held.shape.items queue there'.in_queues)

  abbrev pub now : Item
  now = record it { tag = stream; stream = stream }

  changed : SetsItem core core' queue item now
  changed = sets_after_arm core v.seat queue item stream inside

  pub shape_same : core'.shape ≡ core.shape
  shape_same = armed_shape core v.seat queue item stream

  shape' : core'.shape ≡ shape
  shape' = shape_same ∙ holds.shaped

  others : OthersStay core core' queue item
  others = unchanged core core' queue item now changed

  here : item_of core' queue item ≡ now
  here = item_here core core' queue item now changed

  same_place : (q i : ℕ) → (item_of core' q i).whereabouts ≡ (item_of core q i).whereabouts
  same_place q i = ⊎_elim
      (λ this. subst (λ (r : ℕ). (item_of core' r i).whereabouts ≡ (item_of core r i).whereabouts) (sym this.0) (subst (λ (j : ℕ). (item_of core' queue j).whereabouts ≡ (item_of core queue j).whereabouts) (sym this.1) (ap (λ (x : Item). x.whereabouts) here)))
      (λ other. ap (λ (x : Item). x.whereabouts) (others q i other))
      (this_or_other queue item q i)

  -- ---- slots

  run_now : (item_of core' queue item).run ≡ run
  run_now = ap (λ (x : Item). x.run) here ∙ run_is

  -- the stream of each other armed item has the record that it had, and the parcels are the
  -- message's
  abbrev pub SameRecords : (ℕ → List ℕ) → Type 0
  SameRecords records' = (q i : ℕ) → (q ≢ queue) ⊎ (i ≢ item) → (item_of core q i).tag ≢ 0 → records' (item_of core q i).tag ≡ holds.records (item_of core q i).tag

  pub go : (records' : ℕ → List ℕ) → SameRecords records' → Carries reply_of records' queue stream part parcels → SlotsGo reply_of records' core' word s.homes carried (first_of run) n
  go records' same message =
      let message_now : Carries reply_of records' queue (item_of core' queue item).tag (item_of core' queue item).part parcels =
      subst (λ (x : Item). Carries reply_of records' queue x.tag x.part parcels) (sym here) (subst (λ (p : ℕ). Carries reply_of records' queue stream p parcels) (sym part_is) message) in
      subst (λ (r : Run). SlotsGo reply_of records' core' word s.homes carried (first_of r) (chunks_for r.size)) run_now
      (slots_go H reply_of holds.records records' core core' word s.homes carried holds.keeps.sound holds.shows shape_same v.seat own_slots slots_once queue item others same
      parcels (long ∙ sym (ap (λ (r : Run). chunks_for r.size) run_now)) (subst (λ (r : Run). HasValues (first_of r) parcels carried) (sym run_now) values) message_now
      (subst (λ (sh : Shape). FreeSlots (segment_chunks * segments_of sh) (map_of word) s.homes) (sym holds.shaped) holds.free) holds.filled)

  -- ---- notes

  -- an event at an item of one queue is of no other queue
  events_else : (r : ℕ) → r ≢ queue → item_log r u.log ≡ item_log r v.log
  events_else r ne = ap (λ (b : Bool). cond b (Armed item stream ∷ item_log r v.log) (item_log r v.log)) (ne_eqb queue r (λ is. ne (sym is)))

  own_events : item_log queue u.log ≡ Armed item stream ∷ item_log queue v.log
  own_events = ap (λ (b : Bool). cond b (Armed item stream ∷ item_log queue v.log) (item_log queue v.log)) (eq-eqb queue queue refl)

  off_tag : (r : ℕ) (other : Side) → is_of_ring r (word_side other) (Tag queue item) ≡ false
  off_tag r other = refl

  rings' : RingParts log_at (queues_in shape) (ring_in word') (set s.views id u)
  rings' = rings_stay FabricView log_at (queues_in shape) (ring_in word) (ring_in word') s.views id v u at
      (λ q lt side. ring_stays shape word word' (Tag queue item) stream sets q (word_side side) lt (off_tag q side)) (λ q side. refl) holds.notes.rings

  tags_set : SetsWord (queues_in shape) (tag_in word) (tag_in word') queue item stream
  tags_set = record {
    here = record { here = sets.here; others = λ i lt ne. sets.others (Tag queue i) (record { in_queues = there.in_queues; in_items = lt }) (λ is. ne (cc is)) };
    others = λ r lt ne i lt'. sets.others (Tag r i) (record { in_queues = lt; in_items = lt' }) (λ is. ne (cc is));
  }

  same_runs : (q : ℕ) → q < queues_of shape → (i : ℕ) → i < items_of shape q → word' (RunWord q i) ≡ word (RunWord q i)
  same_runs q lt i below_n = sets.others (RunWord q i) (record { in_queues = lt; in_items = below_n }) (λ is. absurd (cc is))

  same_parts : (q : ℕ) → q < queues_of shape → (i : ℕ) → i < items_of shape q → word' (PartWord q i) ≡ word (PartWord q i)
  same_parts q lt i below_n = sets.others (PartWord q i) (record { in_queues = lt; in_items = below_n }) (λ is. absurd (cc is))

  -- what events say of an item of the queue, where they say it of all but the arm
  here_or_else : (Says : ℕ → List ItemEvent → Type 0) → (i r : ℕ) → (r ≡ queue → Says i (Armed item stream ∷ item_log queue v.log) → Says i (item_log queue v.log)) → Says i (item_log r u.log) → Says i (item_log r v.log)
  here_or_else Says i r own told =
      elim (cases_eq r queue) [
        | inl is ↦ subst (λ (q : ℕ). Says i (item_log q v.log)) (sym is) (own is (subst (Says i) own_events (subst (λ (q : ℕ). Says i (item_log q u.log)) is told)))
        | inr ne ↦ subst (Says i) (events_else r ne) told
      ]

  was_tag : (r i : ℕ) → (r ≢ queue) ⊎ (i ≢ item) → (x : ℕ) → tag_said r u i x → tag_said r v i x
  was_tag r i apart x told = here_or_else (λ (j : ℕ) (es : List ItemEvent). last_tag j es ≡ Some x) i r
      (λ is. ⊎_elim (λ ne. absurd (ne is)) (λ ne. told_else item i (Some stream) (last_tag i (item_log queue v.log)) x ne) apart) told

  is_tag : (x : ℕ) → tag_said queue u item x → x ≡ stream
  is_tag x told =
      let both : Some stream ≡ Some x = told_here item (Some stream) (last_tag item (item_log queue v.log)) x (subst (λ (es : List ItemEvent). last_tag item es ≡ Some x) own_events told) in
      let is : stream ≡ x = cc both in
      sym is

  was_run : (r i x : ℕ) → run_said r u i x → run_said r v i x
  was_run r i x told = here_or_else (λ (j : ℕ) (es : List ItemEvent). last_run j es ≡ Some x) i r (λ is same. same) told

  was_part : (r i x : ℕ) → part_said r u i x → part_said r v i x
  was_part r i x told = here_or_else (λ (j : ℕ) (es : List ItemEvent). last_part j es ≡ Some x) i r (λ is same. same) told

  owned : Owned (held_at queue) (items_elsewhere core s.views queue) (items_of shape queue) s.views
  owned = subst (λ (sh : Shape). Owned (held_at queue) (items_elsewhere core s.views queue) (items_of sh queue) s.views) holds.shaped (hands_owned core s.views holds.views.items queue there'.in_queues)

  tags' : TagsKnown held_at tag_said (queues_in shape) (tag_in word') (set s.views id u)
  tags' = tags_known_set FabricView tag_said held_at (items_elsewhere core s.views) (queues_in shape) (tag_in word) (tag_in word') s.views id v u at queue item stream there.in_queues there.in_items tags_set mine owned
      (λ r i lt apart holds_it. (holds_it, was_tag r i apart)) is_tag holds.notes.tags

  abbrev pub the_arm : ArmedNote
  the_arm = record { item = item; place = place; stream = stream; run = run_word; part = part }

  pub arms_else : (r : ℕ) → r ≢ queue → arms_at r u ≡ arms_at r v
  arms_else r ne = ap (λ (b : Bool). cond b (the_arm ∷ arms_at r v) (arms_at r v)) (ne_eqb queue r (λ is. ne (sym is)))

  -- the new arm is of this item alone
  same_posts : (r i x : ℕ) → r ≡ 0 → (r ≢ queue) ⊎ (i ≢ item) → posts_of x i u.arms ≡ posts_of x i v.arms
  same_posts r i x line apart =
      elim (cases_eq queue 0) [
        | inr back ↦ ap (weigh (λ (a : ArmedNote). one_if (a.stream == x && a.item == i))) (arms_else 0 (λ is. back (sym is)))
        | inl is ↦ ⊎_elim
            (λ ne. absurd (ne (line ∙ sym is)))
            (λ ne.
            let here : arms_among 0 u.arms ≡ the_arm ∷ arms_among 0 v.arms = ap (λ (b : Bool). cond b (the_arm ∷ arms_among 0 v.arms) (arms_among 0 v.arms)) (eq-eqb queue 0 is) in
            omega (arith, ap (weigh (λ (a : ArmedNote). one_if (a.stream == x && a.item == i))) here, ap one_if (and_right (stream == x) (item == i) (ne_eqb item i (λ same. ne (sym same))))))
            apart
      ]

  was_poster : (r i x : ℕ) → (r ≢ queue) ⊎ (i ≢ item) → (r ≢ 0) ⊎ ((role_in shape v.seat ≡ 0) × (1 ≤ posts_of x i u.arms)) → (r ≢ 0) ⊎ ((role_in shape v.seat ≡ 0) × (1 ≤ posts_of x i v.arms))
  was_poster r i x apart (inl ne) = inl ne
  was_poster r i x apart (inr own) = elim (cases_eq r 0) [
    | inl line ↦ inr (own.0, omega (arith, own.1, same_posts r i x line apart))
    | inr ne ↦ inl ne
  ]

  kept_tags' : WordsKnown held_at (tag_kept shape) (queues_in shape) (tag_in word') (set s.views id u)
  kept_tags' = words_known_set FabricView (tag_kept shape) held_at (items_elsewhere core s.views) (queues_in shape) (tag_in word) (tag_in word') s.views id v u at queue item stream there.in_queues there.in_items tags_set mine owned
      (λ r i lt apart holds_it. (holds_it, λ x told. (was_tag r i apart x told.0, was_poster r i x apart told.1))) (λ x told. is_tag x told.0) holds.notes.kept_tags

  runs' : WordsKnown held_at run_said (queues_in shape) (run_in word') (set s.views id u)
  runs' = words_known FabricView run_said held_at (queues_in shape) (run_in word) (run_in word') s.views id v u at same_runs (λ q i holds_it. (holds_it, was_run q i)) holds.notes.runs

  parts' : WordsKnown held_at part_said (queues_in shape) (part_in word') (set s.views id u)
  parts' = words_known FabricView part_said held_at (queues_in shape) (part_in word) (part_in word') s.views id v u at same_parts (λ q i holds_it. (holds_it, was_part q i)) holds.notes.parts

  -- what the seat says it got it got before, and it isn't this item
  was_got : (i : ℕ) → Holds (held_at queue) i u → (p : ℕ) → got_at queue u i p → (i ≢ item) × Holds (held_at queue) i v × got_at queue v i p
  was_got i holds_it p is_got =
      let armed_now : cond (item == i) true (is_armed i (item_log queue v.log)) ≡ false = sym (ap (is_armed i) own_events) ∙ is_got.1 in
      let other : i ≢ item = λ is. absurd (cc (armed_now, ap (λ (b : Bool). cond b true (is_armed i (item_log queue v.log))) (eq-eqb item i (sym is)))) in
      (other, holds_it, (is_got.0, sym (ap (λ (b : Bool). cond b true (is_armed i (item_log queue v.log))) (ne_eqb item i (λ is. other (sym is)))) ∙ armed_now))

  own_arms : arms_at queue u ≡ the_arm ∷ arms_at queue v
  own_arms = ap (λ (b : Bool). cond b (the_arm ∷ arms_at queue v) (arms_at queue v)) (eq-eqb queue queue refl)

  arms' : ArmsPlaced arms_at held_at got_at (queues_in shape) (words_in word') (set s.views id u)
  arms' = placed_arm FabricView got_at arms_at held_at (items_elsewhere core s.views) (queues_in shape) (words_in word) (words_in word') s.views id v u at queue there.in_queues the_arm there.in_items mine got (sym run_word_is) (sym part_word_is)
      (λ r lt. let is : word' (Head r FreeSide) ≡ word (Head r FreeSide) = sets.others (Head r FreeSide) lt (λ e. absurd (cc e)) in omega (arith, is))
      tags_set same_runs same_parts own_arms (λ r lt ne. arms_else r ne) was_got
      (λ r lt ne i holds_it p is_got. (holds_it, (is_got.0, subst (λ (es : List ItemEvent). is_armed i es ≡ false) (events_else r ne) is_got.1))) owned holds.notes.arms

  notes' : NotesAreTrue shape word' (set s.views id u)
  notes' = record { rings = rings'; tags = tags'; kept_tags = kept_tags'; runs = runs'; parts = parts'; arms = arms' }

  -- ---- views

  given : (chunk : ℕ) → IsInRun it.run chunk → (owner_of core chunk ≡ owner.Seat v.seat) × (owner_of core' chunk ≡ owner.Message queue item)
  given chunk within = arm_gives_run word core holds.keeps.sound holds.shows v.seat queue item stream needs chunk (subst (λ (r : Run). IsInRun r chunk) (sym item_shown.run) within)

  chunks' : ChunksHeld core' (set s.views id u)
  chunks' =
      let first : ℕ = first_of it.run in
      let m : ℕ = chunks_for it.run.size in
      let fits_there : FitsQueue core.shape queue it.run = subst (FitsQueue core.shape queue) (sym run_is) owns.fits in
      let within_all : first + m ≤ segment_chunks * segments_of core.shape = fits_all core.shape queue it.run fits_there in
      let numbers_are : run_numbers run ≡ range_with_len first m = ap run_numbers (sym run_is) in
      let was : (f : ℕ → ℕ → ℕ) → weigh (λ chunk. owner_weight f (owner_of core chunk) chunk) (range_with_len first m) ≡ weigh (f v.seat) (range_with_len first m) = λ f.
      weigh_range (λ chunk. owner_weight f (owner_of core chunk) chunk) first m
      ∙ below_same (λ i. owner_weight f (owner_of core (first + i)) (first + i)) (λ i. f v.seat (first + i)) m (λ i lt. ap (λ (o : Owner). owner_weight f o (first + i)) (given (first + i) (omega arith, omega (arith, lt))).0)
      ∙ sym (weigh_range (f v.seat) first m) in
      let is : (f : ℕ → ℕ → ℕ) → weigh (λ chunk. owner_weight f (owner_of core' chunk) chunk) (range_with_len first m) ≡ 0 = λ f.
      weigh_range (λ chunk. owner_weight f (owner_of core' chunk) chunk) first m
      ∙ below_none (λ i. owner_weight f (owner_of core' (first + i)) (first + i)) m (λ i lt. ap (λ (o : Owner). owner_weight f o (first + i)) (given (first + i) (omega arith, omega (arith, lt))).1) in
      chunks_move core core' s.views id v u at shape_same first m within_all (armed_owner core v.seat queue item stream)
      (λ f. omega (arith, was f, is f, parted (f v.seat), ap (weigh (f v.seat)) numbers_are))
      holds.views.chunks

  streams' : StreamsLatest core' (set s.views id u)
  streams' = streams_arm core core' s.views id v u note at shape_same refl
      (arms_before s.views queue item place fresh.above) (ap (λ (x : Item). x.stream) here) (λ q i other. ap (λ (x : Item). x.stream) (others q i other)) holds.views.streams

  untagged : (k : ℕ) (y : FabricView) → get_elem? s.views k ≡ some y → Each (StaysUntagged core core') y.kept
  untagged k y is_there = each_gives (λ (h : KeptItem). (h.queue ≢ queue) ⊎ (h.item ≢ item)) (StaysUntagged core core') y.kept
      (λ h apart none. ap (λ (x : Item). x.tag) (others h.queue h.item apart) ∙ none)
      (none_keeps core s.views id v at holds.views.items queue item there'.in_queues mine k y is_there)

  kept' : OfEach (KeptAreWorn core' (ring_in word')) (set s.views id u)
  kept' k y is_there =
      let tails : (q : ℕ) → q < queues_of core.shape → (ring_in word q Free).tail ≤ (ring_in word' q Free).tail = λ q lt.
      let is : word' (Tail q FreeSide) ≡ word (Tail q FreeSide) = sets.others (Tail q FreeSide) (subst (λ (sh : Shape). q < queues_of sh) holds.shaped lt) (λ e. absurd (cc e)) in omega (arith, is) in
      ⊎_elim
      (λ t. subst (KeptAreWorn core' (ring_in word')) t.1 (kept_stay core core' (ring_in word) (ring_in word') v u shape_same tails (untagged id v at) refl (holds.views.kept id v at)))
      (λ t. kept_stay core core' (ring_in word) (ring_in word') y y shape_same tails (untagged k y t.1) refl (holds.views.kept k y t.1))
      (at_set s.views id k u y is_there)

  views' : (armed' records' : ℕ → List ℕ) → OfLists holds.popped armed' records' core' v u (set s.views id u) → ViewsShow shape word' holds.popped armed' records' core' (set s.views id u)
  views' armed' records' says =
      let old = holds.views in
      record {
        there = of_fabric core core' s.views id v u at shape_same refl refl old.there;
        items = items_stay core core' s.views id v u at shape_same (λ q i lt. same_place q i) (λ q f. refl) old.items;
        chunks = chunks';
        opens = opens_stay core core' s.views id v u at (armed_opened core v.seat queue item stream) refl refl old.opens;
        posts = says.posts;
        streams = streams';
        records_known = says.records_known;
        records_there = says.records_there;
        lists = says.lists;
        lists_there = lists_there core core' s.views id v u at shape_same says.numbers old.lists_there;
        works = says.works;
        counted = counted_stay s.views id v u at says.counted old.counted;
        idle = of_each (IsIdle shape) (IsIdle shape) s.views id u (λ spent. absurd (says.busy spent)) (λ y is. is) old.idle;
        in_work = says.in_work;
        kept = kept';
      }

  pub carries_now : CarriesSlots (u, slots_left run carried)
  carries_now f = refl

  pub arms_it : (armed' records' : ℕ → List ℕ) → SameRecords records' → Carries reply_of records' queue stream part parcels → OfLists holds.popped armed' records' core' v u (set s.views id u)
      → IsMachineStep reply_of shape s holds (Arm v.seat queue item stream) (stepped s (offset_of shape (Tag queue item)) stream id carried u (becomes carried (slots_left run carried)))
  arms_it armed' records' same message says =
      let gone : SlotsGo reply_of records' core' word s.homes carried (first_of run) n = go records' same message in
      let free_now : FreeSlots (segment_chunks * segments_of shape) (map_of word) (homes_after s.homes carried (becomes carried (slots_left run carried))) =
      subst (λ (sh : Shape). FreeSlots (segment_chunks * segments_of sh) (map_of word) (homes_after s.homes carried (becomes carried (slots_left run carried)))) shape' gone.free in
      record {
        enabled = link.enabled;
        after = record {
          wide = omega (arith, holds.wide, length-set s.words (offset_of shape (Tag queue item)) stream);
          core = core';
          popped = holds.popped;
          armed = armed';
          records = records';
          shaped = shape';
          keeps = record {
            sound = link.sound;
            items = by_role_stays core (Arm v.seat queue item stream) holds.keeps.sound holds.keeps.items link.enabled;
            seats = seats_by_role_stay core (Arm v.seat queue item stream) holds.keeps.seats link.enabled;
            order = says.order;
          };
          shows = link.shows;
          notes = notes';
          views = views' armed' records' says;
          free = λ chunk lt is_set. free_now chunk lt (sym (chunk_stays shape word word' (Tag queue item) stream sets (λ k e. absurd (cc e)) chunk lt) ∙ is_set);
          filled = gone.filled;
        };
        is = refl;
      }

  pub recorded : (armed' records' : ℕ → List ℕ) (same : SameRecords records') (message : Carries reply_of records' queue stream part parcels) (says : OfLists holds.popped armed' records' core' v u (set s.views id u)) (key : ℕ)
      → (arms_it armed' records' same message says).after.records key ≡ records' key
  unfolding arms_it
  recorded armed' records' same message says key = refl
