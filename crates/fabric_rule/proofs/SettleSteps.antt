-- What any settle leaves: a seat takes the tag of an item to 0, and the chunks of the item's run
-- are the seat's.
use Rattle.std.proofs.Common.{ℕ, ◌+◌, ◌*◌, ◌≡◌, ◌≢◌, ◌≤◌, ◌<◌, ◌⊎◌, ◌==◌, inl, inr, ⊎_elim, Bool, true, false, cond, List, [], ◌∷◌, ◌++◌, length, set, refl, sym, ap, ◌∙◌, subst, arith, length-set, Some}
use Rattle.std.specs.Prelude.{Option}
use Rattle.std.specs.List.{range_with_len}
use Rattle.std.proofs.lemmas.Bool.{eq-eqb, ne_eqb}
use mathlib.Core.Option.{some}
use lib.ListN.{get_elem?}
use Rattle.atomic_table.specs.Table.{State, Valid, carried_after, homes_after, stepped}
use Rattle.app_queue.specs.Parts.{RingParts, WordsKnown}
use Rattle.app_queue.specs.Queues.{SetsWord}
use Rattle.app_queue.specs.Views.{last_tag, last_run, last_part, is_armed}
use Rattle.app_queue.specs.declared.side.Side.{Side}
use Rattle.app_queue.specs.declared.side.Side.TheVariants.{Free}
use Rattle.app_queue.specs.declared.view.ItemEvent.{ItemEvent}
use Rattle.app_queue.specs.declared.view.ItemEvent.TheVariants.{Won}
use Rattle.app_queue.proofs.ArmFrames.{arms_stay}
use Rattle.app_queue.proofs.KnownFrames.{tags_known_won, words_known, words_known_set}
use Rattle.app_queue.proofs.QueueViews.{told_else, told_here}
use Rattle.app_queue.proofs.RingFrames.{rings_stay}
use Rattle.carried_slots.specs.Acts.{takes_all}
use Rattle.carried_slots.specs.FreeSlots.{FreeSlots}
use Rattle.carried_slots.specs.RunLaws.{HaveValuesAtHome, full_run}
use Rattle.carried_slots.proofs.RunMoving.{full_numbers}
use Rattle.port_message.specs.Words.{numbers_of}
use Rattle.request_context.specs.declared.piece.Parcel.{Parcel}
use Rattle.unit_model.specs.ChunkWeights.{run_numbers}
use Rattle.unit_model.specs.Core.{item_of, owner_of, queue_of, role_of}
use Rattle.unit_model.specs.Effects.{after_step, noted, settled_note, with_item, with_note, with_run_owner}
use Rattle.unit_model.specs.Holding.{IsInRun, items_of}
use Rattle.unit_model.specs.Limits.{segment_chunks}
use Rattle.unit_model.specs.PartOrder.{Each, PartsInOrder}
use Rattle.unit_model.specs.Premises.{MaySettle}
use Rattle.unit_model.specs.Running.{Enabled}
use Rattle.unit_model.specs.Runs.{chunks_for}
use Rattle.unit_model.specs.Sharing.{Holds, Owned}
use Rattle.unit_model.specs.StreamCounts.{posted}
use Rattle.unit_model.specs.Weights.{weigh, is_number}
use Rattle.unit_model.specs.declared.machine.Core.{Core}
use Rattle.unit_model.specs.declared.machine.Item.{Item}
use Rattle.unit_model.specs.declared.machine.Note.{Note}
use Rattle.unit_model.specs.declared.machine.Owner.{Owner}
use Rattle.unit_model.specs.declared.machine.Owner.TheVariants as owner
use Rattle.unit_model.specs.declared.machine.Seat.{Seat as SeatLists}
use Rattle.unit_model.specs.declared.machine.Step.TheVariants.{Settle}
use Rattle.unit_model.specs.declared.runs.Run.{Run}
use Rattle.unit_model.specs.declared.shape.Shape.{Shape}
use Rattle.unit_model.proofs.ChangedCore.{set_all_outside}
use Rattle.unit_model.proofs.HeldChunkSteps.{run_is_there}
use Rattle.unit_model.proofs.ItemChanges.{SetsItem, item_here}
use Rattle.unit_model.proofs.MetSteps.{role_is_there}
use Rattle.unit_model.proofs.SeatNotes.{Adds, Stays, stays}
use Rattle.unit_model.proofs.StepFacts.{adds_after_settle, sets_after_settle}
use Rattle.unit_model.proofs.Weights.{below_none, below_same, weigh-append, weigh_range}
use Rattle.unit_types.specs.declared.message.Reply.{Reply}
use Rattle.unit_types.specs.declared.message.Request.{Request}
use Rattle.fabric_words.specs.Offsets.{offset_of, word_in}
use Rattle.fabric_words.specs.Places.{HasItem, Sets, is_of_ring, map_of, queues_of, segments_of}
use Rattle.fabric_words.specs.Shown.{IsStep, ShowsItem}
use Rattle.fabric_words.specs.declared.place.Place.{Place}
use Rattle.fabric_words.specs.declared.place.Place.TheVariants.{Head, PartWord, RunWord, Tag, Tail}
use Rattle.fabric_words.specs.declared.place.Side.TheVariants.{FreeSide}
use Rattle.fabric_words.proofs.EachStep.{made_step}
use Rattle.fabric_words.proofs.Frames.{chunk_stays, ring_stays}
use Rattle.fabric_words.proofs.ItemSteps.{settle_gives_run}
use Rattle.fabric_words.proofs.Standing.{set_word}
use Rattle.fabric_rule.specs.Contents.{ArmedFilled, Carries, CarriesSlots}
use Rattle.fabric_rule.specs.FrameLaws.{NotesOne, StaysUntagged}
use Rattle.fabric_rule.specs.Hands.{items_elsewhere}
use Rattle.fabric_rule.specs.Parts.{ChunksHeld, IsIdle, IsPosting, KeptAreWorn, PostsInWork, RecordsKnown, WorksShown, owner_weight}
use Rattle.fabric_rule.specs.Passing.{OthersStay, SlotsCome, first_of}
use Rattle.fabric_rule.specs.Rule.{FabricHolds, NotesAreTrue, ViewsShow}
use Rattle.fabric_rule.specs.Settling.{MessageComes, with_settled}
use Rattle.fabric_rule.specs.Steps.{IsMachineStep}
use Rattle.fabric_rule.specs.Views.{arms_at, got_at, held_at, item_log, log_at, opens_at, part_in, part_said, queues_in, ring_in, run_in, run_said, tag_in, tag_kept, tag_said, word_side, works_at, records_at}
use Rattle.fabric_rule.specs.declared.view.Ledger.{Ledger}
use Rattle.fabric_rule.specs.declared.view.FabricView.{FabricView}
use Rattle.fabric_rule.specs.declared.view.Posting.{Posting}
use Rattle.fabric_rule.specs.declared.view.Work.{Work}
use Rattle.fabric_rule.proofs.Contents.{kept_stay, kept_untagged}
use Rattle.fabric_rule.proofs.Frames.{chunks_move, items_stay, of_each, of_fabric, opens_stay}
use Rattle.fabric_rule.proofs.RuleSteps.{step_made}
use Rattle.fabric_rule.proofs.Staying.{unchanged}
use Rattle.fabric_rule.proofs.Hands.{hands_owned}
use Rattle.fabric_rule.proofs.ListFrames.{counted_stay, lists_there, posts_stay, records_stay, streams_stay, records_there}
use Rattle.fabric_rule.proofs.Noting.{lists_noted}
use Rattle.fabric_rule.proofs.Passing.{slots_come, this_or_other}
use Rattle.fabric_rule.proofs.Sums.{weigh_numbers}

-- ---- what Settle leaves of a core

module _ (core : Core) (seat queue item stream : ℕ) where
  settled_shape : (after_step core (Settle seat queue item stream)).shape ≡ core.shape
  unfolding after_step with_item with_note with_run_owner
  settled_shape = refl

  settled_opened : (after_step core (Settle seat queue item stream)).opened ≡ core.opened
  unfolding after_step with_item with_note with_run_owner
  settled_opened = refl

  settled_owner : (chunk : ℕ) → (chunk < first_of (item_of core queue item).run) ⊎ (first_of (item_of core queue item).run + chunks_for (item_of core queue item).run.size ≤ chunk)
      → owner_of (after_step core (Settle seat queue item stream)) chunk ≡ owner_of core chunk
  unfolding after_step with_item with_note with_run_owner
  settled_owner chunk off = set_all_outside core.owners (first_of (item_of core queue item).run) (chunks_for (item_of core queue item).run.size) (owner.Seat seat) owner.Free chunk off

-- A main seat's ledger gets a note more, and there are so many works more.
pub record IsNoted (v : FabricView) (c c' : Ledger) (note : Note) (works : List Work) : Type 0 where
  pub only : v.ledgers ≡ c ∷ []
  pub number : c.seat ≡ v.seat
  pub seat : c'.seat ≡ c.seat
  pub lists : c'.lists ≡ noted note c.lists
  pub refusals : c'.refusals ≡ c.refusals
  pub more : ℕ
  pub opened : c'.opened_works ≡ c.opened_works + more
  pub works_more : length works ≡ length v.works + more

as_many_more : (b : Bool) (opened opened' works works' more : ℕ) → opened' ≡ opened + more → works' ≡ works + more → cond {A = ℕ} b opened' 0 + cond {A = ℕ} b works 0 ≡ cond {A = ℕ} b opened 0 + cond {A = ℕ} b works' 0
as_many_more true opened opened' works works' more one two = omega (arith, one, two)
as_many_more false opened opened' works works' more one two = refl

-- works are counted still
pub counts_more : (v u : FabricView) (c c' : Ledger) (note : Note) (works : List Work) → IsNoted v c c' note works → u.ledgers ≡ c' ∷ [] → u.seat ≡ v.seat → u.works ≡ works → (k : ℕ) → opens_at k u + works_at k v ≡ opens_at k v + works_at k u
counts_more v u c c' note works is now seat has k =
    let opens_v : opens_at k v ≡ cond {A = ℕ} (v.seat == k) c.opened_works 0 + 0 = ap (weigh (λ (d : Ledger). cond (d.seat == k) d.opened_works 0)) is.only ∙ ap (λ (n : ℕ). cond {A = ℕ} (n == k) c.opened_works 0 + 0) is.number in
    let opens_u : opens_at k u ≡ cond {A = ℕ} (v.seat == k) c'.opened_works 0 + 0 = ap (weigh (λ (d : Ledger). cond (d.seat == k) d.opened_works 0)) now ∙ ap (λ (n : ℕ). cond {A = ℕ} (n == k) c'.opened_works 0 + 0) (is.seat ∙ is.number) in
    let works_u : works_at k u ≡ cond {A = ℕ} (v.seat == k) (length works) 0 = ap (λ (n : ℕ). cond {A = ℕ} (n == k) (length u.works) 0) seat ∙ ap (λ (ws : List Work). cond {A = ℕ} (v.seat == k) (length ws) 0) has in
    omega (arith, opens_v, opens_u, works_u, as_many_more (v.seat == k) c.opened_works c'.opened_works (length v.works) (length works) is.more is.opened is.works_more)

-- ---- the step

module _ {H : Type 0} (reply_of : List ℕ → Request → Reply) (shape : Shape) (s : State (Option (Parcel H)) FabricView) (holds : FabricHolds reply_of shape s) (id : ℕ) (v : FabricView) (carried : List (ℕ × Option (Parcel H)))
    (at : get_elem? s.views id ≡ some v) (queue item stream run_word : ℕ) (there : HasItem shape queue item) (tag : word_in shape s.words (Tag queue item) ≡ stream) (some_stream : stream ≢ 0) (run_word_is : word_in shape s.words (RunWord queue item) ≡ run_word)
    (may : MaySettle holds.core v.seat queue item stream) (note : Note) (note_is : settled_note (role_of holds.core v.seat == 0) queue stream (item_of holds.core queue item) ≡ note) (posts_same : (l : SeatLists) → (noted note l).posted ≡ l.posted) where
  abbrev word : Place → ℕ
  word = word_in shape s.words

  abbrev word' : Place → ℕ
  word' = word_in shape (set s.words (offset_of shape (Tag queue item)) 0)

  abbrev core : Core
  core = holds.core

  abbrev core' : Core
  core' = after_step core (Settle v.seat queue item stream)

  abbrev it : Item
  it = item_of core queue item

  abbrev run : Run
  run = numbers_of run_word

  first_queue : queue < queues_of shape
  first_queue = there.in_queues

  there' : HasItem core.shape queue item
  there' = subst (λ (sh : Shape). HasItem sh queue item) (sym holds.shaped) there

  sets : Sets shape word word' (Tag queue item) 0
  sets = set_word shape s.words (Tag queue item) 0 holds.wide there

  item_shown : ShowsItem word queue item it
  item_shown = holds.shows.items queue item there'

  tag_is : it.tag ≡ stream
  tag_is = sym item_shown.tag ∙ tag

  armed : it.tag ≢ 0
  armed = λ is. some_stream (sym tag_is ∙ is)

  run_is : it.run ≡ run
  run_is = sym item_shown.run ∙ ap numbers_of run_word_is

  link : IsStep word' core (Settle v.seat queue item stream)
  link = made_step shape word word' (Settle v.seat queue item stream) sets core holds.shaped holds.keeps.sound holds.shows
      (record { there = there'; tag = tag; armed = some_stream; may = may })

  pub enabled : Enabled core (Settle v.seat queue item stream)
  enabled = link.enabled

  inside : item < length (queue_of core queue).items
  inside = omega (arith, there'.in_items, holds.keeps.sound.held.shape.items queue there'.in_queues)

  abbrev now : Item
  now = record it { tag = 0 }

  changed : SetsItem core core' queue item now
  changed = sets_after_settle core v.seat queue item stream inside

  adds : Adds core core' v.seat note
  adds = adds_after_settle core v.seat queue item stream note (omega (arith, holds.keeps.sound.streams.seats, role_is_there core v.seat (holds.views.there id v at).role)) note_is

  shape_same : core'.shape ≡ core.shape
  shape_same = settled_shape core v.seat queue item stream

  shape' : core'.shape ≡ shape
  shape' = shape_same ∙ holds.shaped

  pub notes_one : NotesOne core core' v.seat note
  notes_one = record { shape = shape_same; inside = adds.inside; seats = adds.seats }

  pub same_posted : Stays posted core core'
  same_posted = stays posted core core' v.seat note adds posts_same

  others : OthersStay core core' queue item
  others = unchanged core core' queue item now changed

  here : item_of core' queue item ≡ now
  here = item_here core core' queue item now changed

  -- of each item what a settle leaves
  record Keeps (old new : Item) : Type 0 where
    place : new.whereabouts ≡ old.whereabouts
    last : new.stream ≡ old.stream
    untagged : old.tag ≡ 0 → new.tag ≡ 0

  same_item : (q i : ℕ) → Keeps (item_of core q i) (item_of core' q i)
  same_item q i = ⊎_elim
      (λ this. subst (λ (r : ℕ). Keeps (item_of core r i) (item_of core' r i)) (sym this.0) (subst (λ (j : ℕ). Keeps (item_of core queue j) (item_of core' queue j)) (sym this.1)
      (subst (Keeps it) (sym here) (record { place = refl; last = refl; untagged = λ none. refl }))))
      (λ other. subst (Keeps (item_of core q i)) (sym (others q i other)) (record { place = refl; last = refl; untagged = λ none. none }))
      (this_or_other queue item q i)

  -- ---- slots

  pub come : SlotsCome reply_of holds.records core' word s.homes carried queue it
  come = slots_come H reply_of holds.records core core' word s.homes carried holds.keeps.sound holds.shows shape_same queue item there' armed others (ap (λ (x : Item). x.tag) here)
      (subst (λ (sh : Shape). FreeSlots (segment_chunks * segments_of sh) (map_of word) s.homes) (sym holds.shaped) holds.free) holds.filled

  abbrev pub parcels : List (Parcel H)
  parcels = come.parcels

  -- they are those of the stream's message
  pub contents : Carries reply_of holds.records queue stream (word (PartWord queue item)) parcels
  contents = subst (λ (n : ℕ). Carries reply_of holds.records queue n (word (PartWord queue item)) parcels) tag_is (subst (λ (n : ℕ). Carries reply_of holds.records queue it.tag n parcels) (sym item_shown.part) come.carries)

  -- records that a view has are of posted streams still
  pub postings : (y : FabricView) → RecordsKnown core holds.records y → RecordsKnown core' holds.records y
  postings y = records_stay core core' holds.records y y same_posted.all refl

  -- ---- the seat's view

  module _ (c c' : Ledger) (w : Work) (ws : List Work) (rs : List Posting) (ledger : IsNoted v c c' note (w ∷ ws)) where
    abbrev u : FabricView
    u = record (with_settled queue item stream run (w ∷ ws) c' v) { records = rs }

    -- ---- notes

    off_tag : (r : ℕ) (other : Side) → is_of_ring r (word_side other) (Tag queue item) ≡ false
    off_tag r other = refl

    rings' : RingParts log_at (queues_in shape) (ring_in word') (set s.views id u)
    rings' = rings_stay FabricView log_at (queues_in shape) (ring_in word) (ring_in word') s.views id v u at
        (λ q lt side. ring_stays shape word word' (Tag queue item) 0 sets q (word_side side) lt (off_tag q side)) (λ q side. refl) holds.notes.rings

    tags_set : SetsWord (queues_in shape) (tag_in word) (tag_in word') queue item 0
    tags_set = record {
      here = record { here = sets.here; others = λ i lt ne. sets.others (Tag queue i) (record { in_queues = first_queue; in_items = lt }) (λ is. ne (cc is)) };
      others = λ r lt ne i lt'. sets.others (Tag r i) (record { in_queues = lt; in_items = lt' }) (λ is. ne (cc is));
    }

    same_runs : (q : ℕ) → q < queues_of shape → (i : ℕ) → i < items_of shape q → word' (RunWord q i) ≡ word (RunWord q i)
    same_runs q lt i below_n = sets.others (RunWord q i) (record { in_queues = lt; in_items = below_n }) (λ is. absurd (cc is))

    same_parts : (q : ℕ) → q < queues_of shape → (i : ℕ) → i < items_of shape q → word' (PartWord q i) ≡ word (PartWord q i)
    same_parts q lt i below_n = sets.others (PartWord q i) (record { in_queues = lt; in_items = below_n }) (λ is. absurd (cc is))

    -- what the log says of a queue, where the event is at it and where it isn't
    abbrev events : Bool → ℕ → List ItemEvent
    events b r = cond b (Won item stream ∷ item_log r v.log) (item_log r v.log)

    was_tag : (r i : ℕ) → (r ≢ queue) ⊎ (i ≢ item) → (x : ℕ) → tag_said r u i x → tag_said r v i x
    was_tag r i (inl ne) x told = subst (λ (b : Bool). last_tag i (events b r) ≡ Some x) (ne_eqb queue r (λ is. ne (sym is))) told
    was_tag r i (inr ne) x told = by (queue == r) told
      where
        by : (b : Bool) → last_tag i (events b r) ≡ Some x → last_tag i (item_log r v.log) ≡ Some x
        by true told = told_else item i (Some 0) (last_tag i (item_log r v.log)) x ne told
        by false told = told

    was_run : (r i x : ℕ) → run_said r u i x → run_said r v i x
    was_run r i x told = by (queue == r) told
      where
        by : (b : Bool) → last_run i (events b r) ≡ Some x → last_run i (item_log r v.log) ≡ Some x
        by true told = told
        by false told = told

    was_part : (r i x : ℕ) → part_said r u i x → part_said r v i x
    was_part r i x told = by (queue == r) told
      where
        by : (b : Bool) → last_part i (events b r) ≡ Some x → last_part i (item_log r v.log) ≡ Some x
        by true told = told
        by false told = told

    was_unarmed : (r i : ℕ) → is_armed i (item_log r u.log) ≡ false → is_armed i (item_log r v.log) ≡ false
    was_unarmed r i told = by (queue == r) told
      where
        by : (b : Bool) → is_armed i (events b r) ≡ false → is_armed i (item_log r v.log) ≡ false
        by true told = told
        by false told = told

    pub said_zero : (x : ℕ) → tag_said queue u item x → x ≡ 0
    said_zero x told =
        let is : Some 0 ≡ Some x = told_here item (Some 0) (last_tag item (item_log queue v.log)) x (subst (λ (b : Bool). last_tag item (events b queue) ≡ Some x) (eq-eqb queue queue refl) told) in
        let same : 0 ≡ x = cc is in
        sym same

    owned : Owned (held_at queue) (items_elsewhere core s.views queue) (items_of shape queue) s.views
    owned = subst (λ (sh : Shape). Owned (held_at queue) (items_elsewhere core s.views queue) (items_of sh queue) s.views) holds.shaped (hands_owned core s.views holds.views.items queue there'.in_queues)

    -- who has the item in hand alone knows its tag
    pub kept_by_holder : Holds (held_at queue) item v → WordsKnown held_at (tag_kept shape) (queues_in shape) (tag_in word') (set s.views id u)
    kept_by_holder mine = words_known_set FabricView (tag_kept shape) held_at (items_elsewhere core s.views) (queues_in shape) (tag_in word) (tag_in word') s.views id v u at queue item 0 first_queue there.in_items tags_set mine owned
        (λ r i lt apart held. (held, λ x told. (was_tag r i apart x told.0, told.1))) (λ x told. said_zero x told.0) holds.notes.kept_tags

    -- what is said of other items stays
    pub kept_else : (r i x : ℕ) → r < queues_of shape → i < items_of shape r → (r ≢ queue) ⊎ (i ≢ item) → tag_in word r i ≡ x → tag_in word' r i ≡ x
    kept_else r i x lt below_n apart is = sets.others (Tag r i) (record { in_queues = lt; in_items = below_n }) (⊎_elim (λ ne same. ne (cc same)) (λ ne same. ne (cc same)) apart) ∙ is

    pub zero_here : tag_in word' queue item ≡ 0
    zero_here = sets.here

    pub was_kept : (r i x : ℕ) → (r ≢ queue) ⊎ (i ≢ item) → tag_kept shape r u i x → tag_kept shape r v i x
    was_kept r i x apart told = (was_tag r i apart x told.0, told.1)

    notes' : WordsKnown held_at (tag_kept shape) (queues_in shape) (tag_in word') (set s.views id u) → NotesAreTrue shape word' (set s.views id u)
    notes' kept_tags' =
        let old = holds.notes in
        record {
          rings = rings';
          tags = tags_known_won FabricView tag_said held_at (queues_in shape) (tag_in word) (tag_in word') s.views id v u at queue item tags_set (λ r i lt apart held. (held, was_tag r i apart)) old.tags;
          kept_tags = kept_tags';
          runs = words_known FabricView run_said held_at (queues_in shape) (run_in word) (run_in word') s.views id v u at same_runs (λ q i held. (held, was_run q i)) old.runs;
          parts = words_known FabricView part_said held_at (queues_in shape) (part_in word) (part_in word') s.views id v u at same_parts (λ q i held. (held, was_part q i)) old.parts;
          arms = λ q lt.
              let heads : word' (Head q FreeSide) ≡ word (Head q FreeSide) = sets.others (Head q FreeSide) lt (λ is. absurd (cc is)) in
              arms_stay FabricView (got_at q) (arms_at q) (held_at q) (items_of shape q) (word (Head q FreeSide)) (word' (Head q FreeSide)) (tag_in word q) (tag_in word' q) (run_in word q) (run_in word' q) (part_in word q) (part_in word' q) s.views id v u at
              (omega (arith, heads))
              (λ i below_n. ⊎_elim
              (λ this. inl (subst (λ (r : ℕ). word' (Tag r i) ≡ 0) (sym this.0) (subst (λ (j : ℕ). word' (Tag queue j) ≡ 0) (sym this.1) sets.here)))
              (λ apart. inr (sets.others (Tag q i) (record { in_queues = lt; in_items = below_n }) (⊎_elim (λ ne is. ne (cc is)) (λ ne is. ne (cc is)) apart), same_runs q lt i below_n, same_parts q lt i below_n))
              (this_or_other queue item q i))
              refl
              (λ i held p got. (held, (got.0, was_unarmed q i got.1)))
              (old.arms q lt);
        }

    -- ---- views

    abbrev settled : ℕ
    settled = chunks_for it.run.size

    given : (chunk : ℕ) → IsInRun it.run chunk → (owner_of core chunk ≡ owner.Message queue item) × (owner_of core' chunk ≡ owner.Seat v.seat)
    given chunk within = settle_gives_run word core holds.keeps.sound holds.shows v.seat queue item stream (record { there = there'; tag = tag; armed = some_stream; may = may }) chunk
        (subst (λ (r : Run). IsInRun r chunk) (sym item_shown.run) within)

    chunks' : ChunksHeld core' (set s.views id u)
    chunks' =
        let first : ℕ = first_of it.run in
        let fits = holds.keeps.sound.held.owners.fits queue item armed in
        let within_all : first + settled ≤ segment_chunks * segments_of core.shape = omega (arith, run_is_there core queue it.run holds.keeps.sound.held.shape fits, holds.keeps.sound.held.shape.chunks) in
        let numbers_are : run_numbers run ≡ range_with_len first settled = ap run_numbers (sym run_is) in
        let was : (f : ℕ → ℕ → ℕ) → weigh (λ chunk. owner_weight f (owner_of core chunk) chunk) (range_with_len first settled) ≡ 0 = λ f.
        weigh_range (λ chunk. owner_weight f (owner_of core chunk) chunk) first settled
        ∙ below_none (λ i. owner_weight f (owner_of core (first + i)) (first + i)) settled (λ i lt. ap (λ (o : Owner). owner_weight f o (first + i)) (given (first + i) (omega arith, omega (arith, lt))).0) in
        let is : (f : ℕ → ℕ → ℕ) → weigh (λ chunk. owner_weight f (owner_of core' chunk) chunk) (range_with_len first settled) ≡ weigh (f v.seat) (range_with_len first settled) = λ f.
        weigh_range (λ chunk. owner_weight f (owner_of core' chunk) chunk) first settled
        ∙ below_same (λ i. owner_weight f (owner_of core' (first + i)) (first + i)) (λ i. f v.seat (first + i)) settled (λ i lt. ap (λ (o : Owner). owner_weight f o (first + i)) (given (first + i) (omega arith, omega (arith, lt))).1)
        ∙ sym (weigh_range (f v.seat) first settled) in
        chunks_move core core' s.views id v u at shape_same first settled within_all (settled_owner core v.seat queue item stream)
        (λ f. omega (arith, was f, is f, weigh-append (f v.seat) (run_numbers run) v.chunks, ap (weigh (f v.seat)) numbers_are))
        holds.views.chunks

    module _ (popped' armed' : ℕ → List ℕ) (popped_mine : role_of core v.seat ≡ 0 → popped' v.seat ≡ c'.popped) (popped_others : (k : ℕ) → k ≢ v.seat → popped' k ≡ holds.popped k) (order : PartsInOrder popped' armed' core')
        (kept_tags' : WordsKnown held_at (tag_kept shape) (queues_in shape) (tag_in word') (set s.views id u)) (works' : WorksShown core' armed' (set s.views id u)) (known : Each (IsPosting core' holds.records) rs) (more : (key : ℕ) → records_at key v ≤ weigh (λ (p : Posting). is_number key p.stream) rs) (in_work' : PostsInWork core' (set s.views id u)) where
      views' : ViewsShow shape word' popped' armed' holds.records core' (set s.views id u)
      views' =
          let old = holds.views in
          let tails : (q : ℕ) → q < queues_of core.shape → (ring_in word q Free).tail ≤ (ring_in word' q Free).tail = λ q lt.
          let is : word' (Tail q FreeSide) ≡ word (Tail q FreeSide) = sets.others (Tail q FreeSide) (subst (λ (sh : Shape). q < queues_of sh) holds.shaped lt) (λ e. absurd (cc e)) in omega (arith, is) in
          let untagged : (y : FabricView) → Each (StaysUntagged core core') y.kept = kept_untagged core core' (λ q i. (same_item q i).untagged) in
          record {
            there = of_fabric core core' s.views id v u at shape_same refl refl old.there;
            items = items_stay core core' s.views id v u at shape_same (λ q i lt. (same_item q i).place) (λ q f. refl) old.items;
            chunks = chunks';
            opens = opens_stay core core' s.views id v u at (settled_opened core v.seat queue item stream) refl refl old.opens;
            posts = posts_stay core core' s.views id v u at same_posted.all refl old.posts;
            streams = streams_stay core core' s.views id v u at shape_same (λ q i. (same_item q i).last) refl old.streams;
            records_known = of_each (RecordsKnown core holds.records) (RecordsKnown core' holds.records) s.views id u known postings old.records_known;
            records_there = records_there core core' s.views id v u at (λ k. omega (arith, same_posted.all k)) more old.records_there;
            lists = lists_noted core core' note holds.popped popped' s.views id v u c c' at notes_one ledger.only ledger.number refl ledger.seat ledger.lists ledger.refusals popped_mine popped_others old.lists;
            lists_there = lists_there core core' s.views id v u at shape_same (λ k. ap (λ (n : ℕ). is_number k n + 0) ledger.seat ∙ sym (ap (weigh (λ (d : Ledger). is_number k d.seat)) ledger.only)) old.lists_there;
            works = works';
            counted = counted_stay s.views id v u at (counts_more v u c c' note (w ∷ ws) ledger refl refl refl) old.counted;
            idle = of_each (IsIdle shape) (IsIdle shape) s.views id u (λ spent. absurd (cc spent)) (λ y is. is) old.idle;
            in_work = in_work';
            kept = of_each (KeptAreWorn core (ring_in word)) (KeptAreWorn core' (ring_in word')) s.views id u
                (kept_stay core core' (ring_in word) (ring_in word') v u shape_same tails (untagged v) refl (old.kept id v at)) (λ y. kept_stay core core' (ring_in word) (ring_in word') y y shape_same tails (untagged y) refl) old.kept;
          }

      -- ---- slots that the seat carries

      abbrev coming : List (ℕ × Option (Parcel H))
      coming = full_run (first_of run) come.parcels

      first_is : first_of it.run ≡ first_of run
      first_is = ap first_of run_is

      long : length come.parcels ≡ chunks_for run.size
      long = come.long ∙ ap (λ (r : Run). chunks_for r.size) run_is

      carries_now : CarriesSlots (v, carried) → CarriesSlots (u, coming ++ carried)
      carries_now old f = omega (
        arith,
        old f,
        weigh_numbers f coming carried,
        ap (weigh f) (full_numbers (first_of run) come.parcels),
        ap (λ (n : ℕ). weigh f (range_with_len (first_of run) n)) long,
        weigh-append f (run_numbers run) v.chunks,
      )

      after_settle : IsMachineStep reply_of shape s holds (Settle v.seat queue item stream) (stepped s (offset_of shape (Tag queue item)) 0 id carried u (takes_all coming))
      after_settle =
          let free_now : FreeSlots (segment_chunks * segments_of shape) (map_of word) (homes_after s.homes carried (takes_all coming)) =
          subst (λ (n : ℕ). FreeSlots (segment_chunks * segments_of shape) (map_of word) (homes_after s.homes carried (takes_all (full_run n come.parcels)))) first_is
          (subst (λ (sh : Shape). FreeSlots (segment_chunks * segments_of sh) (map_of word) (homes_after s.homes carried (takes_all (full_run (first_of it.run) come.parcels)))) shape' come.free) in
          step_made reply_of shape s holds (Settle v.seat queue item stream) (set s.words (offset_of shape (Tag queue item)) 0) (homes_after s.homes carried (takes_all coming)) (set s.views id u) popped' armed'
          (omega (arith, holds.wide, length-set s.words (offset_of shape (Tag queue item)) 0)) link shape' order (notes' kept_tags') views'
          (λ chunk lt is_set. free_now chunk lt (sym (chunk_stays shape word word' (Tag queue item) 0 sets (λ k e. absurd (cc e)) chunk lt) ∙ is_set))
          (subst (λ (n : ℕ). ArmedFilled reply_of holds.records core' (homes_after s.homes carried (takes_all (full_run n come.parcels)))) first_is come.filled)

      pub comes : MessageComes reply_of shape s holds id v carried queue item stream run parcels u
      comes = record {
        long = long;
        home = subst (λ (n : ℕ). HaveValuesAtHome n come.parcels s.homes) first_is come.home;
        valid = subst (λ (n : ℕ). Valid s.homes carried (takes_all (full_run n come.parcels))) first_is come.valid;
        taken = subst (λ (n : ℕ). carried_after carried (takes_all (full_run n come.parcels)) ≡ full_run n come.parcels ++ carried) first_is come.taken;
        carries = carries_now;
        step = after_settle;
      }
