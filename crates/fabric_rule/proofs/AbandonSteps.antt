-- An engine abandons a stream that it posted and a worker took.
use Rattle.std.proofs.Common.{ℕ, ◌≡◌, ◌≢◌, false, List, [], ◌∷◌, length, set, refl, sym, ap, ◌∙◌, subst, arith, set-set}
use Rattle.std.specs.Prelude.{Option}
use mathlib.Core.Option.{some}
use lib.ListN.{get_elem?}
use Rattle.atomic_table.specs.Table.{State}
use Rattle.atomic_table.proofs.Lists.{set_here}
use Rattle.app_queue.specs.declared.view.ItemEvent.TheVariants.{Gone}
use Rattle.app_queue.proofs.ArmFrames.{is_there}
use Rattle.request_context.specs.declared.piece.Parcel.{Parcel}
use Rattle.unit_model.specs.Core.{item_of, owner_of, role_of, seat_of}
use Rattle.unit_model.specs.Effects.{after_step, noted, with_note}
use Rattle.unit_model.specs.Premises.{MayAbandon}
use Rattle.unit_model.specs.Running.{Enabled}
use Rattle.unit_model.specs.StreamCounts.{posted}
use Rattle.unit_model.specs.Weights.{weigh, is_number, times}
use Rattle.unit_model.specs.declared.machine.Core.{Core}
use Rattle.unit_model.specs.declared.machine.Item.{Item}
use Rattle.unit_model.specs.declared.machine.Note.{Note}
use Rattle.unit_model.specs.declared.machine.Note.TheVariants.{Abandoned}
use Rattle.unit_model.specs.declared.machine.Seat.{Seat as SeatLists}
use Rattle.unit_model.specs.declared.machine.Step.TheVariants.{Abandon}
use Rattle.unit_model.specs.declared.shape.Shape.{Shape}
use Rattle.unit_model.proofs.ListPremises.{was_taken}
use Rattle.unit_model.proofs.MetSteps.{role_is_there}
use Rattle.unit_model.proofs.PartOrderOthers.{others_in_order}
use Rattle.unit_model.proofs.SeatNotes.{Adds, Stays, stays}
use Rattle.unit_model.proofs.StepFacts.{adds_after_abandon}
use Rattle.unit_model.proofs.StreamPoints.{armed_inside}
use Rattle.unit_model.proofs.Weights.{is_number_same, weigh_push}
use Rattle.unit_types.specs.declared.message.Reply.{Reply}
use Rattle.unit_types.specs.declared.message.Request.{Request}
use Rattle.fabric_words.specs.Offsets.{word_in}
use Rattle.fabric_words.specs.Places.{HasItem}
use Rattle.fabric_words.specs.Shown.{IsStep}
use Rattle.fabric_words.specs.declared.place.Place.{Place}
use Rattle.fabric_words.specs.declared.place.Place.TheVariants.{Tag}
use Rattle.fabric_words.proofs.EachStep.{made_step}
use Rattle.fabric_words.proofs.Frames.{item_there}
use Rattle.fabric_rule.specs.FrameLaws.{NotesOne}
use Rattle.fabric_rule.specs.Parts.{AwaitsReply, IsTrueLedger, KnowsPosted, has_last}
use Rattle.fabric_rule.specs.Rule.{FabricHolds, NotesAreTrue, ViewsShow}
use Rattle.fabric_rule.specs.Settling.{AbandonLaw}
use Rattle.fabric_rule.specs.Steps.{HasLists, IsMachineStep, IsNoStep}
use Rattle.fabric_rule.specs.Steps.{with_note as main_note}
use Rattle.fabric_rule.specs.Views.{draw_at, logged}
use Rattle.fabric_rule.specs.declared.event.FabricEvent.TheVariants.{AtItem}
use Rattle.fabric_rule.specs.declared.view.Ledger.{Ledger}
use Rattle.fabric_rule.specs.declared.view.FabricView.{FabricView}
use Rattle.fabric_rule.specs.declared.view.Work.{Work}
use Rattle.fabric_rule.specs.declared.view.Work.TheVariants.{Holding}
use Rattle.fabric_rule.specs.declared.view.Work.TheVariants.{Posted as PostedWork}
use Rattle.fabric_rule.proofs.ArmSteps.{has_not_of_times, has_of_times}
use Rattle.fabric_rule.proofs.CancelSteps.{has_draw, knows_posted, only_poster, popped_is, poster_engine, poster_lists, some_stream, tag_is_item}
use Rattle.fabric_rule.proofs.Contents.{filled_stay}
use Rattle.fabric_rule.proofs.Frames.{chunks_stay, items_stay, opens_stay}
use Rattle.fabric_rule.proofs.ItemNotes.{all_still, heads_still, items_noted, rings_kept}
use Rattle.fabric_rule.proofs.ItemLooks.{look_at_item}
use Rattle.fabric_rule.proofs.Ledgers.{own_ledger}
use Rattle.fabric_rule.proofs.Noting.{lists_noted, noted_here}
use Rattle.fabric_rule.proofs.OwnViews.{awaits_end, works_end}
use Rattle.fabric_rule.proofs.SettleSteps.{IsNoted, counts_more}
use Rattle.fabric_rule.proofs.RuleSteps.{step_made}
use Rattle.fabric_rule.proofs.Staying.{LeavesStreams, views_stay}

-- ---- what Abandon leaves of a core

module _ (core : Core) (seat stream : ℕ) where
  abandoned_shape : (after_step core (Abandon seat stream)).shape ≡ core.shape
  unfolding after_step with_note
  abandoned_shape = refl

  abandoned_opened : (after_step core (Abandon seat stream)).opened ≡ core.opened
  unfolding after_step with_note
  abandoned_opened = refl

  abandoned_owner : (chunk : ℕ) → owner_of (after_step core (Abandon seat stream)) chunk ≡ owner_of core chunk
  unfolding after_step with_note
  abandoned_owner chunk = refl

  abandoned_item : (queue item : ℕ) → item_of (after_step core (Abandon seat stream)) queue item ≡ item_of core queue item
  unfolding after_step with_note
  abandoned_item queue item = refl

-- ---- the step, without a note of the tag

module _ {H : Type 0} (reply_of : List ℕ → Request → Reply) (shape : Shape) (s : State (Option (Parcel H)) FabricView) (holds : FabricHolds reply_of shape s) (id : ℕ) (v : FabricView) (c : Ledger) (at : get_elem? s.views id ≡ some v)
    (item stream : ℕ) (main : HasLists v c (PostedWork stream item ∷ [])) (unreceived : has_last stream c.lists.received ≡ false) (gone : word_in shape s.words (Tag 0 item) ≢ stream) where
  abbrev word : Place → ℕ
  word = word_in shape s.words

  abbrev core : Core
  core = holds.core

  abbrev core' : Core
  core' = after_step core (Abandon v.seat stream)

  abbrev note : Note
  note = Abandoned stream

  abbrev c' : Ledger
  c' = main_note note 0 c

  abbrev u : FabricView
  u = record v { ledgers = c' ∷ []; works = Holding ∷ [] }

  engine : role_of core v.seat ≡ 0
  engine = poster_engine reply_of shape s holds id v c at item stream main

  knows : KnowsPosted (seat_of core v.seat) v.arms stream item
  knows = knows_posted reply_of shape s holds id v c at item stream main

  nonzero : stream ≢ 0
  nonzero = some_stream reply_of shape s holds id v c at item stream main

  -- the stream is no tag any more
  off : (i : ℕ) → (item_of core 0 i).tag ≢ stream
  off i is =
      let there' : HasItem core.shape 0 i = item_there core 0 i holds.keeps.sound.held.shape (armed_inside core 0 i (λ none. nonzero (sym is ∙ none))) in
      let tag : word (Tag 0 i) ≡ stream = (holds.shows.items 0 i there').tag ∙ is in
      let this : i ≡ item = tag_is_item reply_of shape s holds id v c at item stream main i (subst (λ (sh : Shape). HasItem sh 0 i) holds.shaped there') tag in
      gone (subst (λ (j : ℕ). word (Tag 0 j) ≡ stream) this tag)

  lists_are : c.lists ≡ seat_of core v.seat
  lists_are =
      let ledger : IsTrueLedger core holds.popped c = own_ledger core holds.popped s.views id v c at main.main.only holds.views.lists in
      ledger.lists ∙ ap (seat_of core) main.main.number

  may : MayAbandon core v.seat stream
  may =
      let lists : SeatLists = seat_of core v.seat in
      let has_posted = has_of_times stream lists.posted knows.was_posted in
      let uncancelled = has_not_of_times stream lists.cancelled knows.uncancelled in
      record {
        posted = has_posted;
        taken = was_taken core holds.keeps.sound v.seat stream has_posted uncancelled off;
        uncancelled = uncancelled;
        unabandoned = has_not_of_times stream lists.abandoned knows.unabandoned;
        unreceived = sym (ap (λ (l : SeatLists). has_last stream l.received) lists_are) ∙ unreceived;
      }

  link : IsStep word core (Abandon v.seat stream)
  link = made_step shape word word (Abandon v.seat stream) (λ place there. refl) core holds.shaped holds.keeps.sound holds.shows (record { role = engine; may = may })

  adds : Adds core core' v.seat note
  adds = adds_after_abandon core v.seat stream (omega (arith, holds.keeps.sound.streams.seats, role_is_there core v.seat (holds.views.there id v at).role))

  same : core'.shape ≡ core.shape
  same = abandoned_shape core v.seat stream

  notes_one : NotesOne core core' v.seat note
  notes_one = record { shape = same; inside = adds.inside; seats = adds.seats }

  same_posted : Stays posted core core'
  same_posted = stays posted core core' v.seat note adds (λ l. refl)

  ledger : IsNoted v c c' note (Holding ∷ [])
  ledger = record { only = main.main.only; number = main.main.number; seat = refl; lists = refl; refusals = refl; more = 0; opened = refl; works_more = omega (arith, ap (length {A = Work}) main.has) }

  notes' : NotesAreTrue shape word (set s.views id u)
  notes' =
      items_noted shape word word (all_still shape word) (heads_still shape word) s.views id v at u.ledgers u.works v.chunks v.items v.kept v.log (λ q i mine. mine) (λ q i p got. got) (λ q. refl)
      (rings_kept shape word s.views id v u at (λ q side. refl) holds.notes.rings) holds.notes

  ended : AwaitsReply (seat_of core' v.seat) stream → ⊥
  ended awaits =
      let now : seat_of core' v.seat ≡ noted note (seat_of core v.seat) = noted_here core core' v.seat note notes_one in
      absurd (omega (arith, awaits.unabandoned, ap (λ (l : SeatLists). times stream l.abandoned) now, weigh_push (is_number stream) (seat_of core v.seat).abandoned stream, is_number_same stream))

  views' : ViewsShow shape word holds.popped holds.armed holds.records core' (set s.views id u)
  views' =
      let old = holds.views in
      let item_same : (q i : ℕ) → item_of core' q i ≡ item_of core q i = abandoned_item core v.seat stream in
      let draws_v : (key : ℕ) → draw_at key v ≡ is_number key stream = has_draw reply_of shape s holds id v c at item stream main in
      let leaves : LeavesStreams core core' = record { shape = same; posts = same_posted.all; items = λ q i. record { last = ap (λ (x : Item). x.stream) (item_same q i); untagged = λ none. ap (λ (x : Item). x.tag) (item_same q i) ∙ none } } in
      views_stay shape word word holds.popped holds.armed holds.popped holds.armed holds.records core core' leaves s.views id v u at (record { shape = refl; number = refl; arms = refl; records = refl; kept = refl }) (λ q lt. omega arith)
      (record {
        items = items_stay core core' s.views id v u at same (λ q i lt. ap (λ (x : Item). x.whereabouts) (item_same q i)) (λ q f. refl) old.items;
        chunks = chunks_stay core core' s.views id v u at same (abandoned_owner core v.seat stream) (λ f. refl) old.chunks;
        opens = opens_stay core core' s.views id v u at (abandoned_opened core v.seat stream) refl refl old.opens;
        lists = lists_noted core core' note holds.popped holds.popped s.views id v u c c' at notes_one main.main.only main.main.number refl refl refl refl
            (popped_is reply_of shape s holds id v c at item stream main) (λ k ne. refl) old.lists;
        numbers = λ k. sym (ap (weigh (λ (d : Ledger). is_number k d.seat)) main.main.only);
        works = works_end core core' holds.armed s.views id v u at stream note notes_one refl draws_v (λ key. refl) (λ key. refl) (poster_lists reply_of shape s holds id v c at item stream main) old.works;
        counted = counts_more v u c c' note (Holding ∷ []) ledger refl refl refl;
        idle = λ spent. absurd (cc spent);
        in_work = awaits_end core core' holds.armed s.views id v u at stream note notes_one refl draws_v (λ key. refl) (λ key. refl) ended (only_poster reply_of shape s holds id v c at item stream main) (λ k. same_posted.each k stream) old.in_work;
      })
      old

  pub abandons : IsMachineStep reply_of shape s holds (Abandon v.seat stream) (record s { views = set s.views id u })
  abandons =
      let item_same : (q i : ℕ) → item_of core' q i ≡ item_of core q i = abandoned_item core v.seat stream in
      step_made reply_of shape s holds (Abandon v.seat stream) s.words s.homes (set s.views id u) holds.popped holds.armed holds.wide link (same ∙ holds.shaped)
      (others_in_order holds.popped holds.armed core (Abandon v.seat stream) holds.keeps.sound holds.keeps.order tt link.enabled) notes' views' holds.free
      (filled_stay H reply_of holds.records holds.records core core' s.homes s.homes same
      (λ q i has armed. (ap (λ (x : Item). x.tag) (item_same q i), ap (λ (x : Item). x.run) (item_same q i), ap (λ (x : Item). x.part) (item_same q i), refl, λ chunk in_run. refl)) holds.filled)

-- ---- the law: the tag is noted, and then the lists

pub abandon : (H : Type 0) → AbandonLaw H
abandon H reply_of shape s holds id v c at item stream found main there unreceived tag other =
    let seen : FabricView = logged (AtItem 0 (Gone item stream found)) v in
    let u : FabricView = record seen { ledgers = main_note (Abandoned stream) 0 c ∷ []; works = Holding ∷ [] } in
    let looked : IsNoStep reply_of shape s holds (record s { views = set s.views id seen }) = look_at_item H reply_of shape s holds id v at 0 (Gone item stream found) there.in_queues tag in
    let quiet : IsMachineStep reply_of shape (record s { views = set s.views id seen }) looked.after (Abandon v.seat stream) (record s { views = set (set s.views id seen) id u }) =
    abandons reply_of shape (record s { views = set s.views id seen }) looked.after id seen c (set_here s.views id seen (is_there s.views id v at)) item stream
    (record { main = record { only = main.main.only; number = main.main.number; nothing = main.main.nothing }; has = main.has }) unreceived (λ is. other (sym tag ∙ is)) in
    let both : IsMachineStep reply_of shape (record s { views = set s.views id seen }) looked.after (Abandon v.seat stream) (record s { views = set s.views id u }) =
    subst (λ (vs : List FabricView). IsMachineStep reply_of shape (record s { views = set s.views id seen }) looked.after (Abandon v.seat stream) (record s { views = vs })) (set-set s.views id seen u) quiet in
    record {
      enabled = subst (λ (k : Core). Enabled k (Abandon v.seat stream)) looked.is both.enabled;
      after = both.after;
      is = both.is ∙ ap (λ (k : Core). after_step k (Abandon v.seat stream)) looked.is;
    }
