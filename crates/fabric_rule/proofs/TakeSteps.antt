-- A worker takes a request.
use Rattle.std.proofs.Common.{ℕ, ◌+◌, ◌≡◌, ◌≢◌, ◌≤◌, ◌<◌, ◌==◌, ◌&&◌, inl, inr, Bool, false, List, [], ◌∷◌, length, set, refl, sym, ap, ◌∙◌, subst, arith}
use Rattle.std.specs.Prelude.{Option}
use Rattle.std.specs.List.{list_any}
use Rattle.std.proofs.lemmas.Bool.{cases_Bool, cases_eq, cases_lt, ne_eqb}
use mathlib.Core.Option.{some}
use lib.ListN.{get_elem?}
use Rattle.atomic_table.specs.Table.{State}
use Rattle.port_message.specs.Words.{numbers_of}
use Rattle.request_context.specs.Parcels.{joined}
use Rattle.request_context.specs.declared.piece.Parcel.{Parcel}
use Rattle.unit_model.specs.Core.{item_of, queue_of, role_of, seat_of}
use Rattle.unit_model.specs.Effects.{after_step, noted, settled_note}
use Rattle.unit_model.specs.Holding.{FitsQueue}
use Rattle.unit_model.specs.PartCounts.{of_stream}
use Rattle.unit_model.specs.PartOrder.{Each}
use Rattle.unit_model.specs.Premises.{MaySettle, Takes}
use Rattle.unit_model.specs.Shapes.{role_in}
use Rattle.unit_model.specs.Sharing.{Holds}
use Rattle.unit_model.specs.StreamCounts.{by_all, by_seat, posted, taken}
use Rattle.unit_model.specs.Weights.{weigh, is_number, times}
use Rattle.unit_model.specs.declared.machine.Core.{Core}
use Rattle.unit_model.specs.declared.machine.Item.{Item}
use Rattle.unit_model.specs.declared.machine.Note.{Note}
use Rattle.unit_model.specs.declared.machine.Note.TheVariants.{Taken}
use Rattle.unit_model.specs.declared.machine.Seat.{Seat as SeatLists}
use Rattle.unit_model.specs.declared.machine.Step.TheVariants.{Settle}
use Rattle.unit_model.specs.declared.runs.Run.{Run}
use Rattle.unit_model.specs.declared.shape.Shape.{Shape}
use Rattle.unit_model.proofs.PartOrderOthers.{others_in_order}
use Rattle.unit_model.proofs.SeatNotes.{Stays, seat_in_all}
use Rattle.unit_model.proofs.StreamSteps.{posted_at_most_once}
use Rattle.unit_model.proofs.Weights.{is_number_same, weigh_at}
use Rattle.unit_types.specs.declared.message.Reply.{Reply}
use Rattle.unit_types.specs.declared.message.Request.{Request}
use Rattle.fabric_words.specs.Offsets.{word_in}
use Rattle.fabric_words.specs.Places.{HasItem}
use Rattle.fabric_words.specs.Shown.{ShowsItem}
use Rattle.fabric_words.specs.declared.place.Place.{Place}
use Rattle.fabric_words.specs.declared.place.Place.TheVariants.{RunWord, Tag}
use Rattle.fabric_rule.specs.Contents.{Carries, IsRequest, OfReply, OfRequest}
use Rattle.fabric_rule.specs.FrameLaws.{NotesOne}
use Rattle.fabric_rule.specs.Parts.{IsPosting, ShowsWorks, WorksShown}
use Rattle.fabric_rule.specs.Rule.{FabricHolds}
use Rattle.fabric_rule.specs.Settling.{MessageComes}
use Rattle.fabric_rule.specs.Steps.{HasLists, RequestComes, TakeLaw, with_request}
use Rattle.fabric_rule.specs.Views.{held_at, part_said, run_said, take_weight, draw_weight}
use Rattle.unit_model.specs.ByRole.{SeatByRole}
use Rattle.unit_model.specs.Core.{blank}
use Rattle.unit_model.specs.Weights.{one_if}
use Rattle.unit_model.specs.declared.machine.Part.{Part}
use Rattle.unit_model.proofs.Views.{sum_set}
use Rattle.unit_model.proofs.Weights.{is_number_other, is_number_some, weigh_push}
use Rattle.fabric_rule.specs.Parts.{KnowsTaken, KnowsWork, PostsInWork}
use Rattle.fabric_rule.specs.Steps.{with_note as main_note}
use Rattle.fabric_rule.specs.Views.{draw_at, take_at}
use Rattle.fabric_rule.specs.declared.view.ArmNote.{ArmNote}
use Rattle.fabric_rule.specs.declared.view.Ledger.{Ledger}
use Rattle.fabric_rule.specs.declared.view.FabricView.{FabricView}
use Rattle.fabric_rule.specs.declared.view.Work.{Work}
use Rattle.fabric_rule.specs.declared.view.Work.TheVariants.{Drawn as DrawnWork, Posted as PostedWork, Taken as TakenWork, Sending, Holding}
use Rattle.fabric_rule.proofs.Hands.{in_hand}
use Rattle.fabric_rule.proofs.KeyedSteps.{keyed_none, keyed_step}
use Rattle.fabric_rule.proofs.Noting.{awaited, noted_here, work_noted, work_stream}
use Rattle.fabric_rule.proofs.SettleSteps.{IsNoted}
use Rattle.fabric_rule.proofs.SettleSteps as settle
use Rattle.fabric_rule.proofs.Sums.{each_gives}

-- requests are on queue 0
pub request_of : {H : Type 0} (reply_of : List ℕ → Request → Reply) (records : ℕ → List ℕ) (stream part : ℕ) (parcels : List (Parcel H)) → Carries reply_of records 0 stream part parcels → IsRequest records stream parcels
request_of reply_of records stream part parcels (OfRequest line is) = is
request_of reply_of records stream part parcels (OfReply back is) = absurd (back refl)

-- ---- works

pub none_last_of : (stream : ℕ) (parts : List Part) → weigh (of_stream stream) parts ≡ 0 → list_any (λ part. part.stream == stream && part.last) parts ≡ false
none_last_of stream [] zeros = refl
none_last_of stream (x ∷ xs) zeros =
    elim (cases_Bool (x.stream == stream)) [
      | inl is ↦ absurd (omega (arith, zeros, ap one_if is))
      | inr other ↦ rw other (none_last_of stream xs (omega (arith, zeros)))
    ]

-- whose work has the stream has drawn or posted it, and is no worker
pub drawer_apart : (core : Core) (armed : ℕ → List ℕ) (worker seat : ℕ) (arms : List ArmNote) (key : ℕ) (w : Work) → SeatByRole 1 (seat_of core worker) → 1 ≤ draw_weight key w → KnowsWork core armed seat arms w → seat ≢ worker
drawer_apart core armed worker seat arms key (DrawnWork stream) by_role has know = λ is. absurd (omega (arith, know.drew, ap (λ (k : ℕ). times stream (seat_of core k).drawn) is, ap (times stream) (by_role.engine (λ e. absurd (cc e))).0))
drawer_apart core armed worker seat arms key (PostedWork stream item) by_role has know = λ is. absurd (omega (arith, know.was_posted, ap (λ (k : ℕ). times stream (seat_of core k).posted) is, ap (times stream) (by_role.engine (λ e. absurd (cc e))).1))
drawer_apart core armed worker seat arms key (TakenWork stream poster parts) by_role has know = absurd (omega (arith, has))
drawer_apart core armed worker seat arms key (Sending stream poster parts last item) by_role has know = absurd (omega (arith, has))
drawer_apart core armed worker seat arms key Holding by_role has know = absurd (omega (arith, has))

-- a work that a taker has of a stream is of that stream, which it took
pub taken_stream : (key : ℕ) (w : Work) → 1 ≤ take_weight key w → work_stream w ≡ key
taken_stream key (DrawnWork stream) has = absurd (omega (arith, has))
taken_stream key (PostedWork stream item) has = absurd (omega (arith, has))
taken_stream key (TakenWork stream poster parts) has = is_number_some key stream (omega (arith, has))
taken_stream key (Sending stream poster parts last item) has = is_number_some key stream (omega (arith, has))
taken_stream key Holding has = absurd (omega (arith, has))

took_it : (core : Core) (armed : ℕ → List ℕ) (seat : ℕ) (arms : List ArmNote) (key : ℕ) (w : Work) → 1 ≤ take_weight key w → KnowsWork core armed seat arms w → 1 ≤ times key (seat_of core seat).taken
took_it core armed seat arms key (DrawnWork stream) has know = absurd (omega (arith, has))
took_it core armed seat arms key (PostedWork stream item) has know = absurd (omega (arith, has))
took_it core armed seat arms key (TakenWork stream poster parts) has know = subst (λ (n : ℕ). 1 ≤ times n (seat_of core seat).taken) (is_number_some key stream (omega (arith, has))) know.took
took_it core armed seat arms key (Sending stream poster parts last item) has know = subst (λ (n : ℕ). 1 ≤ times n (seat_of core seat).taken) (is_number_some key stream (omega (arith, has))) know.took
took_it core armed seat arms key Holding has know = absurd (omega (arith, has))

some_took : (core : Core) (armed : ℕ → List ℕ) (seat : ℕ) (arms : List ArmNote) (key : ℕ) (ws : List Work) → 1 ≤ weigh (take_weight key) ws → Each (λ (w : Work). 1 ≤ take_weight key w → KnowsWork core armed seat arms w) ws → 1 ≤ times key (seat_of core seat).taken
some_took core armed seat arms key [] has shown = absurd (omega (arith, has))
some_took core armed seat arms key (w ∷ ws) has shown =
    elim (cases_lt 0 (take_weight key w)) [
      | inl first ↦ took_it core armed seat arms key w (omega (arith, first)) (shown.0 (omega (arith, first)))
      | inr rest ↦ some_took core armed seat arms key ws (omega (arith, has, rest)) shown.1
    ]

-- ---- the step

module _ {H : Type 0} (reply_of : List ℕ → Request → Reply) (shape : Shape) (s : State (Option (Parcel H)) FabricView) (holds : FabricHolds reply_of shape s) (id : ℕ) (v : FabricView) (c : Ledger) (carried : List (ℕ × Option (Parcel H)))
    (at : get_elem? s.views id ≡ some v) (main : HasLists v c (Holding ∷ [])) (worker : role_in shape v.seat ≡ 1)
    (item stream run_word poster : ℕ) (there : HasItem shape 0 item) (mine : Holds (held_at 0) item v) (said : run_said 0 v item run_word) (said_part : part_said 0 v item poster) (some_stream : stream ≢ 0) (tag : word_in shape s.words (Tag 0 item) ≡ stream) where
  abbrev core : Core
  core = holds.core

  abbrev core' : Core
  core' = after_step core (Settle v.seat 0 item stream)

  abbrev word : Place → ℕ
  word = word_in shape s.words

  abbrev it : Item
  it = item_of core 0 item

  abbrev run : Run
  run = numbers_of run_word

  there' : HasItem core.shape 0 item
  there' = subst (λ (sh : Shape). HasItem sh 0 item) (sym holds.shaped) there

  role : role_of core v.seat ≡ 1
  role = ap (λ (sh : Shape). role_in sh v.seat) holds.shaped ∙ worker

  item_shown : ShowsItem word 0 item it
  item_shown = holds.shows.items 0 item there'

  tag_is : it.tag ≡ stream
  tag_is = sym item_shown.tag ∙ tag

  armed : it.tag ≢ 0
  armed = λ is. some_stream (sym tag_is ∙ is)

  run_word_is : word (RunWord 0 item) ≡ run_word
  run_word_is = holds.notes.runs 0 there.in_queues id v at item there.in_items mine run_word said

  run_is : it.run ≡ run
  run_is = sym item_shown.run ∙ ap numbers_of run_word_is

  part_is : it.part ≡ poster
  part_is = sym item_shown.part ∙ holds.notes.parts 0 there.in_queues id v at item there.in_items mine poster said_part

  was_posted : 1 ≤ by_seat posted core poster stream
  was_posted = subst (λ (k : ℕ). 1 ≤ by_seat posted core k stream) part_is (subst (λ (n : ℕ). 1 ≤ by_seat posted core it.part n) tag_is (holds.keeps.sound.streams.part_is_poster item armed))

  -- who posts is an engine
  poster_engine : role_in shape poster ≡ 0
  poster_engine = elim (cases_eq (role_of core poster) 0) [
    | inl is ↦ sym (ap (λ (sh : Shape). role_in sh poster) holds.shaped) ∙ is
    | inr ne ↦ absurd (omega (arith, was_posted, ap (times stream) ((holds.keeps.seats poster).engine ne).1))
  ]

  run_fits : FitsQueue shape 0 run
  run_fits = subst (λ (sh : Shape). FitsQueue sh 0 run) holds.shaped (subst (λ (r : Run). FitsQueue core.shape 0 r) run_is (holds.keeps.sound.held.owners.fits 0 item armed))

  may : MaySettle core v.seat 0 item stream
  may = Takes role refl (in_hand core s.views id v at holds.views.items 0 item there'.in_queues mine)

  abbrev note : Note
  note = Taken stream

  note_is : settled_note (role_of core v.seat == 0) 0 stream it ≡ note
  note_is = ap (λ (b : Bool). settled_note b 0 stream it) (ne_eqb (role_of core v.seat) 0 (λ is. absurd (omega (arith, is, role))))

  abbrev c' : Ledger
  c' = main_note note 2 c

  abbrev first_work : Work
  first_work = TakenWork stream poster 0

  abbrev more_works : List Work
  more_works = Holding ∷ Holding ∷ []

  ledger : IsNoted v c c' note (first_work ∷ more_works)
  ledger = record { only = main.main.only; number = main.main.number; seat = refl; lists = refl; refusals = refl; more = 2; opened = refl; works_more = omega (arith, ap (length {A = Work}) main.has) }

  notes_one : NotesOne core core' v.seat note
  notes_one = settle.notes_one reply_of shape s holds id v carried at 0 item stream run_word there tag some_stream run_word_is may note note_is (λ l. refl)

  inside : item < length (queue_of core 0).items
  inside = omega (arith, there'.in_items, holds.keeps.sound.held.shape.items 0 there'.in_queues)

  -- ---- the record

  abbrev pieces : List (Parcel H)
  pieces = settle.parcels reply_of shape s holds id v carried at 0 item stream run_word there tag some_stream run_word_is may note note_is (λ l. refl)

  request : IsRequest holds.records stream pieces
  request = request_of reply_of holds.records stream _ pieces (settle.contents reply_of shape s holds id v carried at 0 item stream run_word there tag some_stream run_word_is may note note_is (λ l. refl))

  abbrev u : FabricView
  u = with_request item stream poster run (joined pieces) c v

  -- ---- streams

  -- nobody had taken it
  posts_once : by_all posted core stream ≡ 1
  posts_once =
      let counts = holds.keeps.sound.streams in
      let mine_tag : is_number stream it.tag ≡ 1 = ap (is_number stream) tag_is ∙ is_number_same stream in
      omega (arith, counts.one_state stream some_stream, posted_at_most_once core counts stream, mine_tag, weigh_at (λ (x : Item). is_number stream x.tag) (queue_of core 0).items item blank inside)

  untaken : by_all taken core stream ≡ 0
  untaken =
      let counts = holds.keeps.sound.streams in
      let mine_tag : is_number stream it.tag ≡ 1 = ap (is_number stream) tag_is ∙ is_number_same stream in
      omega (arith, counts.one_state stream some_stream, posted_at_most_once core counts stream, mine_tag, weigh_at (λ (x : Item). is_number stream x.tag) (queue_of core 0).items item blank inside)

  untaken_by : (k : ℕ) → times stream (seat_of core k).taken ≡ 0
  untaken_by k = omega (arith, untaken, seat_in_all taken core k stream refl)

  same_posted : Stays posted core core'
  same_posted = settle.same_posted reply_of shape s holds id v carried at 0 item stream run_word there tag some_stream run_word_is may note note_is (λ l. refl)

  mine_now : seat_of core' v.seat ≡ noted note (seat_of core v.seat)
  mine_now = noted_here core core' v.seat note notes_one

  knows : KnowsTaken (seat_of core' v.seat) (seat_of core' poster) holds.armed stream 0
  knows =
      let counts = holds.keeps.sound.parts in
      let none_closed : times stream (seat_of core v.seat).closed ≡ 0 = omega (arith, counts.closed_by_taker v.seat stream, untaken_by v.seat) in
      let none_sent : weigh (of_stream stream) (seat_of core v.seat).sent ≡ 0 = elim (cases_lt 0 (weigh (of_stream stream) (seat_of core v.seat).sent)) [
        | inl some_sent ↦ absurd (omega (arith, counts.sent_by_taker v.seat stream (omega (arith, some_sent)), untaken_by v.seat))
        | inr not_sent ↦ omega (arith, not_sent)
      ] in
      subst (λ (l : SeatLists). KnowsTaken l (seat_of core' poster) holds.armed stream 0) (sym mine_now)
      (record {
        took = omega (arith, weigh_push (is_number stream) (seat_of core v.seat).taken stream, is_number_same stream);
        unclosed = none_closed;
        to = omega (arith, was_posted, same_posted.each poster stream);
        parts_out = none_sent;
        unfinished = none_last_of stream (seat_of core v.seat).sent none_sent;
        nothing = holds.keeps.order.untaken stream untaken;
      })

  -- ---- works

  by_role : SeatByRole 1 (seat_of core v.seat)
  by_role = subst (λ (r : ℕ). SeatByRole r (seat_of core v.seat)) role (holds.keeps.seats v.seat)

  held_none : (weight : ℕ → Work → ℕ) (key : ℕ) → weigh (weight key) v.works ≡ weight key Holding + 0
  held_none weight key = ap (weigh (weight key)) main.has

  no_taker : weigh (take_at stream) s.views ≡ 0
  no_taker = keyed_none FabricView take_at (ShowsWorks take_weight core holds.armed) s.views stream holds.views.works.takes
      (λ y has shown. absurd (omega (arith, some_took core holds.armed y.seat y.arms stream y.works has shown, untaken_by y.seat)))

  works' : WorksShown core' holds.armed (set s.views id u)
  works' =
      let old = holds.views.works in
      record {
        draws = keyed_step FabricView draw_at (ShowsWorks draw_weight core holds.armed) (ShowsWorks draw_weight core' holds.armed) s.views id v u at
            (λ key. omega (arith, old.draws.once key))
            (λ key has. absurd (omega (arith, has)))
            (λ key zero y has shown.
            each_gives (λ (w : Work). 1 ≤ draw_weight key w → KnowsWork core holds.armed y.seat y.arms w) (λ (w : Work). 1 ≤ draw_weight key w → KnowsWork core' holds.armed y.seat y.arms w) y.works
            (λ w was is. work_noted core core' v.seat (Taken stream) notes_one holds.armed holds.armed y.seat y.arms w (inr (drawer_apart core holds.armed v.seat y.seat y.arms key w by_role is (was is))) refl (was is))
            shown)
            old.draws;
        takes = keyed_step FabricView take_at (ShowsWorks take_weight core holds.armed) (ShowsWorks take_weight core' holds.armed) s.views id v u at
            (λ key. elim (cases_eq stream key) [
              | inl is ↦ omega (arith, subst (λ (k : ℕ). weigh (take_at k) s.views ≡ 0) is no_taker, ap (λ (n : ℕ). is_number key n) is, is_number_same key)
              | inr ne ↦ omega (arith, old.takes.once key, is_number_other key stream ne)
            ])
            (λ key has. ((λ is. knows), ((λ is. tt), ((λ is. tt), tt))))
            (λ key zero y has shown.
            let other : key ≢ stream = λ is. absurd (omega (arith, some_took core holds.armed y.seat y.arms key y.works has shown, ap (λ (k : ℕ). times k (seat_of core y.seat).taken) is, untaken_by y.seat)) in
            each_gives (λ (w : Work). 1 ≤ take_weight key w → KnowsWork core holds.armed y.seat y.arms w) (λ (w : Work). 1 ≤ take_weight key w → KnowsWork core' holds.armed y.seat y.arms w) y.works
            (λ w was is. work_noted core core' v.seat (Taken stream) notes_one holds.armed holds.armed y.seat y.arms w (inl (λ same. other (sym (taken_stream key w is) ∙ same))) refl (was is))
            shown)
            old.takes;
      }

  -- ---- the rule

  known : Each (IsPosting core' holds.records) u.records
  known = (
    record { same = sym request.posted; was = omega (arith, posts_once, same_posted.all stream) },
    settle.postings reply_of shape s holds id v carried at 0 item stream run_word there tag some_stream run_word_is may note note_is (λ l. refl) v (holds.views.records_known id v at),
  )

  in_work' : PostsInWork core' (set s.views id u)
  in_work' engine key awaits = omega (arith, holds.views.in_work engine key (awaited core core' v.seat note notes_one (λ l. (refl, refl, refl, refl)) engine key awaits), sum_set (draw_at key) s.views id v u at, held_none draw_weight key)

  comes : MessageComes reply_of shape s holds id v carried 0 item stream run pieces u
  comes =
      settle.comes reply_of shape s holds id v carried at 0 item stream run_word there tag some_stream run_word_is may note note_is (λ l. refl) c c' first_work more_works u.records ledger
      holds.popped holds.armed (λ engine. absurd (omega (arith, engine, role))) (λ k ne. refl)
      (others_in_order holds.popped holds.armed core (Settle v.seat 0 item stream) holds.keeps.sound holds.keeps.order refl (settle.enabled reply_of shape s holds id v carried at 0 item stream run_word there tag some_stream run_word_is may note note_is (λ l. refl)))
      (settle.kept_by_holder reply_of shape s holds id v carried at 0 item stream run_word there tag some_stream run_word_is may note note_is (λ l. refl) c c' first_work more_works u.records ledger mine)
      works' known (λ k. omega arith) in_work'

  pub takes : RequestComes reply_of shape s holds id v c carried item stream poster run
  takes = record {
    parcels = pieces;
    long = comes.long;
    request = request;
    engine = poster_engine;
    fits = run_fits;
    home = comes.home;
    valid = comes.valid;
    taken = comes.taken;
    carries = comes.carries;
    step = comes.step;
  }

pub take : (H : Type 0) → TakeLaw H
take H reply_of shape s holds id v c carried at main worker item stream run_word poster there mine said said_part some_stream tag =
    takes reply_of shape s holds id v c carried at main worker item stream run_word poster there mine said said_part some_stream tag
