-- An engine posts a request.
use Rattle.std.proofs.Common.{ℕ, zero, suc, ◌+◌, ◌*◌, ◌≡◌, ◌≢◌, ◌≤◌, ◌<◌, ◌⊎◌, ◌==◌, inl, inr, Bool, true, false, cond, List, [], ◌∷◌, length, set, refl, sym, ap, ◌∙◌, subst, arith}
use Rattle.std.specs.Prelude.{Option}
use Rattle.std.proofs.lemmas.Bool.{cases_Bool, cases_eq, eq-eqb, ne_eqb}
use mathlib.Core.Option.{some}
use lib.ListN.{get_elem?}
use Rattle.atomic_table.specs.Table.{State}
use Rattle.port_message.specs.Words.{numbers_of}
use Rattle.request_context.specs.Parcels.{joined}
use Rattle.request_context.specs.declared.piece.Parcel.{Parcel}
use Rattle.unit_model.specs.Core.{item_of, role_of, seat_of}
use Rattle.unit_model.specs.Effects.{after_step, noted}
use Rattle.unit_model.specs.Limits.{segment_chunks}
use Rattle.unit_model.specs.PartOrder.{Each}
use Rattle.unit_model.specs.Runs.{chunks_for}
use Rattle.unit_model.specs.Shapes.{role_in}
use Rattle.unit_model.specs.Sharing.{Holds}
use Rattle.unit_model.specs.StreamCounts.{by_all, by_seat, posted}
use Rattle.unit_model.specs.Weights.{weigh, is_number, times}
use Rattle.unit_model.specs.declared.machine.Core.{Core}
use Rattle.unit_model.specs.declared.machine.Seat.{Seat as SeatLists}
use Rattle.unit_model.specs.declared.runs.Run.{Run}
use Rattle.unit_model.specs.declared.shape.Shape.{Shape}
use Rattle.unit_model.proofs.MetSteps.{role_is_there}
use Rattle.unit_model.proofs.PartOrderOthers.{others_in_order}
use Rattle.unit_model.proofs.SeatNotes.{Adds, seat_in_all}
use Rattle.unit_model.proofs.Weights.{is_number_same}
use Rattle.unit_types.specs.declared.message.Reply.{Reply}
use Rattle.unit_types.specs.declared.message.Request.{Request}
use Rattle.fabric_words.specs.Places.{HasItem, segments_of}
use Rattle.fabric_rule.specs.Contents.{Carries, CarriesSlots, OfRequest}
use Rattle.fabric_rule.specs.FrameLaws.{NotesOne}
use Rattle.fabric_rule.specs.Parts.{IsPosting, RecordsKnown, ShowsWorks, WorksShown}
use Rattle.fabric_rule.specs.Passing.{first_of}
use Rattle.fabric_rule.specs.Rule.{FabricHolds}
use Rattle.fabric_rule.specs.Steps.{HasLists}
use Rattle.fabric_rule.specs.Views.{got_at, held_at, part_said, run_said, take_weight, draw_weight}
use Rattle.unit_model.specs.ByRole.{SeatByRole}
use Rattle.unit_model.specs.Weights.{one_if}
use Rattle.unit_model.proofs.Views.{sum_set}
use Rattle.unit_model.proofs.Weights.{is_number_some, weigh_push}
use Rattle.fabric_rule.specs.Parts.{AwaitsReply, KnowsWork}
use Rattle.fabric_rule.specs.Steps.{with_note as main_note}
use Rattle.fabric_rule.specs.Views.{draw_at, opens_at, posts_at, take_at, works_at}
use Rattle.fabric_rule.specs.declared.view.ArmNote.{ArmNote}
use Rattle.fabric_rule.specs.declared.view.Ledger.{Ledger}
use Rattle.fabric_rule.specs.declared.view.FabricView.{FabricView}
use Rattle.fabric_rule.specs.declared.view.Posting.{Posting}
use Rattle.fabric_rule.specs.declared.view.Work.{Work}
use Rattle.fabric_rule.specs.declared.view.Work.TheVariants.{Drawn as DrawnWork, Posted as PostedWork, Taken as TakenWork, Sending, Holding}
use Rattle.fabric_rule.proofs.Ledgers.{own_popped}
use Rattle.fabric_rule.proofs.Frames.{of_each}
use Rattle.fabric_rule.proofs.KeyedSteps.{keyed_step}
use Rattle.fabric_rule.proofs.Noting.{lists_noted, noted_here, work_noted, work_stream}
use Rattle.fabric_rule.proofs.Sums.{each_gives, sum_stays}
use Rattle.carried_slots.specs.Carried.{numbers}
use Rattle.carried_slots.specs.RunSlots.{HasValues}
use Rattle.std.proofs.lemmas.Bool.{and_from}
use Rattle.unit_model.specs.Conditions.{has_stream}
use Rattle.unit_model.specs.Holding.{FitsQueue}
use Rattle.unit_model.specs.Premises.{Fills, MayArm, Posts}
use Rattle.unit_model.specs.StreamCounts.{StreamCounts, drawn}
use Rattle.unit_model.specs.declared.machine.Note.TheVariants.{Posted}
use Rattle.unit_model.specs.declared.machine.Step.TheVariants.{Arm}
use Rattle.unit_model.proofs.SeatNotes.{Grows, all_less_at, grows, has_counts, has_not_counts}
use Rattle.unit_model.proofs.StepFacts.{adds_after_arm}
use Rattle.unit_model.proofs.StreamSteps.{drawn_at_most_once, drawn_some}
use Rattle.unit_model.proofs.Views.{sum_at}
use Rattle.fabric_rule.specs.Contents.{IsRecordOf}
use Rattle.fabric_rule.specs.Parts.{KnowsDrawn, KnowsPosted, PostsInWork}
use Rattle.fabric_rule.specs.Steps.{ArmLineLaw, RequestGoes, slots_left, with_posted}
use Rattle.fabric_rule.specs.Views.{posts_of}
use Rattle.fabric_rule.proofs.ArmParts.{OfLists, arms_it, carries_now, go, link, recorded, shape_same}
use Rattle.fabric_rule.proofs.Noting.{said_as}
use Rattle.fabric_rule.proofs.ListFrames.{records_there}

-- ---- streams

pub has_of_times : (stream : ℕ) (streams : List ℕ) → 1 ≤ times stream streams → has_stream stream streams ≡ true
has_of_times stream streams has_some =
    elim (cases_Bool (has_stream stream streams)) [
      | inl has ↦ has
      | inr none ↦ absurd (omega (arith, has_some, has_not_counts stream streams none))
    ]

pub has_not_of_times : (stream : ℕ) (streams : List ℕ) → times stream streams ≡ 0 → has_stream stream streams ≡ false
has_not_of_times stream streams none =
    elim (cases_Bool (has_stream stream streams)) [
      | inl has ↦ absurd (omega (arith, none, has_counts stream streams has))
      | inr away ↦ away
    ]

-- ---- works

-- a work of who drew or posted a stream is of that stream
pub drawn_stream : (key : ℕ) (w : Work) → 1 ≤ draw_weight key w → work_stream w ≡ key
drawn_stream key (DrawnWork stream) has = is_number_some key stream (omega (arith, has))
drawn_stream key (PostedWork stream item) has = is_number_some key stream (omega (arith, has))
drawn_stream key (TakenWork stream poster parts) has = absurd (omega (arith, has))
drawn_stream key (Sending stream poster parts last item) has = absurd (omega (arith, has))
drawn_stream key Holding has = absurd (omega (arith, has))

-- whose work takes a stream has taken it, and is no engine
pub taker_apart : (core : Core) (armed : ℕ → List ℕ) (engine seat : ℕ) (arms : List ArmNote) (key : ℕ) (w : Work) → SeatByRole 0 (seat_of core engine) → 1 ≤ take_weight key w → KnowsWork core armed seat arms w → seat ≢ engine
taker_apart core armed engine seat arms key (DrawnWork stream) by_role has know = absurd (omega (arith, has))
taker_apart core armed engine seat arms key (PostedWork stream item) by_role has know = absurd (omega (arith, has))
taker_apart core armed engine seat arms key (TakenWork stream poster parts) by_role has know = λ is. absurd (omega (arith, know.took, ap (λ (k : ℕ). times stream (seat_of core k).taken) is, ap (times stream) (by_role.worker (λ e. absurd (cc e))).0))
taker_apart core armed engine seat arms key (Sending stream poster parts last item) by_role has know = λ is. absurd (omega (arith, know.took, ap (λ (k : ℕ). times stream (seat_of core k).taken) is, ap (times stream) (by_role.worker (λ e. absurd (cc e))).0))
taker_apart core armed engine seat arms key Holding by_role has know = absurd (omega (arith, has))

pub none_more : (b : Bool) (n : ℕ) → cond {A = ℕ} b (n + 0) 0 ≡ cond {A = ℕ} b n 0
none_more true n = omega arith
none_more false n = refl

-- ---- the step

module _ {H : Type 0} (reply_of : List ℕ → Request → Reply) (shape : Shape) (s : State (Option (Parcel H)) FabricView) (holds : FabricHolds reply_of shape s) (id : ℕ) (v : FabricView) (c : Ledger) (carried : List (ℕ × Option (Parcel H)))
    (homes_are : length s.homes ≡ segment_chunks * segments_of shape) (at : get_elem? s.views id ≡ some v) (carries : CarriesSlots (v, carried))
    (stream : ℕ) (main : HasLists v c (DrawnWork stream ∷ [])) (engine : role_in shape v.seat ≡ 0)
    (item place run_word : ℕ) (there : HasItem shape 0 item) (mine : Holds (held_at 0) item v) (got : got_at 0 v item place) (said : run_said 0 v item run_word) (said_part : part_said 0 v item v.seat)
    (fits : FitsQueue shape 0 (numbers_of run_word)) (parcels : List (Parcel H)) (long : length parcels ≡ chunks_for (numbers_of run_word).size) (values : HasValues (first_of (numbers_of run_word)) parcels carried)
    (request : IsRecordOf stream parcels) where
  abbrev pub core : Core
  core = holds.core

  abbrev pub core' : Core
  core' = after_step core (Arm v.seat 0 item stream)

  abbrev pub run : Run
  run = numbers_of run_word

  abbrev pub text : List ℕ
  text = joined parcels

  abbrev pub records' : ℕ → List ℕ
  records' k = cond (k == stream) text (holds.records k)

  -- the chunks of the slots that the seat still carries then
  abbrev pub left : List ℕ
  left = numbers (slots_left run carried)

  abbrev u : FabricView
  u = with_posted item place stream run_word text left c v

  role : role_of core v.seat ≡ 0
  role = ap (λ (sh : Shape). role_in sh v.seat) holds.shaped ∙ engine

  -- ---- the stream

  counts : StreamCounts core
  counts = holds.keeps.sound.streams

  has_draw : (key : ℕ) → draw_at key v ≡ is_number key stream + 0
  has_draw key = ap (weigh (draw_weight key)) main.has

  knows_drawn : KnowsDrawn (seat_of core v.seat) stream
  knows_drawn = (subst (λ (ws : List Work). Each (λ (w : Work). 1 ≤ draw_weight stream w → KnowsWork core holds.armed v.seat v.arms w) ws) main.has
      (holds.views.works.draws.each stream id v at (omega (arith, has_draw stream, is_number_same stream)))).0 (omega (arith, is_number_same stream))

  some_stream : stream ≢ 0
  some_stream = drawn_some core v.seat stream counts knows_drawn.drew

  seat_in : v.seat < length core.seats
  seat_in = omega (arith, counts.seats, role_is_there core v.seat (omega (arith, role)))

  never_posted : by_all posted core stream ≡ 0
  never_posted = omega (arith, all_less_at posted drawn core stream v.seat seat_in (λ k. counts.posted_by_drawer k stream), drawn_at_most_once core counts stream, knows_drawn.drew, knows_drawn.unposted)

  unposted_by : (k : ℕ) → by_seat posted core k stream ≡ 0
  unposted_by k = omega (arith, never_posted, seat_in_all posted core k stream refl)

  -- no item carries it
  no_tag : (q i : ℕ) → (item_of core q i).tag ≢ 0 → (item_of core q i).tag ≢ stream
  no_tag zero i some_tag is = absurd (omega (arith, counts.part_is_poster i some_tag, ap (by_seat posted core (item_of core 0 i).part) is, unposted_by (item_of core 0 i).part))
  no_tag (suc e) i some_tag is =
      let queue : suc e ≡ 1 + e = omega arith in
      let some_back : (item_of core (1 + e) i).tag ≢ 0 = subst (λ (q : ℕ). (item_of core q i).tag ≢ 0) queue some_tag in
      let is_back : (item_of core (1 + e) i).tag ≡ stream = subst (λ (q : ℕ). (item_of core q i).tag ≡ stream) queue is in
      absurd (omega (arith, holds.keeps.sound.parts.to_poster e i some_back, ap (by_seat posted core e) is_back, unposted_by e))

  -- ---- the machine

  fills : Fills core v.seat 0
  fills = record { role = omega (arith, role); side = ap (λ (r : ℕ). r == 0) role }

  may : MayArm core v.seat 0 item stream v.seat
  may = Posts (record {
    line = refl;
    drawn = has_of_times stream (seat_of core v.seat).drawn knows_drawn.drew;
    unposted = has_not_of_times stream (seat_of core v.seat).posted knows_drawn.unposted;
    own = refl;
  })

  abbrev new_ledgers : List Ledger
  new_ledgers = main_note (Posted stream) 0 c ∷ []

  abbrev new_works : List Work
  new_works = PostedWork stream item ∷ []

  abbrev new_records : List Posting
  new_records = (record { stream = stream; bytes = text }) ∷ v.records

  adds : Adds core core' v.seat (Posted stream)
  adds = adds_after_arm core v.seat 0 item stream (Posted stream) seat_in refl

  shape_now : core'.shape ≡ core.shape
  shape_now = shape_same reply_of shape s holds id v carried homes_are at carries 0 item place stream run_word v.seat there mine got said said_part fits parcels long values fills may new_ledgers new_works new_records

  notes_one : NotesOne core core' v.seat (Posted stream)
  notes_one = record { shape = shape_now; inside = adds.inside; seats = adds.seats }

  -- ---- records

  record_is : records' stream ≡ text
  record_is = ap (λ (b : Bool). cond b text (holds.records stream)) (eq-eqb stream stream refl)

  record_else : (k : ℕ) → k ≢ stream → records' k ≡ holds.records k
  record_else k ne = ap (λ (b : Bool). cond b text (holds.records k)) (ne_eqb k stream ne)

  request_now : Carries reply_of records' 0 stream v.seat parcels
  request_now = OfRequest refl (record { asks = request.asks; posted = sym record_is; asked = request.asked; has = request.has; under = request.under; whole = record_is ∙ request.whole })

  same_records : (q i : ℕ) → (q ≢ 0) ⊎ (i ≢ item) → (item_of core q i).tag ≢ 0 → records' (item_of core q i).tag ≡ holds.records (item_of core q i).tag
  same_records q i apart some_tag = record_else (item_of core q i).tag (no_tag q i some_tag)

  -- ---- what the seat's lists say

  grow : Grows posted core core' v.seat stream
  grow = grows posted core core' v.seat (Posted stream) stream adds (λ l. refl)

  mine_now : seat_of core' v.seat ≡ noted (Posted stream) (seat_of core v.seat)
  mine_now = noted_here core core' v.seat (Posted stream) notes_one

  posts_one : posts_of stream item u.arms ≡ 1 + posts_of stream item v.arms
  posts_one = ap (λ (b : Bool). one_if b + posts_of stream item v.arms) (and_from (stream == stream) (item == item) (eq-eqb stream stream refl) (eq-eqb item item refl))

  knows : KnowsPosted (seat_of core' v.seat) u.arms stream item
  knows = subst (λ (l : SeatLists). KnowsPosted l u.arms stream item) (sym mine_now)
      (record {
        was_posted = omega (arith, weigh_push (is_number stream) (seat_of core v.seat).posted stream, is_number_same stream);
        uncancelled = omega (arith, counts.cancelled_by_poster v.seat stream, knows_drawn.unposted);
        unabandoned = omega (arith, counts.abandoned_by_poster v.seat stream, knows_drawn.unposted);
        arm = omega (arith, posts_one);
      })

  -- ---- works

  by_role : SeatByRole 0 (seat_of core v.seat)
  by_role = subst (λ (r : ℕ). SeatByRole r (seat_of core v.seat)) role (holds.keeps.seats v.seat)

  take_none : (key : ℕ) → take_at key v ≡ 0
  take_none key = ap (weigh (take_weight key)) main.has

  works' : WorksShown core' holds.armed (set s.views id u)
  works' =
      let old = holds.views.works in
      record {
        draws = keyed_step FabricView draw_at (ShowsWorks draw_weight core holds.armed) (ShowsWorks draw_weight core' holds.armed) s.views id v u at
            (λ key. omega (arith, old.draws.once key, has_draw key))
            (λ key has. ((λ is. knows), tt))
            (λ key none y has shown.
            let other : key ≢ stream = λ is. absurd (omega (arith, none, has_draw key, ap (λ (k : ℕ). is_number k stream) is, is_number_same stream)) in
            each_gives (λ (w : Work). 1 ≤ draw_weight key w → KnowsWork core holds.armed y.seat y.arms w) (λ (w : Work). 1 ≤ draw_weight key w → KnowsWork core' holds.armed y.seat y.arms w) y.works
            (λ w was is. work_noted core core' v.seat (Posted stream) notes_one holds.armed holds.armed y.seat y.arms w (inl (λ same. other (sym (drawn_stream key w is) ∙ same))) refl (was is))
            shown)
            old.draws;
        takes = keyed_step FabricView take_at (ShowsWorks take_weight core holds.armed) (ShowsWorks take_weight core' holds.armed) s.views id v u at
            (λ key. omega (arith, old.takes.once key, take_none key))
            (λ key has. absurd (omega (arith, has)))
            (λ key none y has shown.
            each_gives (λ (w : Work). 1 ≤ take_weight key w → KnowsWork core holds.armed y.seat y.arms w) (λ (w : Work). 1 ≤ take_weight key w → KnowsWork core' holds.armed y.seat y.arms w) y.works
            (λ w was is. work_noted core core' v.seat (Posted stream) notes_one holds.armed holds.armed y.seat y.arms w (inr (taker_apart core holds.armed v.seat y.seat y.arms key w by_role is (was is))) refl (was is))
            shown)
            old.takes;
      }

  -- ---- views

  postings : (ps : List Posting) → Each (IsPosting core holds.records) ps → Each (IsPosting core' records') ps
  postings ps old = each_gives (IsPosting core holds.records) (IsPosting core' records') ps
      (λ p is.
      let other : p.stream ≢ stream = λ same. absurd (omega (arith, is.was, ap (by_all posted core) same, never_posted)) in
      record { same = record_else p.stream other ∙ is.same; was = omega (arith, is.was, grow.all p.stream) })
      old

  -- a stream that awaits its reply now awaited it, or is this one
  in_work' : PostsInWork core' (set s.views id u)
  in_work' poster key awaits =
      let as_many : weigh (draw_at key) (set s.views id u) ≡ weigh (draw_at key) s.views = sum_stays (draw_at key) s.views id v u at (sym (has_draw key)) in
      elim (cases_eq key stream) [
        | inl is ↦ omega (arith, as_many, sum_at (draw_at key) s.views id v at, has_draw key, ap (λ (k : ℕ). is_number k stream) is, is_number_same stream)
        | inr ne ↦
            let said = said_as core core' v.seat (Posted stream) notes_one holds.armed holds.armed poster key (inl ne) in
            let before : AwaitsReply (seat_of core poster) key = record {
              was_posted = omega (arith, awaits.was_posted, said.posted_as);
              uncancelled = sym said.cancelled_as ∙ awaits.uncancelled;
              unabandoned = sym said.abandoned_as ∙ awaits.unabandoned;
              unreceived = sym said.received_as ∙ awaits.unreceived;
            } in
            omega (arith, as_many, holds.views.in_work poster key before)
      ]

  counts_same : (k : ℕ) → opens_at k u + works_at k v ≡ opens_at k v + works_at k u
  counts_same k =
      let opens_v : opens_at k v ≡ cond {A = ℕ} (c.seat == k) c.opened_works 0 + 0 = ap (weigh (λ (d : Ledger). cond (d.seat == k) d.opened_works 0)) main.main.only in
      let works_v : works_at k v ≡ cond {A = ℕ} (v.seat == k) 1 0 = ap (λ (ws : List Work). cond {A = ℕ} (v.seat == k) (length ws) 0) main.has in
      omega (arith, opens_v, works_v, none_more (c.seat == k) c.opened_works)

  says : OfLists holds.popped holds.armed records' core' v u (set s.views id u)
  says =
      let old = holds.views in
      record {
        posts = λ key. omega (arith, old.posts key, grow.all key, sum_set (posts_at key) s.views id v u at);
        records_known = of_each (RecordsKnown core holds.records) (RecordsKnown core' records') s.views id u
            (record { same = record_is; was = omega (arith, grow.all stream, is_number_same stream) }, postings v.records (old.records_known id v at)) (λ y. postings y.records) old.records_known;
        records_there = records_there core core' s.views id v u at (λ k. omega (arith, grow.all k)) (λ k. omega arith) old.records_there;
        lists = lists_noted core core' (Posted stream) holds.popped holds.popped s.views id v u c (main_note (Posted stream) 0 c) at notes_one main.main.only main.main.number refl refl refl refl
            (λ is_engine. own_popped core holds.popped s.views id v c at main.main role old.lists) (λ k ne. refl) old.lists;
        numbers = λ k. sym (ap (weigh (λ (d : Ledger). is_number k d.seat)) main.main.only);
        works = works';
        counted = counts_same;
        busy = λ spent. absurd (cc spent);
        in_work = in_work';
        order = others_in_order holds.popped holds.armed core (Arm v.seat 0 item stream) holds.keeps.sound holds.keeps.order refl (link reply_of shape s holds id v carried homes_are at carries 0 item place stream run_word v.seat there mine got said said_part fits parcels long values fills may new_ledgers new_works new_records).enabled;
      }

  pub goes : RequestGoes reply_of shape s holds id v c carried item place stream run_word text
  goes =
      let gone = go reply_of shape s holds id v carried homes_are at carries 0 item place stream run_word v.seat there mine got said said_part fits parcels long values fills may new_ledgers new_works new_records records' same_records request_now in
      record { valid = gone.valid; given = gone.given; carries = carries_now reply_of shape s holds id v carried homes_are at carries 0 item place stream run_word v.seat there mine got said said_part fits parcels long values fills may new_ledgers new_works new_records; step = arms_it reply_of shape s holds id v carried homes_are at carries 0 item place stream run_word v.seat there mine got said said_part fits parcels long values fills may new_ledgers new_works new_records holds.armed records' same_records request_now says; recorded = recorded reply_of shape s holds id v carried homes_are at carries 0 item place stream run_word v.seat there mine got said said_part fits parcels long values fills may new_ledgers new_works new_records holds.armed records' same_records request_now says stream ∙ record_is }

pub arm_line : (H : Type 0) → ArmLineLaw H
arm_line H reply_of shape s holds id v c carried homes_are at carries stream main engine item place run_word there mine got said said_part fits parcels long values request =
    goes reply_of shape s holds id v c carried homes_are at carries stream main engine item place run_word there mine got said said_part fits parcels long values request
