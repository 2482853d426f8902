-- A worker sends a part of a reply.
use Rattle.std.proofs.Common.{ℕ, ◌<◌, ◌+◌, ◌-◌, ◌*◌, ◌%◌, ◌≡◌, ◌≢◌, ◌≤◌, ◌==◌, ◌&&◌, ◌||◌, inl, inr, Bool, true, false, cond, if◌then◌else◌, List, [], ◌∷◌, ◌++◌, length, set, refl, sym, ap, ◌∙◌, subst, arith}
use Rattle.std.specs.Prelude.{Option}
use Rattle.std.proofs.lemmas.Bool.{eq-eqb, ne_eqb}
use Rattle.std.proofs.lemmas.List.Folds.{list_any-append}
use mathlib.Core.Option.{some}
use lib.ListN.{get_elem?}
use Rattle.atomic_table.specs.Table.{State}
use Rattle.carried_slots.specs.Carried.{numbers}
use Rattle.port_message.specs.Words.{numbers_of, part_word_of}
use Rattle.request_context.specs.declared.piece.Parcel.{Parcel}
use Rattle.unit_model.specs.ByRole.{SeatByRole}
use Rattle.unit_model.specs.Conditions.{has_stream, holds_tagged}
use Rattle.unit_model.specs.Core.{is_last_in, item_of, number_in, role_of, seat_of}
use Rattle.unit_model.specs.Effects.{after_step, armed_note, noted}
use Rattle.unit_model.specs.Holding.{FitsQueue}
use Rattle.unit_model.specs.Limits.{segment_chunks}
use Rattle.unit_model.specs.PartCounts.{of_stream}
use Rattle.unit_model.specs.PartOrder.{Each, Puts}
use Rattle.unit_model.specs.Premises.{Fills, MayArm, MaySend, Sends}
use Rattle.unit_model.specs.Shapes.{role_in}
use Rattle.unit_model.specs.Sharing.{Holds}
use Rattle.unit_model.specs.StreamCounts.{posted}
use Rattle.unit_model.specs.Weights.{weigh, is_number, one_if}
use Rattle.unit_model.specs.declared.machine.Core.{Core}
use Rattle.unit_model.specs.declared.machine.Note.{Note}
use Rattle.unit_model.specs.declared.machine.Note.TheVariants.{Posted, Sent}
use Rattle.unit_model.specs.declared.machine.Part.{Part}
use Rattle.unit_model.specs.declared.machine.Seat.{Seat as SeatLists}
use Rattle.unit_model.specs.declared.machine.Step.TheVariants.{Arm}
use Rattle.unit_model.specs.declared.shape.Shape.{Shape}
use Rattle.unit_model.proofs.ListPremises.{own_send}
use Rattle.unit_model.proofs.MetSteps.{role_is_there}
use Rattle.unit_model.proofs.PartOrderBack.{arm_in_order}
use Rattle.unit_model.proofs.SeatNotes.{Adds, Stays, stays}
use Rattle.unit_model.proofs.StepFacts.{adds_after_arm}
use Rattle.unit_model.proofs.StreamSteps.{drawn_some}
use Rattle.unit_model.proofs.Weights.{is_number_same, weigh_push}
use Rattle.unit_types.specs.declared.message.Reply.{Reply}
use Rattle.unit_types.specs.declared.message.Request.{Request}
use Rattle.fabric_words.specs.Places.{HasItem, segments_of}
use Rattle.fabric_rule.specs.Contents.{Carries, CarriesSlots, OfReply}
use Rattle.fabric_rule.specs.FrameLaws.{NotesOne}
use Rattle.fabric_rule.specs.Parts.{KnowsSending, KnowsTaken, KnowsWork, RecordsKnown, ShowsWorks, WorksShown, has_last}
use Rattle.fabric_rule.specs.Rule.{FabricHolds}
use Rattle.fabric_rule.specs.Sending.{CarriesPart, PartGoes, SendLaw, queue_to, sent_part, with_sent, word_of_part, work_armed, work_before}
use Rattle.fabric_rule.specs.Steps.{HasLists, slots_left, with_note as main_note}
use Rattle.fabric_rule.specs.Views.{draw_at, draw_weight, got_at, held_at, opens_at, part_said, posts_at, run_said, take_at, take_weight, works_at}
use Rattle.fabric_rule.specs.declared.sending.PartOut.{PartOut}
use Rattle.fabric_rule.specs.declared.view.Ledger.{Ledger}
use Rattle.fabric_rule.specs.declared.view.FabricView.{FabricView}
use Rattle.fabric_rule.specs.declared.view.Work.{Work}
use Rattle.app_queue.specs.Arms.{Arm as ArmedNote}
use Rattle.fabric_rule.proofs.ArmParts.{OfLists, arms_else, arms_it, carries_now, go, hand, part_is, shape_same, untagged_now}
use Rattle.fabric_rule.proofs.ArmSteps.{has_not_of_times, has_of_times, none_more}
use Rattle.fabric_rule.proofs.Frames.{of_each}
use Rattle.fabric_rule.proofs.KeyedSteps.{keyed_step}
use Rattle.fabric_rule.proofs.Noting.{awaited, lists_noted, noted_here, posted_kept, work_noted, work_stream}
use Rattle.fabric_rule.proofs.ListFrames.{records_stay, records_there}
use Rattle.fabric_rule.proofs.Rearming.{armed_now, drawn_rearmed, puts_now}
use Rattle.fabric_rule.proofs.Sums.{each_gives, sum_stays}
use Rattle.fabric_rule.proofs.TakeSteps.{drawer_apart, taken_stream}
use Rattle.fabric_rule.proofs.UnderWay.{alone}

-- ---- a part word

number_is : (number : ℕ) (last : Bool) → number_in (part_word_of number last) ≡ number
number_is number true = omega arith
number_is number false = omega arith

last_is : (number : ℕ) (last : Bool) → is_last_in (part_word_of number last) ≡ last
last_is number true = eq-eqb ((2 * number + 1) % 2) 1 (omega arith)
last_is number false = ne_eqb ((2 * number + 0) % 2) 1 (omega arith)

-- ---- one part more

or_end : (b : Bool) → (b || false) ≡ b
or_end true = refl
or_end false = refl

-- where none was the last, the new one is by its mark
last_now : (part : PartOut) (parts : List Part) → has_last part.stream parts ≡ false → has_last part.stream (parts ++ sent_part part ∷ []) ≡ part.last
last_now part parts none =
    let test : Part → Bool = λ (p : Part). p.stream == part.stream && p.last in
    list_any-append test parts (sent_part part ∷ [])
    ∙ ap (λ (b : Bool). b || (test (sent_part part) || false)) none
    ∙ or_end (test (sent_part part))
    ∙ ap (λ (b : Bool). b && part.last) (eq-eqb part.stream part.stream refl)

-- ---- the step

module _ {H : Type 0} (reply_of : List ℕ → Request → Reply) (shape : Shape) (s : State (Option (Parcel H)) FabricView) (holds : FabricHolds reply_of shape s) (id : ℕ) (v : FabricView) (c : Ledger) (carried : List (ℕ × Option (Parcel H)))
    (homes_are : length s.homes ≡ segment_chunks * segments_of shape) (at : get_elem? s.views id ≡ some v) (carries : CarriesSlots (v, carried))
    (part : PartOut) (main : HasLists v c (work_before part ∷ [])) (worker : role_in shape v.seat ≡ 1)
    (item place run_word : ℕ) (there : HasItem shape (queue_to part) item) (mine : Holds (held_at (queue_to part)) item v) (got : got_at (queue_to part) v item place) (said : run_said (queue_to part) v item run_word) (said_part : part_said (queue_to part) v item (word_of_part part))
    (fits : FitsQueue shape (queue_to part) (numbers_of run_word)) (message : CarriesPart reply_of part (numbers_of run_word) carried) where
  abbrev queue : ℕ
  queue = queue_to part

  abbrev stream : ℕ
  stream = part.stream

  abbrev core : Core
  core = holds.core

  abbrev core' : Core
  core' = after_step core (Arm v.seat queue item stream)

  abbrev note : Note
  note = Sent (sent_part part)

  abbrev u : FabricView
  u = with_sent part item place run_word (numbers (slots_left (numbers_of run_word) carried)) c v

  abbrev armed' : ℕ → List ℕ
  armed' = armed_now holds.armed stream (item ∷ [])

  role : role_of core v.seat ≡ 1
  role = ap (λ (sh : Shape). role_in sh v.seat) holds.shaped ∙ worker

  back : queue ≢ 0
  back is = absurd (omega (arith, is))

  fills : Fills core v.seat queue
  fills = record { role = omega (arith, role); side = ne_eqb (role_of core v.seat) 0 (λ is. absurd (omega (arith, is, role))) ∙ sym (ne_eqb queue 0 back) }

  -- ---- the stream

  has_take : (key : ℕ) → take_at key v ≡ is_number key stream + 0
  has_take key = ap (weigh (take_weight key)) main.has

  none_draws : (key : ℕ) → draw_at key v ≡ 0
  none_draws key = ap (weigh (draw_weight key)) main.has

  knows : KnowsTaken (seat_of core v.seat) (seat_of core part.poster) holds.armed stream part.number
  knows = (subst (λ (ws : List Work). Each (λ (w : Work). 1 ≤ take_weight stream w → KnowsWork core holds.armed v.seat v.arms w) ws) main.has
      (holds.views.works.takes.each stream id v at (omega (arith, has_take stream, is_number_same stream)))).0 (omega (arith, is_number_same stream))

  some_stream : stream ≢ 0
  some_stream = drawn_some core part.poster stream holds.keeps.sound.streams (omega (arith, knows.to, holds.keeps.sound.streams.posted_by_drawer part.poster stream))

  none_tagged : holds_tagged core v.seat queue stream ≡ false
  none_tagged = alone holds.popped holds.armed core holds.keeps.sound holds.keeps.order v.seat part.poster stream role some_stream knows.nothing

  may_send : MaySend core v.seat queue item stream (word_of_part part)
  may_send =
      let poster : part.poster ≡ queue - 1 = omega arith in
      own_send core holds.keeps.sound v.seat queue item stream (word_of_part part) back
      (has_of_times stream (seat_of core v.seat).taken knows.took)
      (subst (λ (e : ℕ). has_stream stream (seat_of core e).posted ≡ true) poster (has_of_times stream (seat_of core part.poster).posted knows.to))
      knows.unfinished
      (has_not_of_times stream (seat_of core v.seat).closed knows.unclosed)
      (number_is part.number part.last ∙ sym knows.parts_out)
      none_tagged

  may : MayArm core v.seat queue item stream (word_of_part part)
  may = Sends may_send

  puts : Puts holds.armed armed' stream [] (item ∷ [])
  puts = puts_now holds.armed stream [] (item ∷ []) knows.nothing

  -- ---- lists

  abbrev new_ledgers : List Ledger
  new_ledgers = main_note note 0 c ∷ []

  abbrev new_works : List Work
  new_works = work_armed part item ∷ []

  seat_in : v.seat < length core.seats
  seat_in = omega (arith, holds.keeps.sound.streams.seats, role_is_there core v.seat (omega (arith, role)))

  note_is : armed_note queue stream (item_of core queue item) ≡ note
  note_is =
      let word_is : (item_of core queue item).part ≡ word_of_part part = part_is reply_of shape s holds id v carried homes_are at carries queue item place stream run_word (word_of_part part) there mine got said said_part fits message.parcels message.long message.values fills may new_ledgers new_works v.records in
      ap (λ (b : Bool). if b then Posted stream else Sent (record { stream = stream; number = number_in (item_of core queue item).part; last = is_last_in (item_of core queue item).part })) (ne_eqb queue 0 back)
      ∙ ap (λ (n : ℕ). Sent (record { stream = stream; number = number_in n; last = is_last_in n })) word_is
      ∙ ap (λ (n : ℕ). Sent (record { stream = stream; number = n; last = is_last_in (word_of_part part) })) (number_is part.number part.last)
      ∙ ap (λ (b : Bool). Sent (record { stream = stream; number = part.number; last = b })) (last_is part.number part.last)

  adds : Adds core core' v.seat note
  adds = adds_after_arm core v.seat queue item stream note seat_in note_is

  shape_now : core'.shape ≡ core.shape
  shape_now = shape_same reply_of shape s holds id v carried homes_are at carries queue item place stream run_word (word_of_part part) there mine got said said_part fits message.parcels message.long message.values fills may new_ledgers new_works v.records

  notes_one : NotesOne core core' v.seat note
  notes_one = record { shape = shape_now; inside = adds.inside; seats = adds.seats }

  same_posted : Stays posted core core'
  same_posted = stays posted core core' v.seat note adds (λ l. refl)

  mine_now : seat_of core' v.seat ≡ noted note (seat_of core v.seat)
  mine_now = noted_here core core' v.seat note notes_one

  sent_one : of_stream stream (sent_part part) ≡ 1
  sent_one = ap one_if (eq-eqb stream stream refl)

  knows_now : KnowsSending (seat_of core' v.seat) (seat_of core' part.poster) armed' stream (part.number + 1) part.last item
  knows_now = subst (λ (l : SeatLists). KnowsSending l (seat_of core' part.poster) armed' stream (part.number + 1) part.last item) (sym mine_now)
      (record {
        took = knows.took;
        unclosed = knows.unclosed;
        to = omega (arith, knows.to, posted_kept core core' v.seat note notes_one holds.armed armed' part.poster stream);
        parts_out = omega (arith, weigh_push (of_stream stream) (seat_of core v.seat).sent (sent_part part), knows.parts_out, sent_one);
        finished = last_now part (seat_of core v.seat).sent knows.unfinished;
        one = puts.after;
      })

  by_role : SeatByRole 1 (seat_of core v.seat)
  by_role = subst (λ (r : ℕ). SeatByRole r (seat_of core v.seat)) role (holds.keeps.seats v.seat)

  works' : WorksShown core' armed' (set s.views id u)
  works' =
      let old = holds.views.works in
      record {
        draws = keyed_step FabricView draw_at (ShowsWorks draw_weight core holds.armed) (ShowsWorks draw_weight core' armed') s.views id v u at
            (λ key. omega (arith, old.draws.once key))
            (λ key has. absurd (omega (arith, has)))
            (λ key none y has shown.
            each_gives (λ (w : Work). 1 ≤ draw_weight key w → KnowsWork core holds.armed y.seat y.arms w) (λ (w : Work). 1 ≤ draw_weight key w → KnowsWork core' armed' y.seat y.arms w) y.works
            (λ w was is. work_noted core core' v.seat note notes_one armed' armed' y.seat y.arms w (inr (drawer_apart core holds.armed v.seat y.seat y.arms key w by_role is (was is))) refl (drawn_rearmed core holds.armed armed' y.seat y.arms key w is (was is)))
            shown)
            old.draws;
        takes = keyed_step FabricView take_at (ShowsWorks take_weight core holds.armed) (ShowsWorks take_weight core' armed') s.views id v u at
            (λ key. omega (arith, old.takes.once key, has_take key))
            (λ key has. ((λ is. knows_now), tt))
            (λ key none y has shown.
            let other : key ≢ stream = λ is. absurd (omega (arith, none, has_take key, ap (λ (k : ℕ). is_number k stream) is, is_number_same stream)) in
            each_gives (λ (w : Work). 1 ≤ take_weight key w → KnowsWork core holds.armed y.seat y.arms w) (λ (w : Work). 1 ≤ take_weight key w → KnowsWork core' armed' y.seat y.arms w) y.works
            (λ w was is.
            let away : work_stream w ≢ stream = λ same. other (sym (taken_stream key w is) ∙ same) in
            work_noted core core' v.seat note notes_one holds.armed armed' y.seat y.arms w (inl away) (puts.others (work_stream w) away) (was is))
            shown)
            old.takes;
      }

  -- ---- what else views say

  counts_same : (k : ℕ) → opens_at k u + works_at k v ≡ opens_at k v + works_at k u
  counts_same k =
      let opens_v : opens_at k v ≡ cond {A = ℕ} (c.seat == k) c.opened_works 0 + 0 = ap (weigh (λ (d : Ledger). cond (d.seat == k) d.opened_works 0)) main.main.only in
      let works_v : works_at k v ≡ cond {A = ℕ} (v.seat == k) 1 0 = ap (λ (l : List Work). cond {A = ℕ} (v.seat == k) (length l) 0) main.has in
      omega (arith, opens_v, works_v, none_more (c.seat == k) c.opened_works)

  no_post : (key : ℕ) → posts_at key u ≡ posts_at key v
  no_post key = ap (weigh (λ (a : ArmedNote). is_number key a.stream)) (arms_else reply_of shape s holds id v carried homes_are at carries queue item place stream run_word (word_of_part part) there mine got said said_part fits message.parcels message.long message.values fills may new_ledgers new_works v.records 0 (λ is. back (sym is)))

  says : OfLists holds.popped armed' holds.records core' v u (set s.views id u)
  says =
      let old = holds.views in
      record {
        posts = λ key. sum_stays (posts_at key) s.views id v u at (no_post key) ∙ old.posts key ∙ sym (same_posted.all key);
        records_known = of_each (RecordsKnown core holds.records) (RecordsKnown core' holds.records) s.views id u (records_stay core core' holds.records v u same_posted.all refl (old.records_known id v at)) (λ y. records_stay core core' holds.records y y same_posted.all refl) old.records_known;
        records_there = records_there core core' s.views id v u at (λ k. omega (arith, same_posted.all k)) (λ k. omega arith) old.records_there;
        lists = lists_noted core core' note holds.popped holds.popped s.views id v u c (main_note note 0 c) at notes_one main.main.only main.main.number refl refl refl refl
            (λ engine. absurd (omega (arith, engine, role))) (λ k ne. refl) old.lists;
        numbers = λ k. sym (ap (weigh (λ (d : Ledger). is_number k d.seat)) main.main.only);
        works = works';
        counted = counts_same;
        busy = λ spent. absurd (cc spent);
        in_work = λ engine key awaits. omega (arith, old.in_work engine key (awaited core core' v.seat note notes_one (λ l. (refl, refl, refl, refl)) engine key awaits), sum_stays (draw_at key) s.views id v u at (sym (none_draws key)));
        order = arm_in_order holds.popped holds.armed armed' core holds.keeps.sound holds.keeps.order v.seat part.poster item stream fills
            (hand reply_of shape s holds id v carried homes_are at carries queue item place stream run_word (word_of_part part) there mine got said said_part fits message.parcels message.long message.values fills may new_ledgers new_works v.records) (untagged_now reply_of shape s holds id v carried homes_are at carries queue item place stream run_word (word_of_part part) there mine got said said_part fits message.parcels message.long message.values fills may new_ledgers new_works v.records) (subst (MaySend core v.seat queue item stream) (sym (part_is reply_of shape s holds id v carried homes_are at carries queue item place stream run_word (word_of_part part) there mine got said said_part fits message.parcels message.long message.values fills may new_ledgers new_works v.records)) may_send) puts;
      }

  reply : Carries reply_of holds.records queue stream (word_of_part part) message.parcels
  reply = OfReply back message.reply

  pub goes : PartGoes reply_of shape s holds id v c carried part item place run_word
  goes =
      let gone = go reply_of shape s holds id v carried homes_are at carries queue item place stream run_word (word_of_part part) there mine got said said_part fits message.parcels message.long message.values fills may new_ledgers new_works v.records holds.records (λ q i apart tagged. refl) reply in
      record {
        valid = gone.valid;
        given = gone.given;
        carries = carries_now reply_of shape s holds id v carried homes_are at carries queue item place stream run_word (word_of_part part) there mine got said said_part fits message.parcels message.long message.values fills may new_ledgers new_works v.records;
        made = arms_it reply_of shape s holds id v carried homes_are at carries queue item place stream run_word (word_of_part part) there mine got said said_part fits message.parcels message.long message.values fills may new_ledgers new_works v.records armed' holds.records (λ q i apart tagged. refl) reply says;
      }

pub send : (H : Type 0) → SendLaw H
send H reply_of shape s holds id v c carried homes_are at carries part main worker item place run_word there mine got said said_part fits message =
    goes reply_of shape s holds id v c carried homes_are at carries part main worker item place run_word there mine got said said_part fits message
