-- An enabled step keeps what holds of the counts of streams.
use Rattle.std.proofs.Common.{◌≡◌, ◌≢◌, ℕ, ◌≤◌, ◌^◌, ◌==◌, ◌&&◌, ◌||◌, not, nat_lt, Bool, true, false, if◌then◌else◌, List, [], ◌∷◌, refl, arith, inl, inr}
use Rattle.std.specs.Prelude.{None}
use Rattle.std.specs.List.{list_any}
use Rattle.std.proofs.lemmas.Bool.{and_parts, eqb-true, eq-eqb, cases_eq, cases_Bool}
use Rattle.unit_model.specs.Conditions.{first_unmet, conditions_by, conditions_of, has_stream, is_next_stream, may_arm, may_post, may_settle, may_win_request, may_win_part, may_abandon, is_taken, part_of}
use Rattle.unit_model.specs.Core.{item_of, role_of, seat_of}
use Rattle.unit_model.specs.Effects.{after_step, with_note, with_item, with_owner, with_run_owner, with_opened, with_in_line, with_free, without_first_free, without_first_in_line}
use Rattle.unit_model.specs.Running.{Enabled}
use Rattle.unit_model.specs.StreamCounts.{StreamCounts, taken, by_seat, posted, drawn, cancelled, abandoned}
use Rattle.unit_model.specs.Weights.{is_number, over_all}
use Rattle.unit_model.specs.declared.machine.Core.{Core}
use Rattle.unit_model.specs.declared.machine.Item.{Item}
use Rattle.unit_model.specs.declared.machine.Note.{Note}
use Rattle.unit_model.specs.declared.machine.Note.TheVariants.{Posted, Cancelled, Abandoned, Taken, Sent, Received, Closed}
use Rattle.unit_model.specs.declared.machine.Part.{Part}
use Rattle.unit_model.specs.declared.machine.Seat.{Seat as SeatLists}
use Rattle.unit_model.specs.declared.machine.Step.{Step}
use Rattle.unit_model.specs.declared.machine.Step.TheVariants.{Draw, Claim, Release, Open, GetItem, SetRun, SetPart, Arm, Push, Pop, Settle, GiveItem, Abandon}
use Rattle.unit_model.specs.declared.runs.Run.{Run}
use Rattle.unit_model.proofs.ItemChanges.{SetsItem}
use Rattle.unit_model.proofs.MetConditions.{each_met, test_of}
use Rattle.unit_model.proofs.SeatNotes.{Adds, has_counts, has_not_counts, stays}
use Rattle.unit_model.proofs.StepFacts as facts
use Rattle.unit_model.proofs.StreamFrames.{SameStreams, frame_with_note, frame_with_seats, streams_with_seats, line_with_queues, line_beside, line_quiet, streams_kept}
use Rattle.unit_model.proofs.StreamSteps.{draws, posts, cancels, takes, abandons}

after_draw : (core : Core) (seat stream : ℕ) → StreamCounts core → first_unmet core (Draw seat stream) ≡ None → StreamCounts (after_step core (Draw seat stream))
unfolding conditions_by is_next_stream after_step with_note
after_draw core seat stream old met =
    let conditions = conditions_of core (Draw seat stream) in
    let inside = facts.engine_there core seat old (each_met conditions met 0) in
    let next = test_of (stream == core.next && nat_lt stream (2 ^ 62)) _ _ _ (each_met conditions met 1) in
    let new = after_step core (Draw seat stream) in
    draws core new seat stream (facts.adds_after_draw core seat stream inside) refl refl (eqb-true stream core.next (and_parts (stream == core.next) (nat_lt stream (2 ^ 62)) next).0) (line_with_queues core new refl) old

-- ---- steps that leave the streams

-- an item has changed, but not its tag, nor its part where it has a tag
item_changed : (core new : Core) (queue item : ℕ) (now : Item) → new.shape ≡ core.shape → new.next ≡ core.next → new.seats ≡ core.seats → SetsItem core new queue item now → now.tag ≡ (item_of core queue item).tag → (now.tag ≢ 0 → now.part ≡ (item_of core queue item).part) → StreamCounts core → StreamCounts new
item_changed core new queue item now shape next seats sets tag part old =
    streams_kept core new (frame_with_seats core new shape next seats) (streams_with_seats core new seats) (line_quiet core new queue item now sets tag part) old

after_claim : (core : Core) (seat segment chunk : ℕ) → StreamCounts core → StreamCounts (after_step core (Claim seat segment chunk))
unfolding after_step with_owner
after_claim core seat segment chunk old =
    let new = after_step core (Claim seat segment chunk) in
    streams_kept core new (frame_with_seats core new refl refl refl) (streams_with_seats core new refl) (line_with_queues core new refl) old

after_release : (core : Core) (seat segment chunk : ℕ) → StreamCounts core → StreamCounts (after_step core (Release seat segment chunk))
unfolding after_step with_owner
after_release core seat segment chunk old =
    let new = after_step core (Release seat segment chunk) in
    streams_kept core new (frame_with_seats core new refl refl refl) (streams_with_seats core new refl) (line_with_queues core new refl) old

after_open : (core : Core) (seat count : ℕ) → StreamCounts core → StreamCounts (after_step core (Open seat count))
unfolding after_step with_opened
after_open core seat count old =
    let new = after_step core (Open seat count) in
    streams_kept core new (frame_with_seats core new refl refl refl) (streams_with_seats core new refl) (line_with_queues core new refl) old

after_get : (core : Core) (seat queue item place : ℕ) → StreamCounts core → first_unmet core (GetItem seat queue item place) ≡ None → StreamCounts (after_step core (GetItem seat queue item place))
unfolding conditions_by after_step with_item without_first_free
after_get core seat queue item place old met =
    let inside = facts.fill_inside core seat queue item (each_met (conditions_of core (GetItem seat queue item place)) met 1) in
    item_changed core (after_step core (GetItem seat queue item place)) queue item _ refl refl refl (facts.sets_after_get core seat queue item place inside) refl (λ tagged. refl) old

after_pop : (core : Core) (seat queue item place : ℕ) → StreamCounts core → first_unmet core (Pop seat queue item place) ≡ None → StreamCounts (after_step core (Pop seat queue item place))
unfolding conditions_by after_step with_item without_first_in_line
after_pop core seat queue item place old met =
    let inside = facts.empty_inside core seat queue item (each_met (conditions_of core (Pop seat queue item place)) met 1) in
    item_changed core (after_step core (Pop seat queue item place)) queue item _ refl refl refl (facts.sets_after_pop core seat queue item place inside) refl (λ tagged. refl) old

after_push : (core : Core) (seat queue item place : ℕ) → StreamCounts core → first_unmet core (Push seat queue item place) ≡ None → StreamCounts (after_step core (Push seat queue item place))
unfolding conditions_by after_step with_item with_in_line
after_push core seat queue item place old met =
    let inside = facts.fill_inside core seat queue item (each_met (conditions_of core (Push seat queue item place)) met 1) in
    item_changed core (after_step core (Push seat queue item place)) queue item _ refl refl refl (facts.sets_after_push core seat queue item place inside) refl (λ tagged. refl) old

after_give : (core : Core) (seat queue item place : ℕ) → StreamCounts core → first_unmet core (GiveItem seat queue item place) ≡ None → StreamCounts (after_step core (GiveItem seat queue item place))
unfolding conditions_by after_step with_item with_free
after_give core seat queue item place old met =
    let inside = facts.use_inside core queue item (each_met (conditions_of core (GiveItem seat queue item place)) met 1) in
    item_changed core (after_step core (GiveItem seat queue item place)) queue item _ refl refl refl (facts.sets_after_give core seat queue item place inside) refl (λ tagged. refl) old

after_set_run : (core : Core) (seat queue item : ℕ) (run : Run) → StreamCounts core → first_unmet core (SetRun seat queue item run) ≡ None → StreamCounts (after_step core (SetRun seat queue item run))
unfolding conditions_by after_step with_item
after_set_run core seat queue item run old met =
    let inside = facts.fill_inside core seat queue item (each_met (conditions_of core (SetRun seat queue item run)) met 1) in
    item_changed core (after_step core (SetRun seat queue item run)) queue item _ refl refl refl (facts.sets_after_run core seat queue item run inside) refl (λ tagged. refl) old

-- the item whose part is set has no tag
after_set_part : (core : Core) (seat queue item part : ℕ) → StreamCounts core → first_unmet core (SetPart seat queue item part) ≡ None → StreamCounts (after_step core (SetPart seat queue item part))
unfolding conditions_by after_step with_item
after_set_part core seat queue item part old met =
    let conditions = conditions_of core (SetPart seat queue item part) in
    let inside = facts.fill_inside core seat queue item (each_met conditions met 1) in
    let untagged = facts.tag_is core queue item 0 (each_met conditions met 3) in
    item_changed core (after_step core (SetPart seat queue item part)) queue item _ refl refl refl (facts.sets_after_part core seat queue item part inside) refl (λ tagged. absurd (tagged untagged)) old

-- ---- steps that change them

-- an item of a back queue is armed or settled: no list of streams but those of closed ones has changed
part_changed : (core new : Core) (seat queue item : ℕ) (now : Item) (note : Note) → new.shape ≡ core.shape → new.next ≡ core.next → Adds core new seat note → SameStreams core new → SetsItem core new queue item now → queue ≢ 0 → StreamCounts core → StreamCounts new
part_changed core new seat queue item now note shape next adds streams sets back old =
    streams_kept core new (frame_with_note core new seat note shape next adds) streams (line_beside core new queue item now sets back) old

pub not_true : (b : Bool) → not b ≡ true → b ≡ false
not_true true n = absurd (cc n)
not_true false n = refl

posting : (core : Core) (seat item stream : ℕ) → may_arm core seat 0 item stream ≡ None → (1 ≤ by_seat drawn core seat stream) × (by_seat posted core seat stream ≡ 0) × ((item_of core 0 item).part ≡ seat)
unfolding may_arm may_post
posting core seat item stream met =
    let lists = seat_of core seat in
    let new_stream = not (has_stream stream lists.posted) in
    let own = (item_of core 0 item).part == seat in
    let tests = and_parts (has_stream stream lists.drawn) (new_stream && own) (test_of (has_stream stream lists.drawn && (new_stream && own)) _ _ _ met) in
    let rest = and_parts new_stream own tests.1 in
    (has_counts stream lists.drawn tests.0, has_not_counts stream lists.posted (not_true (has_stream stream lists.posted) rest.0), eqb-true (item_of core 0 item).part seat rest.1)

after_arm_line : (core : Core) (seat item stream : ℕ) → StreamCounts core → first_unmet core (Arm seat 0 item stream) ≡ None → StreamCounts (after_step core (Arm seat 0 item stream))
unfolding conditions_by after_step with_item with_note with_run_owner
after_arm_line core seat item stream old met =
    let conditions = conditions_of core (Arm seat 0 item stream) in
    let new = after_step core (Arm seat 0 item stream) in
    let there = facts.seat_there core seat old (each_met conditions met 0) in
    let inside = facts.fill_inside core seat 0 item (each_met conditions met 1) in
    let untagged = facts.tag_is core 0 item 0 (each_met conditions met 3) in
    let may = posting core seat item stream (each_met conditions met 6) in
    let adds = facts.adds_after_arm core seat 0 item stream (Posted stream) there refl in
    posts core new seat item stream _ adds (frame_with_note core new seat (Posted stream) refl refl adds) (facts.sets_after_arm core seat 0 item stream inside) refl may.2 untagged may.0 may.1 old

-- notes of parts and of closed streams leave the other lists
pub same_with_sent : (core new : Core) (seat : ℕ) (part : Part) → Adds core new seat (Sent part) → SameStreams core new
same_with_sent core new seat part adds = record {
  drawn = stays drawn core new seat (Sent part) adds (λ l. refl);
  posted = stays posted core new seat (Sent part) adds (λ l. refl);
  cancelled = stays cancelled core new seat (Sent part) adds (λ l. refl);
  abandoned = stays abandoned core new seat (Sent part) adds (λ l. refl);
  taken = stays taken core new seat (Sent part) adds (λ l. refl);
}

pub same_with_received : (core new : Core) (seat : ℕ) (part : Part) → Adds core new seat (Received part) → SameStreams core new
same_with_received core new seat part adds = record {
  drawn = stays drawn core new seat (Received part) adds (λ l. refl);
  posted = stays posted core new seat (Received part) adds (λ l. refl);
  cancelled = stays cancelled core new seat (Received part) adds (λ l. refl);
  abandoned = stays abandoned core new seat (Received part) adds (λ l. refl);
  taken = stays taken core new seat (Received part) adds (λ l. refl);
}

pub same_with_closed : (core new : Core) (seat stream : ℕ) → Adds core new seat (Closed stream) → SameStreams core new
same_with_closed core new seat stream adds = record {
  drawn = stays drawn core new seat (Closed stream) adds (λ l. refl);
  posted = stays posted core new seat (Closed stream) adds (λ l. refl);
  cancelled = stays cancelled core new seat (Closed stream) adds (λ l. refl);
  abandoned = stays abandoned core new seat (Closed stream) adds (λ l. refl);
  taken = stays taken core new seat (Closed stream) adds (λ l. refl);
}

after_arm_back : (core : Core) (seat queue item stream : ℕ) → queue ≢ 0 → StreamCounts core → first_unmet core (Arm seat queue item stream) ≡ None → StreamCounts (after_step core (Arm seat queue item stream))
unfolding conditions_by after_step with_item with_note with_run_owner
after_arm_back core seat queue item stream back old met =
    let conditions = conditions_of core (Arm seat queue item stream) in
    let new = after_step core (Arm seat queue item stream) in
    let part = part_of stream (item_of core queue item) in
    let there = facts.seat_there core seat old (each_met conditions met 0) in
    let inside = facts.fill_inside core seat queue item (each_met conditions met 1) in
    let adds = facts.adds_after_arm core seat queue item stream (Sent part) there (facts.armed_back queue stream (item_of core queue item) back) in
    part_changed core new seat queue item _ (Sent part) refl refl adds (same_with_sent core new seat part adds) (facts.sets_after_arm core seat queue item stream inside) back old

pub after_arm : (core : Core) (seat queue item stream : ℕ) → StreamCounts core → first_unmet core (Arm seat queue item stream) ≡ None → StreamCounts (after_step core (Arm seat queue item stream))
after_arm core seat queue item stream old met =
    elim (cases_eq queue 0) [
      | inl line ↦ rw line (after_arm_line core seat item stream old (rw line at met))
      | inr back ↦ after_arm_back core seat queue item stream back old met
    ]

-- the stream that is settled isn't 0, and an engine that settles a line's item posted it
pub settling : (core : Core) (seat queue item stream : ℕ) → may_settle core seat queue item stream ≡ None → (stream ≢ 0) × ((if queue == 0 then may_win_request core seat queue item stream else may_win_part core seat queue item stream) ≡ true)
unfolding may_settle
settling core seat queue item stream met =
    let may = if queue == 0 then may_win_request core seat queue item stream else may_win_part core seat queue item stream in
    let tests = and_parts (not (stream == 0)) may (test_of (not (stream == 0) && may) _ _ _ met) in
    let some : stream ≢ 0 = λ zero. absurd (cc (eq-eqb stream 0 zero, not_true (stream == 0) tests.0)) in
    (some, tests.1)

after_settle_line : (core : Core) (seat item stream : ℕ) (engine : Bool) → (role_of core seat == 0) ≡ engine → StreamCounts core → first_unmet core (Settle seat 0 item stream) ≡ None → StreamCounts (after_step core (Settle seat 0 item stream))
unfolding conditions_by after_step with_item with_note with_run_owner
after_settle_line core seat item stream true role old met =
    let conditions = conditions_of core (Settle seat 0 item stream) in
    let new = after_step core (Settle seat 0 item stream) in
    let there = facts.seat_there core seat old (each_met conditions met 0) in
    let inside = facts.use_inside core 0 item (each_met conditions met 1) in
    let tag = facts.tag_is core 0 item stream (each_met conditions met 2) in
    let may = settling core seat 0 item stream (each_met conditions met 3) in
    let has = has_counts stream (seat_of core seat).posted (rw role at may.1) in
    let adds = facts.adds_after_settle core seat 0 item stream (Cancelled stream) there (rw role refl) in
    cancels core new seat item stream _ adds (frame_with_note core new seat (Cancelled stream) refl refl adds) (facts.sets_after_settle core seat 0 item stream inside) refl tag may.0 has old
after_settle_line core seat item stream false role old met =
    let conditions = conditions_of core (Settle seat 0 item stream) in
    let new = after_step core (Settle seat 0 item stream) in
    let there = facts.seat_there core seat old (each_met conditions met 0) in
    let inside = facts.use_inside core 0 item (each_met conditions met 1) in
    let tag = facts.tag_is core 0 item stream (each_met conditions met 2) in
    let may = settling core seat 0 item stream (each_met conditions met 3) in
    let adds = facts.adds_after_settle core seat 0 item stream (Taken stream) there (rw role refl) in
    takes core new seat item stream _ adds (frame_with_note core new seat (Taken stream) refl refl adds) (facts.sets_after_settle core seat 0 item stream inside) refl tag may.0 old

after_settle_back : (core : Core) (seat queue item stream : ℕ) (engine : Bool) → (role_of core seat == 0) ≡ engine → queue ≢ 0 → StreamCounts core → first_unmet core (Settle seat queue item stream) ≡ None → StreamCounts (after_step core (Settle seat queue item stream))
unfolding conditions_by after_step with_item with_note with_run_owner
after_settle_back core seat queue item stream true role back old met =
    let conditions = conditions_of core (Settle seat queue item stream) in
    let new = after_step core (Settle seat queue item stream) in
    let part = part_of stream (item_of core queue item) in
    let there = facts.seat_there core seat old (each_met conditions met 0) in
    let inside = facts.use_inside core queue item (each_met conditions met 1) in
    let adds = facts.adds_after_settle core seat queue item stream (Received part) there (facts.received_back (role_of core seat == 0) queue stream (item_of core queue item) role back) in
    part_changed core new seat queue item _ (Received part) refl refl adds (same_with_received core new seat part adds) (facts.sets_after_settle core seat queue item stream inside) back old
after_settle_back core seat queue item stream false role back old met =
    let conditions = conditions_of core (Settle seat queue item stream) in
    let new = after_step core (Settle seat queue item stream) in
    let there = facts.seat_there core seat old (each_met conditions met 0) in
    let inside = facts.use_inside core queue item (each_met conditions met 1) in
    let adds = facts.adds_after_settle core seat queue item stream (Closed stream) there (facts.closed_back (role_of core seat == 0) queue stream (item_of core queue item) role back) in
    part_changed core new seat queue item _ (Closed stream) refl refl adds (same_with_closed core new seat stream adds) (facts.sets_after_settle core seat queue item stream inside) back old

pub after_settle : (core : Core) (seat queue item stream : ℕ) → StreamCounts core → first_unmet core (Settle seat queue item stream) ≡ None → StreamCounts (after_step core (Settle seat queue item stream))
after_settle core seat queue item stream old met =
    elim (cases_eq queue 0) [
      | inl line ↦ rw line (after_settle_line core seat item stream (role_of core seat == 0) refl old (rw line at met))
      | inr back ↦ after_settle_back core seat queue item stream (role_of core seat == 0) refl back old met
    ]

or_parts : (a b : Bool) → (a || b) ≡ false → (a ≡ false) × (b ≡ false)
or_parts true b none = absurd (cc none)
or_parts false b none = (refl, none)

-- some seat took the stream
pub taken_counts : (stream : ℕ) (seats : List SeatLists) → list_any (λ lists. has_stream stream lists.taken) seats ≡ true → 1 ≤ over_all (is_number stream) taken seats
taken_counts stream [] any = absurd (cc any)
taken_counts stream (l ∷ seats) any =
    elim (cases_Bool (has_stream stream l.taken)) [
      | inl here ↦ omega (arith, has_counts stream l.taken here)
      | inr away ↦ omega (arith, taken_counts stream seats (rw away at any))
    ]

after_abandon : (core : Core) (seat stream : ℕ) → StreamCounts core → first_unmet core (Abandon seat stream) ≡ None → StreamCounts (after_step core (Abandon seat stream))
unfolding conditions_by after_step with_note may_abandon
after_abandon core seat stream old met =
    let conditions = conditions_of core (Abandon seat stream) in
    let new = after_step core (Abandon seat stream) in
    let lists = seat_of core seat in
    let there = facts.engine_there core seat old (each_met conditions met 0) in
    let may : may_abandon core seat stream ≡ None = each_met conditions met 1 in
    let is_posted = has_stream stream lists.posted && is_taken core stream in
    let ended = has_stream stream lists.cancelled || has_stream stream lists.abandoned in
    let is_received = list_any (λ part. part.stream == stream && part.last) lists.received in
    let tests = and_parts is_posted (not (ended || is_received)) (test_of (is_posted && not (ended || is_received)) _ _ _ may) in
    let asked = and_parts (has_stream stream lists.posted) (is_taken core stream) tests.0 in
    let unended = or_parts ended is_received (not_true (ended || is_received) tests.1) in
    let fresh = or_parts (has_stream stream lists.cancelled) (has_stream stream lists.abandoned) unended.0 in
    let adds = facts.adds_after_abandon core seat stream there in
    abandons core new seat stream adds (frame_with_note core new seat (Abandoned stream) refl refl adds) (line_with_queues core new refl)
    (has_counts stream lists.posted asked.0) (has_not_counts stream lists.abandoned fresh.1) (taken_counts stream core.seats asked.1) old

-- ---- the law

pub keeps : (core : Core) (step : Step) → StreamCounts core → Enabled core step → StreamCounts (after_step core step)
keeps core (Draw seat stream) old met = after_draw core seat stream old met
keeps core (Claim seat segment chunk) old met = after_claim core seat segment chunk old
keeps core (Release seat segment chunk) old met = after_release core seat segment chunk old
keeps core (Open seat count) old met = after_open core seat count old
keeps core (GetItem seat queue item place) old met = after_get core seat queue item place old met
keeps core (SetRun seat queue item run) old met = after_set_run core seat queue item run old met
keeps core (SetPart seat queue item part) old met = after_set_part core seat queue item part old met
keeps core (Arm seat queue item stream) old met = after_arm core seat queue item stream old met
keeps core (Push seat queue item place) old met = after_push core seat queue item place old met
keeps core (Pop seat queue item place) old met = after_pop core seat queue item place old met
keeps core (Settle seat queue item stream) old met = after_settle core seat queue item stream old met
keeps core (GiveItem seat queue item place) old met = after_give core seat queue item place old met
keeps core (Abandon seat stream) old met = after_abandon core seat stream old met
