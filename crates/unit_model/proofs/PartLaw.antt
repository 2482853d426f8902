-- An enabled step keeps what holds of the counts of parts.
use Rattle.std.proofs.Common.{◌≡◌, ◌≢◌, ℕ, ◌+◌, ◌-◌, ◌<◌, ◌≤◌, ◌^◌, ◌==◌, ◌&&◌, not, nat_le, Bool, true, false, if◌then◌else◌, List, [], ◌∷◌, length, refl, sym, ap, ◌∙◌, arith, inl, inr, subst}
use Rattle.std.specs.Prelude.{None}
use Rattle.std.specs.List.{list_any}
use Rattle.std.proofs.lemmas.Bool.{and_parts, leb-true, eqb-true, eq-eqb, ne_eqb, cases_eq, cases_Bool}
use Rattle.unit_model.specs.Conditions.{first_unmet, conditions_by, conditions_of, has_stream, is_either, has_tag, seat_holds, holds, holds_tagged, is_first_free_item, may_arm, may_send, is_last_sent, is_closed, parts_sent, part_of, is_same_part}
use Rattle.unit_model.specs.Core.{queue_of, item_of, role_of, seat_of, number_in, first_item, whereabouts_code}
use Rattle.unit_model.specs.Effects.{after_step, noted, with_note, with_item, with_owner, with_run_owner, with_opened, with_in_line, with_free, without_first_free, without_first_in_line}
use Rattle.unit_model.specs.Holding.{IsHeldRight, HasItsItems, entries_of, has_item, item_in, is_in_free_list, items_of}
use Rattle.unit_model.specs.PartCounts.{PartCounts, sent, received}
use Rattle.unit_model.specs.Running.{Enabled}
use Rattle.unit_model.specs.StreamCounts.{StreamCounts, by_seat, posted, taken, closed}
use Rattle.unit_model.specs.Weights.{one_if, is_number, over_all}
use Rattle.unit_model.specs.declared.machine.Core.{Core}
use Rattle.unit_model.specs.declared.machine.Entry.{Entry}
use Rattle.unit_model.specs.declared.machine.Item.{Item}
use Rattle.unit_model.specs.declared.machine.Note.{Note}
use Rattle.unit_model.specs.declared.machine.Note.TheVariants.{Drawn, Posted, Cancelled, Abandoned, Taken, Sent, Received, Closed}
use Rattle.unit_model.specs.declared.machine.Part.{Part}
use Rattle.unit_model.specs.declared.machine.Queue.{Queue}
use Rattle.unit_model.specs.declared.machine.Seat.{Seat as SeatLists}
use Rattle.unit_model.specs.declared.machine.Step.{Step}
use Rattle.unit_model.specs.declared.machine.Step.TheVariants.{Draw, Claim, Release, Open, GetItem, SetRun, SetPart, Arm, Push, Pop, Settle, GiveItem, Abandon}
use Rattle.unit_model.specs.declared.machine.Whereabouts.{Whereabouts}
use Rattle.unit_model.specs.declared.machine.Whereabouts.TheVariants.{InFreeList, InLine, WithSeat}
use Rattle.unit_model.specs.declared.runs.Run.{Run}
use Rattle.unit_model.proofs.ItemChanges.{SetsItem, queue_there}
use Rattle.unit_model.proofs.MetConditions.{each_met, test_of}
use Rattle.unit_model.proofs.PartFrames.{SameBacks, Rises, backs_with_queues, backs_beside, backs_quiet, parts_kept}
use Rattle.unit_model.proofs.PartNotes.{parts_stay, all_parts_stay}
use Rattle.unit_model.proofs.PartSending.{MaySend, sends}
use Rattle.unit_model.proofs.PartSteps.{receives, withdraws}
use Rattle.unit_model.proofs.SeatNotes.{Adds, Grows, stays, all_stays, grows, rises, has_counts, has_not_counts}
use Rattle.unit_model.proofs.StepFacts as facts
use Rattle.unit_model.proofs.StreamLaw.{not_true, settling}
use Rattle.unit_model.proofs.StreamSteps.{drawn_some}
use Rattle.unit_model.proofs.Weights.{is_number_same}

-- ---- what is held right

few_of : (line back : ℕ) (test : Bool) → line ≤ 16384 → back ≤ 16384 → (if test then line else back) ≤ 16384
few_of line back true a b = a
few_of line back false a b = b

free_of : (w : Whereabouts) → is_in_free_list w ≡ true → w ≡ InFreeList
free_of InFreeList is = refl
free_of InLine is = absurd (cc is)
free_of (WithSeat k) is = absurd (cc is)

not_there : (free : List Entry) (item : ℕ) → item < 2 ^ 32 → item ≡ first_item free → entries_of item free ≡ 0 → ⊥
not_there [] item small first none = absurd (omega (arith, small, first))
not_there (entry ∷ entries) item small first none = absurd (omega (arith, none, ap (is_number item) first, is_number_same item))

abbrev seat_in : Whereabouts → ℕ
seat_in InFreeList = 0
seat_in InLine = 0
seat_in (WithSeat k) = k

-- a worker isn't an engine
engine_alone : (core : Core) (seat k : ℕ) → role_of core seat ≡ 0 → role_of core k ≡ 1 → WithSeat seat ≡ WithSeat k → ⊥
engine_alone core seat k engine worker is =
    let same : seat ≡ k = ap seat_in is in
    absurd (omega (arith, engine, worker, ap (role_of core) same))

-- there are few items
few_items : (core : Core) (queue item : ℕ) → IsHeldRight core → item < length (queue_of core queue).items → item < 2 ^ 32
few_items core queue item held inside =
    let there = queue_there core queue item inside in
    let count = held.shape.items queue (omega (arith, there, held.shape.queues)) in
    let few : items_of core.shape queue ≤ 16384 = few_of core.shape.items core.shape.back_items (queue == 0) held.shape.shape.items.1 held.shape.shape.back_items.1 in
    omega (arith, inside, count, few)

-- the first item of a free list has no tag
first_free : (queue : Queue) (seats item : ℕ) → HasItsItems seats queue → item < 2 ^ 32 → item ≡ first_item queue.free → (item_in queue item).tag ≡ 0
first_free queue seats item items small first =
    elim (cases_Bool (has_item queue item && is_in_free_list (item_in queue item).whereabouts)) [
      | inl free ↦ items.untagged item (free_of (item_in queue item).whereabouts (and_parts (has_item queue item) _ free).1)
      | inr other ↦ absurd (not_there queue.free item small first (items.free item ∙ ap one_if other))
    ]

-- few seats
few_seats : (core : Core) → IsHeldRight core → core.shape.engines + core.shape.workers < 2 ^ 32 - 1
few_seats core held = omega (arith, held.shape.shape.engines.1, held.shape.shape.workers.1)

-- ---- steps that leave the parts

same_seats : (core new : Core) → new.shape ≡ core.shape → new.seats ≡ core.seats → SameBacks core new → PartCounts core → PartCounts new
same_seats core new shape seats backs old =
    parts_kept core new shape (all_stays closed core new seats)
    (λ k s. omega (arith, (all_stays taken core new seats).each k s))
    (λ k s. omega (arith, (all_stays posted core new seats).each k s))
    (all_parts_stay sent core new seats) (all_parts_stay received core new seats) backs old

-- a note of another list
other_note : (core new : Core) (seat : ℕ) (note : Note) → new.shape ≡ core.shape → Adds core new seat note → ((l : SeatLists) → closed (noted note l) ≡ closed l) → ((l : SeatLists) → sent (noted note l) ≡ sent l) → ((l : SeatLists) → received (noted note l) ≡ received l) → Rises taken core new → Rises posted core new → SameBacks core new → PartCounts core → PartCounts new
other_note core new seat note shape adds c s r t p backs old =
    parts_kept core new shape (stays closed core new seat note adds c) t p (parts_stay sent core new seat note adds s) (parts_stay received core new seat note adds r) backs old

stays_up : (list : SeatLists → List ℕ) (core new : Core) (seat : ℕ) (note : Note) → Adds core new seat note → ((l : SeatLists) → list (noted note l) ≡ list l) → Rises list core new
stays_up list core new seat note adds same k s = omega (arith, (stays list core new seat note adds same).each k s)

after_draw : (core : Core) (seat stream : ℕ) → StreamCounts core → PartCounts core → first_unmet core (Draw seat stream) ≡ None → PartCounts (after_step core (Draw seat stream))
unfolding conditions_by after_step with_note
after_draw core seat stream streams old met =
    let new = after_step core (Draw seat stream) in
    let there = facts.engine_there core seat streams (each_met (conditions_of core (Draw seat stream)) met 0) in
    let adds = facts.adds_after_draw core seat stream there in
    other_note core new seat (Drawn stream) refl adds (λ l. refl) (λ l. refl) (λ l. refl) (stays_up taken core new seat (Drawn stream) adds (λ l. refl)) (stays_up posted core new seat (Drawn stream) adds (λ l. refl)) (backs_with_queues core new refl) old

after_abandon : (core : Core) (seat stream : ℕ) → StreamCounts core → PartCounts core → first_unmet core (Abandon seat stream) ≡ None → PartCounts (after_step core (Abandon seat stream))
unfolding conditions_by after_step with_note
after_abandon core seat stream streams old met =
    let new = after_step core (Abandon seat stream) in
    let there = facts.engine_there core seat streams (each_met (conditions_of core (Abandon seat stream)) met 0) in
    let adds = facts.adds_after_abandon core seat stream there in
    other_note core new seat (Abandoned stream) refl adds (λ l. refl) (λ l. refl) (λ l. refl) (stays_up taken core new seat (Abandoned stream) adds (λ l. refl)) (stays_up posted core new seat (Abandoned stream) adds (λ l. refl)) (backs_with_queues core new refl) old

after_claim : (core : Core) (seat segment chunk : ℕ) → PartCounts core → PartCounts (after_step core (Claim seat segment chunk))
unfolding after_step with_owner
after_claim core seat segment chunk old =
    let new = after_step core (Claim seat segment chunk) in
    same_seats core new refl refl (backs_with_queues core new refl) old

after_release : (core : Core) (seat segment chunk : ℕ) → PartCounts core → PartCounts (after_step core (Release seat segment chunk))
unfolding after_step with_owner
after_release core seat segment chunk old =
    let new = after_step core (Release seat segment chunk) in
    same_seats core new refl refl (backs_with_queues core new refl) old

after_open : (core : Core) (seat count : ℕ) → PartCounts core → PartCounts (after_step core (Open seat count))
unfolding after_step with_opened
after_open core seat count old =
    let new = after_step core (Open seat count) in
    same_seats core new refl refl (backs_with_queues core new refl) old

-- an item of any queue has changed, but not its tag, nor its part where it has a tag; and no worker got one of a back queue
-- with a tag
quiet_item : (core new : Core) (queue item : ℕ) (now : Item) → new.shape ≡ core.shape → new.seats ≡ core.seats → SetsItem core new queue item now → now.tag ≡ (item_of core queue item).tag → (now.tag ≢ 0 → now.part ≡ (item_of core queue item).part) → ((seat : ℕ) → queue ≢ 0 → role_of core seat ≡ 1 → now.whereabouts ≡ WithSeat seat → now.tag ≢ 0 → (item_of core queue item).whereabouts ≡ WithSeat seat) → PartCounts core → PartCounts new
quiet_item core new queue item now shape seats sets tag part held old =
    elim (cases_eq queue 0) [
      | inl line ↦ same_seats core new shape seats (backs_beside core new item now (rw line at sets)) old
      | inr back ↦
          let engine : ℕ = queue - 1 in
          let is : queue ≡ 1 + engine = omega (arith, back) in
          same_seats core new shape seats (backs_quiet core new engine item now (rw is at sets) (rw is at tag) (rw is at part) (λ k. rw is at (held k back))) old
    ]

after_set_run : (core : Core) (seat queue item : ℕ) (run : Run) → PartCounts core → first_unmet core (SetRun seat queue item run) ≡ None → PartCounts (after_step core (SetRun seat queue item run))
unfolding conditions_by after_step with_item
after_set_run core seat queue item run old met =
    let inside = facts.fill_inside core seat queue item (each_met (conditions_of core (SetRun seat queue item run)) met 1) in
    quiet_item core (after_step core (SetRun seat queue item run)) queue item _ refl refl (facts.sets_after_run core seat queue item run inside) refl (λ tagged. refl) (λ k back worker is tagged. is) old

after_set_part : (core : Core) (seat queue item part : ℕ) → PartCounts core → first_unmet core (SetPart seat queue item part) ≡ None → PartCounts (after_step core (SetPart seat queue item part))
unfolding conditions_by after_step with_item
after_set_part core seat queue item part old met =
    let conditions = conditions_of core (SetPart seat queue item part) in
    let inside = facts.fill_inside core seat queue item (each_met conditions met 1) in
    let untagged = facts.tag_is core queue item 0 (each_met conditions met 3) in
    quiet_item core (after_step core (SetPart seat queue item part)) queue item _ refl refl (facts.sets_after_part core seat queue item part inside) refl (λ tagged. absurd (tagged untagged)) (λ k back worker is tagged. is) old

after_push : (core : Core) (seat queue item place : ℕ) → PartCounts core → first_unmet core (Push seat queue item place) ≡ None → PartCounts (after_step core (Push seat queue item place))
unfolding conditions_by after_step with_item with_in_line
after_push core seat queue item place old met =
    let inside = facts.fill_inside core seat queue item (each_met (conditions_of core (Push seat queue item place)) met 1) in
    quiet_item core (after_step core (Push seat queue item place)) queue item _ refl refl (facts.sets_after_push core seat queue item place inside) refl (λ tagged. refl) (λ k back worker is tagged. absurd (cc is)) old

after_give : (core : Core) (seat queue item place : ℕ) → PartCounts core → first_unmet core (GiveItem seat queue item place) ≡ None → PartCounts (after_step core (GiveItem seat queue item place))
unfolding conditions_by after_step with_item with_free
after_give core seat queue item place old met =
    let inside = facts.use_inside core queue item (each_met (conditions_of core (GiveItem seat queue item place)) met 1) in
    quiet_item core (after_step core (GiveItem seat queue item place)) queue item _ refl refl (facts.sets_after_give core seat queue item place inside) refl (λ tagged. refl) (λ k back worker is tagged. absurd (cc is)) old

-- an item that is taken from a free list has no tag
after_get : (core : Core) (seat queue item place : ℕ) → IsHeldRight core → PartCounts core → first_unmet core (GetItem seat queue item place) ≡ None → PartCounts (after_step core (GetItem seat queue item place))
unfolding conditions_by after_step with_item without_first_free is_first_free_item
after_get core seat queue item place held old met =
    let conditions = conditions_of core (GetItem seat queue item place) in
    let inside = facts.fill_inside core seat queue item (each_met conditions met 1) in
    let first_met : is_first_free_item core queue item ≡ None = each_met conditions met 3 in
    let first = eqb-true item (first_item (queue_of core queue).free) (test_of (item == first_item (queue_of core queue).free) _ _ _ first_met) in
    let untagged : (item_of core queue item).tag ≡ 0 = first_free (queue_of core queue) _ item (held.queues queue) (few_items core queue item held inside) first in
    quiet_item core (after_step core (GetItem seat queue item place)) queue item _ refl refl (facts.sets_after_get core seat queue item place inside) refl (λ tagged. refl) (λ k back worker is tagged. absurd (tagged untagged)) old

-- an engine takes from a back queue's line
after_pop : (core : Core) (seat queue item place : ℕ) → PartCounts core → first_unmet core (Pop seat queue item place) ≡ None → PartCounts (after_step core (Pop seat queue item place))
unfolding conditions_by after_step with_item without_first_in_line
after_pop core seat queue item place old met =
    let conditions = conditions_of core (Pop seat queue item place) in
    let inside = facts.empty_inside core seat queue item (each_met conditions met 1) in
    let role : queue ≢ 0 → role_of core seat ≡ 0 = λ back. facts.engine_role core seat (rw (ne_eqb queue 0 back) at (each_met conditions met 0)) in
    quiet_item core (after_step core (Pop seat queue item place)) queue item _ refl refl (facts.sets_after_pop core seat queue item place inside) refl (λ tagged. refl)
    (λ k back worker is tagged. absurd (engine_alone core seat k (role back) worker is)) old

-- ---- items of the line's queue

after_arm_line : (core : Core) (seat item stream : ℕ) → StreamCounts core → PartCounts core → first_unmet core (Arm seat 0 item stream) ≡ None → PartCounts (after_step core (Arm seat 0 item stream))
unfolding conditions_by after_step with_item with_note with_run_owner
after_arm_line core seat item stream streams old met =
    let conditions = conditions_of core (Arm seat 0 item stream) in
    let new = after_step core (Arm seat 0 item stream) in
    let there = facts.seat_there core seat streams (each_met conditions met 0) in
    let inside = facts.fill_inside core seat 0 item (each_met conditions met 1) in
    let adds = facts.adds_after_arm core seat 0 item stream (Posted stream) there refl in
    let p : Grows posted core new seat stream = grows posted core new seat (Posted stream) stream adds (λ l. refl) in
    other_note core new seat (Posted stream) refl adds (λ l. refl) (λ l. refl) (λ l. refl) (stays_up taken core new seat (Posted stream) adds (λ l. refl)) (λ k s. rises posted core new seat stream p k s) (backs_beside core new item _ (facts.sets_after_arm core seat 0 item stream inside)) old

after_settle_line : (core : Core) (seat item stream : ℕ) (engine : Bool) → (role_of core seat == 0) ≡ engine → StreamCounts core → PartCounts core → first_unmet core (Settle seat 0 item stream) ≡ None → PartCounts (after_step core (Settle seat 0 item stream))
unfolding conditions_by after_step with_item with_note with_run_owner
after_settle_line core seat item stream true role streams old met =
    let conditions = conditions_of core (Settle seat 0 item stream) in
    let new = after_step core (Settle seat 0 item stream) in
    let there = facts.seat_there core seat streams (each_met conditions met 0) in
    let inside = facts.use_inside core 0 item (each_met conditions met 1) in
    let adds = facts.adds_after_settle core seat 0 item stream (Cancelled stream) there (rw role refl) in
    other_note core new seat (Cancelled stream) refl adds (λ l. refl) (λ l. refl) (λ l. refl) (stays_up taken core new seat (Cancelled stream) adds (λ l. refl)) (stays_up posted core new seat (Cancelled stream) adds (λ l. refl)) (backs_beside core new item _ (facts.sets_after_settle core seat 0 item stream inside)) old
after_settle_line core seat item stream false role streams old met =
    let conditions = conditions_of core (Settle seat 0 item stream) in
    let new = after_step core (Settle seat 0 item stream) in
    let there = facts.seat_there core seat streams (each_met conditions met 0) in
    let inside = facts.use_inside core 0 item (each_met conditions met 1) in
    let adds = facts.adds_after_settle core seat 0 item stream (Taken stream) there (rw role refl) in
    let t : Grows taken core new seat stream = grows taken core new seat (Taken stream) stream adds (λ l. refl) in
    other_note core new seat (Taken stream) refl adds (λ l. refl) (λ l. refl) (λ l. refl) (λ k s. rises taken core new seat stream t k s) (stays_up posted core new seat (Taken stream) adds (λ l. refl)) (backs_beside core new item _ (facts.sets_after_settle core seat 0 item stream inside)) old

-- ---- items of the back queues

none_closed : (stream : ℕ) (seats : List SeatLists) → list_any (λ lists. has_stream stream lists.closed) seats ≡ false → over_all (is_number stream) closed seats ≡ 0
none_closed stream [] none = refl
none_closed stream (l ∷ seats) none =
    elim (cases_Bool (has_stream stream l.closed)) [
      | inl here ↦ absurd (cc (rw here at none))
      | inr away ↦ omega (arith, has_not_counts stream l.closed away, none_closed stream seats (rw away at none))
    ]

sending : (core : Core) (seat engine item stream : ℕ) → StreamCounts core → may_arm core seat (1 + engine) item stream ≡ None → seat_holds core seat (1 + engine) item ≡ None → has_tag core (1 + engine) item 0 ≡ None → MaySend core seat engine item stream
unfolding may_arm may_send seat_holds
sending core seat engine item stream streams may_met holds_met tag_met =
    let before : (1 + engine) - 1 ≡ engine = omega arith in
    let back : ((1 + engine) == 0) ≡ false = ne_eqb (1 + engine) 0 (omega arith) in
    let sends_met : may_send core seat (1 + engine) item stream ≡ None = rw back at may_met in
    let asked = has_stream stream (seat_of core seat).taken && has_stream stream (seat_of core ((1 + engine) - 1)).posted in
    let unfinished = not (is_last_sent core stream) && not (is_closed core stream) in
    let is_next_part = number_in (item_of core (1 + engine) item).part == parts_sent core stream in
    let none_held = not (holds_tagged core seat (1 + engine) stream) in
    let tests = and_parts asked (unfinished && (is_next_part && none_held)) (test_of (asked && (unfinished && (is_next_part && none_held))) _ _ _ sends_met) in
    let both = and_parts (has_stream stream (seat_of core seat).taken) (has_stream stream (seat_of core ((1 + engine) - 1)).posted) tests.0 in
    let rest = and_parts unfinished (is_next_part && none_held) tests.1 in
    let unclosed = and_parts (not (is_last_sent core stream)) (not (is_closed core stream)) rest.0 in
    let last = and_parts is_next_part none_held rest.1 in
    let posts : 1 ≤ by_seat posted core engine stream = has_counts stream (seat_of core engine).posted (rw before at both.1) in
    record {
      some = drawn_some core engine stream streams (omega (arith, posts, streams.posted_by_drawer engine stream));
      takes = has_counts stream (seat_of core seat).taken both.0;
      posts = posts;
      no_last = not_true (is_last_sent core stream) unclosed.0;
      unclosed = none_closed stream core.seats (not_true (is_closed core stream) unclosed.1);
      next = eqb-true (number_in (item_of core (1 + engine) item).part) (parts_sent core stream) last.0;
      no_other = not_true (holds_tagged core seat (1 + engine) stream) last.1;
      untagged = facts.tag_is core (1 + engine) item 0 tag_met;
      held = eqb-true (whereabouts_code (item_of core (1 + engine) item).whereabouts) (1 + seat) (test_of (holds core seat (1 + engine) item) _ _ _ holds_met);
    }

after_arm_back : (core : Core) (seat engine item stream : ℕ) → StreamCounts core → PartCounts core → first_unmet core (Arm seat (1 + engine) item stream) ≡ None → PartCounts (after_step core (Arm seat (1 + engine) item stream))
unfolding conditions_by after_step with_item with_note with_run_owner
after_arm_back core seat engine item stream streams old met =
    let queue : ℕ = 1 + engine in
    let conditions = conditions_of core (Arm seat queue item stream) in
    let new = after_step core (Arm seat queue item stream) in
    let part : Part = part_of stream (item_of core queue item) in
    let there = facts.seat_there core seat streams (each_met conditions met 0) in
    let inside = facts.fill_inside core seat queue item (each_met conditions met 1) in
    let adds = facts.adds_after_arm core seat queue item stream (Sent part) there (facts.armed_back queue stream (item_of core queue item) (omega arith)) in
    sends core new seat engine item stream streams refl adds (facts.sets_after_arm core seat queue item stream inside) (sending core seat engine item stream streams (each_met conditions met 6) (each_met conditions met 2) (each_met conditions met 3)) old

-- what is received and taken back, by the number of the queue
received_of : (core new : Core) (seat queue item : ℕ) → queue ≡ 1 + seat → new.shape ≡ core.shape → Adds core new seat (Received (part_of (item_of core queue item).tag (item_of core queue item))) → SetsItem core new queue item (record (item_of core queue item) { tag = 0 }) → (item_of core queue item).tag ≢ 0 → PartCounts core → PartCounts new
received_of core new seat queue item own shape adds sets some old =
    receives core new seat item _ shape (rw own at adds) (rw own at sets) refl (rw own at some) old

withdrawn_of : (core new : Core) (seat queue item : ℕ) → queue ≢ 0 → StreamCounts core → new.shape ≡ core.shape → Adds core new seat (Closed (item_of core queue item).tag) → SetsItem core new queue item (record (item_of core queue item) { tag = 0 }) → (item_of core queue item).tag ≢ 0 → role_of core seat ≡ 1 → (item_of core queue item).whereabouts ≡ WithSeat seat → PartCounts core → PartCounts new
withdrawn_of core new seat queue item back streams shape adds sets some worker held old =
    let is : queue ≡ 1 + (queue - 1) = omega (arith, back) in
    withdraws core new seat (queue - 1) item _ streams shape
    (subst (λ q. Adds core new seat (Closed (item_of core q item).tag)) is adds)
    (subst (λ q. SetsItem core new q item (record (item_of core q item) { tag = 0 })) is sets) refl
    (subst (λ q. (item_of core q item).tag ≢ 0) is some) worker
    (subst (λ q. (item_of core q item).whereabouts ≡ WithSeat seat) is held) old

worker_of : (role : ℕ) → nat_le role 1 ≡ true → (role == 0) ≡ false → role ≡ 1
worker_of role least other =
    elim (cases_eq role 0) [
      | inl engine ↦ absurd (cc (eq-eqb role 0 engine, other))
      | inr worker ↦ omega (arith, worker, leb-true role 1 least)
    ]

after_settle_back : (core : Core) (seat queue item stream : ℕ) (engine : Bool) → (role_of core seat == 0) ≡ engine → queue ≢ 0 → IsHeldRight core → StreamCounts core → PartCounts core → first_unmet core (Settle seat queue item stream) ≡ None → PartCounts (after_step core (Settle seat queue item stream))
unfolding conditions_by after_step with_item with_note with_run_owner is_either
after_settle_back core seat queue item stream true role back held streams old met =
    let conditions = conditions_of core (Settle seat queue item stream) in
    let new = after_step core (Settle seat queue item stream) in
    let there = facts.seat_there core seat streams (each_met conditions met 0) in
    let inside = facts.use_inside core queue item (each_met conditions met 1) in
    let tag = facts.tag_is core queue item stream (each_met conditions met 2) in
    let may = settling core seat queue item stream (each_met conditions met 3) in
    let wins : (holds core seat queue item && queue == 1 + seat) ≡ true = rw role at (rw (ne_eqb queue 0 back) at may.1) in
    let own : queue ≡ 1 + seat = eqb-true queue (1 + seat) (and_parts (holds core seat queue item) (queue == 1 + seat) wins).1 in
    let note = facts.received_back (role_of core seat == 0) queue stream (item_of core queue item) role back ∙ ap (λ s. Received (part_of s (item_of core queue item))) (sym tag) in
    let adds = facts.adds_after_settle core seat queue item stream _ there note in
    let sets = facts.sets_after_settle core seat queue item stream inside in
    received_of core new seat queue item own refl adds sets (omega (arith, tag, may.0)) old
after_settle_back core seat queue item stream false role back held streams old met =
    let conditions = conditions_of core (Settle seat queue item stream) in
    let new = after_step core (Settle seat queue item stream) in
    let either : is_either core seat ≡ None = each_met conditions met 0 in
    let there = facts.seat_there core seat streams either in
    let inside = facts.use_inside core queue item (each_met conditions met 1) in
    let tag = facts.tag_is core queue item stream (each_met conditions met 2) in
    let may = settling core seat queue item stream (each_met conditions met 3) in
    let worker = worker_of (role_of core seat) (test_of (nat_le (role_of core seat) 1) _ _ _ either) role in
    let sent_it = list_any (is_same_part (part_of stream (item_of core queue item))) (seat_of core seat).sent in
    let wins : (holds core seat queue item && sent_it) ≡ true = rw role at (rw (ne_eqb queue 0 back) at may.1) in
    let code = eqb-true (whereabouts_code (item_of core queue item).whereabouts) (1 + seat) (and_parts (holds core seat queue item) sent_it wins).0 in
    let with_seat = facts.held_of seat (item_of core queue item).whereabouts code (omega (arith, there, streams.seats, few_seats core held)) in
    let note = facts.closed_back (role_of core seat == 0) queue stream (item_of core queue item) role back ∙ ap Closed (sym tag) in
    let adds = facts.adds_after_settle core seat queue item stream _ there note in
    let sets = facts.sets_after_settle core seat queue item stream inside in
    withdrawn_of core new seat queue item back streams refl adds sets (omega (arith, tag, may.0)) worker with_seat old

-- ---- the law

after_arm : (core : Core) (seat queue item stream : ℕ) → StreamCounts core → PartCounts core → first_unmet core (Arm seat queue item stream) ≡ None → PartCounts (after_step core (Arm seat queue item stream))
after_arm core seat queue item stream streams old met =
    elim (cases_eq queue 0) [
      | inl line ↦ rw line (after_arm_line core seat item stream streams old (rw line at met))
      | inr back ↦
          let is : queue ≡ 1 + (queue - 1) = omega (arith, back) in
          subst (λ q. PartCounts (after_step core (Arm seat q item stream))) (sym is) (after_arm_back core seat (queue - 1) item stream streams old (subst (λ q. first_unmet core (Arm seat q item stream) ≡ None) is met))
    ]

after_settle : (core : Core) (seat queue item stream : ℕ) → IsHeldRight core → StreamCounts core → PartCounts core → first_unmet core (Settle seat queue item stream) ≡ None → PartCounts (after_step core (Settle seat queue item stream))
after_settle core seat queue item stream held streams old met =
    elim (cases_eq queue 0) [
      | inl line ↦ rw line (after_settle_line core seat item stream (role_of core seat == 0) refl streams old (rw line at met))
      | inr back ↦ after_settle_back core seat queue item stream (role_of core seat == 0) refl back held streams old met
    ]

pub keeps : (core : Core) (step : Step) → IsHeldRight core → StreamCounts core → PartCounts core → Enabled core step → PartCounts (after_step core step)
keeps core (Draw seat stream) held streams old met = after_draw core seat stream streams old met
keeps core (Claim seat segment chunk) held streams old met = after_claim core seat segment chunk old
keeps core (Release seat segment chunk) held streams old met = after_release core seat segment chunk old
keeps core (Open seat count) held streams old met = after_open core seat count old
keeps core (GetItem seat queue item place) held streams old met = after_get core seat queue item place held old met
keeps core (SetRun seat queue item run) held streams old met = after_set_run core seat queue item run old met
keeps core (SetPart seat queue item part) held streams old met = after_set_part core seat queue item part old met
keeps core (Arm seat queue item stream) held streams old met = after_arm core seat queue item stream streams old met
keeps core (Push seat queue item place) held streams old met = after_push core seat queue item place old met
keeps core (Pop seat queue item place) held streams old met = after_pop core seat queue item place old met
keeps core (Settle seat queue item stream) held streams old met = after_settle core seat queue item stream held streams old met
keeps core (GiveItem seat queue item place) held streams old met = after_give core seat queue item place old met
keeps core (Abandon seat stream) held streams old met = after_abandon core seat stream streams old met
