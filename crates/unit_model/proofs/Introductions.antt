-- Facts by which a condition of a step is met.
use Rattle.std.proofs.Common.{ℕ, zero, suc, ◌+◌, ◌-◌, ◌≡◌, ◌≢◌, ◌≤◌, ◌<◌, ◌==◌, ◌&&◌, ◌||◌, nat_lt, nat_le, not, Bool, true, false, if◌then◌else◌, length, refl, sym, ap, arith}
use Rattle.std.specs.Prelude.{None}
use Rattle.std.proofs.lemmas.Bool.{and_from, eq-eqb, ne_eqb, le-leb, lt-ltb}
use Rattle.unit_model.specs.Conditions.{unless, is_engine, is_worker, is_either, is_there, may_fill, may_empty, may_use, is_first_line_place, is_first_line_item, is_next_place, is_next_line_place, is_next_free_place, holds, seat_holds, has_tag, is_tagged, fits_side, has_owner, all_have_owner, run_has_owner, may_post, may_send, may_arm, may_settle, may_win_request, may_win_part, may_abandon, has_stream, is_next_stream, is_in_segments, is_open, may_open, is_first_free_place, is_first_free_item}
use Rattle.unit_model.specs.Core.{queue_of, item_of, role_of, whereabouts_code, first_place, first_item, chunk_number, owner_code, owner_of, side_start, side_end, side_opened, seat_of}
use Rattle.unit_model.specs.Limits.{stream_limit, place_limit, segment_chunks}
use Rattle.unit_model.specs.Holding.{FitsQueue, IsInRun}
use Rattle.unit_model.specs.Runs.{chunks_for}
use Rattle.unit_model.proofs.MetSteps.{on_side}
use Rattle.unit_model.specs.declared.machine.Core.{Core}
use Rattle.unit_model.specs.declared.machine.Owner.TheVariants.{Seat}
use Rattle.unit_model.specs.declared.runs.Run.{Run}
use Rattle.unit_model.specs.Premises.{Fills, Empties, Worker, Engine, IsInHand, MayPost, MaySend, MayArm, Posts, Sends, MaySettle, Cancels, Takes, Receives, Closes, MayAbandon}

pub met : (test : Bool) (rule want found : ℕ) → test ≡ true → unless test rule want found ≡ None
met test rule want found is = rw is refl

pub met_engine : (core : Core) (seat : ℕ) → role_of core seat ≡ 0 → is_engine core seat ≡ None
unfolding is_engine
met_engine core seat role = met (role_of core seat == 0) 1 0 (role_of core seat) (eq-eqb _ _ role)

pub met_worker : (core : Core) (seat : ℕ) → role_of core seat ≡ 1 → is_worker core seat ≡ None
unfolding is_worker
met_worker core seat role = met (role_of core seat == 1) 1 1 (role_of core seat) (eq-eqb _ _ role)

pub met_either : (core : Core) (seat : ℕ) → role_of core seat ≤ 1 → is_either core seat ≡ None
unfolding is_either
met_either core seat role = met (nat_le (role_of core seat) 1) 1 2 (role_of core seat) (le-leb _ _ role)

same_choice : (a b : Bool) → a ≡ b → (if a then b else not b) ≡ true
same_choice true b same = sym same
same_choice false b same = ap not (sym same)

pub met_fill : (core : Core) (seat queue item : ℕ) → Fills core seat queue → item < length (queue_of core queue).items → may_fill core seat queue item ≡ None
unfolding may_fill
met_fill core seat queue item fills inside =
    met (is_there core queue item && (if role_of core seat == 0 then queue == 0 else not (queue == 0))) 5 1 0
    (and_from _ _ (lt-ltb _ _ inside) (same_choice (role_of core seat == 0) (queue == 0) fills.side))

pub met_use : (core : Core) (queue item : ℕ) → item < length (queue_of core queue).items → may_use core queue item ≡ None
unfolding may_use
met_use core queue item inside = met (is_there core queue item) 5 1 0 (lt-ltb _ _ inside)

pub met_holds : (core : Core) (seat queue item : ℕ) → IsInHand core seat queue item → seat_holds core seat queue item ≡ None
unfolding seat_holds
met_holds core seat queue item hand = met (holds core seat queue item) 8 (1 + seat) _ (eq-eqb _ _ (ap whereabouts_code hand))

pub met_tag : (core : Core) (queue item tag : ℕ) → (item_of core queue item).tag ≡ tag → has_tag core queue item tag ≡ None
unfolding has_tag
met_tag core queue item tag is = met ((item_of core queue item).tag == tag) 9 tag _ (eq-eqb _ _ is)

pub met_tagged : (core : Core) (queue item : ℕ) → (item_of core queue item).tag ≢ 0 → is_tagged core queue item ≡ None
unfolding is_tagged
met_tagged core queue item armed = met (not ((item_of core queue item).tag == 0)) 9 place_limit _ (ap not (ne_eqb _ _ armed))

pub met_next : (next place : ℕ) → place ≡ next → place < place_limit → is_next_place next place ≡ None
met_next next place is low = met (place == next && nat_lt place place_limit) 6 _ place (and_from _ _ (eq-eqb _ _ is) (lt-ltb _ _ low))

pub met_next_in_line : (core : Core) (queue place : ℕ) → place ≡ (queue_of core queue).next_line → place < place_limit → is_next_line_place core queue place ≡ None
unfolding is_next_line_place
met_next_in_line core queue place is low = met_next (queue_of core queue).next_line place is low

pub met_first_in_line : (core : Core) (queue place : ℕ) → place ≡ first_place (queue_of core queue).line (queue_of core queue).next_line → is_first_line_place core queue place ≡ None
unfolding is_first_line_place
met_first_in_line core queue place is = met (place == first_place (queue_of core queue).line (queue_of core queue).next_line) 6 _ place (eq-eqb _ _ is)

pub met_first_item_in_line : (core : Core) (queue item : ℕ) → item ≡ first_item (queue_of core queue).line → is_first_line_item core queue item ≡ None
unfolding is_first_line_item
met_first_item_in_line core queue item is = met (item == first_item (queue_of core queue).line) 7 _ item (eq-eqb _ _ is)

pub met_pop_role : (core : Core) (seat queue : ℕ) → Empties core seat queue → (if queue == 0 then is_worker core seat else is_engine core seat) ≡ None
met_pop_role core seat queue (Worker role line) = rw (eq-eqb queue 0 line) (met_worker core seat role)
met_pop_role core seat queue (Engine role own) = rw (ne_eqb queue 0 (omega (arith, own))) (met_engine core seat role)

is_own : (core : Core) (seat queue : ℕ) → Empties core seat queue → (queue == 0 || queue == 1 + seat) ≡ true
is_own core seat queue (Worker role line) = rw (eq-eqb queue 0 line) refl
is_own core seat queue (Engine role own) = rw (eq-eqb queue (1 + seat) own) (or_right (queue == 0))
  where
    or_right : (b : Bool) → (b || true) ≡ true
    or_right true = refl
    or_right false = refl

pub met_empty : (core : Core) (seat queue item : ℕ) → Empties core seat queue → item < length (queue_of core queue).items → may_empty core seat queue item ≡ None
unfolding may_empty
met_empty core seat queue item empties inside = met (is_there core queue item && (queue == 0 || queue == 1 + seat)) 5 1 0 (and_from _ _ (lt-ltb _ _ inside) (is_own core seat queue empties))

-- ---- runs

pub met_fits : (core : Core) (seat queue : ℕ) (run : Run) → Fills core seat queue → FitsQueue core.shape queue run → fits_side core seat run ≡ None
unfolding fits_side
met_fits core seat queue run fills fits =
    let sides = on_side core seat queue fills.side in
    let low : side_start core seat ≤ run.segment = omega (arith, sides.0, fits.on_side.0) in
    let high : run.segment < side_end core seat = omega (arith, sides.1, fits.on_side.1) in
    met _ 10 1 0 (and_from _ _ (and_from _ _ (lt-ltb 0 run.size fits.some) (le-leb _ _ fits.in_segment)) (and_from _ _ (le-leb _ _ low) (lt-ltb _ _ high)))

pub met_owner : (core : Core) (seat number : ℕ) → owner_of core number ≡ Seat seat → has_owner core (1 + seat) number ≡ None
unfolding has_owner
met_owner core seat number is = met (owner_code (owner_of core number) == 1 + seat) 4 _ _ (eq-eqb _ _ (ap owner_code is))

pub met_owners : (core : Core) (seat number count : ℕ) → ((n : ℕ) → number ≤ n → n < number + count → owner_of core n ≡ Seat seat) → all_have_owner core (1 + seat) number count ≡ None
met_owners core seat number zero owns = refl
met_owners core seat number (suc count) owns =
    rw (met_owner core seat number (owns number (omega arith) (omega arith))) (met_owners core seat (number + 1) count (λ n low high. owns n (omega (arith, low)) (omega (arith, high))))

pub met_run_owner : (core : Core) (seat : ℕ) (run : Run) → ((number : ℕ) → IsInRun run number → owner_of core number ≡ Seat seat) → run_has_owner core (1 + seat) run ≡ None
unfolding run_has_owner
met_run_owner core seat run owns = met_owners core seat (chunk_number run.segment run.chunk) (chunks_for run.size) (λ n low high. owns n (low, high))

-- ---- streams

pub met_post : (core : Core) (seat queue item stream : ℕ) → MayPost core seat queue item stream (item_of core queue item).part → may_post core seat queue item stream ≡ None
unfolding may_post
met_post core seat queue item stream may = met _ 11 1 0 (and_from _ _ may.drawn (and_from _ _ (ap not may.unposted) (eq-eqb _ _ may.own)))

pub met_send : (core : Core) (seat queue item stream : ℕ) → MaySend core seat queue item stream (item_of core queue item).part → may_send core seat queue item stream ≡ None
unfolding may_send
met_send core seat queue item stream may =
    met _ 11 1 0
    (and_from _ _ (and_from _ _ may.taken may.posted)
    (and_from _ _ (and_from _ _ (ap not may.unfinished) (ap not may.unclosed)) (and_from _ _ (eq-eqb _ _ may.next) (ap not may.alone))))

pub met_arm : (core : Core) (seat queue item stream : ℕ) → MayArm core seat queue item stream (item_of core queue item).part → may_arm core seat queue item stream ≡ None
unfolding may_arm
met_arm core seat queue item stream (Posts may) = rw (eq-eqb queue 0 may.line) (met_post core seat queue item stream may)
met_arm core seat queue item stream (Sends may) = rw (ne_eqb queue 0 may.back) (met_send core seat queue item stream may)

wins : (core : Core) (seat queue item stream : ℕ) → MaySettle core seat queue item stream → (if queue == 0 then may_win_request core seat queue item stream else may_win_part core seat queue item stream) ≡ true
wins core seat queue item stream (Cancels engine line posted) = rw (eq-eqb queue 0 line, eq-eqb (role_of core seat) 0 engine) posted
wins core seat queue item stream (Takes worker line held) = rw (eq-eqb queue 0 line, ne_eqb (role_of core seat) 0 (omega (arith, worker))) (eq-eqb _ _ (ap whereabouts_code held))
wins core seat queue item stream (Receives engine own held) = rw (ne_eqb queue 0 (omega (arith, own)), eq-eqb (role_of core seat) 0 engine) (and_from _ _ (eq-eqb _ _ (ap whereabouts_code held)) (eq-eqb queue (1 + seat) own))
wins core seat queue item stream (Closes worker back held sent) = rw (ne_eqb queue 0 back, ne_eqb (role_of core seat) 0 (omega (arith, worker))) (and_from _ _ (eq-eqb _ _ (ap whereabouts_code held)) sent)

pub met_settle : (core : Core) (seat queue item stream : ℕ) → stream ≢ 0 → MaySettle core seat queue item stream → may_settle core seat queue item stream ≡ None
unfolding may_settle
met_settle core seat queue item stream some may = met _ 11 1 0 (and_from _ _ (ap not (ne_eqb stream 0 some)) (wins core seat queue item stream may))

pub settling_role : (core : Core) (seat queue item stream : ℕ) → MaySettle core seat queue item stream → role_of core seat ≤ 1
settling_role core seat queue item stream (Cancels engine line posted) = omega (arith, engine)
settling_role core seat queue item stream (Takes worker line held) = omega (arith, worker)
settling_role core seat queue item stream (Receives engine own held) = omega (arith, engine)
settling_role core seat queue item stream (Closes worker back held sent) = omega (arith, worker)

pub met_abandon : (core : Core) (seat stream : ℕ) → MayAbandon core seat stream → may_abandon core seat stream ≡ None
unfolding may_abandon
met_abandon core seat stream may =
    let ended : (has_stream stream (seat_of core seat).cancelled || has_stream stream (seat_of core seat).abandoned) ≡ false = rw (may.uncancelled, may.unabandoned) refl in
    met _ 11 1 0 (and_from _ _ (and_from _ _ may.posted may.taken) (rw (ended, may.unreceived) refl))

-- ---- the rest

pub met_next_stream : (core : Core) (stream : ℕ) → stream ≡ core.next → stream < stream_limit → is_next_stream core stream ≡ None
unfolding is_next_stream
met_next_stream core stream is low = met (stream == core.next && nat_lt stream stream_limit) 2 _ stream (and_from _ _ (eq-eqb _ _ is) (lt-ltb _ _ low))

pub met_segments : (start end segment chunk : ℕ) → chunk < segment_chunks → start ≤ segment → segment < end → is_in_segments start end segment chunk ≡ None
unfolding is_in_segments
met_segments start end segment chunk small low high = met _ 3 _ _ (and_from _ _ (lt-ltb _ _ small) (and_from _ _ (le-leb _ _ low) (lt-ltb _ _ high)))

pub met_open_segment : (core : Core) (seat segment : ℕ) → segment - side_start core seat < side_opened core seat → is_open core seat segment ≡ None
unfolding is_open
met_open_segment core seat segment lt = met _ 12 _ _ (lt-ltb _ _ lt)

pub met_open : (core : Core) (seat count : ℕ) → count ≡ side_opened core seat → count < side_end core seat - side_start core seat → may_open core seat count ≡ None
unfolding may_open
met_open core seat count is lt = met _ 13 _ count (and_from _ _ (lt-ltb _ _ (omega (arith, is, lt))) (eq-eqb _ _ is))

pub met_owner_code : (core : Core) (code number : ℕ) → owner_code (owner_of core number) ≡ code → has_owner core code number ≡ None
unfolding has_owner
met_owner_code core code number is = met (owner_code (owner_of core number) == code) 4 code _ (eq-eqb _ _ is)

pub met_first_free : (core : Core) (queue place : ℕ) → place ≡ first_place (queue_of core queue).free (queue_of core queue).next_free → is_first_free_place core queue place ≡ None
unfolding is_first_free_place
met_first_free core queue place is = met (place == first_place (queue_of core queue).free (queue_of core queue).next_free) 6 _ place (eq-eqb _ _ is)

pub met_first_free_item : (core : Core) (queue item : ℕ) → item ≡ first_item (queue_of core queue).free → is_first_free_item core queue item ≡ None
unfolding is_first_free_item
met_first_free_item core queue item is = met (item == first_item (queue_of core queue).free) 7 _ item (eq-eqb _ _ is)

pub met_next_free : (core : Core) (queue place : ℕ) → place ≡ (queue_of core queue).next_free → place < place_limit → is_next_free_place core queue place ≡ None
unfolding is_next_free_place
met_next_free core queue place is low = met_next (queue_of core queue).next_free place is low
