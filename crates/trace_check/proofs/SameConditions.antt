-- The conditions of a step, read in the records of streams, are those of the core that is shown.
use Rattle.std.proofs.Common.{◌≡◌, ◌≢◌, ◌∙◌, ℕ, zero, suc, ◌+◌, ◌-◌, ◌≤◌, ◌==◌, ◌&&◌, ◌||◌, not, Bool, true, false, if◌then◌else◌, [], refl, sym, ap, subst, arith}
use Rattle.std.specs.Prelude.{Option, Some, None}
use Rattle.std.specs.Option.{option_or}
use Rattle.std.specs.List.{list_any}
use Rattle.std.proofs.lemmas.Bool.{and_parts, eqb-true, eqb-false, leb-true}
use Rattle.trace_check.specs.Shows.{Agrees, IsReached}
use Rattle.trace_check.specs.Streams.{drawn_by, first_unmet_known, may_abandon_known, may_arm_known, may_post_known, may_send_known, may_settle_known, posted_by}
use Rattle.trace_check.specs.declared.streams.Stream.{Stream}
use Rattle.unit_model.proofs.MetConditions.{test_of}
use Rattle.unit_model.specs.Conditions.{all_have_owner, conditions_by, first_unmet, fits_side, has_owner, has_tag, holds, is_either, is_engine, is_first_free_item, is_first_free_place, is_first_line_item, is_first_line_place, is_in_segments, is_next_free_place, is_next_line_place, is_next_stream, is_open, is_same_part, is_tagged, is_worker, may_abandon, may_arm, may_empty, may_fill, may_open, may_post, may_send, may_settle, may_use, may_win_part, may_win_request, part_of, run_has_owner, seat_holds, unless}
use Rattle.unit_model.specs.Core.{item_of, role_of, seat_of, whereabouts_code, chunk_number}
use Rattle.unit_model.specs.Runs.{chunks_for}
use Rattle.unit_model.specs.declared.machine.Core.{Core}
use Rattle.unit_model.specs.declared.machine.Step.{Step}
use Rattle.unit_model.specs.declared.machine.Step.TheVariants.{Draw, Claim, Release, Open, GetItem, SetRun, SetPart, Arm, Push, Pop, Settle, GiveItem, Abandon}
use Rattle.unit_model.specs.declared.runs.Run.{Run}

abbrev pub frame_of : Core → Core
frame_of core = record core { seats = [] }

under : {X : Type 0} (a d e : Option X) → (a ≡ None → d ≡ e) → option_or a d ≡ option_or a e
under None d e same = same refl
under (Some x) d e same = refl

guard_all : (a t e r s : Bool) → (a ≡ true → r ≡ s) → ((a && t) && not (e || r)) ≡ ((a && t) && not (e || s))
guard_all true t e r s same = rw (same refl) refl
guard_all false t e r s same = refl

guard_not : (z w v : Bool) → (z ≡ false → w ≡ v) → (not z && w) ≡ (not z && v)
guard_not true w v same = refl
guard_not false w v same = rw (same refl) refl

guard_else : (h r x y : Bool) → (h ≡ true → r ≡ false → y ≡ true) → (h && (if r then x else y)) ≡ (h && (if r then x else true))
guard_else true true x y same = refl
guard_else true false x y same = rw (same refl refl) refl
guard_else false r x y same = refl

-- who posted a stream drew it
pub posted_drawn : (k : ℕ) (o : Option Stream) → posted_by k o ≡ true → drawn_by k o ≡ true
posted_drawn k None e = absurd (cc e)
posted_drawn k (Some r) e = (and_parts (r.engine == k) r.posted e).0

owners_same : (core : Core) (code number count : ℕ) → all_have_owner core code number count ≡ all_have_owner (frame_of core) code number count
unfolding has_owner
owners_same core code number zero = refl
owners_same core code number (suc count) = ap (option_or (has_owner core code number)) (owners_same core code (number + 1) count)

run_same : (core : Core) (code : ℕ) (run : Run) → run_has_owner core code run ≡ run_has_owner (frame_of core) code run
unfolding run_has_owner
run_same core code run = owners_same core code (chunk_number run.segment run.chunk) (chunks_for run.size)

post_same : (core : Core) (at : ℕ → Option Stream) → Agrees core.seats at → (seat queue item stream : ℕ)
    → may_post core seat queue item stream ≡ may_post_known (frame_of core) (at stream) seat queue item
unfolding may_post
post_same core at agrees seat queue item stream = rw (agrees.drawn seat stream, agrees.posted seat stream) refl

send_same : (core : Core) (at : ℕ → Option Stream) → Agrees core.seats at → (seat queue item stream : ℕ)
    → may_send core seat queue item stream ≡ may_send_known (frame_of core) (at stream) seat queue item stream
unfolding may_send
send_same core at agrees seat queue item stream =
    rw (agrees.takers seat stream, agrees.posted (queue - 1) stream, agrees.last_sent stream, agrees.closed stream, agrees.sent stream) refl

arm_same : (core : Core) (at : ℕ → Option Stream) → Agrees core.seats at → (seat queue item stream : ℕ)
    → may_arm core seat queue item stream ≡ may_arm_known (frame_of core) (at stream) seat queue item stream
unfolding may_arm
arm_same core at agrees seat queue item stream = rw (post_same core at agrees seat queue item stream, send_same core at agrees seat queue item stream) refl

abandon_same : (core : Core) (at : ℕ → Option Stream) → Agrees core.seats at → (seat stream : ℕ)
    → may_abandon core seat stream ≡ may_abandon_known (at stream) seat
unfolding may_abandon
abandon_same core at agrees seat stream =
    rw (agrees.posted seat stream, agrees.taken stream, agrees.cancelled seat stream, agrees.abandoned seat stream)
    (ap (λ b. unless b 11 1 0) (guard_all (posted_by seat (at stream)) _ _ _ _ (λ e. agrees.received seat stream (posted_drawn seat (at stream) e))))

role_one : (core : Core) (seat : ℕ) → is_either core seat ≡ None → (role_of core seat == 0) ≡ false → role_of core seat ≡ 1
unfolding is_either
role_one core seat either other =
    let le : role_of core seat ≤ 1 = leb-true (role_of core seat) 1 (test_of _ _ _ _ either) in
    let ne : role_of core seat ≢ 0 = eqb-false (role_of core seat) 0 other in
    omega (arith, le, ne)

win_same : (core : Core) (at : ℕ → Option Stream) → Agrees core.seats at → IsReached core at → (seat queue item stream : ℕ)
    → is_either core seat ≡ None → has_tag core queue item stream ≡ None → (stream == 0) ≡ false → (b : Bool) → (queue == 0) ≡ b
    → (if b then may_win_request core seat queue item stream else may_win_part core seat queue item stream)
    ≡ (if b then (if role_of core seat == 0 then posted_by seat (at stream) else holds core seat queue item) else holds core seat queue item && (if role_of core seat == 0 then queue == 1 + seat else true))
unfolding has_tag
win_same core at agrees reached seat queue item stream either tag some true e = rw (agrees.posted seat stream) refl
win_same core at agrees reached seat queue item stream either tag some false e =
    let is_tag : (item_of core queue item).tag ≡ stream = eqb-true _ _ (test_of _ _ _ _ tag) in
    let ne : stream ≢ 0 = eqb-false stream 0 some in
    guard_else (holds core seat queue item) (role_of core seat == 0) (queue == 1 + seat) _
    (λ h r.
    let here : whereabouts_code (item_of core queue item).whereabouts ≡ 1 + seat = eqb-true _ _ h in
    let back : queue ≢ 0 = eqb-false queue 0 e in
    let P : ℕ → Type 0 = λ t. list_any (is_same_part (part_of t (item_of core queue item))) (seat_of core seat).sent ≡ true in
    subst P is_tag (reached.held queue item seat back here (role_one core seat either r) (λ z. ne (sym is_tag ∙ z))))

settle_same : (core : Core) (at : ℕ → Option Stream) → Agrees core.seats at → IsReached core at → (seat queue item stream : ℕ)
    → is_either core seat ≡ None → has_tag core queue item stream ≡ None
    → may_settle core seat queue item stream ≡ may_settle_known (frame_of core) (at stream) seat queue item stream
unfolding may_settle
settle_same core at agrees reached seat queue item stream either tag =
    ap (λ b. unless b 11 1 0) (guard_not (stream == 0) _ _ (λ some. win_same core at agrees reached seat queue item stream either tag some (queue == 0) refl))

pub same_unmet : (core : Core) (at : ℕ → Option Stream) → Agrees core.seats at → IsReached core at → (step : Step)
    → first_unmet core step ≡ first_unmet_known (frame_of core) at step
unfolding conditions_by is_engine is_worker is_either is_next_stream is_in_segments is_open has_owner may_open may_fill may_empty may_use is_first_free_place is_first_free_item is_first_line_place is_first_line_item is_next_line_place is_next_free_place seat_holds has_tag is_tagged fits_side
same_unmet core at agrees reached (Draw seat stream) = refl
same_unmet core at agrees reached (Claim seat segment chunk) = refl
same_unmet core at agrees reached (Release seat segment chunk) = refl
same_unmet core at agrees reached (Open seat count) = refl
same_unmet core at agrees reached (GetItem seat queue item place) = refl
same_unmet core at agrees reached (SetRun seat queue item run) = rw (run_same core (1 + seat) run) refl
same_unmet core at agrees reached (SetPart seat queue item part) = refl
same_unmet core at agrees reached (Arm seat queue item stream) =
    rw (run_same core (1 + seat) (item_of core queue item).run, arm_same core at agrees seat queue item stream) refl
same_unmet core at agrees reached (Push seat queue item place) = refl
same_unmet core at agrees reached (Pop seat queue item place) = refl
same_unmet core at agrees reached (Settle seat queue item stream) =
    under (is_either core seat) _ _ (λ either.
    under (may_use core queue item) _ _ (λ there.
    under (has_tag core queue item stream) _ _ (λ tag.
    ap (λ o. option_or o None) (settle_same core at agrees reached seat queue item stream either tag))))
same_unmet core at agrees reached (GiveItem seat queue item place) = refl
same_unmet core at agrees reached (Abandon seat stream) = rw (abandon_same core at agrees seat stream) refl
