-- The steps of requests in the plain shape are a legal trace: their numbers fit their types, and behind them the machine is at rest.
use Rattle.std.proofs.Common.{ℕ, zero, suc, ◌+◌, ◌*◌, ◌==◌, ◌≡◌, ◌≤◌, ◌<◌, ◌^◌, ◌⊎◌, inl, inr, ◌&&◌, ◌||◌, not, Bool, true, false, refl, sym, ap, ◌∙◌, subst, arith, List, [], ◌∷◌, ◌++◌, length, map, get_or, cond, count_by}
use Rattle.std.proofs.lemmas.Bool.{cases_Bool}
use Rattle.std.proofs.lemmas.List.Sums.{sum_by-cons}
use Rattle.std.proofs.lemmas.Nat.{mod_below}
use Rattle.std.specs.List.{list_any, range_with_len}
use Rattle.plain_fabric.proofs.Visits.{seats_are_two, worker_role}
use Rattle.plain_fabric.specs.AtRest.{HasNothingOpen, IsAtRest}
use Rattle.plain_fabric.specs.Laws as passing
use Rattle.plain_fabric.specs.Laws.{AllCanPass, HasOnePair, TraceLaw, parts_of_all}
use Rattle.plain_fabric.specs.Schedule.{Passed, Answered, HungUp, cancelling, claims, freeing, giving, item_of_message, part_message, part_steps, posting, releases, request_message, run_of_message, sending, steps_of, taking, trace_from, trace_of, winning}
use Rattle.plain_fabric.specs.declared.message.Message.{Message}
use Rattle.trace_check.specs.ReadBack.{FitsOnItem}
use Rattle.trace_check.specs.Traces as lines
use Rattle.trace_check.specs.Traces.{AllFit, IsTraceOf, Say}
use Rattle.trace_check.specs.Verdicts.{is_free, is_left_open, legal, lines_of, plain_shape, streams_that, tally_of, verdict_of}
use Rattle.trace_check.specs.declared.verdict.Verdict.{Verdict}
use Rattle.unit_model.proofs.RoleLists.{seats_at_first, seats_by_role_stay}
use Rattle.unit_model.specs.ByRole.{SeatsByRole}
use Rattle.unit_model.specs.Conditions.{has_stream}
use Rattle.unit_model.specs.Core.{role_of, seat_of}
use Rattle.unit_model.specs.Effects.{after_step}
use Rattle.unit_model.specs.Holding.{first_segment, items_of}
use Rattle.unit_model.specs.Opening.{opened_core}
use Rattle.unit_model.specs.Running.{AllEnabled, after_steps}
use Rattle.unit_model.specs.Runs.{chunks_for}
use Rattle.unit_model.specs.Weights.{weigh}
use Rattle.unit_model.specs.declared.machine.Core.{Core}
use Rattle.unit_model.specs.declared.machine.Owner.{Owner}
use Rattle.unit_model.specs.declared.machine.Owner.TheVariants.{Free}
use Rattle.unit_model.specs.declared.machine.Seat.{Seat as SeatLists}
use Rattle.unit_model.specs.declared.machine.Step.{Step}
use Rattle.unit_model.specs.declared.machine.Step.TheVariants.{Claim, Release}
use Rattle.unit_model.specs.declared.shape.Shape.{Shape}
use Rattle.unit_top.specs.Laws.{EndsAtRest, TracesAreLegal}

-- ---- numbers

both_fit : (steps more : List Step) → AllFit steps → AllFit more → AllFit (steps ++ more)
both_fit [] more first second = second
both_fit (step ∷ steps) more first second = (first.0, both_fit steps more first.1 second)

claims_from : (seat segment : ℕ) → seat ≤ 1 → segment ≤ 1 → (count first : ℕ) → first + count ≤ 640 → AllFit (map (Claim seat segment) (range_with_len first count))
claims_from seat segment one low zero first short = tt
claims_from seat segment one low (suc count) first short =
    ((omega (arith, one), omega (arith, low), omega (arith, short)), claims_from seat segment one low count (first + 1) (omega (arith, short)))

releases_from : (seat segment : ℕ) → seat ≤ 1 → segment ≤ 1 → (count first : ℕ) → first + count ≤ 640 → AllFit (map (Release seat segment) (range_with_len first count))
releases_from seat segment one low zero first short = tt
releases_from seat segment one low (suc count) first short =
    ((omega (arith, one), omega (arith, low), omega (arith, short)), releases_from seat segment one low count (first + 1) (omega (arith, short)))

-- a message of a request or of a part
record IsSmall (m : Message) : Type 0 where
  from : m.from ≤ 1
  to : m.to ≤ 1
  queue : m.queue ≤ 1
  before : m.before ≤ 2 ^ 61
  size : m.size ≤ 10485760
  part : m.part < 2 ^ 64
  stream : m.stream < 2 ^ 64

module _ (m : Message) (small : IsSmall m) where
  items_are : items_of plain_shape m.queue ≡ 8
  items_are = elim (cases_Bool (m.queue == 0)) [ inl line ↦ rw line refl | inr back ↦ rw back refl ]

  segment_low : first_segment plain_shape m.queue ≤ 1
  segment_low = elim (cases_Bool (m.queue == 0)) [
    | inl line ↦ let is : first_segment plain_shape m.queue ≡ 0 = rw line refl in omega (arith, is)
    | inr back ↦ let is : first_segment plain_shape m.queue ≡ 1 = rw back refl in omega (arith, is)
  ]

  on_item : (seat number : ℕ) → seat ≤ 1 → number < 2 ^ 64 → FitsOnItem seat m.queue (item_of_message plain_shape m) number
  on_item seat number one low =
      let item : item_of_message plain_shape m < items_of plain_shape m.queue = mod_below m.before (items_of plain_shape m.queue) (omega (arith, items_are)) in
      (omega (arith, one), omega (arith, small.queue), omega (arith, item, items_are), low)

  place_low : 8 + m.before < 2 ^ 64
  place_low = omega (arith, small.before)

  behind_low : 8 + items_of plain_shape m.queue + m.before < 2 ^ 64
  behind_low = omega (arith, small.before, items_are)

  few_chunks : 0 + chunks_for m.size ≤ 640
  few_chunks = omega (arith, small.size)

  releases_fit : (seat : ℕ) → seat ≤ 1 → AllFit (releases seat (run_of_message plain_shape m))
  releases_fit seat one = releases_from seat (first_segment plain_shape m.queue) one segment_low (chunks_for m.size) 0 few_chunks

  posting_fits : AllFit (posting plain_shape m)
  posting_fits =
      let on : (number : ℕ) → number < 2 ^ 64 → FitsOnItem m.from m.queue (item_of_message plain_shape m) number = λ number. on_item m.from number small.from in
      let at = on (8 + m.before) place_low in
      (at, ((at.0, at.1, at.2, omega (arith, segment_low), omega arith, omega (arith, small.size)), (on m.part small.part, (on m.stream small.stream, (at, tt)))))

  sending_fits : AllFit (sending plain_shape m)
  sending_fits =
      both_fit (claims m.from (run_of_message plain_shape m)) (posting plain_shape m)
      (claims_from m.from (first_segment plain_shape m.queue) small.from segment_low (chunks_for m.size) 0 few_chunks) posting_fits

  freeing_fits : AllFit (freeing plain_shape m)
  freeing_fits =
      both_fit (releases m.to (run_of_message plain_shape m)) (giving plain_shape m ∷ []) (releases_fit m.to small.to)
      (on_item m.to (8 + items_of plain_shape m.queue + m.before) small.to behind_low, tt)

  taking_fits : AllFit (taking plain_shape m)
  taking_fits =
      both_fit (winning plain_shape m) (freeing plain_shape m)
      (on_item m.to (8 + m.before) small.to place_low, (on_item m.to m.stream small.to small.stream, tt)) freeing_fits

  message_fits : AllFit (sending plain_shape m ++ taking plain_shape m)
  message_fits = both_fit (sending plain_shape m) (taking plain_shape m) sending_fits taking_fits

  cancelling_fits : AllFit (cancelling plain_shape m)
  cancelling_fits = (
    on_item m.from m.stream small.from small.stream,
    both_fit (releases m.from (run_of_message plain_shape m)) _ (releases_fit m.from small.from)
        (on_item m.to (8 + m.before) small.to place_low, (on_item m.to (8 + items_of plain_shape m.queue + m.before) small.to behind_low, tt)),
  )

  cancelled_fits : AllFit (sending plain_shape m ++ cancelling plain_shape m)
  cancelled_fits = both_fit (sending plain_shape m) (cancelling plain_shape m) sending_fits cancelling_fits

request_small : (drawn size : ℕ) → drawn ≤ 2 ^ 48 → size ≤ 10485760 → IsSmall (request_message drawn size)
request_small drawn size few short = record {
  from = omega arith;
  to = omega arith;
  queue = omega arith;
  before = omega (arith, few);
  size = short;
  part = omega arith;
  stream = omega (arith, few);
}

part_small : (drawn sent number size : ℕ) (last : Bool) → drawn ≤ 2 ^ 48 → sent ≤ 2 ^ 61 → number ≤ 2 ^ 20 → size ≤ 10485760 → IsSmall (part_message drawn sent number last size)
part_small drawn sent number size last few few_sent low short = record {
  from = omega arith;
  to = omega arith;
  queue = omega arith;
  before = few_sent;
  size = short;
  part = word_low last;
  stream = omega (arith, few);
}
  where
    word_low : (l : Bool) → (part_message drawn sent number l size).part < 2 ^ 64
    word_low true = omega (arith, low)
    word_low false = omega (arith, low)

parts_fit : (drawn : ℕ) → drawn ≤ 2 ^ 48 → (sizes : List ℕ) (sent number : ℕ) → passing.AllFit sizes → sent + length sizes ≤ 2 ^ 61 → number + length sizes ≤ 2 ^ 20
    → AllFit (part_steps plain_shape drawn sent number sizes)
parts_fit drawn few [] sent number fit room low = tt
parts_fit drawn few (size ∷ sizes) sent number fit room low =
    let last = length sizes == 0 in
    let m : Message = part_message drawn sent number last size in
    both_fit (sending plain_shape m ++ taking plain_shape m) (part_steps plain_shape drawn (sent + 1) (number + 1) sizes)
    (message_fits m (part_small drawn sent number size last few (omega (arith, room)) (omega (arith, low)) (omega (arith, fit.0.1))))
    (parts_fit drawn few sizes (sent + 1) (number + 1) fit.1 (omega (arith, room)) (omega (arith, low)))

one_fits : (passed : Passed) (drawn sent : ℕ) → drawn + 1 ≤ 2 ^ 48 → sent ≤ 4096 * drawn → passing.CanPass passed → AllFit (steps_of plain_shape drawn sent passed)
one_fits (Answered size sizes) drawn sent few few_sent can =
    let m = request_message drawn size in
    let small = request_small drawn size (omega (arith, few)) (omega (arith, can.0.1)) in (
      (omega arith, omega (arith, few)),
      both_fit (sending plain_shape m ++ taking plain_shape m) (part_steps plain_shape drawn sent 0 sizes) (message_fits m small)
          (parts_fit drawn (omega (arith, few)) sizes sent 0 can.1 (omega (arith, few, few_sent, can.3)) (omega (arith, can.3))),
    )
one_fits (HungUp size) drawn sent few few_sent can =
    ((omega arith, omega (arith, few)), cancelled_fits (request_message drawn size) (request_small drawn size (omega (arith, few)) (omega (arith, can.1))))

all_fit : (requests : List Passed) (drawn sent : ℕ) → drawn + length requests ≤ 2 ^ 48 → sent ≤ 4096 * drawn → AllCanPass requests → AllFit (trace_from plain_shape drawn sent requests)
all_fit [] drawn sent room few can = tt
all_fit (Answered size sizes ∷ more) drawn sent room few can =
    both_fit (steps_of plain_shape drawn sent (Answered size sizes)) (trace_from plain_shape (drawn + 1) (sent + length sizes) more)
    (one_fits (Answered size sizes) drawn sent (omega (arith, room)) few can.0)
    (all_fit more (drawn + 1) (sent + length sizes) (omega (arith, room)) (omega (arith, few, can.0.3)) can.1)
all_fit (HungUp size ∷ more) drawn sent room few can =
    both_fit (steps_of plain_shape drawn sent (HungUp size)) (trace_from plain_shape (drawn + 1) (sent + 0) more)
    (one_fits (HungUp size) drawn sent (omega (arith, room)) few can.0)
    (all_fit more (drawn + 1) (sent + 0) (omega (arith, room)) (omega (arith, few)) can.1)

-- ---- at rest

free_count : (owners : List Owner) → ((number : ℕ) → get_or owners number Free ≡ Free) → count_by is_free owners ≡ length owners
free_count [] all = refl
free_count (owner ∷ owners) all =
    let weight : Owner → ℕ = λ o. cond (is_free o) 1 0 in
    let one : weight owner ≡ 1 = ap weight (all 0) in
    let more : count_by is_free (owner ∷ owners) ≡ weight owner + count_by is_free owners = sum_by-cons weight owner owners in
    omega (arith, one, more, free_count owners (λ n. all (suc n)))

none_that : (test : ℕ → Bool) (xs : List ℕ) → ((x : ℕ) → test x ≡ false) → count_by test xs ≡ 0
none_that test [] none = refl
none_that test (x ∷ xs) none = rw (none x) (none_that test xs none)

-- an engine that has nothing open has left none open
none_open : (lists : SeatLists) → HasNothingOpen lists → (stream : ℕ) → is_left_open lists stream ≡ false
none_open lists ends stream =
    by (has_stream stream lists.posted) (list_any (λ part. part.stream == stream && part.last) lists.received) (has_stream stream lists.cancelled) (has_stream stream lists.abandoned)
    (ap (has_stream stream) ends.abandoned) (ends.ended stream)
  where
    by : (posted received cancelled abandoned : Bool) → abandoned ≡ false → (posted ≡ true → (cancelled ≡ true) ⊎ (received ≡ true))
        → (posted && not ((received && not abandoned) || (cancelled || abandoned))) ≡ false
    by false received cancelled abandoned kept ended = refl
    by true true cancelled false kept ended = refl
    by true false true false kept ended = refl
    by true false false false kept ended = elim (ended refl) [ inl is ↦ absurd (cc is) | inr is ↦ absurd (cc is) ]
    by true received cancelled true kept ended = absurd (cc kept)

roles_behind : (core : Core) (steps : List Step) → SeatsByRole core → AllEnabled core steps → SeatsByRole (after_steps core steps)
roles_behind core [] roles all = roles
roles_behind core (step ∷ steps) roles all = roles_behind (after_step core step) steps (seats_by_role_stay core step roles all.0) all.1

module _ (core : Core) (drawn sent : ℕ) (rest : IsAtRest core drawn sent) (roles : SeatsByRole core) where
  all_closed : streams_that is_left_open core ≡ 0
  all_closed =
      let left : SeatLists → ℕ = λ lists. count_by (is_left_open lists) lists.drawn in
      let engine : left (seat_of core 0) ≡ 0 = none_that (is_left_open (seat_of core 0)) (seat_of core 0).drawn (none_open (seat_of core 0) rest.nothing_open) in
      let role : role_of core 1 ≡ 1 = worker_role core.shape rest.engines rest.workers core refl in
      let idle : (seat_of core 1).drawn ≡ [] = ((roles 1).engine (omega (arith, role))).0 in
      let worker : left (seat_of core 1) ≡ 0 = ap (count_by (is_left_open (seat_of core 1))) idle in
      ap (weigh left) (seats_are_two core.shape rest.engines rest.workers core rest.sound refl) ∙ omega (arith, engine, worker)

  all_free : count_by is_free core.owners ≡ (tally_of core).chunks
  all_free = free_count core.owners rest.chunks ∙ rest.sound.held.shape.chunks

-- ---- the law

plain_pair : HasOnePair plain_shape
plain_pair = record {
  valid = record {
    items = (omega arith, omega arith);
    back_items = (omega arith, omega arith);
    out_segments = (omega arith, omega arith);
    back_segments = (omega arith, omega arith);
    engines = (omega arith, omega arith);
    workers = (omega arith, omega arith);
    room_before = omega arith;
    room_behind = omega arith;
  };
  engines = refl;
  workers = refl;
}

pub all_legal : TraceLaw → ((shape : Shape) (steps : List Step) (bytes : List ℕ) → IsTraceOf shape steps bytes → Say (lines_of bytes) shape steps)
    → ((bytes : List ℕ) (shape : Shape) (steps : List Step) → Say (lines_of bytes) shape steps → AllEnabled (opened_core shape) steps
    → verdict_of bytes ≡ legal (length steps) (tally_of (after_steps (opened_core shape) steps)))
    → TracesAreLegal
all_legal runs reads judged requests can few =
    let steps = trace_of plain_shape requests in
    let core = after_steps (opened_core plain_shape) steps in
    let run = runs plain_shape requests plain_pair can few in
    let said = reads plain_shape steps (lines.trace_of steps) (all_fit requests 0 0 (omega (arith, few)) (omega arith) can, inl (refl, refl)) in
    let roles = roles_behind (opened_core plain_shape) steps (seats_at_first plain_shape) run.0 in
    subst (λ (v : Verdict). EndsAtRest v (length steps)) (sym (judged (lines.trace_of steps) plain_shape steps said run.0))
    (refl, all_free core (length requests) (parts_of_all requests) run.1 roles, all_closed core (length requests) (parts_of_all requests) run.1 roles)
