-- What became of each stream, and how many streams became it.
use Rattle.std.proofs.Common.{◌≡◌, ℕ, zero, suc, ◌+◌, ◌-◌, ◌<◌, ◌≤◌, ◌==◌, ◌&&◌, ◌||◌, not, Bool, true, false, List, [], ◌∷◌, get_or, refl, sym, ap, ◌∙◌, arith, inl, inr}
use Rattle.std.specs.Prelude.{Contains}
use Rattle.std.specs.List.{list_any}
use Rattle.std.proofs.lemmas.Bool.{cases_eq, cases_lt, and_parts, cases_Bool}
use Rattle.unit_model.specs.Conditions.{has_stream}
use Rattle.unit_model.specs.Core.{seat_of, no_seat}
use Rattle.unit_model.specs.CountLaws.{StreamsAddUp}
use Rattle.unit_model.specs.PartCounts.{PartCounts, no_part, of_stream, received, parts_by_seat}
use Rattle.unit_model.specs.StreamAccount.{is_in, is_accepted, is_cancelled, is_abandoned, is_refused, is_left_open, EachStreamIsOne, streams_that, entries_in, AccountIsWhole, EntriesAreStreams}
use Rattle.unit_model.specs.StreamCounts.{StreamCounts, by_seat, by_all, drawn, posted, cancelled, abandoned, taken}
use Rattle.unit_model.specs.Weights.{weigh, one_if, is_number, times, over_all, below}
use Rattle.unit_model.specs.declared.machine.Core.{Core}
use Rattle.unit_model.specs.declared.machine.Part.{Part}
use Rattle.unit_model.specs.declared.machine.Seat.{Seat as SeatLists}
use Rattle.unit_model.proofs.Changes.{any_counts}
use Rattle.unit_model.proofs.Members.{counts_in_all, weigh_members, weight_of_member}
use Rattle.unit_model.proofs.PartPoints.{received_was_sent, sender_takes}
use Rattle.unit_model.proofs.PartSteps.{of_this}
use Rattle.unit_model.proofs.SeatNotes.{has_counts, has_not_counts, is_there_of, seat_in_all, all_less, all_less_at}
use Rattle.unit_model.proofs.StreamLaw.{not_true}
use Rattle.unit_model.proofs.StreamPoints.{state_is_posted}
use Rattle.unit_model.proofs.StreamSteps.{drawn_at_most_once, posted_at_most_once}
use Rattle.unit_model.proofs.Weights.{is_number_other, weigh_le, weigh-below, below_same, below-sum, below_is, below_none}

-- ---- lists of all seats

any_in_all : (list : SeatLists → List ℕ) (stream : ℕ) (seats : List SeatLists) → list_any (λ lists. has_stream stream (list lists)) seats ≡ true → 1 ≤ over_all (is_number stream) list seats
any_in_all list stream [] any = absurd (cc any)
any_in_all list stream (l ∷ seats) any =
    elim (cases_Bool (has_stream stream (list l))) [
      | inl here ↦ omega (arith, has_counts stream (list l) here)
      | inr away ↦ omega (arith, any_in_all list stream seats (rw away at any))
    ]

none_in_all : (list : SeatLists → List ℕ) (stream : ℕ) (seats : List SeatLists) → list_any (λ lists. has_stream stream (list lists)) seats ≡ false → over_all (is_number stream) list seats ≡ 0
none_in_all list stream [] none = refl
none_in_all list stream (l ∷ seats) none =
    elim (cases_Bool (has_stream stream (list l))) [
      | inl here ↦ absurd (cc (rw here at none))
      | inr away ↦ omega (arith, has_not_counts stream (list l) away, none_in_all list stream seats (rw away at none))
    ]

-- where a stream stands at most once, the test counts it
pub counted_once : (list : SeatLists → List ℕ) (core : Core) (stream : ℕ) → by_all list core stream ≤ 1 → one_if (is_in list core stream) ≡ by_all list core stream
counted_once list core stream once =
    elim (cases_Bool (is_in list core stream)) [
      | inl some ↦ omega (arith, ap one_if some, once, any_in_all list stream core.seats some)
      | inr none ↦ omega (arith, ap one_if none, none_in_all list stream core.seats none)
    ]

-- ---- an accepted stream

accepting : (stream : ℕ) (seats : List SeatLists) → list_any (λ lists. list_any (λ part. part.stream == stream && part.last) lists.received && not (has_stream stream lists.abandoned)) seats ≡ true → (seat : ℕ) × (1 ≤ weigh (λ part. one_if (part.stream == stream && part.last)) (get_or seats seat no_seat).received) × (times stream (get_or seats seat no_seat).abandoned ≡ 0)
accepting stream [] any = absurd (cc any)
accepting stream (l ∷ seats) any =
    let received_last = list_any (λ part. part.stream == stream && part.last) l.received in
    let kept = not (has_stream stream l.abandoned) in
    elim (cases_Bool (received_last && kept)) [
      | inl here ↦
          let tests = and_parts received_last kept here in
          (0, any_counts (λ part. part.stream == stream && part.last) l.received tests.0, has_not_counts stream l.abandoned (not_true (has_stream stream l.abandoned) tests.1))
      | inr away ↦
          let rest = accepting stream seats (rw away at any) in
          (suc (rest.0), rest.1, rest.2)
    ]

one_less : (a b : Bool) → one_if (a && b) ≤ one_if a
one_less true true = omega arith
one_less true false = omega arith
one_less false b = omega arith

last_is_of : (stream : ℕ) (part : Part) → one_if (part.stream == stream && part.last) ≤ of_stream stream part
last_is_of stream part = one_less (part.stream == stream) part.last

-- what a seat received was taken
received_taken : (core : Core) → PartCounts core → (seat stream : ℕ) → 1 ≤ parts_by_seat received core seat stream → 1 ≤ by_all taken core stream
received_taken core parts seat stream some =
    let found = weight_of_member (of_stream stream) (seat_of core seat).received no_part some in
    let this : (found.0).stream ≡ stream = of_this (found.0).stream stream (found.0).number (found.0).last found.2 in
    let sent_it = received_was_sent core parts seat found.0 found.1 in
    let takes = sender_takes core parts (sent_it.0) found.0 sent_it.1 in
    let has : 1 ≤ by_all taken core (found.0).stream = omega (arith, takes, seat_in_all taken core (sent_it.0) (found.0).stream refl) in
    rw this at has

-- it was posted by a seat that hasn't abandoned it, and taken
accepted_facts : (core : Core) → StreamCounts core → PartCounts core → (stream : ℕ) → is_accepted core stream ≡ true → (by_all posted core stream ≡ 1) × (by_all cancelled core stream ≡ 0) × (by_all abandoned core stream ≡ 0)
accepted_facts core counts parts stream accepted =
    let found = accepting stream core.seats accepted in
    let seat : ℕ = found.0 in
    let last : ℕ = weigh (λ part. one_if (part.stream == stream && part.last)) (seat_of core seat).received in
    let some : 1 ≤ parts_by_seat received core seat stream = omega (arith, found.1, weigh_le (λ part. one_if (part.stream == stream && part.last)) (of_stream stream) (seat_of core seat).received (last_is_of stream)) in
    let posts : 1 ≤ by_seat posted core seat stream = parts.received_by_poster seat stream some in
    let once = posted_at_most_once core counts stream in
    let all : by_all posted core stream ≡ 1 = omega (arith, once, posts, seat_in_all posted core seat stream refl) in
    let is_taken : 1 ≤ by_all taken core stream = received_taken core parts seat stream some in
    let inside = is_there_of (is_number stream) posted core seat refl posts in
    (all, omega (arith, is_taken, state_is_posted core counts stream, all), omega (arith, all, posts, found.2, all_less_at abandoned posted core stream seat inside (λ k. counts.abandoned_by_poster k stream)))

-- ---- each stream is one of them

one_of_all : (accepted is_cancelled is_abandoned is_posted : Bool) → (accepted ≡ true → is_posted ≡ true) → (is_cancelled ≡ true → is_posted ≡ true) → (is_abandoned ≡ true → is_posted ≡ true) → (accepted ≡ true → is_cancelled ≡ false) → (accepted ≡ true → is_abandoned ≡ false) → (is_abandoned ≡ true → is_cancelled ≡ false) → one_if accepted + one_if is_cancelled + one_if is_abandoned + one_if (not is_posted) + one_if (is_posted && not (accepted || (is_cancelled || is_abandoned))) ≡ 1
one_of_all true true b p ap cp bp ac ab bc = absurd (cc (ac refl))
one_of_all true false true p ap cp bp ac ab bc = absurd (cc (ab refl))
one_of_all true false false true ap cp bp ac ab bc = refl
one_of_all true false false false ap cp bp ac ab bc = absurd (cc (ap refl))
one_of_all false true true p ap cp bp ac ab bc = absurd (cc (bc refl))
one_of_all false true false true ap cp bp ac ab bc = refl
one_of_all false true false false ap cp bp ac ab bc = absurd (cc (cp refl))
one_of_all false false true true ap cp bp ac ab bc = refl
one_of_all false false true false ap cp bp ac ab bc = absurd (cc (bp refl))
one_of_all false false false true ap cp bp ac ab bc = refl
one_of_all false false false false ap cp bp ac ab bc = refl

-- what counts is there, and what doesn't isn't
test_true : (b : Bool) → 1 ≤ one_if b → b ≡ true
test_true true some = refl
test_true false some = absurd (omega (arith, some))

test_false : (b : Bool) → one_if b ≡ 0 → b ≡ false
test_false true none = absurd (omega (arith, none))
test_false false none = refl

pub each_is_one : (core : Core) → StreamCounts core → PartCounts core → EachStreamIsOne core
each_is_one core counts parts stream low high =
    let once = posted_at_most_once core counts stream in
    let state = state_is_posted core counts stream in
    let drawn_there : is_in drawn core stream ≡ true = test_true (is_in drawn core stream) (omega (arith, counted_once drawn core stream (drawn_at_most_once core counts stream), counts.drawn_once stream low high)) in
    let p = counted_once posted core stream once in
    let c = counted_once cancelled core stream (omega (arith, once, state)) in
    let a_le = counts.abandoned_is_taken stream in
    let a = counted_once abandoned core stream (omega (arith, a_le, once, state)) in
    let taken_when : is_abandoned core stream ≡ true → 1 ≤ by_all taken core stream = λ is. omega (arith, ap one_if is, a, a_le) in
    rw drawn_there (one_of_all (is_accepted core stream) (is_cancelled core stream) (is_abandoned core stream) (is_in posted core stream)
    (λ is. test_true (is_in posted core stream) (omega (arith, p, (accepted_facts core counts parts stream is).0)))
    (λ is. test_true (is_in posted core stream) (omega (arith, p, ap one_if is, c, state)))
    (λ is. test_true (is_in posted core stream) (omega (arith, p, taken_when is, state)))
    (λ is. test_false (is_cancelled core stream) (omega (arith, c, (accepted_facts core counts parts stream is).1)))
    (λ is. test_false (is_abandoned core stream) (omega (arith, a, (accepted_facts core counts parts stream is).2)))
    (λ is. test_false (is_cancelled core stream) (omega (arith, c, taken_when is, state, once))))

-- ---- the numbers

mirrored : (n x : ℕ) → is_number n x ≡ is_number x n
mirrored n x =
    elim (cases_eq x n) [
      | inl same ↦ ap (is_number n) same ∙ sym (ap (λ m. is_number m n) same)
      | inr other ↦ is_number_other n x other ∙ sym (is_number_other x n (λ same. other (sym same)))
    ]

-- the entries of a list are its streams, where all are below the next one
list_entries : (next : ℕ) (streams : List ℕ) → ((x : ℕ) → Contains streams x → x < next) → weigh (λ x. 1) streams ≡ below (λ stream. times stream streams) next
list_entries next streams small =
    let each : weigh (λ x. 1) streams ≡ weigh (λ x. below (λ stream. is_number stream x) next) streams =
    weigh_members (λ x. 1) (λ x. below (λ stream. is_number stream x) next) streams (λ x here.
    sym (below_same (λ stream. is_number stream x) (is_number x) next (λ stream lt. mirrored stream x) ∙ below_is next x (small x here))) in
    each ∙ weigh-below (λ x stream. is_number stream x) next streams

seat_entries : (list : SeatLists → List ℕ) (next : ℕ) (seats : List SeatLists) → ((seat x : ℕ) → Contains (list (get_or seats seat no_seat)) x → x < next) → over_all (λ x. 1) list seats ≡ below (λ stream. over_all (is_number stream) list seats) next
seat_entries list next [] small = sym (below_none (λ stream. 0) next (λ stream lt. refl))
seat_entries list next (l ∷ seats) small =
    omega (arith, list_entries next (list l) (small 0), seat_entries list next seats (λ k. small (suc k)), below-sum (λ stream. times stream (list l)) (λ stream. over_all (is_number stream) list seats) next)

-- what was drawn is below the next one
drawn_below : (core : Core) → StreamCounts core → (stream : ℕ) → 1 ≤ by_all drawn core stream → stream < core.next
drawn_below core counts stream some =
    elim (cases_lt stream core.next) [
      | inl below_next ↦ below_next
      | inr above ↦ absurd (omega (arith, some, counts.no_other stream (inr above)))
    ]

not_accepted : (core : Core) → StreamCounts core → PartCounts core → (stream : ℕ) → by_all posted core stream ≡ 0 → is_accepted core stream ≡ false
not_accepted core counts parts stream none =
    elim (cases_Bool (is_accepted core stream)) [
      | inr is ↦ is
      | inl accepted ↦ absurd (omega (arith, none, (accepted_facts core counts parts stream accepted).0))
    ]

-- what stands no more often than among the drawn ones counts streams
entries_of : (list : SeatLists → List ℕ) (core : Core) → StreamCounts core → list no_seat ≡ [] → ((stream : ℕ) → by_all list core stream ≤ by_all drawn core stream) → entries_in list core ≡ streams_that (is_in list) core
entries_of list core counts none le =
    seat_entries list core.next core.seats (λ k x here. drawn_below core counts x (omega (arith, counts_in_all list core k x none here, le x)))
    ∙ below_same (λ stream. by_all list core stream) (λ stream. one_if (is_in list core stream)) core.next (λ stream lt.
    sym (counted_once list core stream (omega (arith, le stream, drawn_at_most_once core counts stream))))

all_but_0 : (f : ℕ → ℕ) (n : ℕ) → f 0 ≡ 0 → ((i : ℕ) → 1 ≤ i → i < suc n → f i ≡ 1) → below f (suc n) ≡ n
all_but_0 f zero none one = omega (arith, none)
all_but_0 f (suc n) none one = omega (arith, one (suc n) (omega arith) (omega arith), all_but_0 f n none (λ i low high. one i low (omega (arith, high))))

drawn_entries : (core : Core) → StreamCounts core → entries_in drawn core + 1 ≡ core.next
drawn_entries core counts =
    let n : ℕ = core.next - 1 in
    let next : core.next ≡ suc n = omega (arith, counts.next) in
    let entries = seat_entries drawn core.next core.seats (λ k x here. drawn_below core counts x (counts_in_all drawn core k x refl here)) in
    let all = all_but_0 (λ stream. by_all drawn core stream) n (counts.no_other 0 (inl refl)) (λ i low high. counts.drawn_once i low (omega (arith, next, high))) in
    omega (arith, entries, ap (below (λ stream. by_all drawn core stream)) next, all, counts.next)

entries_are_streams : (core : Core) → StreamCounts core → EntriesAreStreams core
entries_are_streams core counts =
    let p : (stream : ℕ) → by_all posted core stream ≤ by_all drawn core stream = λ stream. all_less posted drawn core stream (λ k. counts.posted_by_drawer k stream) in
    record {
      drawn = drawn_entries core counts;
      posted = entries_of posted core counts refl p;
      cancelled = entries_of cancelled core counts refl (λ stream. omega (arith, p stream, state_is_posted core counts stream));
      abandoned = entries_of abandoned core counts refl (λ stream. omega (arith, p stream, state_is_posted core counts stream, counts.abandoned_is_taken stream));
      taken = entries_of taken core counts refl (λ stream. omega (arith, p stream, state_is_posted core counts stream));
    }

none_of_all : (accepted is_cancelled is_abandoned is_drawn is_posted : Bool) → accepted ≡ false → is_cancelled ≡ false → is_abandoned ≡ false → is_drawn ≡ false → is_posted ≡ false → one_if accepted + one_if is_cancelled + one_if is_abandoned + one_if (is_drawn && not is_posted) + one_if (is_posted && not (accepted || (is_cancelled || is_abandoned))) ≡ 0
none_of_all accepted is_cancelled is_abandoned is_drawn is_posted a c b d p = rw a (rw c (rw b (rw d (rw p refl))))

-- how many of the five the stream is
abbrev classes : Core → ℕ → ℕ
classes core stream =
    one_if (is_accepted core stream) + one_if (is_cancelled core stream) + one_if (is_abandoned core stream) + one_if (is_refused core stream) + one_if (is_left_open core stream)

zero_is_none : (core : Core) → StreamCounts core → PartCounts core → classes core 0 ≡ 0
zero_is_none core counts parts =
    let d = counts.no_other 0 (inl refl) in
    let p : by_all posted core 0 ≡ 0 = omega (arith, d, all_less posted drawn core 0 (λ k. counts.posted_by_drawer k 0)) in
    let state = state_is_posted core counts 0 in
    none_of_all (is_accepted core 0) (is_cancelled core 0) (is_abandoned core 0) (is_in drawn core 0) (is_in posted core 0)
    (not_accepted core counts parts 0 p)
    (test_false (is_cancelled core 0) (omega (arith, counted_once cancelled core 0 (omega (arith, p, state)), p, state)))
    (test_false (is_abandoned core 0) (omega (arith, counted_once abandoned core 0 (omega (arith, p, state, counts.abandoned_is_taken 0)), p, state, counts.abandoned_is_taken 0)))
    (test_false (is_in drawn core 0) (omega (arith, counted_once drawn core 0 (drawn_at_most_once core counts 0), d)))
    (test_false (is_in posted core 0) (omega (arith, counted_once posted core 0 (posted_at_most_once core counts 0), p)))

account_is_whole : (core : Core) → StreamCounts core → PartCounts core → AccountIsWhole core
account_is_whole core counts parts =
    let n : ℕ = core.next - 1 in
    let next : core.next ≡ suc n = omega (arith, counts.next) in
    let all : below (classes core) (suc n) ≡ n = all_but_0 (classes core) n (zero_is_none core counts parts) (λ i low high. each_is_one core counts parts i low (omega (arith, next, high))) in
    let a : ℕ → ℕ = λ s. one_if (is_accepted core s) in
    let c : ℕ → ℕ = λ s. one_if (is_cancelled core s) in
    let b : ℕ → ℕ = λ s. one_if (is_abandoned core s) in
    let r : ℕ → ℕ = λ s. one_if (is_refused core s) in
    let o : ℕ → ℕ = λ s. one_if (is_left_open core s) in
    omega (
      arith,
      drawn_entries core counts,
      ap (below (classes core)) next,
      all,
      below-sum (λ s. a s + c s + b s + r s) o core.next,
      below-sum (λ s. a s + c s + b s) r core.next,
      below-sum (λ s. a s + c s) b core.next,
      below-sum a c core.next,
    )

pub streams_add_up : (core : Core) → StreamCounts core → PartCounts core → StreamsAddUp core
streams_add_up core counts parts = record {
  each = each_is_one core counts parts;
  whole = account_is_whole core counts parts;
  entries = entries_are_streams core counts;
}
