-- Premises of steps from a seat's own lists.
use Rattle.std.proofs.Common.{ℕ, ◌+◌, ◌-◌, ◌≡◌, ◌≢◌, ◌≤◌, ◌<◌, ◌==◌, ◌&&◌, inl, inr, Bool, true, false, List, length, refl, sym, ap, ◌∙◌, subst, arith}
use Rattle.std.specs.List.{list_any}
use Rattle.std.proofs.lemmas.Bool.{cases_Bool, cases_lt, cases_eq, eq-eqb, ne_eqb}
use Rattle.std.proofs.lemmas.List.{get_or_past}
use Rattle.unit_model.proofs.Changes.{any_counts, none_counts, any_none_at, weigh_zero_each}
use Rattle.unit_model.proofs.PartLists.{taken_at_most_once, sent_alone}
use Rattle.unit_model.proofs.SeatNotes.{has_counts, has_not_counts, is_there_of, seat_in_all, one_seat, all_less_at}
use Rattle.unit_model.proofs.StreamPoints.{posted_some}
use Rattle.unit_model.proofs.StreamSteps.{posted_at_most_once}
use Rattle.unit_model.proofs.Weights.{weigh_le, weigh_some, is_number_other}
use Rattle.unit_model.specs.Conditions.{has_stream, is_taken, part_of, is_same_part}
use Rattle.unit_model.specs.Core.{blank, no_seat, queue_of, item_of, seat_of}
use Rattle.unit_model.specs.PartCounts.{parts_by_seat, sent, of_stream, same_part, times_sent}
use Rattle.unit_model.specs.StreamCounts.{by_seat, by_all, posted, cancelled, taken, line_tags, StreamCounts}
use Rattle.unit_model.specs.Weights.{weigh, one_if, is_number, times}
use Rattle.unit_model.specs.declared.machine.Core.{Core}
use Rattle.unit_model.specs.declared.machine.Item.{Item}
use Rattle.unit_model.specs.declared.machine.Part.{Part}
use Rattle.unit_model.specs.declared.machine.Seat.{Seat as SeatLists}
use Rattle.unit_model.specs.declared.machine.Whereabouts.TheVariants.{WithSeat}
use Rattle.unit_model.specs.OwnLists.{WasTakenLaw, WasPostedLaw, OwnSendLaw, HolderSentLaw}

-- ---- tests of all seats

seat_none : (test : SeatLists → Bool) (core : Core) → list_any test core.seats ≡ false → test no_seat ≡ false → (k : ℕ) → test (seat_of core k) ≡ false
seat_none test core none off k =
    elim (cases_lt k (length core.seats)) [
      | inl inside ↦ any_none_at test core.seats k no_seat none inside
      | inr past ↦ ap test (get_or_past core.seats k no_seat past) ∙ off
    ]

one_of : (b : Bool) → 0 < one_if b → b ≡ true
one_of true some = refl
one_of false some = absurd (omega (arith, some))

no_seat_does : (test : SeatLists → Bool) (core : Core) → ((k : ℕ) → test (seat_of core k) ≡ false) → list_any test core.seats ≡ false
no_seat_does test core each =
    elim (cases_Bool (list_any test core.seats)) [
      | inr none ↦ none
      | inl some ↦
          let found = weigh_some (λ (s : SeatLists). one_if (test s)) core.seats no_seat (omega (arith, any_counts test core.seats some)) in
          absurd (cc (one_of (test (seat_of core (found.0))) found.2, each (found.0)))
    ]

-- what is counted is there
counted_has : (stream : ℕ) (streams : List ℕ) → 1 ≤ times stream streams → has_stream stream streams ≡ true
counted_has stream streams some =
    elim (cases_Bool (has_stream stream streams)) [
      | inl has ↦ has
      | inr none ↦ absurd (omega (arith, some, has_not_counts stream streams none))
    ]

-- ---- the poster

pub was_posted : WasPostedLaw
was_posted core sound item stream tag some =
    let posts : 1 ≤ by_seat posted core (item_of core 0 item).part (item_of core 0 item).tag = sound.streams.part_is_poster item (λ none. some (sym tag ∙ none)) in
    counted_has stream (seat_of core (item_of core 0 item).part).posted (subst (λ (s : ℕ). 1 ≤ times s (seat_of core (item_of core 0 item).part).posted) tag posts)

pub was_taken : WasTakenLaw
was_taken core sound seat stream has_posted has_cancelled off =
    let counts : StreamCounts core = sound.streams in
    let posts : 1 ≤ by_seat posted core seat stream = has_counts stream (seat_of core seat).posted has_posted in
    let there : seat < length core.seats = is_there_of (is_number stream) posted core seat refl posts in
    let all : by_seat posted core seat stream ≤ by_all posted core stream = seat_in_all posted core seat stream refl in
    let some : stream ≢ 0 = posted_some core counts stream (omega (arith, posts, all)) in
    let uncancelled : by_seat cancelled core seat stream ≡ 0 = has_not_counts stream (seat_of core seat).cancelled has_cancelled in
    let none : by_all cancelled core stream ≡ 0 = omega (arith, all_less_at cancelled posted core stream seat there (λ k. counts.cancelled_by_poster k stream), posted_at_most_once core counts stream, uncancelled, posts) in
    let line : line_tags core stream ≡ 0 =
    weigh_zero_each (λ (i : Item). is_number stream i.tag) (queue_of core 0).items blank (λ i. is_number_other stream (item_of core 0 i).tag (off i)) in
    let takes : 1 ≤ by_all taken core stream = omega (arith, counts.one_state stream some, line, none, posts, all) in
    elim (cases_Bool (is_taken core stream)) [
      | inl is ↦ is
      | inr no_one ↦
          let zero_all : by_all taken core stream ≡ 0 =
          weigh_zero_each (λ (s : SeatLists). times stream s.taken) core.seats no_seat (λ k. has_not_counts stream (seat_of core k).taken (seat_none (λ (s : SeatLists). has_stream stream s.taken) core no_one refl k)) in
          absurd (omega (arith, takes, zero_all))
    ]

-- ---- the taker

less_of : (a b : Bool) → one_if (a && b) ≤ one_if a
less_of true true = omega arith
less_of true false = omega arith
less_of false b = omega arith

pub own_send : OwnSendLaw
own_send core sound seat queue item stream part back has_taken has_posted unlast unclosed number alone =
    let takes : 1 ≤ by_seat taken core seat stream = has_counts stream (seat_of core seat).taken has_taken in
    let once = taken_at_most_once core sound.streams stream in
    let is_this : (k : ℕ) → 1 ≤ by_seat taken core k stream → k ≡ seat = λ k other. one_seat taken core stream k seat refl once other takes in
    record {
      back = back;
      taken = has_taken;
      posted = has_posted;
      unfinished = no_seat_does (λ lists. list_any (λ part. part.stream == stream && part.last) lists.sent) core (λ k. elim (cases_Bool (list_any (λ part. part.stream == stream && part.last) (seat_of core k).sent)) [
        | inr none ↦ none
        | inl some ↦
            let counts : 1 ≤ parts_by_seat sent core k stream =
            omega (arith, any_counts (λ (p : Part). p.stream == stream && p.last) (seat_of core k).sent some, weigh_le (λ (p : Part). one_if (p.stream == stream && p.last)) (of_stream stream) (seat_of core k).sent (λ p. less_of (p.stream == stream) p.last)) in
            let same : k ≡ seat = is_this k (sound.parts.sent_by_taker k stream counts) in
            absurd (cc (some, ap (λ (n : ℕ). list_any (λ (p : Part). p.stream == stream && p.last) (seat_of core n).sent) same, unlast))
      ]);
      unclosed = no_seat_does (λ lists. has_stream stream lists.closed) core (λ k. elim (cases_Bool (has_stream stream (seat_of core k).closed)) [
        | inr none ↦ none
        | inl some ↦
            let same : k ≡ seat = is_this k (omega (arith, has_counts stream (seat_of core k).closed some, sound.parts.closed_by_taker k stream)) in
            absurd (cc (some, ap (λ (n : ℕ). has_stream stream (seat_of core n).closed) same, unclosed))
      ]);
      next = number ∙ sym (sent_alone core seat stream sound.streams (λ k. sound.parts.sent_by_taker k stream) (is_there_of (is_number stream) taken core seat refl takes) takes);
      alone = alone;
    }

same_stream : (part other : Part) → same_part part other ≤ of_stream part.stream other
same_stream part other = by (part.stream == other.stream) (other.stream == part.stream) _ (eq_flips part.stream other.stream)
  where
    eq_flips : (a b : ℕ) → (a == b) ≡ (b == a)
    eq_flips a b = elim (cases_eq a b) [
      | inl same ↦ eq-eqb a b same ∙ sym (eq-eqb b a (sym same))
      | inr other ↦ ne_eqb a b other ∙ sym (ne_eqb b a (λ is. other (sym is)))
    ]

    by : (a b more : Bool) → a ≡ b → one_if (a && more) ≤ one_if b
    by a b more same = subst (λ (c : Bool). one_if (a && more) ≤ one_if c) same (less_of a more)

pub holder_sent : HolderSentLaw
holder_sent core sound seat queue item stream role back hand tag some =
    let one : 1 + (queue - 1) ≡ queue = omega (arith, back) in
    let engine : ℕ = queue - 1 in
    let part : Part = part_of stream (item_of core queue item) in
    let hand' : (item_of core (1 + engine) item).whereabouts ≡ WithSeat seat = subst (λ (q : ℕ). (item_of core q item).whereabouts ≡ WithSeat seat) (sym one) hand in
    let tag' : (item_of core (1 + engine) item).tag ≡ stream = subst (λ (q : ℕ). (item_of core q item).tag ≡ stream) (sym one) tag in
    let armed : (item_of core (1 + engine) item).tag ≢ 0 = λ none. some (sym tag' ∙ none) in
    let own : 1 ≤ parts_by_seat sent core seat stream = subst (λ (s : ℕ). 1 ≤ parts_by_seat sent core seat s) tag' (sound.parts.held_is_own seat engine item role hand' armed) in
    let takes : 1 ≤ by_seat taken core seat stream = sound.parts.sent_by_taker seat stream own in
    let was : 1 ≤ times_sent core part =
    subst (λ (q : ℕ). 1 ≤ times_sent core (part_of stream (item_of core q item))) one (subst (λ (s : ℕ). 1 ≤ times_sent core (part_of s (item_of core (1 + engine) item))) tag' (sound.parts.under_way_was_sent engine item armed)) in
    let found = weigh_some (λ (s : SeatLists). weigh (same_part part) s.sent) core.seats no_seat (omega (arith, was)) in
    let k : ℕ = found.0 in
    let theirs : 1 ≤ weigh (same_part part) (seat_of core k).sent = omega (arith, found.2) in
    let by_k : 1 ≤ parts_by_seat sent core k stream = omega (arith, theirs, weigh_le (same_part part) (of_stream stream) (seat_of core k).sent (λ p. same_stream part p)) in
    let same : k ≡ seat = one_seat taken core stream k seat refl (taken_at_most_once core sound.streams stream) (sound.parts.sent_by_taker k stream by_k) takes in
    elim (cases_Bool (list_any (is_same_part part) (seat_of core seat).sent)) [
      | inl is ↦ is
      | inr none ↦ absurd (omega (arith, theirs, ap (λ (n : ℕ). weigh (same_part part) (seat_of core n).sent) same, none_counts (is_same_part part) (seat_of core seat).sent none))
    ]
