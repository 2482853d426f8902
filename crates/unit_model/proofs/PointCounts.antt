-- The points on streams and parts say the counts.
use Rattle.std.proofs.Common.{◌≡◌, ◌≢◌, ℕ, ◌+◌, ◌<◌, ◌≤◌, ◌==◌, ◌&&◌, nat_lt, false, List, [], length, get_or, refl, sym, ap, ◌∙◌, arith, inl, inr}
use Rattle.std.specs.Prelude.{Contains}
use Rattle.std.proofs.lemmas.Bool.{cases_eq, cases_lt, eq-eqb, ne_eqb, lt-ltb, le-ltb}
use Rattle.unit_model.specs.Conditions.{parts_sent}
use Rattle.unit_model.specs.Core.{blank, queue_of, item_of, number_in, seat_of, no_seat}
use Rattle.unit_model.specs.Holding.{IsArmed}
use Rattle.unit_model.specs.PartCounts.{PartCounts, of_stream, of_number, same_part, sent, received, sent_parts, no_part, parts_by_seat, carries, times_sent, times_received, times_under_way, times_withdrawn}
use Rattle.unit_model.specs.SoundStreams.{HasSoundStreams, IsPosted, IsInNone, WasSent, part_in}
use Rattle.unit_model.specs.StreamCounts.{StreamCounts, by_seat, by_all, drawn, posted, cancelled, abandoned, taken, closed, line_tags}
use Rattle.unit_model.specs.Weights.{one_if, is_number, times, over_all}
use Rattle.unit_model.specs.declared.machine.Core.{Core}
use Rattle.unit_model.specs.declared.machine.Item.{Item}
use Rattle.unit_model.specs.declared.machine.Part.{Part}
use Rattle.unit_model.specs.declared.machine.Seat.{Seat as SeatLists}
use Rattle.unit_model.proofs.Changes.{weigh_zero_each}
use Rattle.unit_model.proofs.ItemChanges.{back_item_of_weight}
use Rattle.unit_model.proofs.Members.{member_counts, counted_member, counted_seat, counts_in_all, part_of_stream, place_of, part_at_place, weight_of_member, weight_of_seat, weighs_in_all}
use Rattle.unit_model.proofs.PartFrames.{carries_other}
use Rattle.unit_model.proofs.PartLists.{sent_alone}
use Rattle.unit_model.proofs.PartNotes.{parts_sent_is, sent_length, one_itself}
use Rattle.unit_model.proofs.PartPoints.{numbered_stream}
use Rattle.unit_model.proofs.PartSteps.{counted_is, carries_past, of_this, withdrawn_other}
use Rattle.unit_model.proofs.SeatNotes.{is_there_of, seat_in_all}
use Rattle.unit_model.proofs.Weights.{is_number_some, weigh_some}

-- ---- streams

-- what stands at most once, and only where another list has it, counts no more than there
within : (list other : SeatLists → List ℕ) (core : Core) (seat stream : ℕ) → list no_seat ≡ [] → by_all list core stream ≤ 1 → (Contains (list (seat_of core seat)) stream → Contains (other (seat_of core seat)) stream) → by_seat list core seat stream ≤ by_seat other core seat stream
within list other core seat stream none once has =
    elim (cases_lt 0 (by_seat list core seat stream)) [
      | inr nowhere ↦ omega (arith, nowhere)
      | inl some ↦ omega (arith, some, once, seat_in_all list core seat stream none, member_counts stream (other (seat_of core seat)) (has (counted_member stream (list (seat_of core seat)) (omega (arith, some)))))
    ]

nowhere_all : (list : SeatLists → List ℕ) (core : Core) (stream : ℕ) → ((seat : ℕ) → by_seat list core seat stream ≡ 0) → by_all list core stream ≡ 0
nowhere_all list core stream none = weigh_zero_each (λ (l : SeatLists). times stream (list l)) core.seats no_seat none

posted_counts : (core : Core) (stream : ℕ) → IsPosted core stream → 1 ≤ by_all posted core stream
posted_counts core stream is_posted = counts_in_all posted core (is_posted.0) stream refl is_posted.1

-- where nobody posted the stream, it is in no state
unposted_tag : (core : Core) (stream : ℕ) → HasSoundStreams core → stream ≢ 0 → by_all posted core stream ≡ 0 → line_tags core stream ≡ 0
unposted_tag core stream points some none =
    elim (cases_lt 0 (line_tags core stream)) [
      | inr no_tag ↦ omega (arith, no_tag)
      | inl tagged ↦
          let item = weigh_some (λ i. is_number stream i.tag) (queue_of core 0).items blank tagged in
          let tag : (item_of core 0 (item.0)).tag ≡ stream = is_number_some stream _ item.2 in
          let armed : IsArmed core 0 (item.0) = λ zero_tag. some (sym tag ∙ zero_tag) in
          absurd (omega (arith, none, ap (by_all posted core) tag, posted_counts core _ (points.posted.tag_is_posted (item.0) armed)))
    ]

unposted_taken : (core : Core) (stream : ℕ) → HasSoundStreams core → by_all posted core stream ≡ 0 → by_all taken core stream ≡ 0
unposted_taken core stream points none =
    elim (cases_lt 0 (by_all taken core stream)) [
      | inr no_seat ↦ omega (arith, no_seat)
      | inl some ↦
          let found = counted_seat taken core stream (omega (arith, some)) in
          absurd (omega (arith, none, posted_counts core stream (points.posted.taken_is_posted (found.0) stream found.1)))
    ]

unposted_cancelled : (core : Core) (stream : ℕ) → HasSoundStreams core → by_all posted core stream ≡ 0 → by_all cancelled core stream ≡ 0
unposted_cancelled core stream points none =
    elim (cases_lt 0 (by_all cancelled core stream)) [
      | inr no_seat ↦ omega (arith, no_seat)
      | inl some ↦
          let found = counted_seat cancelled core stream (omega (arith, some)) in
          absurd (omega (arith, none, counts_in_all posted core (found.0) stream refl (points.posted.cancelled_by_poster (found.0) stream found.1)))
    ]

one_state_of : (core : Core) (stream : ℕ) → HasSoundStreams core → stream ≢ 0 → line_tags core stream + by_all taken core stream + by_all cancelled core stream ≡ by_all posted core stream
one_state_of core stream points some =
    elim (cases_lt 0 (by_all posted core stream)) [
      | inl has ↦ omega (arith, has, points.posted.once stream, points.posted.one_state stream (counted_seat posted core stream (omega (arith, has))))
      | inr none ↦
          let zero_posted : by_all posted core stream ≡ 0 = omega (arith, none) in
          omega (arith, zero_posted, unposted_tag core stream points some zero_posted, unposted_taken core stream points zero_posted, unposted_cancelled core stream points zero_posted)
    ]

abandoned_taken : (core : Core) (stream : ℕ) → HasSoundStreams core → by_all abandoned core stream ≤ by_all taken core stream
abandoned_taken core stream points =
    elim (cases_lt 0 (by_all abandoned core stream)) [
      | inr none ↦ omega (arith, none)
      | inl some ↦
          let found = counted_seat abandoned core stream (omega (arith, some)) in
          let is_taken = points.abandoned.abandoned_is_taken (found.0) stream found.1 in
          omega (arith, some, points.abandoned.once stream, counts_in_all taken core (is_taken.0) stream refl is_taken.1)
    ]

pub streams_of_points : (core : Core) → length core.seats ≡ core.shape.engines + core.shape.workers → 1 ≤ core.next → HasSoundStreams core → StreamCounts core
streams_of_points core seats next points =
    let none : (seat : ℕ) → IsInNone (seat_of core seat) 0 = points.drawn.no_other 0 (inl refl) in
    record {
      seats = seats;
      next = next;
      drawn_once = points.drawn.once;
      no_other = λ stream off. nowhere_all drawn core stream (λ seat. (points.drawn.no_other stream off seat).drawn);
      posted_by_drawer = λ seat stream. within posted drawn core seat stream refl (points.posted.once stream) (points.posted.by_drawer seat stream);
      one_state = λ stream some. one_state_of core stream points some;
      no_zero = omega (arith, nowhere_all taken core 0 (λ seat. (none seat).taken), nowhere_all cancelled core 0 (λ seat. (none seat).cancelled), nowhere_all posted core 0 (λ seat. (none seat).posted));
      cancelled_by_poster = λ seat stream. within cancelled posted core seat stream refl (points.taken.cancelled_once stream) (points.posted.cancelled_by_poster seat stream);
      abandoned_by_poster = λ seat stream. within abandoned posted core seat stream refl (points.abandoned.once stream) (points.abandoned.by_poster seat stream);
      abandoned_is_taken = λ stream. abandoned_taken core stream points;
      part_is_poster = λ item armed. member_counts (item_of core 0 item).tag (seat_of core (item_of core 0 item).part).posted (points.posters item armed);
    }

-- ---- parts

of_stream_is : (stream : ℕ) (part : Part) → 1 ≤ of_stream stream part → part.stream ≡ stream
of_stream_is stream part counts = of_this part.stream stream part.number part.last counts

by_taker : (core : Core) → HasSoundStreams core → (seat stream : ℕ) → 1 ≤ parts_by_seat sent core seat stream → 1 ≤ by_seat taken core seat stream
by_taker core points seat stream some =
    let found = weight_of_member (of_stream stream) (seat_of core seat).sent no_part some in
    let this : (found.0).stream ≡ stream = of_stream_is stream found.0 found.2 in
    rw this at (member_counts (found.0).stream (seat_of core seat).taken (points.sent.by_taker seat found.0 found.1))

by_poster : (core : Core) → HasSoundStreams core → (seat stream : ℕ) → 1 ≤ parts_by_seat received core seat stream → 1 ≤ by_seat posted core seat stream
by_poster core points seat stream some =
    let found = weight_of_member (of_stream stream) (seat_of core seat).received no_part some in
    let this : (found.0).stream ≡ stream = of_stream_is stream found.0 found.2 in
    rw this at (member_counts (found.0).stream (seat_of core seat).posted (points.somewhere.by_poster seat found.0 found.1))

-- how many parts were sent of a stream of which this seat sent one
count_of : (core : Core) → StreamCounts core → HasSoundStreams core → (seat stream : ℕ) → 1 ≤ parts_by_seat sent core seat stream → parts_sent core stream ≡ length (sent_parts core seat stream)
count_of core counts points seat stream some =
    let takes = by_taker core points seat stream some in
    sent_alone core seat stream counts (λ k. by_taker core points k stream) (is_there_of (is_number stream) taken core seat refl takes) takes ∙ sym (sent_length core seat stream)

below_count : (core : Core) → StreamCounts core → HasSoundStreams core → (part : Part) → WasSent core part → part.number < parts_sent core part.stream
below_count core counts points part was_sent =
    let seat : ℕ = was_sent.0 in
    let place = place_of part.stream (seat_of core seat).sent part was_sent.1 refl in
    omega (arith, place.1, points.sent.in_order seat part.stream (place.0) place.1, ap (λ (p : Part). p.number) place.2, count_of core counts points seat part.stream (part_of_stream part (seat_of core seat).sent was_sent.1))

-- a number below the count is that of a sent part
sent_with : (core : Core) → StreamCounts core → HasSoundStreams core → (stream number : ℕ) → number < parts_sent core stream → (seat : ℕ) × (part : Part) × Contains (seat_of core seat).sent part × (part.stream ≡ stream) × (part.number ≡ number)
sent_with core counts points stream number below =
    let found = weight_of_seat (of_stream stream) sent core no_part (omega (arith, below, parts_sent_is core stream)) in
    let seat : ℕ = found.0 in
    let this : (found.1).stream ≡ stream = of_stream_is stream found.1 found.3 in
    let some : 1 ≤ parts_by_seat sent core seat stream = rw this at (part_of_stream found.1 (seat_of core seat).sent found.2) in
    let inside : number < length (sent_parts core seat stream) = omega (arith, below, count_of core counts points seat stream some) in
    let place = part_at_place stream (seat_of core seat).sent number inside in
    (seat, get_or (sent_parts core seat stream) number no_part, place.0, place.1, points.sent.in_order seat stream number inside)

carries_is : (stream number : ℕ) (item : Item) → 1 ≤ carries stream number item → (item.tag ≡ stream) × (number_in item.part ≡ number)
carries_is stream number item some =
    elim (cases_eq item.tag stream) [
      | inr other ↦ absurd (omega (arith, some, carries_other stream number item other))
      | inl this ↦ elim (cases_eq (number_in item.part) number) [
        | inr past ↦ absurd (omega (arith, some, carries_past stream number item past))
        | inl is ↦ (this, is)
      ]
    ]

-- no part past those that were sent is under way or received
none_under_way : (core : Core) → StreamCounts core → HasSoundStreams core → (stream number : ℕ) → stream ≢ 0 → parts_sent core stream ≤ number → times_under_way core stream number ≡ 0
none_under_way core counts points stream number some past =
    elim (cases_lt 0 (times_under_way core stream number)) [
      | inr none ↦ omega (arith, none)
      | inl counted ↦
          let found = back_item_of_weight (carries stream number) core (omega (arith, counted)) in
          let engine : ℕ = found.0 in
          let item : ℕ = found.1 in
          let is = carries_is stream number (item_of core (1 + engine) item) found.2 in
          let armed : IsArmed core (1 + engine) item = λ none. some (sym is.0 ∙ none) in
          let below = below_count core counts points (part_in core (1 + engine) item) (points.somewhere.under_way engine item armed) in
          absurd (omega (arith, past, below, is.1, ap (parts_sent core) is.0))
    ]

number_of : (stream number : ℕ) (part : Part) → 1 ≤ of_number stream number part → part.number ≡ number
number_of stream number part some =
    elim (cases_eq part.number number) [
      | inl is ↦ is
      | inr other ↦ absurd (let this = numbered_stream stream number part some in
          let fails : (part.stream == stream && part.number == number) ≡ false = rw (eq-eqb part.stream stream this) (ne_eqb part.number number other) in
          omega (arith, some, ap one_if fails))
    ]

none_received : (core : Core) → StreamCounts core → HasSoundStreams core → (stream number : ℕ) → parts_sent core stream ≤ number → times_received core stream number ≡ 0
none_received core counts points stream number past =
    elim (cases_lt 0 (times_received core stream number)) [
      | inr none ↦ omega (arith, none)
      | inl counted ↦
          let found = weight_of_seat (of_number stream number) received core no_part (omega (arith, counted)) in
          let this : (found.1).stream ≡ stream = numbered_stream stream number found.1 found.3 in
          let below = below_count core counts points found.1 (points.somewhere.received (found.0) found.1 found.2) in
          absurd (omega (arith, past, below, number_of stream number found.1 found.3, ap (parts_sent core) this))
    ]

part_state : (core : Core) → StreamCounts core → HasSoundStreams core → (stream number : ℕ) → stream ≢ 0 → times_under_way core stream number + times_received core stream number + times_withdrawn core stream number ≡ one_if (nat_lt number (parts_sent core stream))
part_state core counts points stream number some =
    elim (cases_lt number (parts_sent core stream)) [
      | inl below ↦
          let found = sent_with core counts points stream number below in
          let state = points.somewhere.one_state (found.0) found.1 found.2 in
          rw found.3 at (rw found.4 at state) ∙ sym (ap one_if (lt-ltb number (parts_sent core stream) below))
      | inr past ↦
          omega (arith, none_under_way core counts points stream number some past, none_received core counts points stream number past, withdrawn_other core stream number (omega (arith, past)), ap one_if (le-ltb number (parts_sent core stream) past))
    ]

was_sent_counts : (core : Core) (part : Part) → WasSent core part → 1 ≤ times_sent core part
was_sent_counts core part was_sent = weighs_in_all (same_part part) sent core (was_sent.0) part refl was_sent.1 (omega (arith, one_itself part))

received_sent : (core : Core) → HasSoundStreams core → (part : Part) → 1 ≤ over_all (same_part part) received core.seats → 1 ≤ times_sent core part
received_sent core points part some =
    let found = weight_of_seat (same_part part) received core no_part some in
    let same : part ≡ found.1 = counted_is part found.1 found.3 in
    rw same (was_sent_counts core found.1 (points.somewhere.received (found.0) found.1 found.2))

pub parts_of_points : (core : Core) → StreamCounts core → HasSoundStreams core → PartCounts core
parts_of_points core counts points = record {
  closed_by_taker = λ seat stream. within closed taken core seat stream refl (points.somewhere.closed_once stream) (points.somewhere.closed_by_taker seat stream);
  sent_by_taker = by_taker core points;
  received_by_poster = by_poster core points;
  in_order = points.sent.in_order;
  last_is_final = points.sent.last_is_final;
  one_state = part_state core counts points;
  to_poster = λ engine item armed. member_counts (item_of core (1 + engine) item).tag (seat_of core engine).posted (points.somewhere.to_poster engine item armed);
  under_way_was_sent = λ engine item armed. was_sent_counts core (part_in core (1 + engine) item) (points.somewhere.under_way engine item armed);
  received_was_sent = received_sent core points;
  held_is_own = λ seat engine item worker held armed. part_of_stream (part_in core (1 + engine) item) (seat_of core seat).sent (points.somewhere.held_is_own seat engine item worker held armed);
  held_is_final = points.somewhere.held_is_final;
}
