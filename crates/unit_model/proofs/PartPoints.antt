-- What the counts of parts say, point by point.
use Rattle.std.proofs.Common.{◌≡◌, ◌≢◌, ℕ, suc, ◌+◌, ◌-◌, ◌<◌, ◌≤◌, ◌==◌, ◌&&◌, nat_lt, true, false, List, [], ◌∷◌, length, get_or, refl, sym, ap, ◌∙◌, arith, inl, inr, subst}
use Rattle.std.specs.Prelude.{Contains}
use Rattle.std.proofs.lemmas.Bool.{cases_eq, cases_lt, eq-eqb, ne_eqb, lt-ltb, and_parts, eqb-true, cases_Bool}
use Rattle.unit_model.specs.Conditions.{parts_sent}
use Rattle.unit_model.specs.Core.{blank, queue_of, item_of, number_in, seat_of, no_seat}
use Rattle.unit_model.specs.Holding.{IsArmed}
use Rattle.unit_model.specs.PartCounts.{PartCounts, of_number, same_part, sent, received, sent_parts, no_part, carries, times_sent, times_received}
use Rattle.unit_model.specs.SoundStreams.{HasSoundStreams, WasSent, part_in, last_of, NoPartTwice, ReceivedOnce, SentInOrder, SentIsSomewhere}
use Rattle.unit_model.specs.StreamCounts.{StreamCounts, by_seat, taken, closed}
use Rattle.unit_model.specs.Weights.{weigh, one_if, is_number, over_all}
use Rattle.unit_model.specs.declared.machine.Core.{Core}
use Rattle.unit_model.specs.declared.machine.Part.{Part}
use Rattle.unit_model.specs.declared.machine.Seat.{Seat as SeatLists}
use Rattle.unit_model.proofs.Changes.{weigh_one}
use Rattle.unit_model.proofs.ItemChanges.{back_queue_in_all}
use Rattle.unit_model.proofs.Members.{member_counts, counted_member, part_of_stream, place_of, weight_of_seat, weighs_in_all, weigh_le_members}
use Rattle.unit_model.proofs.PartFrames.{carries_this}
use Rattle.unit_model.proofs.PartLists.{sent_alone, taken_at_most_once}
use Rattle.unit_model.proofs.PartNotes.{sent_length, one_itself}
use Rattle.unit_model.proofs.PartSteps.{counted_is, one_if_small}
use Rattle.unit_model.proofs.SeatNotes.{is_there_of, all_less, one_seat, seat_in_all}
use Rattle.unit_model.proofs.StreamPoints.{armed_inside, state_is_posted, posted_some, no_request_twice, part_is_poster, taken_or_cancelled, drawn_in_order, posted_once, abandoned_once}

-- ---- sent parts

-- what was sent is in the list of a seat
pub sent_somewhere : (core : Core) (part : Part) → 1 ≤ times_sent core part → WasSent core part
sent_somewhere core part some =
    let found = weight_of_seat (same_part part) sent core no_part some in
    (found.0, subst (Contains (seat_of core (found.0)).sent) (sym (counted_is part found.1 found.3)) found.2)

pub sender_takes : (core : Core) → PartCounts core → (seat : ℕ) (part : Part) → Contains (seat_of core seat).sent part → 1 ≤ by_seat taken core seat part.stream
sender_takes core parts seat part here = parts.sent_by_taker seat part.stream (part_of_stream part (seat_of core seat).sent here)

-- a taken stream isn't 0
pub taken_some : (core : Core) → StreamCounts core → (seat stream : ℕ) → 1 ≤ by_seat taken core seat stream → stream ≢ 0
taken_some core counts seat stream has =
    posted_some core counts stream (omega (arith, has, seat_in_all taken core seat stream refl, state_is_posted core counts stream))

-- how many parts were sent of a stream of which one was
pub sent_count : (core : Core) → StreamCounts core → PartCounts core → (seat : ℕ) (part : Part) → Contains (seat_of core seat).sent part → parts_sent core part.stream ≡ length (sent_parts core seat part.stream)
sent_count core counts parts seat part here =
    let takes = sender_takes core parts seat part here in
    sent_alone core seat part.stream counts (λ k. parts.sent_by_taker k part.stream) (is_there_of (is_number part.stream) taken core seat refl takes) takes ∙ sym (sent_length core seat part.stream)

-- its number is below that
pub sent_below : (core : Core) → StreamCounts core → PartCounts core → (seat : ℕ) (part : Part) → Contains (seat_of core seat).sent part → part.number < parts_sent core part.stream
sent_below core counts parts seat part here =
    let place = place_of part.stream (seat_of core seat).sent part here refl in
    let number = parts.in_order seat part.stream (place.0) place.1 in
    omega (arith, place.1, number, ap (λ (p : Part). p.number) place.2, sent_count core counts parts seat part here)

-- a last part is the final one
pub last_sent_final : (core : Core) → StreamCounts core → PartCounts core → (seat : ℕ) (part : Part) → Contains (seat_of core seat).sent part → part.last ≡ true → part.number + 1 ≡ parts_sent core part.stream
last_sent_final core counts parts seat part here last =
    let place = place_of part.stream (seat_of core seat).sent part here refl in
    let number = parts.in_order seat part.stream (place.0) place.1 in
    let final = parts.last_is_final seat part.stream (place.0) place.1 (ap (λ (p : Part). p.last) place.2 ∙ last) in
    omega (arith, number, final, ap (λ (p : Part). p.number) place.2, sent_count core counts parts seat part here)

-- ---- received parts

pub received_was_sent : (core : Core) → PartCounts core → (seat : ℕ) (part : Part) → Contains (seat_of core seat).received part → WasSent core part
received_was_sent core parts seat part here =
    sent_somewhere core part (parts.received_was_sent part (weighs_in_all (same_part part) received core seat part refl here (omega (arith, one_itself part))))

-- a part that counts as one of this number is of the stream
pub numbered_stream : (stream number : ℕ) (part : Part) → 1 ≤ of_number stream number part → part.stream ≡ stream
numbered_stream stream number part some =
    elim (cases_eq part.stream stream) [
      | inl this ↦ this
      | inr other ↦ absurd (let fails : (part.stream == stream && part.number == number) ≡ false = rw (ne_eqb part.stream stream other) refl in omega (arith, some, ap one_if fails))
    ]

pub numbered : (stream number : ℕ) (part : Part) → part.stream ≡ stream → part.number ≡ number → of_number stream number part ≡ 1
numbered stream number part this is = rw (eq-eqb part.stream stream this) (rw (eq-eqb part.number number is) refl)

pub received_once : (core : Core) → StreamCounts core → PartCounts core → (stream number : ℕ) → times_received core stream number ≤ 1
received_once core counts parts stream number =
    elim (cases_eq stream 0) [
      | inr some ↦ omega (arith, parts.one_state stream number some, one_if_small (nat_lt number (parts_sent core stream)))
      | inl none ↦ elim (cases_lt 0 (times_received core stream number)) [
        | inr no_part ↦ omega (arith, no_part)
        | inl some ↦
            let found = weight_of_seat (of_number stream number) received core no_part (omega (arith, some)) in
            let this : (found.1).stream ≡ stream = numbered_stream stream number found.1 found.3 in
            let sent_it = received_was_sent core parts (found.0) found.1 found.2 in
            absurd (taken_some core counts (sent_it.0) (found.1).stream (sender_takes core parts (sent_it.0) found.1 sent_it.1) (this ∙ none))
      ]
    ]

-- a received last part has one number
last_is_number : (core : Core) → StreamCounts core → PartCounts core → (seat : ℕ) (stream : ℕ) (part : Part) → Contains (seat_of core seat).received part → last_of stream part ≤ of_number stream (parts_sent core stream - 1) part
last_is_number core counts parts seat stream part here =
    elim (cases_Bool (part.stream == stream && part.last)) [
      | inr other ↦ omega (arith, ap one_if other)
      | inl last ↦
          let tests = and_parts (part.stream == stream) part.last last in
          let this : part.stream ≡ stream = eqb-true part.stream stream tests.0 in
          let sent_it = received_was_sent core parts seat part here in
          let final = last_sent_final core counts parts (sent_it.0) part sent_it.1 tests.1 in
          let number : part.number ≡ parts_sent core stream - 1 = omega (arith, final, ap (parts_sent core) this) in
          omega (arith, one_if_small (part.stream == stream && part.last), numbered stream (parts_sent core stream - 1) part this number)
    ]

seats_le : (f g : Part → ℕ) (seats : List SeatLists) → ((seat : ℕ) (part : Part) → Contains (get_or seats seat no_seat).received part → f part ≤ g part) → over_all f received seats ≤ over_all g received seats
seats_le f g [] le = omega arith
seats_le f g (l ∷ seats) le =
    omega (arith, weigh_le_members f g l.received (λ part here. le 0 part here), seats_le f g seats (λ k part here. le (suc k) part here))

pub received_one : (core : Core) → StreamCounts core → PartCounts core → ReceivedOnce core
received_one core counts parts = record {
  once = received_once core counts parts;
  one_last = λ stream.
      omega (arith, received_once core counts parts stream (parts_sent core stream - 1), seats_le (last_of stream) (of_number stream (parts_sent core stream - 1)) core.seats (λ k part here. last_is_number core counts parts k stream part here));
  received_is_taken = λ seat part here.
      let sent_it = received_was_sent core parts seat part here in
      (sent_it.0, counted_member part.stream (seat_of core (sent_it.0)).taken (sender_takes core parts (sent_it.0) part sent_it.1));
}

-- ---- parts under way

pub no_part_twice : (core : Core) → PartCounts core → NoPartTwice core
no_part_twice core parts engine one other armed tags numbers =
    let queue : ℕ = 1 + engine in
    let stream : ℕ = (item_of core queue one).tag in
    let number : ℕ = number_in (item_of core queue one).part in
    let also : IsArmed core queue other = λ none. armed (tags ∙ none) in
    let once : weigh (carries stream number) (queue_of core queue).items ≤ 1 =
    omega (arith, back_queue_in_all (carries stream number) core engine, parts.one_state stream number armed, one_if_small (nat_lt number (parts_sent core stream))) in
    weigh_one (carries stream number) (queue_of core queue).items one other blank (armed_inside core queue one armed) (armed_inside core queue other also) once
    (omega (arith, carries_this stream number (item_of core queue one) refl refl))
    (omega (arith, carries_this stream number (item_of core queue other) (sym tags) (sym numbers)))

pub sent_in_order : (core : Core) → PartCounts core → SentInOrder core
sent_in_order core parts = record {
  by_taker = λ seat part here. counted_member part.stream (seat_of core seat).taken (sender_takes core parts seat part here);
  in_order = parts.in_order;
  last_is_final = parts.last_is_final;
}

pub sent_is_somewhere : (core : Core) → StreamCounts core → PartCounts core → SentIsSomewhere core
sent_is_somewhere core counts parts = record {
  under_way = λ engine item armed. sent_somewhere core (part_in core (1 + engine) item) (parts.under_way_was_sent engine item armed);
  to_poster = λ engine item armed. counted_member (item_of core (1 + engine) item).tag (seat_of core engine).posted (parts.to_poster engine item armed);
  received = received_was_sent core parts;
  by_poster = λ seat part here. counted_member part.stream (seat_of core seat).posted (parts.received_by_poster seat part.stream (part_of_stream part (seat_of core seat).received here));
  one_state = λ seat part here.
      let some = taken_some core counts seat part.stream (sender_takes core parts seat part here) in
      omega (arith, parts.one_state part.stream part.number some, ap one_if (lt-ltb part.number (parts_sent core part.stream) (sent_below core counts parts seat part here)));
  closed_once = λ stream. omega (arith, all_less closed taken core stream (λ k. parts.closed_by_taker k stream), taken_at_most_once core counts stream);
  closed_by_taker = λ seat stream here. counted_member stream (seat_of core seat).taken (omega (arith, member_counts stream (seat_of core seat).closed here, parts.closed_by_taker seat stream));
  held_is_own = λ seat engine item worker held armed.
      let part = part_in core (1 + engine) item in
      let sent_it = sent_somewhere core part (parts.under_way_was_sent engine item armed) in
      let takes = parts.sent_by_taker seat part.stream (parts.held_is_own seat engine item worker held armed) in
      let same : sent_it.0 ≡ seat = one_seat taken core part.stream (sent_it.0) seat refl (taken_at_most_once core counts part.stream) (sender_takes core parts (sent_it.0) part sent_it.1) takes in
      subst (λ k. Contains (seat_of core k).sent part) same sent_it.1;
  held_is_final = parts.held_is_final;
}

-- ---- all of them

pub points_of_counts : (core : Core) → StreamCounts core → PartCounts core → HasSoundStreams core
points_of_counts core counts parts = record {
  requests = no_request_twice core counts;
  parts = no_part_twice core parts;
  posters = part_is_poster core counts;
  taken = taken_or_cancelled core counts;
  received = received_one core counts parts;
  drawn = drawn_in_order core counts parts;
  posted = posted_once core counts;
  abandoned = abandoned_once core counts;
  sent = sent_in_order core parts;
  somewhere = sent_is_somewhere core counts parts;
}
