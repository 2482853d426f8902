-- What the counts of streams say, point by point.
use Rattle.std.proofs.Common.{◌≡◌, ◌≢◌, ℕ, ◌+◌, ◌<◌, ◌≤◌, length, refl, ap, ◌∙◌, arith, inl, inr}
use Rattle.std.proofs.lemmas.List.{get_or_past}
use Rattle.std.proofs.lemmas.Bool.{cases_eq, cases_lt}
use Rattle.unit_model.specs.Core.{blank, queue_of, item_of, seat_of}
use Rattle.unit_model.specs.Holding.{IsArmed}
use Rattle.unit_model.specs.PartCounts.{PartCounts, of_stream}
use Rattle.unit_model.specs.SoundStreams.{NoRequestTwice, PartIsPoster, TakenOrCancelled, IsInNone, DrawnInOrder, PostedOnce, AbandonedOnce}
use Rattle.unit_model.specs.StreamCounts.{StreamCounts, by_seat, by_all, drawn, posted, cancelled, abandoned, taken, line_tags}
use Rattle.unit_model.specs.Weights.{weigh, is_number}
use Rattle.unit_model.specs.declared.machine.Core.{Core}
use Rattle.unit_model.specs.declared.machine.Item.{Item}
use Rattle.unit_model.proofs.Changes.{weigh_one}
use Rattle.unit_model.proofs.Members.{member_counts, counted_member, counted_seat, counts_in_all}
use Rattle.unit_model.proofs.PartLists.{taken_at_most_once}
use Rattle.unit_model.proofs.SeatNotes.{seat_in_all, all_less}
use Rattle.unit_model.proofs.StreamSteps.{posted_at_most_once}
use Rattle.unit_model.proofs.Weights.{is_number_same}

-- an item with a tag is there
pub armed_inside : (core : Core) (queue item : ℕ) → IsArmed core queue item → item < length (queue_of core queue).items
armed_inside core queue item armed =
    elim (cases_lt item (length (queue_of core queue).items)) [
      | inl inside ↦ inside
      | inr past ↦ absurd (armed (ap (λ (i : Item). i.tag) (get_or_past (queue_of core queue).items item blank past)))
    ]

-- a stream that is taken or cancelled was posted
pub state_is_posted : (core : Core) → StreamCounts core → (stream : ℕ) → by_all taken core stream + by_all cancelled core stream ≤ by_all posted core stream
state_is_posted core counts stream =
    elim (cases_eq stream 0) [
      | inl none ↦ rw none (omega (arith, counts.no_zero))
      | inr some ↦ omega (arith, counts.one_state stream some)
    ]

-- a stream that is posted isn't 0
pub posted_some : (core : Core) → StreamCounts core → (stream : ℕ) → 1 ≤ by_all posted core stream → stream ≢ 0
posted_some core counts stream has none =
    absurd (omega (arith, has, all_less posted drawn core stream (λ k. counts.posted_by_drawer k stream), counts.no_other stream (inl none)))

pub no_request_twice : (core : Core) → StreamCounts core → NoRequestTwice core
no_request_twice core counts one other armed same =
    let stream : ℕ = (item_of core 0 one).tag in
    let also : IsArmed core 0 other = λ none. armed (same ∙ none) in
    let once : line_tags core stream ≤ 1 = omega (arith, counts.one_state stream armed, posted_at_most_once core counts stream) in
    weigh_one (λ i. is_number stream i.tag) (queue_of core 0).items one other blank (armed_inside core 0 one armed) (armed_inside core 0 other also) once
    (omega (arith, is_number_same stream))
    (omega (arith, is_number_same stream, ap (is_number stream) same))

pub part_is_poster : (core : Core) → StreamCounts core → PartIsPoster core
part_is_poster core counts item armed = counted_member (item_of core 0 item).tag (seat_of core (item_of core 0 item).part).posted (counts.part_is_poster item armed)

pub taken_or_cancelled : (core : Core) → StreamCounts core → TakenOrCancelled core
taken_or_cancelled core counts = record {
  apart = λ stream one other taken_here cancelled_here.
      absurd (omega (arith, counts_in_all taken core one stream refl taken_here, counts_in_all cancelled core other stream refl cancelled_here, state_is_posted core counts stream, posted_at_most_once core counts stream));
  taken_once = λ stream. taken_at_most_once core counts stream;
  cancelled_once = λ stream. omega (arith, state_is_posted core counts stream, posted_at_most_once core counts stream);
}

in_none : (core : Core) → StreamCounts core → PartCounts core → (stream : ℕ) → by_all drawn core stream ≡ 0 → (seat : ℕ) → IsInNone (seat_of core seat) stream
in_none core counts parts stream none seat =
    let d : by_seat drawn core seat stream ≡ 0 = omega (arith, seat_in_all drawn core seat stream refl, none) in
    let p : by_seat posted core seat stream ≡ 0 = omega (arith, counts.posted_by_drawer seat stream, d) in
    let all_posted : by_all posted core stream ≡ 0 = omega (arith, all_less posted drawn core stream (λ k. counts.posted_by_drawer k stream), none) in
    let t : by_seat taken core seat stream ≡ 0 = omega (arith, seat_in_all taken core seat stream refl, state_is_posted core counts stream, all_posted) in
    record {
      drawn = d;
      posted = p;
      cancelled = omega (arith, counts.cancelled_by_poster seat stream, p);
      abandoned = omega (arith, counts.abandoned_by_poster seat stream, p);
      received = elim (cases_lt 0 (weigh (of_stream stream) (seat_of core seat).received)) [
        | inl some ↦ absurd (omega (arith, parts.received_by_poster seat stream some, p))
        | inr no_part ↦ omega (arith, no_part)
      ];
      taken = t;
      sent = elim (cases_lt 0 (weigh (of_stream stream) (seat_of core seat).sent)) [
        | inl some ↦ absurd (omega (arith, parts.sent_by_taker seat stream some, t))
        | inr no_part ↦ omega (arith, no_part)
      ];
      closed = omega (arith, parts.closed_by_taker seat stream, t);
    }

pub drawn_in_order : (core : Core) → StreamCounts core → PartCounts core → DrawnInOrder core
drawn_in_order core counts parts = record {
  once = counts.drawn_once;
  no_other = λ stream off seat. in_none core counts parts stream (counts.no_other stream off) seat;
}

pub posted_once : (core : Core) → StreamCounts core → PostedOnce core
posted_once core counts = record {
  tag_is_posted = λ item armed. ((item_of core 0 item).part, part_is_poster core counts item armed);
  taken_is_posted = λ seat stream here. counted_seat posted core stream (omega (arith, counts_in_all taken core seat stream refl here, state_is_posted core counts stream));
  cancelled_by_poster = λ seat stream here. counted_member stream (seat_of core seat).posted (omega (arith, member_counts stream (seat_of core seat).cancelled here, counts.cancelled_by_poster seat stream));
  once = posted_at_most_once core counts;
  by_drawer = λ seat stream here. counted_member stream (seat_of core seat).drawn (omega (arith, member_counts stream (seat_of core seat).posted here, counts.posted_by_drawer seat stream));
  one_state = λ stream is_posted.
      let has : 1 ≤ by_all posted core stream = counts_in_all posted core (is_posted.0) stream refl is_posted.1 in
      omega (arith, has, posted_at_most_once core counts stream, counts.one_state stream (posted_some core counts stream has));
}

pub abandoned_once : (core : Core) → StreamCounts core → AbandonedOnce core
abandoned_once core counts = record {
  by_poster = λ seat stream here. counted_member stream (seat_of core seat).posted (omega (arith, member_counts stream (seat_of core seat).abandoned here, counts.abandoned_by_poster seat stream));
  once = λ stream. omega (arith, counts.abandoned_is_taken stream, taken_at_most_once core counts stream);
  abandoned_is_taken = λ seat stream here. counted_seat taken core stream (omega (arith, counts_in_all abandoned core seat stream refl here, counts.abandoned_is_taken stream));
  not_cancelled = λ seat other stream here there.
      absurd (omega (arith, counts_in_all abandoned core seat stream refl here, counts.abandoned_is_taken stream, counts_in_all cancelled core other stream refl there, state_is_posted core counts stream, posted_at_most_once core counts stream));
}
