-- The counts of the core as it begins.
use Rattle.std.proofs.Common.{◌≡◌, ◌≢◌, ℕ, zero, suc, ◌+◌, nat_lt, filter, List, [], length, get_or, replicate, refl, ap, ◌∙◌, arith}
use Rattle.std.proofs.lemmas.Bool.{ne_eqb, le-ltb}
use Rattle.unit_model.specs.Conditions.{parts_sent}
use Rattle.unit_model.specs.Core.{blank, no_queue, no_seat, item_of, seat_of}
use Rattle.unit_model.specs.Opening.{opened_core, fresh_queue}
use Rattle.unit_model.specs.PartCounts.{PartCounts, is_of_stream, of_stream, carries, over_back_items, sent, received, sent_parts, same_part, of_number}
use Rattle.unit_model.specs.StreamCounts.{StreamCounts, by_seat, drawn, posted, cancelled, abandoned, taken, closed, line_tags}
use Rattle.unit_model.specs.Weights.{weigh, one_if, is_number, over_all}
use Rattle.unit_model.specs.declared.machine.Item.{Item}
use Rattle.unit_model.specs.declared.machine.Part.{Part}
use Rattle.unit_model.specs.declared.machine.Queue.{Queue}
use Rattle.unit_model.specs.declared.machine.Seat.{Seat as SeatLists}
use Rattle.unit_model.specs.declared.shape.Shape.{Shape}
use Rattle.unit_model.proofs.PartFrames.{carries_none}
use Rattle.unit_model.proofs.PartNotes.{parts_sent_is}
use Rattle.unit_model.proofs.PartSteps.{withdrawn_zero}

-- ---- lists of one value

weigh_replicate : {X : Type 0} (f : X → ℕ) (n : ℕ) (x : X) → f x ≡ 0 → weigh f (replicate n x) ≡ 0
weigh_replicate f zero x none = refl
weigh_replicate f (suc n) x none = omega (arith, none, weigh_replicate f n x none)

get_replicate : {X : Type 0} (n i : ℕ) (x : X) → get_or (replicate n x) i x ≡ x
get_replicate zero i x = refl
get_replicate (suc n) zero x = refl
get_replicate (suc n) (suc i) x = get_replicate n i x

length_of : {X : Type 0} (n : ℕ) (x : X) → length (replicate n x) ≡ n
length_of zero x = refl
length_of (suc n) x = omega (arith, length_of n x)

-- ---- the seats

seat_is : (shape : Shape) (seat : ℕ) → seat_of (opened_core shape) seat ≡ no_seat
seat_is shape seat = get_replicate (shape.engines + shape.workers) seat no_seat

each_none : (list : SeatLists → List ℕ) (shape : Shape) → list no_seat ≡ [] → (seat stream : ℕ) → by_seat list (opened_core shape) seat stream ≡ 0
each_none list shape none seat stream = ap (λ (l : SeatLists). weigh (is_number stream) (list l)) (seat_is shape seat) ∙ ap (weigh (is_number stream)) none

all_none : {X : Type 0} (f : X → ℕ) (list : SeatLists → List X) (shape : Shape) → list no_seat ≡ [] → over_all f list (opened_core shape).seats ≡ 0
all_none f list shape none = weigh_replicate (λ (l : SeatLists). weigh f (list l)) (shape.engines + shape.workers) no_seat (ap (weigh f) none)

-- ---- the items

backs_blank : (n start items item engine : ℕ) → get_or (get_or (replicate n (fresh_queue start items)) engine no_queue).items item blank ≡ blank
backs_blank zero start items item engine = refl
backs_blank (suc n) start items item zero = get_replicate items item blank
backs_blank (suc n) start items item (suc engine) = backs_blank n start items item engine

item_is : (shape : Shape) (queue item : ℕ) → item_of (opened_core shape) queue item ≡ blank
item_is shape zero item = get_replicate shape.items item blank
item_is shape (suc engine) item = backs_blank shape.engines shape.start shape.back_items item engine

untagged : (shape : Shape) (queue item : ℕ) → (item_of (opened_core shape) queue item).tag ≡ 0
untagged shape queue item = ap (λ (i : Item). i.tag) (item_is shape queue item)

line_none : (shape : Shape) (stream : ℕ) → stream ≢ 0 → line_tags (opened_core shape) stream ≡ 0
line_none shape stream some = weigh_replicate (λ i. is_number stream i.tag) shape.items blank (ap one_if (ne_eqb 0 stream (omega (arith, some))))

backs_none : (f : Item → ℕ) (shape : Shape) → f blank ≡ 0 → over_back_items f (opened_core shape) ≡ 0
backs_none f shape none = weigh_replicate (λ (q : Queue). weigh f q.items) shape.engines (fresh_queue shape.start shape.back_items) (weigh_replicate f shape.back_items blank none)

-- ---- the counts

pub streams_at_first : (shape : Shape) → StreamCounts (opened_core shape)
streams_at_first shape =
    let core = opened_core shape in
    let posted_none = each_none posted shape refl in
    record {
      seats = length_of (shape.engines + shape.workers) no_seat;
      next = omega arith;
      drawn_once = λ s low high. absurd (omega (arith, low, high));
      no_other = λ s off. all_none (is_number s) drawn shape refl;
      posted_by_drawer = λ k s. omega (arith, posted_none k s);
      one_state = λ s some. omega (arith, line_none shape s some, all_none (is_number s) taken shape refl, all_none (is_number s) cancelled shape refl, all_none (is_number s) posted shape refl);
      no_zero = omega (arith, all_none (is_number 0) taken shape refl, all_none (is_number 0) cancelled shape refl, all_none (is_number 0) posted shape refl);
      cancelled_by_poster = λ k s. omega (arith, each_none cancelled shape refl k s);
      abandoned_by_poster = λ k s. omega (arith, each_none abandoned shape refl k s);
      abandoned_is_taken = λ s. omega (arith, all_none (is_number s) abandoned shape refl);
      part_is_poster = λ i tagged. absurd (tagged (untagged shape 0 i));
    }

-- ---- the counts of parts

parts_none : (list : SeatLists → List Part) (shape : Shape) → list no_seat ≡ [] → (f : Part → ℕ) (seat : ℕ) → weigh f (list (seat_of (opened_core shape) seat)) ≡ 0
parts_none list shape none f seat = ap (λ (l : SeatLists). weigh f (list l)) (seat_is shape seat) ∙ ap (weigh f) none

none_sent : (shape : Shape) (seat stream : ℕ) → sent_parts (opened_core shape) seat stream ≡ []
none_sent shape seat stream = ap (λ (l : SeatLists). filter (is_of_stream stream) l.sent) (seat_is shape seat)

no_parts_sent : (shape : Shape) (stream : ℕ) → parts_sent (opened_core shape) stream ≡ 0
no_parts_sent shape stream = parts_sent_is (opened_core shape) stream ∙ all_none (of_stream stream) sent shape refl

pub parts_at_first : (shape : Shape) → PartCounts (opened_core shape)
parts_at_first shape =
    let core = opened_core shape in
    record {
      closed_by_taker = λ k s. omega (arith, each_none closed shape refl k s);
      sent_by_taker = λ k s has. absurd (omega (arith, has, parts_none sent shape refl (of_stream s) k));
      received_by_poster = λ k s has. absurd (omega (arith, has, parts_none received shape refl (of_stream s) k));
      in_order = λ k s place inside. absurd (omega (arith, inside, ap length (none_sent shape k s)));
      last_is_final = λ k s place inside. absurd (omega (arith, inside, ap length (none_sent shape k s)));
      one_state = λ s number some. omega (arith, backs_none (carries s number) shape (carries_none s number blank some refl), all_none (of_number s number) received shape refl, withdrawn_zero core s number (all_none (is_number s) closed shape refl), ap (λ n. one_if (nat_lt number n)) (no_parts_sent shape s), ap one_if (le-ltb number 0 (omega arith)));
      to_poster = λ e i tagged. absurd (tagged (untagged shape (1 + e) i));
      under_way_was_sent = λ e i tagged. absurd (tagged (untagged shape (1 + e) i));
      received_was_sent = λ part has. absurd (omega (arith, has, all_none (same_part part) received shape refl));
      held_is_own = λ k e i worker is tagged. absurd (tagged (untagged shape (1 + e) i));
      held_is_final = λ k e i worker is tagged. absurd (tagged (untagged shape (1 + e) i));
    }
