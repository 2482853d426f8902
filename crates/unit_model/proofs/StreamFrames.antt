-- Steps that leave the counts of streams as they are.
use Rattle.std.proofs.Common.{◌≡◌, ◌≢◌, ℕ, ◌+◌, List, length, get_or, refl, sym, ap, ◌∙◌, arith, inl, inr}
use Rattle.std.proofs.lemmas.Bool.{cases_eq}
use Rattle.unit_model.specs.Core.{no_queue, queue_of, item_of, blank}
use Rattle.unit_model.specs.Effects.{noted}
use Rattle.unit_model.specs.StreamCounts.{StreamCounts, drawn, posted, cancelled, abandoned, taken, line_tags}
use Rattle.unit_model.specs.Weights.{weigh, is_number}
use Rattle.unit_model.specs.declared.machine.Core.{Core}
use Rattle.unit_model.specs.declared.machine.Item.{Item}
use Rattle.unit_model.specs.declared.machine.Note.{Note}
use Rattle.unit_model.specs.declared.machine.Queue.{Queue}
use Rattle.unit_model.proofs.Changes.{changed_length}
use Rattle.unit_model.proofs.ItemChanges.{SetsItem, each_item, items_elsewhere, weigh_items}
use Rattle.unit_model.proofs.SeatNotes.{Adds, Stays, all_stays}

-- ---- the seats and their lists

-- shape, next stream and the number of seats are as before
pub record SameFrame (core new : Core) : Type 0 where
  pub shape : new.shape ≡ core.shape
  pub next : new.next ≡ core.next
  pub seats : length new.seats ≡ length core.seats

pub frame_with_note : (core new : Core) (seat : ℕ) (note : Note) → new.shape ≡ core.shape → new.next ≡ core.next → Adds core new seat note → SameFrame core new
frame_with_note core new seat note shape next adds = record {
  shape = shape;
  next = next;
  seats = ap length adds.seats ∙ changed_length seat (noted note) core.seats;
}

pub frame_with_seats : (core new : Core) → new.shape ≡ core.shape → new.next ≡ core.next → new.seats ≡ core.seats → SameFrame core new
frame_with_seats core new shape next seats = record { shape = shape; next = next; seats = ap length seats }

-- the lists of streams are as before
pub record SameStreams (core new : Core) : Type 0 where
  pub drawn : Stays drawn core new
  pub posted : Stays posted core new
  pub cancelled : Stays cancelled core new
  pub abandoned : Stays abandoned core new
  pub taken : Stays taken core new

pub streams_with_seats : (core new : Core) → new.seats ≡ core.seats → SameStreams core new
streams_with_seats core new same = record {
  drawn = all_stays drawn core new same;
  posted = all_stays posted core new same;
  cancelled = all_stays cancelled core new same;
  abandoned = all_stays abandoned core new same;
  taken = all_stays taken core new same;
}

-- ---- the items of the line's queue

pub record SameLine (core new : Core) : Type 0 where
  pub tags : (stream : ℕ) → line_tags new stream ≡ line_tags core stream
  pub items : (item : ℕ) → (item_of new 0 item).tag ≢ 0 → ((item_of new 0 item).tag ≡ (item_of core 0 item).tag) × ((item_of new 0 item).part ≡ (item_of core 0 item).part)

pub line_with_queues : (core new : Core) → new.queues ≡ core.queues → SameLine core new
line_with_queues core new same = record {
  tags = λ stream. ap (λ (qs : List Queue). weigh (λ item. is_number stream item.tag) (get_or qs 0 no_queue).items) same;
  items = λ item tagged. (
    ap (λ (qs : List Queue). (get_or (get_or qs 0 no_queue).items item blank).tag) same,
    ap (λ (qs : List Queue). (get_or (get_or qs 0 no_queue).items item blank).part) same,
  );
}

-- an item of another queue has changed
pub line_beside : (core new : Core) (queue item : ℕ) (now : Item) → SetsItem core new queue item now → queue ≢ 0 → SameLine core new
line_beside core new queue item now s other =
    let same : (queue_of new 0).items ≡ (queue_of core 0).items = items_elsewhere core new queue item now s 0 (omega (arith, other)) in
    record {
      tags = λ stream. ap (weigh (λ item. is_number stream item.tag)) same;
      items = λ i tagged. (ap (λ (is : List Item). (get_or is i blank).tag) same, ap (λ (is : List Item). (get_or is i blank).part) same);
    }

each_kept : (core new : Core) (item : ℕ) (now : Item) → SetsItem core new 0 item now → now.tag ≡ (item_of core 0 item).tag → (now.tag ≢ 0 → now.part ≡ (item_of core 0 item).part) → (i : ℕ) → (item_of new 0 i).tag ≢ 0 → ((item_of new 0 i).tag ≡ (item_of core 0 i).tag) × ((item_of new 0 i).part ≡ (item_of core 0 i).part)
each_kept core new item now s tag part i =
    each_item (λ x. x.tag ≢ 0 → (x.tag ≡ (item_of core 0 i).tag) × (x.part ≡ (item_of core 0 i).part)) core new 0 item now s 0 i
    (λ line this tagged. (tag ∙ ap (λ n. (item_of core 0 n).tag) (sym this), part tagged ∙ ap (λ n. (item_of core 0 n).part) (sym this)))
    (λ other tagged. (refl, refl))

line_quiet_here : (core new : Core) (item : ℕ) (now : Item) → SetsItem core new 0 item now → now.tag ≡ (item_of core 0 item).tag → (now.tag ≢ 0 → now.part ≡ (item_of core 0 item).part) → SameLine core new
line_quiet_here core new item now s tag part = record {
  tags = λ stream. omega (arith, weigh_items (λ i. is_number stream i.tag) core new 0 item now s, ap (is_number stream) tag);
  items = λ i. each_kept core new item now s tag part i;
}

-- an item has changed, but not its tag, nor its part where it has a tag
pub line_quiet : (core new : Core) (queue item : ℕ) (now : Item) → SetsItem core new queue item now → now.tag ≡ (item_of core queue item).tag → (now.tag ≢ 0 → now.part ≡ (item_of core queue item).part) → SameLine core new
line_quiet core new queue item now s tag part =
    elim (cases_eq queue 0) [
      | inr other ↦ line_beside core new queue item now s other
      | inl line ↦ line_quiet_here core new item now (rw line at s) (rw line at tag) (rw line at part)
    ]

-- ---- what holds of the counts stays

pub streams_kept : (core new : Core) → SameFrame core new → SameStreams core new → SameLine core new → StreamCounts core → StreamCounts new
streams_kept core new frame streams line old = record {
  seats = frame.seats ∙ old.seats ∙ ap (λ s. s.engines + s.workers) (sym frame.shape);
  next = omega (arith, old.next, frame.next);
  drawn_once = λ s low high. streams.drawn.all s ∙ old.drawn_once s low (omega (arith, high, frame.next));
  no_other = λ s off. streams.drawn.all s ∙ old.no_other s (rw frame.next at off);
  posted_by_drawer = λ k s. omega (arith, streams.posted.each k s, streams.drawn.each k s, old.posted_by_drawer k s);
  one_state = λ s some. omega (arith, line.tags s, streams.taken.all s, streams.cancelled.all s, streams.posted.all s, old.one_state s some);
  no_zero = omega (arith, streams.taken.all 0, streams.cancelled.all 0, streams.posted.all 0, old.no_zero);
  cancelled_by_poster = λ k s. omega (arith, streams.cancelled.each k s, streams.posted.each k s, old.cancelled_by_poster k s);
  abandoned_by_poster = λ k s. omega (arith, streams.abandoned.each k s, streams.posted.each k s, old.abandoned_by_poster k s);
  abandoned_is_taken = λ s. omega (arith, streams.abandoned.all s, streams.taken.all s, old.abandoned_is_taken s);
  part_is_poster = λ i tagged.
      let same = line.items i tagged in
      let before = old.part_is_poster i (rw same.0 at tagged) in
      rw same.0 (rw same.1 (omega (arith, before, streams.posted.each (item_of core 0 i).part (item_of core 0 i).tag)));
}
