-- Steps that leave the counts of parts as they are.
use Rattle.std.proofs.Common.{◌≡◌, ◌≢◌, ℕ, ◌+◌, ◌≤◌, nat_lt, List, filter, drop, get_or, refl, sym, ap, ◌∙◌, arith, inl, inr}
use Rattle.std.proofs.lemmas.Bool.{cases_eq, eq-eqb, ne_eqb}
use Rattle.unit_model.specs.Conditions.{parts_sent, part_of}
use Rattle.unit_model.specs.Core.{blank, no_queue, item_of, number_in, role_of}
use Rattle.unit_model.specs.PartCounts.{PartCounts, is_of_stream, of_stream, of_number, same_part, sent, received, sent_parts, carries, times_under_way, times_withdrawn}
use Rattle.unit_model.specs.StreamCounts.{by_seat, by_all, posted, taken, closed}
use Rattle.unit_model.specs.Weights.{weigh, one_if}
use Rattle.unit_model.specs.declared.machine.Core.{Core}
use Rattle.unit_model.specs.declared.machine.Item.{Item}
use Rattle.unit_model.specs.declared.machine.Queue.{Queue}
use Rattle.unit_model.specs.declared.machine.Seat.{Seat as SeatLists}
use Rattle.unit_model.specs.declared.machine.Whereabouts.TheVariants.{WithSeat}
use Rattle.unit_model.proofs.ItemChanges.{SetsItem, each_item, item_elsewhere, backs_stay, backs_change}
use Rattle.unit_model.proofs.PartNotes.{PartsStay, parts_sent_is}
use Rattle.unit_model.proofs.SeatNotes.{Stays}

-- ---- the items of the back queues

-- an item without a tag carries no part of a stream
pub carries_none : (stream number : ℕ) (item : Item) → stream ≢ 0 → item.tag ≡ 0 → carries stream number item ≡ 0
carries_none stream number item some none = rw (ne_eqb item.tag stream (omega (arith, some, none))) refl

pub carries_other : (stream number : ℕ) (item : Item) → item.tag ≢ stream → carries stream number item ≡ 0
carries_other stream number item other = rw (ne_eqb item.tag stream other) refl

pub carries_this : (stream number : ℕ) (item : Item) → item.tag ≡ stream → number_in item.part ≡ number → carries stream number item ≡ 1
carries_this stream number item tag part = rw (eq-eqb item.tag stream tag) (rw (eq-eqb (number_in item.part) number part) refl)

-- what the counts see of the items of the back queues is as before
pub record SameBacks (core new : Core) : Type 0 where
  pub under_way : (stream number : ℕ) → stream ≢ 0 → times_under_way new stream number ≡ times_under_way core stream number
  pub items : (engine item : ℕ) → (item_of new (1 + engine) item).tag ≢ 0 → ((item_of new (1 + engine) item).tag ≡ (item_of core (1 + engine) item).tag) × ((item_of new (1 + engine) item).part ≡ (item_of core (1 + engine) item).part)
  pub held : (seat engine item : ℕ) → role_of core seat ≡ 1 → (item_of new (1 + engine) item).whereabouts ≡ WithSeat seat → (item_of new (1 + engine) item).tag ≢ 0 → (item_of core (1 + engine) item).whereabouts ≡ WithSeat seat

pub backs_with_queues : (core new : Core) → new.queues ≡ core.queues → SameBacks core new
backs_with_queues core new same = record {
  under_way = λ s p some. ap (λ (qs : List Queue). weigh (λ queue. weigh (carries s p) queue.items) (drop 1 qs)) same;
  items = λ e i tagged. (
    ap (λ (qs : List Queue). (get_or (get_or qs (1 + e) no_queue).items i blank).tag) same,
    ap (λ (qs : List Queue). (get_or (get_or qs (1 + e) no_queue).items i blank).part) same,
  );
  held = λ k e i role is tagged. sym (ap (λ (qs : List Queue). (get_or (get_or qs (1 + e) no_queue).items i blank).whereabouts) same) ∙ is;
}

-- an item of the line's queue has changed
pub backs_beside : (core new : Core) (item : ℕ) (now : Item) → SetsItem core new 0 item now → SameBacks core new
backs_beside core new item now sets =
    let same : (e i : ℕ) → item_of new (1 + e) i ≡ item_of core (1 + e) i = λ e i. item_elsewhere core new 0 item now sets (1 + e) i (omega arith) in
    record {
      under_way = λ s p some. backs_stay (carries s p) core new item now sets;
      items = λ e i tagged. (ap (λ (x : Item). x.tag) (same e i), ap (λ (x : Item). x.part) (same e i));
      held = λ k e i role is tagged. sym (ap (λ (x : Item). x.whereabouts) (same e i)) ∙ is;
    }

quiet_count : (stream number : ℕ) (now old : Item) → stream ≢ 0 → now.tag ≡ old.tag → (now.tag ≢ 0 → now.part ≡ old.part) → carries stream number now ≡ carries stream number old
quiet_count stream number now old some tag part =
    elim (cases_eq now.tag 0) [
      | inl none ↦ carries_none stream number now some none ∙ sym (carries_none stream number old some (sym tag ∙ none))
      | inr tagged ↦ rw tag (rw (part tagged) refl)
    ]

-- an item of a back queue has changed, but not its tag, nor its part where it has a tag; and no worker got one with a tag
pub backs_quiet : (core new : Core) (engine item : ℕ) (now : Item) → SetsItem core new (1 + engine) item now → now.tag ≡ (item_of core (1 + engine) item).tag → (now.tag ≢ 0 → now.part ≡ (item_of core (1 + engine) item).part) → ((seat : ℕ) → role_of core seat ≡ 1 → now.whereabouts ≡ WithSeat seat → now.tag ≢ 0 → (item_of core (1 + engine) item).whereabouts ≡ WithSeat seat) → SameBacks core new
backs_quiet core new engine item now sets tag part held =
    let queue : ℕ = 1 + engine in
    record {
      under_way = λ s p some. omega (arith, backs_change (carries s p) core new engine item now sets, quiet_count s p now (item_of core queue item) some tag part);
      items = λ e i.
          each_item (λ x. x.tag ≢ 0 → (x.tag ≡ (item_of core (1 + e) i).tag) × (x.part ≡ (item_of core (1 + e) i).part)) core new queue item now sets (1 + e) i
          (λ here this tagged. rw here (rw this (tag, part tagged)))
          (λ other tagged. (refl, refl));
      held = λ k e i role.
          each_item (λ x. x.whereabouts ≡ WithSeat k → x.tag ≢ 0 → (item_of core (1 + e) i).whereabouts ≡ WithSeat k) core new queue item now sets (1 + e) i
          (λ here this is tagged. rw here (rw this (held k role is tagged)))
          (λ other is tagged. is);
    }

-- ---- what holds of the counts stays

pub same_withdrawn : (core new : Core) (stream number : ℕ) → parts_sent new stream ≡ parts_sent core stream → by_all closed new stream ≡ by_all closed core stream → times_withdrawn new stream number ≡ times_withdrawn core stream number
same_withdrawn core new stream number sent_same closed_same = rw sent_same (rw closed_same refl)

pub sent_stays : (core new : Core) → PartsStay sent core new → (stream : ℕ) → parts_sent new stream ≡ parts_sent core stream
sent_stays core new s stream = parts_sent_is new stream ∙ s.all (of_stream stream) ∙ sym (parts_sent_is core stream)

-- a list of streams that may grow
abbrev pub Rises : (list : SeatLists → List ℕ) (core new : Core) → Type 0
Rises list core new = (seat stream : ℕ) → by_seat list core seat stream ≤ by_seat list new seat stream

pub parts_kept : (core new : Core) → new.shape ≡ core.shape → Stays closed core new → Rises taken core new → Rises posted core new → PartsStay sent core new → PartsStay received core new → SameBacks core new → PartCounts core → PartCounts new
parts_kept core new shape c t p s r backs old =
    let role : (k : ℕ) → role_of new k ≡ role_of core k = λ k. rw shape refl in
    let m : (stream : ℕ) → parts_sent new stream ≡ parts_sent core stream = sent_stays core new s in
    let parts : (k stream : ℕ) → sent_parts new k stream ≡ sent_parts core k stream = λ k stream. ap (filter (is_of_stream stream)) (s.each k) in
    record {
      closed_by_taker = λ k stream. omega (arith, c.each k stream, t k stream, old.closed_by_taker k stream);
      sent_by_taker = λ k stream has. omega (arith, t k stream, old.sent_by_taker k stream (rw (s.each k) at has));
      received_by_poster = λ k stream has. omega (arith, p k stream, old.received_by_poster k stream (rw (r.each k) at has));
      in_order = λ k stream place. rw (parts k stream) (old.in_order k stream place);
      last_is_final = λ k stream place. rw (parts k stream) (old.last_is_final k stream place);
      one_state = λ stream number some. omega (arith, ap (λ n. one_if (nat_lt number n)) (m stream), backs.under_way stream number some, r.all (of_number stream number), same_withdrawn core new stream number (m stream) (c.all stream), old.one_state stream number some);
      to_poster = λ e i tagged.
          let same = backs.items e i tagged in
          rw same.0 (omega (arith, p e (item_of core (1 + e) i).tag, old.to_poster e i (rw same.0 at tagged)));
      under_way_was_sent = λ e i tagged.
          let same = backs.items e i tagged in
          rw same.0 (rw same.1 (omega (arith, s.all (same_part (part_of (item_of core (1 + e) i).tag (item_of core (1 + e) i))), old.under_way_was_sent e i (rw same.0 at tagged))));
      received_was_sent = λ part has. omega (arith, s.all (same_part part), old.received_was_sent part (omega (arith, has, r.all (same_part part))));
      held_is_own = λ k e i worker is tagged.
          let same = backs.items e i tagged in
          let before = old.held_is_own k e i (rw (role k) at worker) (backs.held k e i (rw (role k) at worker) is tagged) (rw same.0 at tagged) in
          rw same.0 (rw (s.each k) before);
      held_is_final = λ k e i worker is tagged.
          let same = backs.items e i tagged in
          let before = old.held_is_final k e i (rw (role k) at worker) (backs.held k e i (rw (role k) at worker) is tagged) (rw same.0 at tagged) in
          rw same.0 (rw same.1 (rw (m (item_of core (1 + e) i).tag) before));
    }
