-- What holds of a core that steps have led to holds after one change more.
use Rattle.std.proofs.Common.{◌≡◌, ◌≢◌, ◌∙◌, ⊎_elim, ℕ, zero, suc, ◌+◌, ◌^◌, ◌<◌, ◌≤◌, ◌==◌, ◌&&◌, Bool, true, false, List, [], ◌∷◌, length, get_or, set, refl, sym, ap, subst, arith}
use Rattle.std.specs.Prelude.{Option, Some, None, is_some, count_by}
use Rattle.std.specs.List.{list_any}
use Rattle.std.proofs.lemmas.Bool.{cases_eq, ltb-true}
use Rattle.std.proofs.lemmas.List.{get_or-set_same, get_or-set_other, length-set}
use Rattle.trace_check.specs.Shows.{IsReached, lists_at, times_in}
use Rattle.trace_check.specs.declared.streams.Stream.{Stream}
use Rattle.unit_model.specs.Conditions.{is_same_part, part_of, is_there}
use Rattle.unit_model.specs.Core.{blank, item_of, no_queue, queue_of, role_of, whereabouts_code}
use Rattle.unit_model.specs.Weights.{weigh, below, one_if}
use Rattle.unit_model.specs.declared.machine.Core.{Core}
use Rattle.unit_model.specs.declared.machine.Item.{Item}
use Rattle.unit_model.specs.declared.machine.Owner.{Owner}
use Rattle.unit_model.specs.declared.machine.Part.{Part}
use Rattle.unit_model.specs.declared.machine.Queue.{Queue}
use Rattle.unit_model.specs.declared.machine.Seat.{Seat as SeatLists}
use Rattle.unit_model.specs.declared.machine.Sides.{Sides}

abbrev pub SameKnown : (ℕ → Option Stream) → (ℕ → Option Stream) → Type 0
SameKnown at after = (s : ℕ) → is_some (after s) ≡ is_some (at s)

-- what a seat has sent it has still sent
abbrev pub StillSent : List SeatLists → List SeatLists → Type 0
StillSent seats after = (k : ℕ) (p : Part → Bool) → list_any p (lists_at seats k).sent ≡ true → list_any p (lists_at after k).sent ≡ true

abbrev pub SameDrawn : List SeatLists → List SeatLists → Type 0
SameDrawn seats after = (p : ℕ → Bool) → weigh (λ lists. count_by p lists.drawn) after ≡ weigh (λ lists. count_by p lists.drawn) seats

none_known : (o : Option Stream) → is_some o ≡ false → o ≡ None
none_known None e = refl
none_known (Some r) e = absurd (cc e)

known_none : (o : Option Stream) → o ≡ None → is_some o ≡ false
known_none o e = ap is_some e

pub below_same : (f g : ℕ → ℕ) (n : ℕ) → ((s : ℕ) → s < n → f s ≡ g s) → below f n ≡ below g n
below_same f g zero same = refl
below_same f g (suc n) same = omega (arith, below_same f g n (λ s lt. same s (omega arith)), same n (omega arith))

recent_same : (at after : ℕ → Option Stream) (next : ℕ) → SameKnown at after → ((s : ℕ) → next ≤ s → at s ≡ None) → (s : ℕ) → next ≤ s → after s ≡ None
recent_same at after next same recent s le = none_known (after s) (same s ∙ known_none (at s) (recent s le))

numbered_same : (at after : ℕ → Option Stream) (next : ℕ) (p : ℕ → Bool) → SameKnown at after
    → below (λ s. one_if (is_some (at s) && p s)) next ≡ below (λ s. one_if (is_some (after s) && p s)) next
numbered_same at after next p same = below_same _ _ next (λ s lt. ap (λ b. one_if (b && p s)) (sym (same s)))

-- ---- where no item changes

pub reached_elsewhere : (core : Core) (at after : ℕ → Option Stream) (opened : Sides) (owners : List Owner) (seats : List SeatLists)
    → IsReached core at → length seats ≡ length core.seats → StillSent core.seats seats → SameDrawn core.seats seats → SameKnown at after
    → IsReached (record core { opened = opened; owners = owners; seats = seats }) after
reached_elsewhere core at after opened owners seats r same still drawn known = record {
  seats = same ∙ r.seats;
  few = r.few;
  small = r.small;
  tagged = λ q i ne. known (item_of core q i).tag ∙ r.tagged q i ne;
  free = r.free;
  in_line = r.in_line;
  untagged = r.untagged;
  held = λ q i k back at_k worker ne. still k _ (r.held q i k back at_k worker ne);
  recent = recent_same at after core.next known r.recent;
  numbered = λ p. drawn p ∙ r.numbered p ∙ numbered_same at after core.next p known;
}

-- ---- where one item changes

there_in : (queues : List Queue) (queue item : ℕ) → item < length (get_or queues queue no_queue).items → queue < length queues
there_in [] queue item lt = absurd (omega arith)
there_in (q ∷ qs) zero item lt = omega arith
there_in (q ∷ qs) (suc queue) item lt = omega (arith, there_in qs queue item lt)

-- a queue that has an item is there
pub queue_there : (core : Core) (queue item : ℕ) → is_there core queue item ≡ true → queue < length core.queues
queue_there core queue item there = there_in core.queues queue item (ltb-true item _ there)

-- what the item and the lists of its queue have to meet
pub record Meets (core : Core) (after : ℕ → Option Stream) (seats : List SeatLists) (queue item : ℕ) (new : Item) (old q : Queue) : Type 0 where
  pub tagged : new.tag ≢ 0 → is_some (after new.tag) ≡ true
  pub free : times_in item q.free ≤ one_if (whereabouts_code new.whereabouts == 0)
  pub others_free : (i : ℕ) → i ≢ item → times_in i q.free ≤ times_in i old.free
  pub in_line : times_in item q.line ≤ one_if (whereabouts_code new.whereabouts == 2 ^ 32)
  pub others_in_line : (i : ℕ) → i ≢ item → times_in i q.line ≤ times_in i old.line
  pub untagged : whereabouts_code new.whereabouts ≡ 0 → new.tag ≡ 0
  pub held : (k : ℕ) → queue ≢ 0 → whereabouts_code new.whereabouts ≡ 1 + k → role_of core k ≡ 1 → new.tag ≢ 0
      → list_any (is_same_part (part_of new.tag new)) (lists_at seats k).sent ≡ true

-- by the queue: this one, or another
at_queue : (P : ℕ → Type 0) (queue : ℕ) → P queue → ((q : ℕ) → q ≢ queue → P q) → (q : ℕ) → P q
at_queue P queue here apart q = ⊎_elim (λ (e : q ≡ queue). subst P (sym e) here) (λ (ne : q ≢ queue). apart q ne) (cases_eq q queue)

pub reached_item : (core : Core) (at after : ℕ → Option Stream) (owners : List Owner) (seats : List SeatLists) (queues : List Queue) (queue item : ℕ) (new : Item) (changed : Queue)
    → IsReached core at → length seats ≡ length core.seats → StillSent core.seats seats → SameDrawn core.seats seats → SameKnown at after
    → item < length (queue_of core queue).items
    → get_or queues queue no_queue ≡ changed → changed.items ≡ set (queue_of core queue).items item new
    → ((q : ℕ) → q ≢ queue → get_or queues q no_queue ≡ queue_of core q)
    → Meets core after seats queue item new (queue_of core queue) changed
    → IsReached (record core { owners = owners; queues = queues; seats = seats }) after
reached_item core at after owners seats queues queue item new changed r same still drawn known there here items apart meets =
    let core' : Core = record core { owners = owners; queues = queues; seats = seats } in
    let new_item : item_of core' queue item ≡ new =
    rw (here, items) (get_or-set_same (queue_of core queue).items item new blank there) in
    let old_item : (i : ℕ) → i ≢ item → item_of core' queue i ≡ item_of core queue i =
    λ i ne. rw (here, items) (get_or-set_other (queue_of core queue).items item i new blank ne) in
    let elsewhere : (q : ℕ) → q ≢ queue → (i : ℕ) → item_of core' q i ≡ item_of core q i = λ q ne i. rw (apart q ne) refl in
    let P : (ℕ → ℕ → Type 0) → Type 0 = λ Q. (q i : ℕ) → Q q i in
    record {
      seats = same ∙ r.seats;
      few = r.few;
      small = at_queue (λ q. length (queue_of core' q).items ≤ 16384) queue
          (rw (here, items, length-set (queue_of core queue).items item new) (r.small queue))
          (λ q ne. rw (apart q ne) (r.small q));
      tagged = at_queue (λ q. (i : ℕ) → (item_of core' q i).tag ≢ 0 → is_some (after (item_of core' q i).tag) ≡ true) queue
          (at_queue (λ i. (item_of core' queue i).tag ≢ 0 → is_some (after (item_of core' queue i).tag) ≡ true) item
          (rw new_item meets.tagged)
          (λ i ne. rw (old_item i ne) (λ some. known (item_of core queue i).tag ∙ r.tagged queue i some)))
          (λ q ne i. rw (elsewhere q ne i) (λ some. known (item_of core q i).tag ∙ r.tagged q i some));
      free = at_queue (λ q. (i : ℕ) → times_in i (queue_of core' q).free ≤ one_if (whereabouts_code (item_of core' q i).whereabouts == 0)) queue
          (at_queue (λ i. times_in i (queue_of core' queue).free ≤ one_if (whereabouts_code (item_of core' queue i).whereabouts == 0)) item
          (rw (new_item, here) meets.free)
          (λ i ne. rw (old_item i ne, here) (omega (arith, meets.others_free i ne, r.free queue i))))
          (λ q ne i. rw (elsewhere q ne i, apart q ne) (r.free q i));
      in_line = at_queue (λ q. (i : ℕ) → times_in i (queue_of core' q).line ≤ one_if (whereabouts_code (item_of core' q i).whereabouts == 2 ^ 32)) queue
          (at_queue (λ i. times_in i (queue_of core' queue).line ≤ one_if (whereabouts_code (item_of core' queue i).whereabouts == 2 ^ 32)) item
          (rw (new_item, here) meets.in_line)
          (λ i ne. rw (old_item i ne, here) (omega (arith, meets.others_in_line i ne, r.in_line queue i))))
          (λ q ne i. rw (elsewhere q ne i, apart q ne) (r.in_line q i));
      untagged = at_queue (λ q. (i : ℕ) → whereabouts_code (item_of core' q i).whereabouts ≡ 0 → (item_of core' q i).tag ≡ 0) queue
          (at_queue (λ i. whereabouts_code (item_of core' queue i).whereabouts ≡ 0 → (item_of core' queue i).tag ≡ 0) item
          (rw new_item meets.untagged)
          (λ i ne. rw (old_item i ne) (r.untagged queue i)))
          (λ q ne i. rw (elsewhere q ne i) (r.untagged q i));
      held = at_queue (λ q. (i k : ℕ) → q ≢ 0 → whereabouts_code (item_of core' q i).whereabouts ≡ 1 + k → role_of core k ≡ 1 → (item_of core' q i).tag ≢ 0
          → list_any (is_same_part (part_of (item_of core' q i).tag (item_of core' q i))) (lists_at seats k).sent ≡ true) queue
          (at_queue (λ i. (k : ℕ) → queue ≢ 0 → whereabouts_code (item_of core' queue i).whereabouts ≡ 1 + k → role_of core k ≡ 1 → (item_of core' queue i).tag ≢ 0
          → list_any (is_same_part (part_of (item_of core' queue i).tag (item_of core' queue i))) (lists_at seats k).sent ≡ true) item
          (rw new_item meets.held)
          (λ i ne. rw (old_item i ne) (λ k back at_k worker some. still k _ (r.held queue i k back at_k worker some))))
          (λ q ne i. rw (elsewhere q ne i) (λ k back at_k worker some. still k _ (r.held q i k back at_k worker some)));
      recent = recent_same at after core.next known r.recent;
      numbered = λ p. drawn p ∙ r.numbered p ∙ numbered_same at after core.next p known;
    }
