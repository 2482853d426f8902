-- What is opened shows the opened core.
use Rattle.std.proofs.Common.{◌≡◌, ◌≢◌, ◌∙◌, ⊎_elim, ℕ, zero, suc, ◌+◌, ◌≤◌, ◌==◌, ◌&&◌, Bool, false, List, [], ◌∷◌, ◌++◌, length, get_or, replicate, refl, sym, ap, arith}
use Rattle.std.specs.Prelude.{Option, Some, None, is_some, count_by}
use Rattle.std.specs.List.{list_any}
use Rattle.std.proofs.lemmas.Bool.{cases_eq, eq-eqb, ne_eqb}
use Rattle.std.proofs.lemmas.List.{length-replicate}
use Rattle.trace_check.specs.Shows.{Agrees, IsReached, lists_at, is_last_of, times_in}
use Rattle.trace_check.specs.declared.streams.Stream.{Stream}
use Rattle.unit_model.specs.Conditions.{has_stream}
use Rattle.unit_model.specs.Core.{blank, item_of, no_queue, no_seat, queue_of}
use Rattle.unit_model.specs.Opening.{first_entries, fresh_queue, opened_core}
use Rattle.unit_model.specs.Shapes.{IsValid}
use Rattle.unit_model.specs.Weights.{weigh, below, one_if}
use Rattle.unit_model.specs.declared.machine.Entry.{Entry}
use Rattle.unit_model.specs.declared.machine.Queue.{Queue}
use Rattle.unit_model.specs.declared.shape.Shape.{Shape}

-- a list of the same has it everywhere, and so does what stands past it
all_same : {X : Type 0} (n : ℕ) (x : X) (k : ℕ) → get_or (replicate n x) k x ≡ x
all_same zero x k = refl
all_same (suc n) x zero = refl
all_same (suc n) x (suc k) = all_same n x k

none_of : {X : Type 0} (test : X → Bool) (n : ℕ) (x : X) → test x ≡ false → list_any test (replicate n x) ≡ false
none_of test zero x fails = refl
none_of test (suc n) x fails = rw fails (none_of test n x fails)

nothing_of : {X : Type 0} (f : X → ℕ) (n : ℕ) (x : X) → f x ≡ 0 → weigh f (replicate n x) ≡ 0
nothing_of f zero x nil = refl
nothing_of f (suc n) x nil = omega (arith, nil, nothing_of f n x nil)

seat_blank : (n k : ℕ) → lists_at (replicate n no_seat) k ≡ no_seat
seat_blank n k = all_same n no_seat k

pub agrees_opened : (n : ℕ) (at : ℕ → Option Stream) → ((s : ℕ) → at s ≡ None) → Agrees (replicate n no_seat) at
agrees_opened n at none = record {
  drawn = λ k s. rw (none s, seat_blank n k) refl;
  posted = λ k s. rw (none s, seat_blank n k) refl;
  cancelled = λ k s. rw (none s, seat_blank n k) refl;
  abandoned = λ k s. rw (none s, seat_blank n k) refl;
  received = λ k s d. rw (none s, seat_blank n k) refl;
  unreceived = λ k s d. rw (seat_blank n k) refl;
  takers = λ k s. rw (none s, seat_blank n k) refl;
  eight = λ s r is. let bad : None ≡ Some r = sym (none s) ∙ is in absurd (cc bad);
  taken = λ s. rw (none s) (none_of (λ lists. has_stream s lists.taken) n no_seat refl);
  sent = λ s. rw (none s) (nothing_of (λ lists. count_by (λ part. part.stream == s) lists.sent) n no_seat refl);
  last_sent = λ s. rw (none s) (none_of (λ lists. list_any (is_last_of s) lists.sent) n no_seat refl);
  closed = λ s. rw (none s) (none_of (λ lists. has_stream s lists.closed) n no_seat refl);
}

each_back : (P : Queue → Type 0) (n : ℕ) (queue : Queue) → P queue → P no_queue → (q : ℕ) → P (get_or (replicate n queue) q no_queue)
each_back P zero queue here none q = none
each_back P (suc n) queue here none zero = here
each_back P (suc n) queue here none (suc q) = each_back P n queue here none q

-- what holds of both sorts of fresh queues, and of none, holds of each queue
each_queue : (P : Queue → Type 0) (shape : Shape) → P (fresh_queue shape.start shape.items) → P (fresh_queue shape.start shape.back_items) → P no_queue
    → (q : ℕ) → P (queue_of (opened_core shape) q)
each_queue P shape line back none zero = line
each_queue P shape line back none (suc q) = each_back P shape.engines (fresh_queue shape.start shape.back_items) back none q

all_blank : (shape : Shape) (q i : ℕ) → item_of (opened_core shape) q i ≡ blank
all_blank shape q i = each_queue (λ queue. get_or queue.items i blank ≡ blank) shape (all_same shape.items blank i) (all_same shape.back_items blank i) refl q

times_behind : (entries : List Entry) (entry : Entry) (item : ℕ) → times_in item (entries ++ entry ∷ []) ≡ times_in item entries + one_if (entry.item == item)
times_behind [] entry item = omega arith
times_behind (e ∷ es) entry item = omega (arith, times_behind es entry item)

not_yet : (i start n : ℕ) → n ≤ i → times_in i (first_entries start n) ≡ 0
not_yet i start zero le = refl
not_yet i start (suc n) le =
    let ne : n ≢ i = omega arith in
    let none : one_if (n == i) ≡ 0 = rw (ne_eqb n i ne) refl in
    omega (arith, times_behind (first_entries start n) (record { place = start + n; item = n }) i, not_yet i start n (omega arith), none)

once_at_most : (i start n : ℕ) → times_in i (first_entries start n) ≤ 1
once_at_most i start zero = omega arith
once_at_most i start (suc n) =
    let more = times_behind (first_entries start n) (record { place = start + n; item = n }) i in
    ⊎_elim
    (λ (e : n ≡ i).
    let one : one_if (n == i) ≡ 1 = rw (eq-eqb n i e) refl in
    omega (arith, more, one, not_yet i start n (omega arith)))
    (λ (ne : n ≢ i).
    let none : one_if (n == i) ≡ 0 = rw (ne_eqb n i ne) refl in
    omega (arith, more, none, once_at_most i start n))
    (cases_eq n i)

first_none : (at : ℕ → Option Stream) → ((s : ℕ) → at s ≡ None) → (p : ℕ → Bool) → below (λ s. one_if (is_some (at s) && p s)) 1 ≡ 0
first_none at none p = rw (none 0) refl

pub reached_opened : (shape : Shape) (at : ℕ → Option Stream) → IsValid shape → ((s : ℕ) → at s ≡ None) → IsReached (opened_core shape) at
reached_opened shape at valid none = record {
  seats = length-replicate (shape.engines + shape.workers) no_seat;
  few = omega (arith, valid.engines, valid.workers);
  small = each_queue (λ queue. length queue.items ≤ 16384) shape
      (omega (arith, length-replicate shape.items blank, valid.items))
      (omega (arith, length-replicate shape.back_items blank, valid.back_items))
      (omega arith);
  tagged = λ q i ne. absurd (ne (ap (λ x. x.tag) (all_blank shape q i)));
  free = λ q i. rw (all_blank shape q i) (each_queue (λ queue. times_in i queue.free ≤ 1) shape (once_at_most i shape.start shape.items) (once_at_most i shape.start shape.back_items) (omega arith) q);
  in_line = λ q i. rw (all_blank shape q i) (each_queue (λ queue. times_in i queue.line ≤ 0) shape (omega arith) (omega arith) (omega arith) q);
  untagged = λ q i e. ap (λ x. x.tag) (all_blank shape q i);
  held = λ q i k back at_k worker ne. absurd (ne (ap (λ x. x.tag) (all_blank shape q i)));
  recent = λ s le. none s;
  numbered = λ p. nothing_of (λ lists. count_by p lists.drawn) (shape.engines + shape.workers) no_seat refl ∙ sym (first_none at none p);
}
