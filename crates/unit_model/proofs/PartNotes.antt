-- The counts of parts over the seats after one seat has added a note.
use Rattle.std.proofs.Common.{◌≡◌, ◌≢◌, ℕ, ◌+◌, ◌≤◌, ◌==◌, ◌&&◌, Bool, true, false, cond, if◌then◌else◌, not, List, [], ◌∷◌, ◌++◌, length, get_or, refl, sym, ap, ◌∙◌, arith, inl, inr, ◌⊎◌}
use Rattle.std.specs.Prelude.{count_by}
use Rattle.std.proofs.lemmas.Bool.{cases_eq, cases_lt, and_parts, eqb-true, eq-eqb}
use Rattle.std.proofs.lemmas.List.Recursion.{is_count_by}
use Rattle.std.proofs.lemmas.List.Sums.{length-filter}
use Rattle.unit_model.specs.Conditions.{parts_sent, is_same_part}
use Rattle.unit_model.specs.Core.{seat_of, no_seat}
use Rattle.unit_model.specs.Effects.{noted}
use Rattle.unit_model.specs.PartCounts.{is_of_stream, of_stream, same_part, parts_by_seat, sent, sent_parts}
use Rattle.unit_model.specs.Weights.{weigh, one_if, over_all}
use Rattle.unit_model.specs.declared.machine.Core.{Core}
use Rattle.unit_model.specs.declared.machine.Note.{Note}
use Rattle.unit_model.specs.declared.machine.Part.{Part}
use Rattle.unit_model.specs.declared.machine.Seat.{Seat as SeatLists}
use Rattle.unit_model.proofs.Changes.{changed_at, unchanged_at, part_stays, over_all_changed, over_all_grown}
use Rattle.unit_model.proofs.SeatNotes.{Adds}
use Rattle.unit_model.proofs.Weights.{weigh_push}

-- ---- a list that stays

pub record PartsStay (list : SeatLists → List Part) (core new : Core) : Type 0 where
  pub each : (seat : ℕ) → list (seat_of new seat) ≡ list (seat_of core seat)
  pub all : (f : Part → ℕ) → over_all f list new.seats ≡ over_all f list core.seats

pub parts_stay : (list : SeatLists → List Part) (core new : Core) (seat : ℕ) (note : Note) → Adds core new seat note → ((l : SeatLists) → list (noted note l) ≡ list l) → PartsStay list core new
parts_stay list core new seat note adds same = record {
  each = λ k. ap (λ (s : List SeatLists). list (get_or s k no_seat)) adds.seats ∙ part_stays list seat (noted note) core.seats k no_seat same;
  all = λ f. ap (over_all f list) adds.seats ∙ over_all_changed f list seat (noted note) core.seats same;
}

pub all_parts_stay : (list : SeatLists → List Part) (core new : Core) → new.seats ≡ core.seats → PartsStay list core new
all_parts_stay list core new same = record {
  each = λ k. ap (λ (s : List SeatLists). list (get_or s k no_seat)) same;
  all = λ f. ap (over_all f list) same;
}

-- ---- a list that grows by a part

pub record PartsGrow (list : SeatLists → List Part) (core new : Core) (seat : ℕ) (part : Part) : Type 0 where
  pub here : list (seat_of new seat) ≡ list (seat_of core seat) ++ part ∷ []
  pub elsewhere : (k : ℕ) → k ≢ seat → list (seat_of new k) ≡ list (seat_of core k)
  pub all : (f : Part → ℕ) → over_all f list new.seats ≡ over_all f list core.seats + f part

pub parts_grow : (list : SeatLists → List Part) (core new : Core) (seat : ℕ) (note : Note) (part : Part) → Adds core new seat note → ((l : SeatLists) → list (noted note l) ≡ list l ++ part ∷ []) → PartsGrow list core new seat part
parts_grow list core new seat note part adds grown = record {
  here =
      ap (λ (s : List SeatLists). list (get_or s seat no_seat)) adds.seats
      ∙ ap list (changed_at seat (noted note) core.seats no_seat adds.inside)
      ∙ grown (seat_of core seat);
  elsewhere = λ k away.
      ap (λ (s : List SeatLists). list (get_or s k no_seat)) adds.seats
      ∙ ap list (unchanged_at seat (noted note) core.seats k no_seat away);
  all = λ f.
      ap (over_all f list) adds.seats
      ∙ over_all_grown f list seat (noted note) core.seats no_seat part adds.inside grown;
}

pub parts_here : (list : SeatLists → List Part) (core new : Core) (seat : ℕ) (part : Part) → PartsGrow list core new seat part → (f : Part → ℕ) → weigh f (list (seat_of new seat)) ≡ weigh f (list (seat_of core seat)) + f part
parts_here list core new seat part g f = ap (weigh f) g.here ∙ weigh_push f (list (seat_of core seat)) part

pub parts_rise : (list : SeatLists → List Part) (core new : Core) (seat : ℕ) (part : Part) → PartsGrow list core new seat part → (f : Part → ℕ) (k : ℕ) → weigh f (list (seat_of core k)) ≤ weigh f (list (seat_of new k))
parts_rise list core new seat part g f k =
    elim (cases_eq k seat) [
      | inl here ↦ rw here (omega (arith, parts_here list core new seat part g f))
      | inr away ↦ omega (arith, ap (weigh f) (g.elsewhere k away))
    ]

-- what counts in a list after it has grown counted before, or is the new part
pub parts_before : (list : SeatLists → List Part) (core new : Core) (seat : ℕ) (part : Part) → PartsGrow list core new seat part → (f : Part → ℕ) (k : ℕ) → 1 ≤ weigh f (list (seat_of new k)) → (1 ≤ weigh f (list (seat_of core k))) ⊎ ((k ≡ seat) × (1 ≤ f part))
parts_before list core new seat part g f k some =
    elim (cases_eq k seat) [
      | inr away ↦ inl (omega (arith, some, ap (weigh f) (g.elsewhere k away)))
      | inl here ↦ elim (cases_lt 0 (f part)) [
        | inl counts ↦ inr (here, omega (arith, counts))
        | inr none ↦ inl (rw here (omega (arith, none, rw here at some, parts_here list core new seat part g f)))
      ]
    ]

-- ---- how many parts were sent

one_more : (b : Bool) (n : ℕ) → one_if b + n ≡ cond b (1 + n) n
one_more true n = refl
one_more false n = omega arith

count_is_weight : {X : Type 0} (test : X → Bool) (xs : List X) → count_by test xs ≡ weigh (λ x. one_if (test x)) xs
count_is_weight test xs = sym (is_count_by (weigh (λ x. one_if (test x))) test refl (λ x ys. one_more (test x) (weigh (λ y. one_if (test y)) ys)) xs)

sent_by_each : (stream : ℕ) (seats : List SeatLists) → weigh (λ lists. count_by (λ part. part.stream == stream) lists.sent) seats ≡ over_all (of_stream stream) sent seats
sent_by_each stream [] = refl
sent_by_each stream (l ∷ seats) = omega (arith, count_is_weight (is_of_stream stream) l.sent, sent_by_each stream seats)

pub parts_sent_is : (core : Core) (stream : ℕ) → parts_sent core stream ≡ over_all (of_stream stream) sent core.seats
parts_sent_is core stream = sent_by_each stream core.seats

pub sent_length : (core : Core) (seat stream : ℕ) → length (sent_parts core seat stream) ≡ parts_by_seat sent core seat stream
sent_length core seat stream = length-filter (is_of_stream stream) (seat_of core seat).sent ∙ count_is_weight (is_of_stream stream) (seat_of core seat).sent

-- ---- parts

same_mark : (one other : Bool) → (if one then other else not other) ≡ true → one ≡ other
same_mark true other same = sym same
same_mark false true same = absurd (cc same)
same_mark false false same = refl

abbrev made : ℕ → ℕ → Bool → Part
made stream number last = record { stream = stream; number = number; last = last }

pub same_is : (one other : Part) → is_same_part one other ≡ true → one ≡ other
same_is one other same =
    let numbers = and_parts (one.stream == other.stream) (one.number == other.number && (if one.last then other.last else not other.last)) same in
    let rest = and_parts (one.number == other.number) (if one.last then other.last else not other.last) numbers.1 in
    let stream : one.stream ≡ other.stream = eqb-true one.stream other.stream numbers.0 in
    let number : one.number ≡ other.number = eqb-true one.number other.number rest.0 in
    let last : one.last ≡ other.last = same_mark one.last other.last rest.1 in
    ap (λ n. made n one.number one.last) stream ∙ ap (λ n. made other.stream n one.last) number ∙ ap (made other.stream other.number) last

mark_itself : (mark : Bool) → (if mark then mark else not mark) ≡ true
mark_itself true = refl
mark_itself false = refl

pub one_itself : (part : Part) → same_part part part ≡ 1
one_itself part =
    rw (eq-eqb part.stream part.stream refl) (rw (eq-eqb part.number part.number refl) (ap one_if (mark_itself part.last)))
