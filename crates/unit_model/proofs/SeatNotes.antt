-- The counts of streams over the seats after one seat has added a note.
use Rattle.std.proofs.Common.{◌≡◌, ◌≢◌, ℕ, ◌+◌, ◌<◌, ◌≤◌, ◌==◌, true, false, List, [], ◌∷◌, ◌++◌, length, get_or, ap, ◌∙◌, arith, inl, inr}
use Rattle.std.proofs.lemmas.List.{get_or_past}
use Rattle.std.proofs.lemmas.Bool.{cases_eq, cases_lt}
use Rattle.unit_model.specs.Conditions.{has_stream}
use Rattle.unit_model.specs.Core.{seat_of, no_seat}
use Rattle.unit_model.specs.Effects.{noted}
use Rattle.unit_model.specs.Lists.{change_at}
use Rattle.unit_model.specs.StreamCounts.{by_seat, by_all}
use Rattle.unit_model.specs.Weights.{weigh, is_number, times, over_all}
use Rattle.unit_model.specs.declared.machine.Core.{Core}
use Rattle.unit_model.specs.declared.machine.Note.{Note}
use Rattle.unit_model.specs.declared.machine.Seat.{Seat as SeatLists}
use Rattle.unit_model.proofs.Changes.{changed_at, unchanged_at, part_stays, over_all_changed, over_all_grown, any_counts, none_counts, weigh_one, weigh_le_each, weigh_le_at}
use Rattle.unit_model.proofs.Weights.{weigh_push, over_all_at}

-- the seat has added the note, and no other seat's lists have changed
pub record Adds (core new : Core) (seat : ℕ) (note : Note) : Type 0 where
  pub inside : seat < length core.seats
  pub seats : new.seats ≡ change_at seat (noted note) core.seats

-- ---- a list that stays

pub record Stays (list : SeatLists → List ℕ) (core new : Core) : Type 0 where
  pub each : (seat stream : ℕ) → by_seat list new seat stream ≡ by_seat list core seat stream
  pub all : (stream : ℕ) → by_all list new stream ≡ by_all list core stream

pub stays : (list : SeatLists → List ℕ) (core new : Core) (seat : ℕ) (note : Note) → Adds core new seat note → ((l : SeatLists) → list (noted note l) ≡ list l) → Stays list core new
stays list core new seat note adds same = record {
  each = λ k stream. ap (λ (s : List SeatLists). times stream (list (get_or s k no_seat))) adds.seats ∙ ap (times stream) (part_stays list seat (noted note) core.seats k no_seat same);
  all = λ stream. ap (over_all (is_number stream) list) adds.seats ∙ over_all_changed (is_number stream) list seat (noted note) core.seats same;
}

-- where no seat has changed
pub all_stays : (list : SeatLists → List ℕ) (core new : Core) → new.seats ≡ core.seats → Stays list core new
all_stays list core new same = record {
  each = λ k stream. ap (λ (s : List SeatLists). times stream (list (get_or s k no_seat))) same;
  all = λ stream. ap (over_all (is_number stream) list) same;
}

-- ---- a list that grows by a stream

pub record Grows (list : SeatLists → List ℕ) (core new : Core) (seat stream : ℕ) : Type 0 where
  pub here : (other : ℕ) → by_seat list new seat other ≡ by_seat list core seat other + is_number other stream
  pub elsewhere : (k other : ℕ) → k ≢ seat → by_seat list new k other ≡ by_seat list core k other
  pub all : (other : ℕ) → by_all list new other ≡ by_all list core other + is_number other stream

pub grows : (list : SeatLists → List ℕ) (core new : Core) (seat : ℕ) (note : Note) (stream : ℕ) → Adds core new seat note → ((l : SeatLists) → list (noted note l) ≡ list l ++ stream ∷ []) → Grows list core new seat stream
grows list core new seat note stream adds grown =
    let lists = seat_of core seat in
    record {
      here = λ other.
          ap (λ (s : List SeatLists). times other (list (get_or s seat no_seat))) adds.seats
          ∙ ap (λ (l : SeatLists). times other (list l)) (changed_at seat (noted note) core.seats no_seat adds.inside)
          ∙ ap (times other) (grown lists)
          ∙ weigh_push (is_number other) (list lists) stream;
      elsewhere = λ k other away.
          ap (λ (s : List SeatLists). times other (list (get_or s k no_seat))) adds.seats
          ∙ ap (λ (l : SeatLists). times other (list l)) (unchanged_at seat (noted note) core.seats k no_seat away);
      all = λ other.
          ap (over_all (is_number other) list) adds.seats
          ∙ over_all_grown (is_number other) list seat (noted note) core.seats no_seat stream adds.inside grown;
    }

-- no count falls
pub rises : (list : SeatLists → List ℕ) (core new : Core) (seat stream : ℕ) → Grows list core new seat stream → (k other : ℕ) → by_seat list core k other ≤ by_seat list new k other
rises list core new seat stream g k other =
    elim (cases_eq k seat) [
      | inl here ↦ rw here (omega (arith, g.here other))
      | inr away ↦ omega (arith, g.elsewhere k other away)
    ]

-- ---- membership

pub has_counts : (stream : ℕ) (streams : List ℕ) → has_stream stream streams ≡ true → 1 ≤ times stream streams
has_counts stream streams has = any_counts (λ other. other == stream) streams has

pub has_not_counts : (stream : ℕ) (streams : List ℕ) → has_stream stream streams ≡ false → times stream streams ≡ 0
has_not_counts stream streams has = none_counts (λ other. other == stream) streams has

-- a seat that isn't there has nothing
pub is_there_of : {X : Type 0} (f : X → ℕ) (list : SeatLists → List X) (core : Core) (seat : ℕ) → list no_seat ≡ [] → 1 ≤ weigh f (list (seat_of core seat)) → seat < length core.seats
is_there_of f list core seat none some =
    elim (cases_lt seat (length core.seats)) [
      | inl inside ↦ inside
      | inr outside ↦ absurd (let gone = get_or_past core.seats seat no_seat outside in omega (arith, some, ap (λ (l : SeatLists). weigh f (list l)) gone, ap (weigh f) none))
    ]

-- one seat's list is a part of them all
pub seat_in_all : (list : SeatLists → List ℕ) (core : Core) (seat stream : ℕ) → list no_seat ≡ [] → by_seat list core seat stream ≤ by_all list core stream
seat_in_all list core seat stream none =
    elim (cases_lt seat (length core.seats)) [
      | inl inside ↦ over_all_at (is_number stream) list core.seats seat no_seat inside
      | inr outside ↦ omega (arith, ap (λ (l : SeatLists). times stream (list l)) (get_or_past core.seats seat no_seat outside), ap (times stream) none)
    ]

-- two seats that have a stream which stands there once are one
pub one_seat : (list : SeatLists → List ℕ) (core : Core) (stream j k : ℕ) → list no_seat ≡ [] → by_all list core stream ≤ 1 → 1 ≤ by_seat list core j stream → 1 ≤ by_seat list core k stream → j ≡ k
one_seat list core stream j k none once here there =
    weigh_one (λ (l : SeatLists). times stream (list l)) core.seats j k no_seat (is_there_of (is_number stream) list core j none here) (is_there_of (is_number stream) list core k none there) once here there

-- counts of each seat that are less are less together
pub all_less : (list other : SeatLists → List ℕ) (core : Core) (stream : ℕ) → ((seat : ℕ) → by_seat list core seat stream ≤ by_seat other core seat stream) → by_all list core stream ≤ by_all other core stream
all_less list other core stream le = weigh_le_each (λ (l : SeatLists). times stream (list l)) (λ (l : SeatLists). times stream (other l)) core.seats no_seat le

-- and so is what one seat lacks
pub all_less_at : (list other : SeatLists → List ℕ) (core : Core) (stream seat : ℕ) → seat < length core.seats → ((k : ℕ) → by_seat list core k stream ≤ by_seat other core k stream) → by_all list core stream + by_seat other core seat stream ≤ by_all other core stream + by_seat list core seat stream
all_less_at list other core stream seat inside le = weigh_le_at (λ (l : SeatLists). times stream (list l)) (λ (l : SeatLists). times stream (other l)) core.seats seat no_seat inside le
