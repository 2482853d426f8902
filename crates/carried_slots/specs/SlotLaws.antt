-- What the acts do, and what becomes of the carried slots, as statements. S is what a slot holds.
use Rattle.std.specs.Prelude.{ℕ, ◌+◌, ◌≡◌, ◌≢◌, ◌<◌, ◌≤◌, ◌⊎◌, ◌++◌, List, ◌∷◌, Option, Some, None, length, slice_get}
use Rattle.std.specs.List.{range_with_len}
use mathlib.Core.Option.{some}
use lib.ListN.{get_elem?}
use Rattle.atomic_table.specs.Table.{Valid, homes_after, carried_after}
use Rattle.unit_model.specs.Weights.{weigh, is_number, times}
use Rattle.carried_slots.specs.Carried.{content, numbers, but, front, IsDistinct, Among}
use Rattle.carried_slots.specs.Acts.{takes_all, becomes, AtHome}
use Rattle.carried_slots.specs.RunSlots.{HasNone, HasValues, run_gone, run_of}
use Rattle.carried_slots.specs.EmptySlots.{without_empty, empty_weight, full_slots, found_or_empty}

-- ---- acts

-- What is carried becomes the target. What is carried and not in the target is at home then, and no other slot moves.
pub record Becomes {S : Type 0} (homes : List (mathlib.Core.Option.Option S)) (c t : List (ℕ × S)) : Type 0 where
  pub valid : Valid homes c (becomes c t)
  pub carried : carried_after c (becomes c t) ≡ t
  pub given : (k : ℕ) (y : S) → times k (numbers t) ≡ 0 → content c k ≡ Some y
      → get_elem? (homes_after homes c (becomes c t)) k ≡ some (some y)
  pub others : (k : ℕ) → times k (numbers t) ≡ 0 → times k (numbers c) ≡ 0
      → get_elem? (homes_after homes c (becomes c t)) k ≡ get_elem? homes k

-- The target's slots are among the carried ones, which are slots of the table.
abbrev pub BecomesLaw : Type 0 → Type 0
BecomesLaw S = (homes : List (mathlib.Core.Option.Option S)) (c t : List (ℕ × S)) → IsDistinct c → IsDistinct t → Among c t
    → ((k : ℕ) → 0 < times k (numbers c) → k < length homes) → Becomes homes c t

-- Slots that are at home are carried in front of the others, and no other slot moves.
pub record Taken {S : Type 0} (homes : List (mathlib.Core.Option.Option S)) (c t : List (ℕ × S)) : Type 0 where
  pub valid : Valid homes c (takes_all t)
  pub carried : carried_after c (takes_all t) ≡ t ++ c
  pub others : (k : ℕ) → times k (numbers t) ≡ 0
      → get_elem? (homes_after homes c (takes_all t)) k ≡ get_elem? homes k

abbrev pub TakenLaw : Type 0 → Type 0
TakenLaw S = (homes : List (mathlib.Core.Option.Option S)) (c t : List (ℕ × S)) → IsDistinct t → AtHome homes t → Taken homes c t

-- ---- what is carried

-- A slot with a value is carried, and the other way round.
abbrev pub ContentLaw : Type 0 → Type 0
ContentLaw S = (c : List (ℕ × S)) (k : ℕ)
    → (0 < times k (numbers c) → (y : S) × (content c k ≡ Some y)) × ((y : S) → content c k ≡ Some y → 0 < times k (numbers c))

-- Without one slot that was carried, by any weight.
pub record Without {S : Type 0} (k : ℕ) (c : List (ℕ × S)) : Type 0 where
  pub weighs : (f : ℕ → ℕ) → weigh f (numbers (but k c)) + f k ≡ weigh f (numbers c)
  pub others : (j : ℕ) → j ≢ k → content (but k c) j ≡ content c j
  pub gone : IsDistinct c → content (but k c) k ≡ None
  pub among : IsDistinct c → Among c (but k c)

abbrev pub WithoutLaw : Type 0 → Type 0
WithoutLaw S = (c : List (ℕ × S)) (k : ℕ) → 0 < times k (numbers c) → Without k c

-- One slot comes to the front, and nothing else changes.
pub record Brought {S : Type 0} (k : ℕ) (c : List (ℕ × S)) : Type 0 where
  pub weighs : (f : ℕ → ℕ) → weigh f (numbers (front k c)) ≡ weigh f (numbers c)
  pub same : (j : ℕ) → content (front k c) j ≡ content c j
  pub first : (y : S) → content c k ≡ Some y → front k c ≡ (k, y) ∷ but k c
  pub among : IsDistinct c → Among c (front k c)

abbrev pub BroughtLaw : Type 0 → Type 0
BroughtLaw S = (c : List (ℕ × S)) (k : ℕ) → Brought k c

-- ---- runs

-- Without the slots of a run, which were carried.
pub record RunGone {S : Type 0} (first n : ℕ) (c : List (ℕ × S)) : Type 0 where
  pub weighs : (f : ℕ → ℕ) → weigh f (numbers (run_gone first n c)) + weigh f (range_with_len first n) ≡ weigh f (numbers c)
  pub others : (k : ℕ) → (k < first) ⊎ (first + n ≤ k) → content (run_gone first n c) k ≡ content c k
  pub gone : IsDistinct c → HasNone first n (run_gone first n c)
  pub among : IsDistinct c → Among c (run_gone first n c)

abbrev pub RunGoneLaw : Type 0 → Type 0
RunGoneLaw S = (c : List (ℕ × S)) (first n : ℕ) → ((i : ℕ) → i < n → 0 < times (first + i) (numbers c)) → RunGone first n c

-- With the slots of a run in front.
pub record RunTaken {S : Type 0} (first : ℕ) (values : List S) (c : List (ℕ × S)) : Type 0 where
  pub weighs : (f : ℕ → ℕ) → weigh f (numbers (run_of first values ++ c)) ≡ weigh f (range_with_len first (length values)) + weigh f (numbers c)
  pub here : (i : ℕ) → i < length values → content (run_of first values ++ c) (first + i) ≡ slice_get values i
  pub others : (k : ℕ) → (k < first) ⊎ (first + length values ≤ k) → content (run_of first values ++ c) k ≡ content c k
  pub distinct : IsDistinct (run_of first values)

abbrev pub RunTakenLaw : Type 0 → Type 0
RunTakenLaw S = (first : ℕ) (values : List S) (c : List (ℕ × S)) → RunTaken first values c

-- ---- empty slots

-- An empty slot that is carried goes.
pub record EmptyGone {T : Type 0} (k : ℕ) (c : List (ℕ × Option T)) : Type 0 where
  pub weighs : (f : ℕ → ℕ) → 0 < empty_weight (is_number k) c → empty_weight f (without_empty k c) + f k ≡ empty_weight f c
  pub full : full_slots (without_empty k c) ≡ full_slots c
  pub gone : content c k ≡ Some None → without_empty k c ≡ but k c

abbrev pub EmptyGoneLaw : Type 0 → Type 0
EmptyGoneLaw T = (c : List (ℕ × Option T)) (k : ℕ) → EmptyGone k c

-- What a slot has is told by the slots with values and the weight of the empty ones.
abbrev pub KnownLaw : Type 0 → Type 0
KnownLaw T = (c : List (ℕ × Option T)) (k : ℕ) → IsDistinct c → content c k ≡ found_or_empty (content (full_slots c) k) (empty_weight (is_number k) c)

-- Two lists of values that the same slots have are one.
abbrev pub SameValuesLaw : Type 0 → Type 0
SameValuesLaw T = (first : ℕ) (xs ys : List T) (c : List (ℕ × Option T)) → HasValues first xs c → HasValues first ys c → length xs ≡ length ys → xs ≡ ys
