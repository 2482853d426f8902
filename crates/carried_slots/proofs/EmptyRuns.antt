-- What a seat carries after a run of empty slots came or went, where all others stayed.
use Rattle.std.proofs.Common.{ℕ, ◌≡◌, ◌+◌, ◌≤◌, List, sym, ap, arith}
use Rattle.std.specs.List.{range_with_len}
use Rattle.std.specs.Prelude.{Option}
use Rattle.unit_model.specs.Weights.{is_number, times}
use Rattle.carried_slots.specs.Carried.{content, numbers, IsDistinct}
use Rattle.carried_slots.specs.EmptySlots.{empty_weight, full_slots}
use Rattle.carried_slots.specs.RunSlots.{HasEmpty, HasNone, SameElsewhere}
use Rattle.carried_slots.proofs.EmptySlots.{same_known, empty_known, parts_weigh}
use Rattle.carried_slots.proofs.Lookups.{none_content}
use Rattle.carried_slots.proofs.RunLists.{in_range, out_of_range}

module _ {T : Type 0} where
  -- of fewer slots none is carried twice either
  fewer_distinct : (c c' : List (ℕ × Option T)) → IsDistinct c' → full_slots c' ≡ full_slots c → ((k : ℕ) → empty_weight (is_number k) c ≤ empty_weight (is_number k) c') → IsDistinct c
  fewer_distinct c c' once' full fewer k = omega (arith, parts_weigh (is_number k) c, parts_weigh (is_number k) c', ap (λ l. times k (numbers l)) full, fewer k, once' k)

  -- a run of them came
  pub run_claimed : (first n : ℕ) (c c' : List (ℕ × Option T)) → IsDistinct c' → full_slots c' ≡ full_slots c
      → ((k : ℕ) → empty_weight (is_number k) c' ≡ times k (range_with_len first n) + empty_weight (is_number k) c) → HasNone first n c × HasEmpty first n c' × SameElsewhere first n c c'
  run_claimed first n c c' once' full gained = (
    λ i lt. none_content c (first + i) (omega (
      arith,
      parts_weigh (is_number (first + i)) c,
      parts_weigh (is_number (first + i)) c',
      ap (λ l. times (first + i) (numbers l)) full,
      gained (first + i),
      in_range first n i lt,
      once' (first + i),
    )),
    λ i lt. empty_known (first + i) c' once' (omega (arith, gained (first + i), in_range first n i lt)),
    λ k out. same_known k c c' (fewer_distinct c c' once' full (λ j. omega (arith, gained j))) once' full (omega (arith, gained k, out_of_range first n k out)),
  )

  -- none came
  pub nothing_claimed : (c c' : List (ℕ × Option T)) → IsDistinct c' → full_slots c' ≡ full_slots c
      → ((k : ℕ) → empty_weight (is_number k) c' ≡ empty_weight (is_number k) c) → (k : ℕ) → content c' k ≡ content c k
  nothing_claimed c c' once' full same k = same_known k c c' (fewer_distinct c c' once' full (λ j. omega (arith, same j))) once' full (same k)

  -- a run of them went
  pub run_released : (first n : ℕ) (c c' : List (ℕ × Option T)) → IsDistinct c → full_slots c' ≡ full_slots c
      → ((k : ℕ) → times k (range_with_len first n) + empty_weight (is_number k) c' ≡ empty_weight (is_number k) c) → HasNone first n c' × SameElsewhere first n c c'
  run_released first n c c' once full given = (
    λ i lt. none_content c' (first + i) (omega (
      arith,
      parts_weigh (is_number (first + i)) c,
      parts_weigh (is_number (first + i)) c',
      ap (λ l. times (first + i) (numbers l)) full,
      given (first + i),
      in_range first n i lt,
      once (first + i),
    )),
    λ k out. same_known k c c' once (fewer_distinct c' c once (sym full) (λ j. omega (arith, given j))) full (omega (arith, given k, out_of_range first n k out)),
  )
