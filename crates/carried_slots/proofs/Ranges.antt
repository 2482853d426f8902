-- Slots of a range of numbers.
use Rattle.std.proofs.Common.{ℕ, ◌≡◌, ◌+◌, ◌-◌, ◌<◌, ◌≤◌, ◌⊎◌, inl, inr, ⊎_elim, Bool, true, false, nat_lt, if◌then◌else◌, List, refl, sym, ap, ◌∙◌, arith}
use Rattle.std.specs.Prelude.{Option, None, Some}
use Rattle.std.proofs.lemmas.Bool.{cases_eq, cases_lt, le-ltb, lt-ltb}
use Rattle.unit_model.specs.Weights.{is_number}
use Rattle.unit_model.proofs.Weights.{is_number_same, is_number_other, weigh_none}
use Rattle.carried_slots.specs.EmptySlots.{empty_weight, weight_if_empty, without_empty}
use Rattle.carried_slots.specs.Ranges.{weight_within}
use Rattle.carried_slots.proofs.EmptySlots.{empty_freed, empty_same}

if_weightless : {T : Type 0} (o : Option T) (m : ℕ) → m ≡ 0 → weight_if_empty o m ≡ 0
if_weightless None m none = none
if_weightless (Some y) m none = refl

module _ (first n : ℕ) where
  pub cases_within : (k : ℕ) → ((i : ℕ) × (i < n) × (k ≡ first + i)) ⊎ ((k < first) ⊎ (first + n ≤ k))
  cases_within k =
      elim (cases_lt k first) [
        | inl lt ↦ inr (inl lt)
        | inr from ↦ elim (cases_lt (k - first) n) [
          | inl inside ↦ inl (k - first, inside, omega (arith, from))
          | inr behind ↦ inr (inr (omega (arith, from, behind)))
        ]
      ]

  -- the weight by the two tests
  by_tests : (f : ℕ → ℕ) (k : ℕ) (low inside : Bool) → nat_lt k first ≡ low → nat_lt (k - first) n ≡ inside → weight_within first n f k ≡ (if low then 0 else if inside then f (k - first) else 0)
  by_tests f k low inside is is' =
      ap (λ (b : Bool). if b then 0 else if nat_lt (k - first) n then f (k - first) else 0) is
      ∙ ap (λ (b : Bool). if low then 0 else if b then f (k - first) else 0) is'

  pub within_here : (f : ℕ → ℕ) (i : ℕ) → i < n → weight_within first n f (first + i) ≡ f i
  within_here f i lt =
      let back : first + i - first ≡ i = omega arith in
      by_tests f (first + i) false true (le-ltb (first + i) first (omega arith)) (lt-ltb (first + i - first) n (omega (arith, lt))) ∙ ap f back

  pub within_out : (f : ℕ → ℕ) (k : ℕ) → (k < first) ⊎ (first + n ≤ k) → weight_within first n f k ≡ 0
  within_out f k (inl lt) = by_tests f k true (nat_lt (k - first) n) (lt-ltb k first lt) refl
  within_out f k (inr le) = by_tests f k false false (le-ltb k first (omega (arith, le))) (le-ltb (k - first) n (omega (arith, le)))

  pub within_one : (i k : ℕ) → i < n → weight_within first n (is_number i) k ≡ is_number (first + i) k
  within_one i k lt =
      elim (cases_within k) [
        | inl here ↦ ⊎_elim
            (λ same. omega (
              arith,
              ap (weight_within first n (is_number i)) here.2,
              within_here (is_number i) here.0 here.1,
              ap (is_number i) same,
              is_number_same i,
              ap (is_number (first + i)) here.2,
              ap (λ (j : ℕ). is_number (first + i) (first + j)) same,
              is_number_same (first + i),
            ))
            (λ ne. omega (
              arith,
              ap (weight_within first n (is_number i)) here.2,
              within_here (is_number i) here.0 here.1,
              is_number_other i here.0 ne,
              is_number_other (first + i) k (λ is. ne (omega (arith, is, here.2))),
            ))
            (cases_eq here.0 i)
        | inr out ↦ omega (arith, within_out (is_number i) k out, is_number_other (first + i) k (λ is. ⊎_elim (λ low. absurd (omega (arith, low, is))) (λ high. absurd (omega (arith, high, is, lt))) out))
      ]

  -- a number that isn't a place in the range weighs nothing
  off_range : (i k : ℕ) → n ≤ i → weight_within first n (is_number i) k ≡ 0
  off_range i k le =
      elim (cases_within k) [
        | inl here ↦ omega (
          arith,
          ap (weight_within first n (is_number i)) here.2,
          within_here (is_number i) here.0 here.1,
          is_number_other i here.0 (λ is. absurd (omega (arith, is, here.1, le))),
        )
        | inr out ↦ within_out (is_number i) k out
      ]

  pub is_inside : {T : Type 0} (i : ℕ) (c : List (ℕ × Option T)) → 0 < empty_weight (weight_within first n (is_number i)) c → i < n
  is_inside {T} i c mine =
      elim (cases_lt i n) [
        | inl lt ↦ lt
        | inr le ↦ absurd (omega (arith, mine, weigh_none (λ (x : ℕ × Option T). weight_if_empty x.1 (weight_within first n (is_number i) x.0)) c (λ x. if_weightless x.1 (weight_within first n (is_number i) x.0) (off_range i x.0 le))))
      ]

  pub one_within : {T : Type 0} (i : ℕ) (c : List (ℕ × Option T)) → i < n → empty_weight (weight_within first n (is_number i)) c ≡ empty_weight (is_number (first + i)) c
  one_within i c lt = empty_same (weight_within first n (is_number i)) (is_number (first + i)) c (λ k. within_one i k lt)

  -- an empty slot of the range goes
  pub freed_within : {T : Type 0} (f : ℕ → ℕ) (i : ℕ) (c : List (ℕ × Option T)) → 0 < empty_weight (weight_within first n (is_number i)) c → empty_weight (weight_within first n f) (without_empty (first + i) c) + f i ≡ empty_weight (weight_within first n f) c
  freed_within f i c mine =
      let lt : i < n = is_inside i c mine in
      omega (arith, empty_freed (weight_within first n f) (first + i) c (omega (arith, mine, one_within i c lt)), within_here f i lt)
