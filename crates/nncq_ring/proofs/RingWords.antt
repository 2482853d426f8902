-- A word that is set in a list changes that word of the ring alone.
use Rattle.std.proofs.Common.{ℕ, suc, ◌+◌, ◌-◌, ◌*◌, ◌/◌, ◌%◌, ◌≡◌, ◌≤◌, ◌<◌, List, [], length, set, refl, sym, ap, ◌∙◌, arith, get_or-set_same, get_or-set_other, inl, inr, div-add-mod', mod-lt, suc-mul, mul-le-mul_right}
use Rattle.std.proofs.lemmas.Bool.{cases_eq, cases_lt}
use Rattle.std.proofs.lemmas.Nat.{div-mul-add}
use Rattle.nncq_ring.specs.Words.{Words, IsWellFormed, line_of, SetsEntry, SetsTail, SetsHead}
use Rattle.nncq_ring.specs.Later.{Later}
use Rattle.nncq_ring.specs.RingWords.{ring_words, Fresh}
use Rattle.nncq_ring.proofs.Noting.{starts}

-- nothing changed
pub stays_later : (n : ℕ) (w : Words) → Later n w w
stays_later n w = record { head = omega arith; tail = omega arith; next = omega arith; filled = λ p has. inl refl; vacant = λ p has. inl refl }

module _ (n offset : ℕ) (words : List ℕ) (wide : offset + 32 + n ≤ length words) (x : ℕ) where
  pub sets_entry : (slot : ℕ) → slot < n → SetsEntry n (ring_words offset words) (ring_words offset (set words (offset + 32 + slot) x)) slot x
  sets_entry slot lt = record {
    head = get_or-set_other words (offset + 32 + slot) offset x 0 (λ is. absurd (omega (arith, is)));
    tail = get_or-set_other words (offset + 32 + slot) (offset + 16) x 0 (λ is. absurd (omega (arith, is)));
    here = get_or-set_same words (offset + 32 + slot) x 0 (omega (arith, wide, lt));
    others = λ j below_n ne. get_or-set_other words (offset + 32 + slot) (offset + 32 + j) x 0 (λ is. ne (omega (arith, is)));
  }

  pub sets_tail : SetsTail n (ring_words offset words) (ring_words offset (set words (offset + 16) x)) x
  sets_tail = record {
    head = get_or-set_other words (offset + 16) offset x 0 (λ is. absurd (omega (arith, is)));
    tail = get_or-set_same words (offset + 16) x 0 (omega (arith, wide));
    entries = λ j below_n. get_or-set_other words (offset + 16) (offset + 32 + j) x 0 (λ is. absurd (omega (arith, is)));
  }

  pub sets_head : SetsHead n (ring_words offset words) (ring_words offset (set words offset x)) x
  sets_head = record {
    head = get_or-set_same words offset x 0 (omega (arith, wide));
    tail = get_or-set_other words offset (offset + 16) x 0 (λ is. absurd (omega (arith, is)));
    entries = λ j below_n. get_or-set_other words offset (offset + 32 + j) x 0 (λ is. absurd (omega (arith, is)));
  }

-- a ring that was just made is well formed and empty
pub fresh_starts : (n start offset : ℕ) (words : List ℕ) → 0 < n → n ≤ start → Fresh n start offset words → IsWellFormed n (ring_words offset words) × (line_of n (ring_words offset words) ≡ [])
fresh_starts n start offset words pos turned fresh =
    let begins = starts n (ring_words offset words) pos (omega (arith, turned, fresh.head)) (fresh.tail ∙ sym fresh.head)
    (λ p lt near. ap (λ (x : ℕ). x / n) (fresh.entries p (omega (arith, lt, fresh.head)) (omega (arith, near, fresh.head))) ∙ div-mul-add (p / n) n 0 pos) in
    (begins.0, begins.1)

-- ---- the entries at first

further : (x y n : ℕ) → x < y → x * n + n ≤ y * n
further x y n lt = let longer : suc x * n ≤ y * n = mul-le-mul_right n lt in omega (arith, longer, suc-mul x n)

-- The last place before the start with this slot has the start's cycle where the slot is below that of the start, and else the
-- cycle before.
pub first_low : (n start slot place : ℕ) → 0 < n → place < start → start ≤ place + n → place % n ≡ slot → slot < start % n → start - start % n ≡ place / n * n
first_low n start slot place pos before near is lt =
    let a : place / n * n + place % n ≡ place = div-add-mod' place n in
    let b : start / n * n + start % n ≡ start = div-add-mod' start n in
    let r : start % n < n = mod-lt start pos in
    elim (cases_lt (place / n) (start / n)) [
      | inl low ↦ absurd (omega (arith, further (place / n) (start / n) n low, a, b, is, lt, near))
      | inr le ↦ elim (cases_eq (place / n) (start / n)) [
        | inl same ↦ omega (arith, ap (λ (m : ℕ). m * n) same, b)
        | inr other ↦ let high : start / n < place / n = omega (arith, le, other) in absurd (omega (arith, further (start / n) (place / n) n high, a, b, r, before))
      ]
    ]

pub first_high : (n start slot place : ℕ) → 0 < n → place < start → start ≤ place + n → place % n ≡ slot → start % n ≤ slot → start - start % n - n ≡ place / n * n
first_high n start slot place pos before near is le =
    let a : place / n * n + place % n ≡ place = div-add-mod' place n in
    let b : start / n * n + start % n ≡ start = div-add-mod' start n in
    let r : place % n < n = mod-lt place pos in
    elim (cases_lt (place / n) (start / n)) [
      | inl low ↦ elim (cases_eq (suc (place / n)) (start / n)) [
        | inl same ↦ omega (arith, ap (λ (m : ℕ). m * n) same, suc-mul (place / n) n, b)
        | inr other ↦
            let lower : suc (place / n) < start / n = omega (arith, low, other) in
            absurd (omega (arith, further (suc (place / n)) (start / n) n lower, suc-mul (place / n) n, a, b, r, near))
      ]
      | inr high ↦ elim (cases_eq (place / n) (start / n)) [
        | inl same ↦ absurd (omega (arith, ap (λ (m : ℕ). m * n) same, a, b, is, le, before))
        | inr other ↦ let higher : start / n < place / n = omega (arith, high, other) in absurd (omega (arith, further (start / n) (place / n) n higher, a, b, mod-lt start pos, before))
      ]
    ]
