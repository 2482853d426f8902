-- Single changes of a list of words.
use Rattle.std.proofs.Common.{ℕ, ◌≡◌, ◌≢◌, ◌*◌, ◌/◌, ◌%◌, ◌^◌, ◌<◌, ◌==◌, replicate, inl, inr, false, List, set, slice_index, length, sym, ap, ◌∙◌, arith, get_or-set_same, get_or-set_other}
use Rattle.std.specs.Prelude.{bit_and}
use Rattle.std.specs.Int.{bit_at, bit_not, w64}
use Rattle.std.proofs.lemmas.Bool.{ne_eqb, cases_eq, cases_lt}
use Rattle.std.proofs.lemmas.List.{get_or-replicate, get_or_past, length-replicate}
use Rattle.std.proofs.lemmas.Nat.Bits.{bit_at_clear_same, bit_at_clear_other}
use Rattle.chunk_map.specs.Words.{is_free}

abbrev pub cleared : List ℕ → ℕ → List ℕ
cleared words chunk = set words (chunk / 64) (bit_and (slice_index words (chunk / 64)) (bit_not w64 (1 * 2 ^ (chunk % 64) % 2 ^ 64)))

pub cleared_here : (words : List ℕ) (chunk : ℕ) → chunk / 64 < length words → is_free (slice_index (cleared words chunk)) chunk ≡ false
cleared_here words chunk lt =
    let word : ℕ = bit_and (slice_index words (chunk / 64)) (bit_not w64 (1 * 2 ^ (chunk % 64) % 2 ^ 64)) in
    let zero_bit : bit_at (slice_index (cleared words chunk) (chunk / 64)) (chunk % 64) ≡ 0 = ap (λ x. bit_at x (chunk % 64)) (get_or-set_same words (chunk / 64) word 0 lt) ∙ bit_at_clear_same w64 (slice_index words (chunk / 64)) (chunk % 64) (omega arith) in
    ne_eqb (bit_at (slice_index (cleared words chunk) (chunk / 64)) (chunk % 64)) 1 (λ one. absurd (omega (arith, one, zero_bit)))

pub cleared_there : (words : List ℕ) (chunk other : ℕ) → chunk / 64 < length words → other ≢ chunk → is_free (slice_index (cleared words chunk)) other ≡ is_free (slice_index words) other
cleared_there words chunk other lt ne =
    let word : ℕ = bit_and (slice_index words (chunk / 64)) (bit_not w64 (1 * 2 ^ (chunk % 64) % 2 ^ 64)) in
    elim (cases_eq (other / 64) (chunk / 64)) [
      | inl same ↦
          let apart : other % 64 ≢ chunk % 64 = λ is. ne (omega (arith, same, is)) in
          ap (λ k. bit_at (slice_index (cleared words chunk) k) (other % 64) == 1) same
          ∙ ap (λ x. bit_at x (other % 64) == 1) (get_or-set_same words (chunk / 64) word 0 lt)
          ∙ ap (λ d. d == 1) (bit_at_clear_other w64 (slice_index words (chunk / 64)) (chunk % 64) (omega arith) (other % 64) (omega arith) apart)
          ∙ ap (λ k. bit_at (slice_index words k) (other % 64) == 1) (sym same)
      | inr differs ↦ ap (λ x. bit_at x (other % 64) == 1) (get_or-set_other words (chunk / 64) (other / 64) word 0 differs)
    ]

-- words that are all 0
pub all_zero : (n number : ℕ) → slice_index (replicate n 0) number ≡ 0
all_zero n number =
    elim (cases_lt number n) [
      | inl lt ↦ get_or-replicate n number 0 0 lt
      | inr le ↦ get_or_past (replicate n 0) number 0 (omega (arith, le, length-replicate {A = ℕ} n 0))
    ]
