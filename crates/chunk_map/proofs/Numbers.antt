-- Where words stand in a table, and single bits of words.
use Rattle.std.proofs.Common.{ℕ, ◌≡◌, ◌≢◌, ◌+◌, ◌*◌, ◌/◌, ◌%◌, ◌^◌, ◌<◌, ◌==◌, inl, inr, true, false, List, set, length, sym, ap, ◌∙◌, arith, get_or-set_same, get_or-set_other}
use Rattle.std.proofs.lemmas.Bool.{eq-eqb, ne_eqb, cases_eq}
use Rattle.std.proofs.lemmas.Nat.Bits.{bit_at-pow_same, bit_at-pow_other, bit_at_not}
use Rattle.std.proofs.lemmas.Nat.{one_shl, pow_below}
use Rattle.std.specs.Int.{bit_at, bit_not, w64}
use Rattle.chunk_map.specs.Rule.{table_index, word_number, map_words}
use Rattle.chunk_map.specs.Words.{is_free}

-- ---- places in the table

pub index_within : (number segments : ℕ) → number < 10 * segments → table_index number < 16 * (segments + 1)
index_within number segments lt = omega (arith, lt)

pub number_back : (number : ℕ) → word_number (table_index number) ≡ number
number_back number = omega arith

pub index_apart : (a b : ℕ) → a ≢ b → table_index a ≢ table_index b
index_apart a b ne same = ne (sym (number_back a) ∙ ap word_number same ∙ number_back b)

pub index_some : (number : ℕ) → table_index number ≢ 0
index_some number none = absurd (omega (arith, none))

-- ---- chunks and their bits

pub free_is : (word : ℕ → ℕ) (number bit : ℕ) → bit < 64 → is_free word (64 * number + bit) ≡ (bit_at (word number) bit == 1)
free_is word number bit lt =
    let q : (64 * number + bit) / 64 ≡ number = omega (arith, lt) in
    let r : (64 * number + bit) % 64 ≡ bit = omega (arith, lt) in
    ap (λ k. bit_at (word k) ((64 * number + bit) % 64) == 1) q ∙ ap (λ i. bit_at (word number) i == 1) r

pub free_where_one : (word : ℕ → ℕ) (number bit : ℕ) → bit < 64 → bit_at (word number) bit ≡ 1 → is_free word (64 * number + bit) ≡ true
free_where_one word number bit lt one = free_is word number bit lt ∙ eq-eqb (bit_at (word number) bit) 1 one

pub held_where_zero : (word : ℕ → ℕ) (number bit : ℕ) → bit < 64 → bit_at (word number) bit ≡ 0 → is_free word (64 * number + bit) ≡ false
held_where_zero word number bit lt zero = free_is word number bit lt ∙ ne_eqb (bit_at (word number) bit) 1 (λ one. absurd (omega (arith, zero, one)))

-- one word of the map becomes another number
pub word_here : (words : List ℕ) (number new : ℕ) → table_index number < length words → map_words (set words (table_index number) new) number ≡ new
word_here words number new lt = get_or-set_same words (table_index number) new 0 lt

pub word_there : (words : List ℕ) (number other new : ℕ) → other ≢ number → map_words (set words (table_index number) new) other ≡ map_words words other
word_there words number other new ne = get_or-set_other words (table_index number) (table_index other) new 0 (index_apart other number ne)

-- where only one bit of one word changes, no other chunk does
pub others_stay : (words : List ℕ) (number bit new : ℕ) → table_index number < length words
    → ((i : ℕ) → i < 64 → i ≢ bit → bit_at new i ≡ bit_at (map_words words number) i)
    → (other : ℕ) → other ≢ 64 * number + bit → is_free (map_words (set words (table_index number) new)) other ≡ is_free (map_words words) other
others_stay words number bit new lt bits other ne =
    elim (cases_eq (other / 64) number) [
      | inl same ↦
          let apart : other % 64 ≢ bit = λ is. ne (omega (arith, same, is)) in
          ap (λ k. bit_at (map_words (set words (table_index number) new) k) (other % 64) == 1) same
          ∙ ap (λ x. bit_at x (other % 64) == 1) (word_here words number new lt)
          ∙ ap (λ d. d == 1) (bits (other % 64) (omega arith) apart)
          ∙ ap (λ k. bit_at (map_words words k) (other % 64) == 1) (sym same)
      | inr differs ↦ ap (λ x. bit_at x (other % 64) == 1) (word_there words number (other / 64) new differs)
    ]

-- ---- masks of one bit

pub mask_of_one : (bit other : ℕ) → bit < 64 → other < 64 → bit_not w64 (1 * 2 ^ bit % 2 ^ 64) ≡ bit_not w64 (1 * 2 ^ other % 2 ^ 64) → other ≡ bit
mask_of_one bit other lt lt' same =
    elim (cases_eq other bit) [
      | inl is ↦ is
      | inr ne ↦
          let mine = bit_at_not w64 (2 ^ bit) bit (pow_below bit 64 lt) lt in
          let theirs = bit_at_not w64 (2 ^ other) bit (pow_below other 64 lt') lt in
          let masks : bit_not w64 (2 ^ bit) ≡ bit_not w64 (2 ^ other) = ap (bit_not w64) (sym (one_shl bit 64 lt)) ∙ same ∙ ap (bit_not w64) (one_shl other 64 lt') in
          absurd (omega (arith, mine, theirs, ap (λ x. bit_at x bit) masks, bit_at-pow_same bit, bit_at-pow_other other bit (λ e. ne (sym e))))
    ]

pub set_of_one : (bit other : ℕ) → bit < 64 → other < 64 → 1 * 2 ^ bit % 2 ^ 64 ≡ 1 * 2 ^ other % 2 ^ 64 → other ≡ bit
set_of_one bit other lt lt' same =
    elim (cases_eq other bit) [
      | inl is ↦ is
      | inr ne ↦
          let powers : 2 ^ bit ≡ 2 ^ other = sym (one_shl bit 64 lt) ∙ same ∙ one_shl other 64 lt' in
          absurd (omega (arith, ap (λ x. bit_at x bit) powers, bit_at-pow_same bit, bit_at-pow_other other bit (λ e. ne (sym e))))
    ]
