-- Bits of lists of words.
use Rattle.std.proofs.Common.{ℕ, ◌≡◌, ◌≢◌, ◌↔◌, ◌+◌, ◌-◌, ◌*◌, ◌/◌, ◌%◌, ◌^◌, ◌<◌, ◌≤◌, ⊎_elim, min, List, set, length, slice_index, sym, ap, ◌∙◌, subst, arith, get_or-set_same, get_or-set_other}
use Rattle.std.specs.Prelude.{bit_and, bit_or}
use Rattle.std.specs.Int.{bit_at, w64, trailing_zeros}
use Rattle.std.proofs.lemmas.Bool.{cases_lt}
use Rattle.std.proofs.lemmas.List.{get_or_past}
use Rattle.std.proofs.Math.Nat.{div-le_self}
use Rattle.std.proofs.lemmas.Nat.{pow_pos, shr-shr}
use Rattle.std.proofs.lemmas.Nat.Bits.{bit_at-lt, bit_at-zero, bit_at_and, bit_at_or, bit_at_above, bit_at_cat_low, bit_at_cat_high, bit_at-trailing_zeros}
use Rattle.chunk_map.specs.Search.{bit_of, AllSet, NoneSet}

-- ---- one word

pub bit_of_mod : (n i : ℕ) → i < 64 → bit_at (n % 2 ^ 64) i ≡ bit_at n i
bit_of_mod n i lt =
    let whole : n ≡ n / 2 ^ 64 * 2 ^ 64 + n % 2 ^ 64 = omega arith in
    sym (bit_at_cat_low (n / 2 ^ 64) 64 (n % 2 ^ 64) i lt) ∙ ap (λ x. bit_at x i) (sym whole)

pub bit_of_shr : (n k i : ℕ) → bit_at (n / 2 ^ k) i ≡ bit_at n (k + i)
bit_of_shr n k i = ap (λ x. x % 2) (shr-shr n k i)

shl_is : (n k : ℕ) → n * 2 ^ k ≡ n * 2 ^ k + 0
shl_is n k = omega arith

pub bit_of_shl_low : (n k i : ℕ) → i < 64 → i < k → bit_at (n * 2 ^ k % 2 ^ 64) i ≡ 0
bit_of_shl_low n k i lt below = bit_of_mod (n * 2 ^ k) i lt ∙ ap (λ x. bit_at x i) (shl_is n k) ∙ bit_at_cat_low n k 0 i below ∙ bit_at-zero i

pub bit_of_shl_high : (n k i : ℕ) → i < 64 → k ≤ i → bit_at (n * 2 ^ k % 2 ^ 64) i ≡ bit_at n (i - k)
bit_of_shl_high n k i lt from = bit_of_mod (n * 2 ^ k) i lt ∙ ap (λ x. bit_at x i) (shl_is n k) ∙ bit_at_cat_high n k 0 i (pow_pos k) from

-- ---- a bit by its word and its place there

pub bit_is : (words : List ℕ) (number i : ℕ) → i < 64 → bit_of words (64 * number + i) ≡ bit_at (slice_index words number) i
bit_is words number i lt =
    let q : (64 * number + i) / 64 ≡ number = omega (arith, lt) in
    let r : (64 * number + i) % 64 ≡ i = omega (arith, lt) in
    ap (λ k. bit_at (slice_index words k) ((64 * number + i) % 64)) q ∙ ap (bit_at (slice_index words number)) r

pub bit_by : (words : List ℕ) (number i place : ℕ) → i < 64 → place ≡ 64 * number + i → bit_of words place ≡ bit_at (slice_index words number) i
bit_by words number i place lt is = ap (bit_of words) is ∙ bit_is words number i lt

-- ---- words moved down

pub moved_whole : (words : List ℕ) (by number bit : ℕ) → by % 64 ≡ 0 → bit < 64 → bit_at (slice_index words (number + by / 64)) bit ≡ bit_of words (64 * number + bit + by)
moved_whole words by number bit whole lt = sym (bit_by words (number + by / 64) bit (64 * number + bit + by) lt (omega (arith, whole)))

module _ (words : List ℕ) (by number bit : ℕ) (fits : slice_index words (number + by / 64) < 2 ^ 64) (some_shift : by % 64 ≢ 0) (lt : bit < 64) where
  pub moved_part : bit_at (bit_or (slice_index words (number + by / 64) / 2 ^ (by % 64)) (slice_index words (number + by / 64 + 1) * 2 ^ (64 - by % 64) % 2 ^ 64)) bit ≡ bit_of words (64 * number + bit + by)
  moved_part =
      bit_at_or (slice_index words (number + by / 64) / 2 ^ (by % 64)) (slice_index words (number + by / 64 + 1) * 2 ^ (64 - by % 64) % 2 ^ 64) bit ∙
      ⊎_elim
      (λ inside. omega (
        arith,
        bit_of_shr (slice_index words (number + by / 64)) (by % 64) bit,
        bit_of_shl_low (slice_index words (number + by / 64 + 1)) (64 - by % 64) bit lt (omega (arith, inside)),
        bit_by words (number + by / 64) (by % 64 + bit) (64 * number + bit + by) inside (omega arith),
      ))
      (λ beyond. omega (
        arith,
        bit_of_shr (slice_index words (number + by / 64)) (by % 64) bit,
        bit_at_above (slice_index words (number + by / 64)) 64 (by % 64 + bit) fits beyond,
        bit_of_shl_high (slice_index words (number + by / 64 + 1)) (64 - by % 64) bit lt (omega (arith, beyond)),
        bit_by words (number + by / 64 + 1) (bit - (64 - by % 64)) (64 * number + bit + by) (omega (arith, lt)) (omega (arith, beyond)),
      ))
      (cases_lt (by % 64 + bit) 64)

-- ---- runs

pub one_long : (words : List ℕ) (place : ℕ) → (bit_of words place ≡ 1) ↔ AllSet words place 1
one_long words place = (
  λ one i lt. let same : place + i ≡ place = omega (arith, lt) in ap (bit_of words) same ∙ one,
  λ all. let same : place ≡ place + 0 = omega arith in ap (bit_of words) same ∙ all 0 (omega arith),
)

-- two runs that touch or lie over each other are one
pub longer : (words starts out : List ℕ) (long by place : ℕ) → by ≤ long → 1 ≤ long
    → ((p : ℕ) → (bit_of starts p ≡ 1) ↔ AllSet words p long)
    → bit_of out place ≡ min (bit_of starts place) (bit_of starts (place + by))
    → (bit_of out place ≡ 1) ↔ AllSet words place (long + by)
longer words starts out long by place le some_long each is = (
  λ one i lt. ⊎_elim
      (λ below. (each place).0 (omega (arith, one, is, bit_at-lt (slice_index starts (place / 64)) (place % 64), bit_at-lt (slice_index starts ((place + by) / 64)) ((place + by) % 64))) i below)
      (λ above.
      let same : place + i ≡ place + by + (i - by) = omega (arith, above, le) in
      ap (bit_of words) same ∙ (each (place + by)).0 (omega (arith, one, is, bit_at-lt (slice_index starts (place / 64)) (place % 64), bit_at-lt (slice_index starts ((place + by) / 64)) ((place + by) % 64))) (i - by) (omega (arith, lt, above, le)))
      (cases_lt i long),
  λ all. omega (
    arith,
    is,
    (each place).1 (λ i lt. all i (omega (arith, lt))),
    (each (place + by)).1 (λ i lt. let same : place + by + i ≡ place + (by + i) = omega arith in ap (bit_of words) same ∙ all (by + i) (omega (arith, lt))),
  ),
)

-- ---- one word of a list becomes another

pub set_word_here : (words : List ℕ) (number x i : ℕ) → number < length words → i < 64 → bit_of (set words number x) (64 * number + i) ≡ bit_at x i
set_word_here words number x i lt below_64 = bit_is (set words number x) number i below_64 ∙ ap (λ y. bit_at y i) (get_or-set_same words number x 0 lt)

pub set_word_there : (words : List ℕ) (number x place : ℕ) → place / 64 ≢ number → bit_of (set words number x) place ≡ bit_of words place
set_word_there words number x place ne = ap (λ y. bit_at y (place % 64)) (get_or-set_other words number (place / 64) x 0 ne)

-- ---- the loop that makes each word

module _ (starts out : List ℕ) (by number m : ℕ) (lt : number < length out) (before : (place : ℕ) → place < 64 * number → bit_of out place ≡ min (bit_of starts place) (bit_of starts (place + by))) (behind : (place : ℕ) → 64 * number ≤ place → bit_of out place ≡ bit_of starts place) (is : (bit : ℕ) → bit < 64 → bit_at m bit ≡ bit_of starts (64 * number + bit + by)) where
  both_at : (i : ℕ) → i < 64 → bit_of (set out number (bit_and (slice_index out number) m)) (64 * number + i) ≡ min (bit_of starts (64 * number + i)) (bit_of starts (64 * number + i + by))
  both_at i below_64 =
      set_word_here out number (bit_and (slice_index out number) m) i lt below_64
      ∙ bit_at_and (slice_index out number) m i
      ∙ ap (λ d. min d (bit_at m i)) (sym (bit_is out number i below_64) ∙ behind (64 * number + i) (omega arith))
      ∙ ap (min (bit_of starts (64 * number + i))) (is i below_64)

  pub both_before : (place : ℕ) → place < 64 * (number + 1) → bit_of (set out number (bit_and (slice_index out number) m)) place ≡ min (bit_of starts place) (bit_of starts (place + by))
  both_before place below_next = ⊎_elim
      (λ earlier. set_word_there out number (bit_and (slice_index out number) m) place (λ is_it. absurd (omega (arith, earlier, is_it))) ∙ before place earlier)
      (λ here.
      let same : 64 * number + place % 64 ≡ place = omega (arith, here, below_next) in
      subst (λ (p : ℕ). bit_of (set out number (bit_and (slice_index out number) m)) p ≡ min (bit_of starts p) (bit_of starts (p + by))) same (both_at (place % 64) (omega arith)))
      (cases_lt place (64 * number))

  pub both_behind : (place : ℕ) → 64 * (number + 1) ≤ place → bit_of (set out number (bit_and (slice_index out number) m)) place ≡ bit_of starts place
  both_behind place from = set_word_there out number (bit_and (slice_index out number) m) place (λ is_it. absurd (omega (arith, from, is_it))) ∙ behind place (omega (arith, from))

-- no bit is set behind the last word
pub none_behind : (words : List ℕ) (place : ℕ) → length words ≡ 10 → 640 ≤ place → bit_of words place ≡ 0
none_behind words place long from = ap (λ x. bit_at x (place % 64)) (get_or_past words (place / 64) 0 (omega (arith, long, from))) ∙ bit_at-zero (place % 64)

-- ---- the first set bit

module _ (words : List ℕ) (at word : ℕ) (is : word ≡ slice_index words (at / 64)) (fits : word < 2 ^ 64) where
  -- a bit of what is left of the word
  rest_bit : (i : ℕ) → at % 64 + i < 64 → bit_at (word / 2 ^ (at % 64)) i ≡ bit_of words (at + i)
  rest_bit i lt = bit_of_shr word (at % 64) i ∙ ap (λ x. bit_at x (at % 64 + i)) is ∙ sym (bit_by words (at / 64) (at % 64 + i) (at + i) lt (omega arith))

  pub none_left : word / 2 ^ (at % 64) ≡ 0 → NoneSet words at ((at / 64 + 1) * 64)
  none_left none_set place from below =
      let same : at + (place - at) ≡ place = omega (arith, from) in
      ap (bit_of words) (sym same) ∙ sym (rest_bit (place - at) (omega (arith, from, below))) ∙ ap (λ x. bit_at x (place - at)) none_set ∙ bit_at-zero (place - at)

  pub first_left : at < 640 → word / 2 ^ (at % 64) ≢ 0
      → (at + trailing_zeros w64 (word / 2 ^ (at % 64)) < 640) × (bit_of words (at + trailing_zeros w64 (word / 2 ^ (at % 64))) ≡ 1) × NoneSet words at (at + trailing_zeros w64 (word / 2 ^ (at % 64)))
  first_left below some_set =
      let rest : ℕ = word / 2 ^ (at % 64) in
      let n : ℕ = trailing_zeros w64 rest in
      let first = bit_at-trailing_zeros w64 rest (omega (arith, some_set)) (omega (arith, fits, div-le_self word (2 ^ (at % 64)))) in
      let in_word : at % 64 + n < 64 = ⊎_elim
      (λ lt. lt)
      (λ beyond. absurd (omega (arith, first.1, bit_of_shr word (at % 64) n, bit_at_above word 64 (at % 64 + n) fits beyond)))
      (cases_lt (at % 64 + n) 64) in (
        omega (arith, below, in_word),
        sym (rest_bit n in_word) ∙ first.1,
        λ place from before.
            let same : at + (place - at) ≡ place = omega (arith, from) in
            ap (bit_of words) (sym same) ∙ sym (rest_bit (place - at) (omega (arith, from, before, in_word))) ∙ first.2 (place - at) (omega (arith, from, before)),
      )
