-- The words of a queue that was just made, by the writes that make them.
use Rattle.std.proofs.Common.{ℕ, ◌+◌, ◌*◌, ◌%◌, ◌≡◌, ◌≢◌, ◌≤◌, ◌<◌, List, length, slice_index, set, ap, ◌∙◌, arith, length-set, get_or-set_same, get_or-set_other, mod-lt}
use Rattle.nncq_ring.specs.Words.{entry_of}
use Rattle.app_queue.specs.Opening.{IsFirst}

module _ (n start : ℕ) (ws : List ℕ) (pos : 0 < n) (wide : length ws ≡ 112 + 5 * n) where
  abbrev pub made : List ℕ
  made = set (set (set (set ws 16 start) 32 (start + n)) (64 + n) start) (80 + n) start

  -- a word that isn't set
  unset : (i : ℕ) → i ≢ 16 → i ≢ 32 → i ≢ 64 + n → i ≢ 80 + n → slice_index made i ≡ slice_index ws i
  unset i a b c d =
      get_or-set_other (set (set (set ws 16 start) 32 (start + n)) (64 + n) start) (80 + n) i start 0 d
      ∙ get_or-set_other (set (set ws 16 start) 32 (start + n)) (64 + n) i start 0 c
      ∙ get_or-set_other (set ws 16 start) 32 i (start + n) 0 b
      ∙ get_or-set_other ws 16 i start 0 a

  len_one : length (set ws 16 start) ≡ 112 + 5 * n
  len_one = length-set ws 16 start ∙ wide

  len_two : length (set (set ws 16 start) 32 (start + n)) ≡ 112 + 5 * n
  len_two = length-set (set ws 16 start) 32 (start + n) ∙ len_one

  len_three : length (set (set (set ws 16 start) 32 (start + n)) (64 + n) start) ≡ 112 + 5 * n
  len_three = length-set (set (set ws 16 start) 32 (start + n)) (64 + n) start ∙ len_two

  free_head : slice_index made 16 ≡ start
  free_head =
      get_or-set_other (set (set (set ws 16 start) 32 (start + n)) (64 + n) start) (80 + n) 16 start 0 (λ is. absurd (omega (arith, is)))
      ∙ get_or-set_other (set (set ws 16 start) 32 (start + n)) (64 + n) 16 start 0 (λ is. absurd (omega (arith, is)))
      ∙ get_or-set_other (set ws 16 start) 32 16 (start + n) 0 (λ is. absurd (omega (arith, is)))
      ∙ get_or-set_same ws 16 start 0 (omega (arith, wide))

  free_tail : slice_index made 32 ≡ start + n
  free_tail =
      get_or-set_other (set (set (set ws 16 start) 32 (start + n)) (64 + n) start) (80 + n) 32 start 0 (λ is. absurd (omega (arith, is)))
      ∙ get_or-set_other (set (set ws 16 start) 32 (start + n)) (64 + n) 32 start 0 (λ is. absurd (omega (arith, is)))
      ∙ get_or-set_same (set ws 16 start) 32 (start + n) 0 (omega (arith, len_one))

  line_head : slice_index made (64 + n) ≡ start
  line_head =
      get_or-set_other (set (set (set ws 16 start) 32 (start + n)) (64 + n) start) (80 + n) (64 + n) start 0 (λ is. absurd (omega (arith, is)))
      ∙ get_or-set_same (set (set ws 16 start) 32 (start + n)) (64 + n) start 0 (omega (arith, len_two))

  line_tail : slice_index made (80 + n) ≡ start
  line_tail = get_or-set_same (set (set (set ws 16 start) 32 (start + n)) (64 + n) start) (80 + n) start 0 (omega (arith, len_three))

  at : (i j : ℕ) → i ≡ j → slice_index made i ≡ slice_index made j
  at i j is = ap (slice_index made) is

  pub is_first : ((value : ℕ) → value < n → slice_index ws (48 + (start + value) % n) ≡ entry_of n (start + value) value)
      → ((place : ℕ) → place < start → start ≤ place + n → slice_index ws (96 + n + place % n) ≡ entry_of n place 0)
      → ((i : ℕ) → 96 + 2 * n ≤ i → i < 112 + 5 * n → slice_index ws i ≡ 0) → IsFirst n start made
  is_first free line zero = record {
    wide = length-set (set (set (set ws 16 start) 32 (start + n)) (64 + n) start) (80 + n) start ∙ len_three;
    free = record {
      head = free_head;
      tail = free_tail;
      entries = λ value lt.
          let slot : ℕ = (start + value) % n in
          let slot_lt : slot < n = mod-lt (start + value) pos in
          at (16 + (32 + slot)) (48 + slot) (omega arith)
          ∙ unset (48 + slot) (λ is. absurd (omega (arith, is))) (λ is. absurd (omega (arith, is))) (λ is. absurd (omega (arith, is, slot_lt))) (λ is. absurd (omega (arith, is, slot_lt)))
          ∙ free value lt;
    };
    line = record {
      head = at (64 + n + 0) (64 + n) (omega arith) ∙ line_head;
      tail = at (64 + n + 16) (80 + n) (omega arith) ∙ line_tail;
      entries = λ place lt near.
          let slot : ℕ = place % n in
          at (64 + n + (32 + slot)) (96 + n + slot) (omega arith)
          ∙ unset (96 + n + slot) (λ is. absurd (omega (arith, is))) (λ is. absurd (omega (arith, is))) (λ is. absurd (omega (arith, is))) (λ is. absurd (omega (arith, is)))
          ∙ line place lt near;
    };
    tags = λ item lt.
        unset (112 + 2 * n + item) (λ is. absurd (omega (arith, is))) (λ is. absurd (omega (arith, is))) (λ is. absurd (omega (arith, is))) (λ is. absurd (omega (arith, is)))
        ∙ zero (112 + 2 * n + item) (omega arith) (omega (arith, lt));
    runs = λ item lt.
        unset (112 + 3 * n + item) (λ is. absurd (omega (arith, is))) (λ is. absurd (omega (arith, is))) (λ is. absurd (omega (arith, is))) (λ is. absurd (omega (arith, is)))
        ∙ zero (112 + 3 * n + item) (omega arith) (omega (arith, lt));
    parts = λ item lt.
        unset (112 + 4 * n + item) (λ is. absurd (omega (arith, is))) (λ is. absurd (omega (arith, is))) (λ is. absurd (omega (arith, is))) (λ is. absurd (omega (arith, is)))
        ∙ zero (112 + 4 * n + item) (omega arith) (omega (arith, lt));
  }
