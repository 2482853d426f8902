-- Where the words of a ring stand in a list of words: the head at the offset, the tail 16 words behind it, and the entries from
-- 32 words behind it on. 16 words are 128 bytes, so the head and the tail share no cache line.
use Rattle.std.specs.Prelude.{ℕ, zero, suc, ◌+◌, ◌%◌, ◌≡◌, ◌≤◌, ◌<◌, ◌++◌, List, [], ◌∷◌, slice_index}
use Rattle.nncq_ring.specs.Words.{Words, entry_of}

abbrev pub ring_words : ℕ → List ℕ → Words
ring_words offset words = record { head = slice_index words offset; tail = slice_index words (offset + 16); entry = λ slot. slice_index words (offset + 32 + slot) }

-- The words of a ring that was just made: head and tail are the start, and the entries are those of value 0 at the n places
-- before it.
pub record Fresh (n start offset : ℕ) (words : List ℕ) : Type 0 where
  pub head : slice_index words offset ≡ start
  pub tail : slice_index words (offset + 16) ≡ start
  pub entries : (place : ℕ) → place < start → start ≤ place + n → slice_index words (offset + 32 + place % n) ≡ entry_of n place 0

-- The words of a ring that starts full: the values below n in ascending order at the places from the start on.
pub record StartsFull (n start : ℕ) (w : Words) : Type 0 where
  pub head : w.head ≡ start
  pub tail : w.tail ≡ start + n
  pub entries : (value : ℕ) → value < n → w.entry ((start + value) % n) ≡ entry_of n (start + value) value

-- the first k values of its line, with their places
abbrev pub full_line : ℕ → ℕ → List (ℕ × ℕ)
full_line start zero = []
full_line start (suc k) = full_line start k ++ (start + k, k) ∷ []
