-- The words of a queue that was just made.
use Rattle.std.specs.Prelude.{ℕ, ◌+◌, ◌%◌, ◌≡◌, ◌≤◌, ◌<◌, List, length}
use Rattle.nncq_ring.specs.RingWords.{StartsFull}
use Rattle.nncq_ring.specs.Words.{Words, entry_of}
use Rattle.app_queue.specs.declared.layout.Place.TheVariants.{TagOf, RunOf, PartOf}
use Rattle.app_queue.specs.declared.side.Side.TheVariants.{Free, Line}
use Rattle.app_queue.specs.Layout.{word_count, word_of, ring_of}

-- A ring that starts empty: head and tail are the start, and the entries are those of value 0 at the n places before it.
pub record StartsEmpty (n start : ℕ) (w : Words) : Type 0 where
  pub head : w.head ≡ start
  pub tail : w.tail ≡ start
  pub entries : (place : ℕ) → place < start → start ≤ place + n → w.entry (place % n) ≡ entry_of n place 0

-- The free ring starts full, the line empty, and each tag, run and part is 0.
pub record IsFirst (n start : ℕ) (words : List ℕ) : Type 0 where
  pub wide : length words ≡ word_count n
  pub free : StartsFull n start (ring_of n words Free)
  pub line : StartsEmpty n start (ring_of n words Line)
  pub tags : (item : ℕ) → item < n → word_of n words (TagOf item) ≡ 0
  pub runs : (item : ℕ) → item < n → word_of n words (RunOf item) ≡ 0
  pub parts : (item : ℕ) → item < n → word_of n words (PartOf item) ≡ 0
