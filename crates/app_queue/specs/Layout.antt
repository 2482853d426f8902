-- Where the words of one queue of n items stand in a list of words.
use Rattle.std.specs.Prelude.{ℕ, ◌+◌, ◌*◌, ◌≡◌, ◌<◌, List, slice_index}
use Rattle.nncq_ring.specs.Words.{Words}
use Rattle.app_queue.specs.declared.layout.Place.{Place}
use Rattle.app_queue.specs.declared.layout.Place.TheVariants.{InRing, TagOf, RunOf, PartOf}
use Rattle.app_queue.specs.declared.side.Side.{Side}
use Rattle.app_queue.specs.declared.side.Side.TheVariants.{Free, Line}
use Rattle.app_queue.specs.Queues.{Shape, QueueWords}

-- the index of a word
abbrev pub word_at : ℕ → Place → ℕ
word_at n (InRing Free o) = 16 + o
word_at n (InRing Line o) = 64 + n + o
word_at n (TagOf i) = 112 + 2 * n + i
word_at n (RunOf i) = 112 + 3 * n + i
word_at n (PartOf i) = 112 + 4 * n + i

abbrev pub word_count : ℕ → ℕ
word_count n = 112 + 5 * n

-- the queue has such a word
abbrev pub IsReal : ℕ → Place → Type 0
IsReal n (InRing side o) = o < 32 + n
IsReal n (TagOf i) = i < n
IsReal n (RunOf i) = i < n
IsReal n (PartOf i) = i < n

-- two words of a queue stand at two indexes, all of which are there
pub record IsLayout (n : ℕ) : Type 0 where
  pub there : (p : Place) → IsReal n p → word_at n p < word_count n
  pub apart : (p r : Place) → IsReal n p → IsReal n r → word_at n p ≡ word_at n r → p ≡ r

-- the word of a meaning
abbrev pub word_of : ℕ → List ℕ → Place → ℕ
word_of n words p = slice_index words (word_at n p)

abbrev pub ring_of : ℕ → List ℕ → Side → Words
ring_of n words side = record { head = word_of n words (InRing side 0); tail = word_of n words (InRing side 16); entry = λ slot. word_of n words (InRing side (32 + slot)) }

-- one queue of n items, and its words
abbrev pub one_queue : ℕ → Shape
one_queue n = record { queues = 1; items = λ q. n }

abbrev pub queue_words : ℕ → List ℕ → QueueWords
queue_words n words = record { ring = λ q side. ring_of n words side; tag = λ q i. word_of n words (TagOf i); run = λ q i. word_of n words (RunOf i); part = λ q i. word_of n words (PartOf i) }
