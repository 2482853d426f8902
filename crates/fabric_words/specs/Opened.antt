-- The words of a fabric that was just made.
use Rattle.std.specs.Prelude.{ℕ, ◌+◌, ◌*◌, ◌%◌, ◌≡◌, ◌≤◌, ◌<◌, Bool, true, false}
use Rattle.chunk_map.specs.Words.{is_free}
use Rattle.nncq_ring.specs.RingWords.{StartsFull}
use Rattle.nncq_ring.specs.Words.{Words, entry_of}
use Rattle.unit_model.specs.Holding.{items_of}
use Rattle.unit_model.specs.Limits.{segment_chunks}
use Rattle.unit_model.specs.declared.shape.Shape.{Shape}
use Rattle.fabric_words.specs.Places.{HasItem, IsThere, is_of_map, is_of_ring, is_of_rings, queues_of, segments_of, ring_of, map_of}
use Rattle.fabric_words.specs.declared.place.Place.{Place}
use Rattle.fabric_words.specs.declared.place.Place.TheVariants.{NextStream, OpenedOut, OpenedBack, Tag, RunWord, PartWord}
use Rattle.fabric_words.specs.declared.place.Side.{Side}
use Rattle.fabric_words.specs.declared.place.Side.TheVariants.{FreeSide, LineSide}

-- A ring that starts empty: head and tail are the start, and the entries are those of value 0 at the n places before it.
pub record StartsEmpty (n start : ℕ) (w : Words) : Type 0 where
  pub head : w.head ≡ start
  pub tail : w.tail ≡ start
  pub entries : (place : ℕ) → place < start → start ≤ place + n
      → w.entry (place % n) ≡ entry_of n place 0

-- both rings of a queue have begun: the free ring is full, and the line empty
pub record HasBegun (shape : Shape) (word : Place → ℕ) (queue : ℕ) : Type 0 where
  pub free : StartsFull (items_of shape queue) shape.start (ring_of word queue FreeSide)
  pub line : StartsEmpty (items_of shape queue) shape.start (ring_of word queue LineSide)

-- The next stream is 1, and one segment of each side is open. The rings of each queue have begun, items have no tag, no run and
-- no part, and all chunks are free.
pub record IsOpened (shape : Shape) (word : Place → ℕ) : Type 0 where
  pub next : word NextStream ≡ 1
  pub out : word OpenedOut ≡ 1
  pub back : word OpenedBack ≡ 1
  pub rings : (queue : ℕ) → queue < queues_of shape → HasBegun shape word queue
  pub tag : (queue item : ℕ) → HasItem shape queue item → word (Tag queue item) ≡ 0
  pub run : (queue item : ℕ) → HasItem shape queue item → word (RunWord queue item) ≡ 0
  pub part : (queue item : ℕ) → HasItem shape queue item → word (PartWord queue item) ≡ 0
  pub chunks : (number : ℕ) → number < segment_chunks * segments_of shape
      → is_free (map_of word) number ≡ true

-- ---- changes of many words

-- no words but those that pass changed
abbrev pub ChangesOnly : Shape → (Place → Bool) → (Place → ℕ) → (Place → ℕ) → Type 0
ChangesOnly shape test word word' =
    (place : Place) → IsThere shape place → test place ≡ false → word' place ≡ word place

-- no words but those of this ring, of rings, and of the map
abbrev pub ChangesRing : Shape → (Place → ℕ) → (Place → ℕ) → ℕ → Side → Type 0
ChangesRing shape word word' queue side = ChangesOnly shape (is_of_ring queue side) word word'

abbrev pub ChangesRings : Shape → (Place → ℕ) → (Place → ℕ) → Type 0
ChangesRings shape word word' = ChangesOnly shape is_of_rings word word'

abbrev pub ChangesMap : Shape → (Place → ℕ) → (Place → ℕ) → Type 0
ChangesMap shape word word' = ChangesOnly shape is_of_map word word'
