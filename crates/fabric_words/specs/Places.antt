-- Which words a fabric of a shape has, and changes of them. Words are a function of their places.
use Rattle.std.specs.Prelude.{ℕ, ◌+◌, ◌*◌, ◌/◌, ◌%◌, ◌≡◌, ◌≢◌, ◌<◌, ◌==◌, ◌&&◌, Bool, true, false, if◌then◌else◌}
use Rattle.chunk_map.specs.Words.{SetsBit}
use Rattle.nncq_ring.specs.Words.{Words}
use Rattle.unit_model.specs.Holding.{items_of}
use Rattle.unit_model.specs.Shapes.{role_in}
use Rattle.unit_model.specs.declared.shape.Shape.{Shape}
use Rattle.fabric_words.specs.declared.place.Place.{Place}
use Rattle.fabric_words.specs.declared.place.Place.TheVariants.{NextStream, OpenedOut, OpenedBack, Head, Tail, Slot, Tag, RunWord, PartWord, Chunks}
use Rattle.fabric_words.specs.declared.place.Side.{Side}
use Rattle.fabric_words.specs.declared.place.Side.TheVariants.{FreeSide, LineSide}

-- ---- what is there

-- queue 0 is the line to the workers, and each engine has a back queue
abbrev pub queues_of : Shape → ℕ
queues_of shape = 1 + shape.engines

-- the segments of the engines' side, and behind them those of the workers' side
abbrev pub segments_of : Shape → ℕ
segments_of shape = shape.out_segments + shape.back_segments

-- the queue is there, and has the item
pub record HasItem (shape : Shape) (queue item : ℕ) : Type 0 where
  pub in_queues : queue < queues_of shape
  pub in_items : item < items_of shape queue

-- the word is there
abbrev pub IsThere : Shape → Place → Type 0
IsThere shape NextStream = Unit {0}
IsThere shape OpenedOut = Unit {0}
IsThere shape OpenedBack = Unit {0}
IsThere shape (Head queue side) = queue < queues_of shape
IsThere shape (Tail queue side) = queue < queues_of shape
IsThere shape (Slot queue side slot) = HasItem shape queue slot
IsThere shape (Tag queue item) = HasItem shape queue item
IsThere shape (RunWord queue item) = HasItem shape queue item
IsThere shape (PartWord queue item) = HasItem shape queue item
IsThere shape (Chunks number) = number < 10 * segments_of shape

-- ---- changes

-- the word at the place became x, and no other word changed
pub record Sets (shape : Shape) (word word' : Place → ℕ) (place : Place) (x : ℕ) : Type 0 where
  pub here : word' place ≡ x
  pub others : (other : Place) → IsThere shape other → other ≢ place → word' other ≡ word other

-- no word changed
abbrev pub Stays : Shape → (Place → ℕ) → (Place → ℕ) → Type 0
Stays shape word word' = (place : Place) → IsThere shape place → word' place ≡ word place

-- one bit of the map became this value, that of the chunk of this number, and nothing else changed
pub record SetsChunk (shape : Shape) (word word' : Place → ℕ) (number value : ℕ) : Type 0 where
  pub set : Sets shape word word' (Chunks (number / 64)) (word' (Chunks (number / 64)))
  pub bit : SetsBit (word (Chunks (number / 64))) (word' (Chunks (number / 64))) (number % 64) value

-- ---- groups of words

-- the words of a ring
abbrev pub ring_of : (Place → ℕ) → ℕ → Side → Words
ring_of word queue side = record {
  head = word (Head queue side);
  tail = word (Tail queue side);
  entry = λ slot. word (Slot queue side slot);
}

-- the words of the map
abbrev pub map_of : (Place → ℕ) → ℕ → ℕ
map_of word number = word (Chunks number)

-- the word that says how many segments of a seat's side are open
abbrev pub opened_place : Shape → ℕ → Place
opened_place shape seat = if role_in shape seat == 0 then OpenedOut else OpenedBack

-- ---- what a word is of

abbrev pub is_same_side : Side → Side → Bool
is_same_side FreeSide FreeSide = true
is_same_side FreeSide LineSide = false
is_same_side LineSide FreeSide = false
is_same_side LineSide LineSide = true

-- whether the word is one of this ring
abbrev pub is_of_ring : ℕ → Side → Place → Bool
is_of_ring queue side NextStream = false
is_of_ring queue side OpenedOut = false
is_of_ring queue side OpenedBack = false
is_of_ring queue side (Head q s) = queue == q && is_same_side side s
is_of_ring queue side (Tail q s) = queue == q && is_same_side side s
is_of_ring queue side (Slot q s slot) = queue == q && is_same_side side s
is_of_ring queue side (Tag q i) = false
is_of_ring queue side (RunWord q i) = false
is_of_ring queue side (PartWord q i) = false
is_of_ring queue side (Chunks k) = false

-- whether it is one of any ring
abbrev pub is_of_rings : Place → Bool
is_of_rings NextStream = false
is_of_rings OpenedOut = false
is_of_rings OpenedBack = false
is_of_rings (Head q s) = true
is_of_rings (Tail q s) = true
is_of_rings (Slot q s slot) = true
is_of_rings (Tag q i) = false
is_of_rings (RunWord q i) = false
is_of_rings (PartWord q i) = false
is_of_rings (Chunks k) = false

-- whether the word is one of the map
abbrev pub is_of_map : Place → Bool
is_of_map NextStream = false
is_of_map OpenedOut = false
is_of_map OpenedBack = false
is_of_map (Head q s) = false
is_of_map (Tail q s) = false
is_of_map (Slot q s slot) = false
is_of_map (Tag q i) = false
is_of_map (RunWord q i) = false
is_of_map (PartWord q i) = false
is_of_map (Chunks k) = true
