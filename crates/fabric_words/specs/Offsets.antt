-- Where each word of a fabric stands in one list of words. Words that many threads change stand 16 words apart, which is 128
-- bytes, so that no two of them share a cache line: the next stream, the numbers of open segments, the map words of each
-- segment, and the head and the tail of each ring. Word 0 is of no use and never changes.
use Rattle.std.specs.Prelude.{ℕ, ◌+◌, ◌-◌, ◌*◌, ◌/◌, ◌%◌, ◌≡◌, ◌≤◌, ◌<◌, ◌==◌, Bool, true, false, if◌then◌else◌, List, length, set, slice_index}
use Rattle.unit_model.specs.Holding.{items_of}
use Rattle.unit_model.specs.declared.shape.Shape.{Shape}
use Rattle.fabric_words.specs.Places.{IsThere, Sets, queues_of, segments_of}
use Rattle.fabric_words.specs.declared.place.Place.{Place}
use Rattle.fabric_words.specs.declared.place.Place.TheVariants.{NextStream, OpenedOut, OpenedBack, Head, Tail, Slot, Tag, RunWord, PartWord, Chunks}
use Rattle.fabric_words.specs.declared.place.Side.{Side}
use Rattle.fabric_words.specs.declared.place.Side.TheVariants.{FreeSide, LineSide}

-- so many words, and none more than up to the next 16
abbrev pub rounded : ℕ → ℕ
rounded n = (n + 15) / 16 * 16

-- a ring of n entries has its head, 16 words behind that its tail, and 32 words behind it its entries
abbrev pub ring_width : ℕ → ℕ
ring_width n = 32 + rounded n

-- a queue of n items has its free ring, its line, and four words for each item
abbrev pub queue_width : ℕ → ℕ
queue_width n = 2 * ring_width n + rounded (4 * n)

-- before the queues stand the map words, 16 for each segment, of which ten are used
abbrev pub map_start : ℕ
map_start = 64

abbrev pub queue_start : Shape → ℕ → ℕ
queue_start shape queue =
    map_start + 16 * segments_of shape
    + (if queue == 0 then 0 else queue_width shape.items + (queue - 1) * queue_width shape.back_items)

abbrev pub ring_start : Shape → ℕ → Side → ℕ
ring_start shape queue FreeSide = queue_start shape queue
ring_start shape queue LineSide = queue_start shape queue + ring_width (items_of shape queue)

-- the words of an item stand side by side
abbrev pub item_start : Shape → ℕ → ℕ → ℕ
item_start shape queue item =
    queue_start shape queue + 2 * ring_width (items_of shape queue) + 4 * item

-- where a word stands
abbrev pub offset_of : Shape → Place → ℕ
offset_of shape NextStream = 16
offset_of shape OpenedOut = 32
offset_of shape OpenedBack = 48
offset_of shape (Chunks number) = map_start + 16 * (number / 10) + number % 10
offset_of shape (Head queue side) = ring_start shape queue side
offset_of shape (Tail queue side) = ring_start shape queue side + 16
offset_of shape (Slot queue side slot) = ring_start shape queue side + 32 + slot
offset_of shape (Tag queue item) = item_start shape queue item
offset_of shape (RunWord queue item) = item_start shape queue item + 1
offset_of shape (PartWord queue item) = item_start shape queue item + 2

-- how many words there are
abbrev pub width_of : Shape → ℕ
width_of shape = queue_start shape (queues_of shape)

-- the words of a list
abbrev pub word_in : Shape → List ℕ → Place → ℕ
word_in shape words place = slice_index words (offset_of shape place)

-- ---- laws

-- words that are there stand within the list, and none before word 16
abbrev pub WithinLaw : Type 0
WithinLaw = (shape : Shape) (place : Place) → IsThere shape place
    → (16 ≤ offset_of shape place) × (offset_of shape place < width_of shape)

-- no two stand in one place
abbrev pub ApartLaw : Type 0
ApartLaw = (shape : Shape) (place other : Place) → IsThere shape place → IsThere shape other
    → offset_of shape place ≡ offset_of shape other
    → place ≡ other

-- a word that many threads change, and that is none of the map
abbrev pub is_shared : Place → Bool
is_shared NextStream = true
is_shared OpenedOut = true
is_shared OpenedBack = true
is_shared (Head queue side) = true
is_shared (Tail queue side) = true
is_shared (Slot queue side slot) = false
is_shared (Tag queue item) = false
is_shared (RunWord queue item) = false
is_shared (PartWord queue item) = false
is_shared (Chunks number) = false

-- such a word has 16 words for itself
abbrev pub SharedLaw : Type 0
SharedLaw = (shape : Shape) (place other : Place) → IsThere shape place → IsThere shape other
    → is_shared place ≡ true → offset_of shape place / 16 ≡ offset_of shape other / 16
    → place ≡ other

-- and so have the map words of each segment
abbrev pub MapLaw : Type 0
MapLaw = (shape : Shape) (number : ℕ) (other : Place) → IsThere shape (Chunks number)
    → IsThere shape other → offset_of shape (Chunks number) / 16 ≡ offset_of shape other / 16
    → (k : ℕ) × (other ≡ Chunks k) × (k / 10 ≡ number / 10)

-- a word of the list that is set where a place stands is this word alone
abbrev pub SetWordLaw : Type 0
SetWordLaw = (shape : Shape) (words : List ℕ) (place : Place) (x : ℕ)
    → width_of shape ≤ length words → IsThere shape place
    → Sets shape (word_in shape words) (word_in shape (set words (offset_of shape place) x)) place x
