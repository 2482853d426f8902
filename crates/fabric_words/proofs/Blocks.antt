-- Words by blocks of whole groups of 16 words, one behind the other: no two words stand in one place.
use Rattle.std.proofs.Common.{ℕ, zero, suc, ◌+◌, ◌-◌, ◌*◌, ◌/◌, ◌%◌, ◌≡◌, ◌≤◌, ◌<◌, nat_lt, true, inl, inr, cond, refl, sym, ap, ap₂, ◌∙◌, arith}
use Rattle.std.proofs.lemmas.Bool.{cases_eq, cases_lt, le-ltb}
use Rattle.unit_model.specs.Holding.{items_of}
use Rattle.unit_model.specs.Weights.{below}
use Rattle.unit_model.specs.declared.shape.Shape.{Shape}
use Rattle.fabric_words.specs.Offsets.{is_shared}
use Rattle.fabric_words.specs.Places.{IsThere, queues_of, segments_of}
use Rattle.fabric_words.specs.declared.place.Place.{Place}
use Rattle.fabric_words.specs.declared.place.Place.TheVariants.{NextStream, OpenedOut, OpenedBack, Head, Tail, Slot, Tag, RunWord, PartWord, Chunks}
use Rattle.fabric_words.specs.declared.place.Side.TheVariants.{FreeSide, LineSide}

-- ---- blocks

-- groups of 16 words that so many words need
abbrev pub groups_for : ℕ → ℕ
groups_for n = (n + 15) / 16

-- the number of the k-th block of a queue
abbrev pub queue_block : ℕ → ℕ → ℕ
queue_block k queue = 4 + k + 7 * queue

abbrev pub block_of : Place → ℕ
block_of NextStream = 0
block_of OpenedOut = 1
block_of OpenedBack = 2
block_of (Chunks number) = 3
block_of (Head queue FreeSide) = queue_block 0 queue
block_of (Tail queue FreeSide) = queue_block 1 queue
block_of (Slot queue FreeSide slot) = queue_block 2 queue
block_of (Head queue LineSide) = queue_block 3 queue
block_of (Tail queue LineSide) = queue_block 4 queue
block_of (Slot queue LineSide slot) = queue_block 5 queue
block_of (Tag queue item) = queue_block 6 queue
block_of (RunWord queue item) = queue_block 6 queue
block_of (PartWord queue item) = queue_block 6 queue

abbrev pub index_of : Place → ℕ
index_of NextStream = 0
index_of OpenedOut = 0
index_of OpenedBack = 0
index_of (Chunks number) = 16 * (number / 10) + number % 10
index_of (Head queue side) = 0
index_of (Tail queue side) = 0
index_of (Slot queue side slot) = slot
index_of (Tag queue item) = 4 * item
index_of (RunWord queue item) = 4 * item + 1
index_of (PartWord queue item) = 4 * item + 2

-- how many groups a block has
abbrev first_groups : Shape → ℕ → ℕ
first_groups shape zero = 1
first_groups shape (suc zero) = 1
first_groups shape (suc (suc zero)) = 1
first_groups shape (suc (suc (suc more))) = segments_of shape

abbrev pub kind_groups : ℕ → ℕ → ℕ
kind_groups zero n = 1
kind_groups (suc zero) n = 1
kind_groups (suc (suc zero)) n = groups_for n
kind_groups (suc (suc (suc zero))) n = 1
kind_groups (suc (suc (suc (suc zero)))) n = 1
kind_groups (suc (suc (suc (suc (suc zero))))) n = groups_for n
kind_groups (suc (suc (suc (suc (suc (suc more)))))) n = groups_for (4 * n)

abbrev pub groups_of : Shape → ℕ → ℕ
groups_of shape block = cond (nat_lt block 4) (first_groups shape block) (kind_groups ((block - 4) % 7) (items_of shape ((block - 4) / 7)))

-- where the word stands
abbrev pub stand_of : Shape → Place → ℕ
stand_of shape place = 16 * (1 + below (groups_of shape) (block_of place)) + index_of place

below_more : (f : ℕ → ℕ) (b c : ℕ) → b < c → below f b + f b ≤ below f c
below_more f b zero lt = absurd (omega arith)
below_more f b (suc c) lt =
    elim (cases_eq b c) [
      | inl same ↦ omega (arith, ap (below f) same, ap f same)
      | inr other ↦ omega (arith, below_more f b c (omega (arith, other)))
    ]

-- a number within the blocks says the block, and the index in it
one_block : (f : ℕ → ℕ) (b c i j : ℕ) → i < f b → j < f c → below f b + i ≡ below f c + j → (b ≡ c) × (i ≡ j)
one_block f b c i j in_b in_c same =
    elim (cases_lt b c) [
      | inl low ↦ absurd (omega (arith, below_more f b c low))
      | inr from ↦ elim (cases_lt c b) [
        | inl high ↦ absurd (omega (arith, below_more f c b high))
        | inr neither ↦ let is : b ≡ c = omega arith in (is, omega (arith, same, ap (below f) is))
      ]
    ]

-- ---- a word by its block and its index

first_place : ℕ → ℕ → Place
first_place zero i = NextStream
first_place (suc zero) i = OpenedOut
first_place (suc (suc zero)) i = OpenedBack
first_place (suc (suc (suc more))) i = Chunks (i / 16 * 10 + i % 16)

item_place : ℕ → ℕ → ℕ → Place
item_place zero q i = Tag q i
item_place (suc zero) q i = RunWord q i
item_place (suc (suc more)) q i = PartWord q i

kind_place : ℕ → ℕ → ℕ → Place
kind_place zero q i = Head q FreeSide
kind_place (suc zero) q i = Tail q FreeSide
kind_place (suc (suc zero)) q i = Slot q FreeSide i
kind_place (suc (suc (suc zero))) q i = Head q LineSide
kind_place (suc (suc (suc (suc zero)))) q i = Tail q LineSide
kind_place (suc (suc (suc (suc (suc zero))))) q i = Slot q LineSide i
kind_place (suc (suc (suc (suc (suc (suc more)))))) q i = item_place (i % 4) q (i / 4)

abbrev place_of : ℕ → ℕ → Place
place_of block i = cond (nat_lt block 4) (first_place block i) (kind_place ((block - 4) % 7) ((block - 4) / 7) i)

module _ {X : Type 0} (first : ℕ → X) (of_kind : ℕ → ℕ → X) (k q : ℕ) (lt : k < 7) where
  in_queue : cond (nat_lt (queue_block k q) 4) (first (queue_block k q)) (of_kind ((queue_block k q - 4) % 7) ((queue_block k q - 4) / 7)) ≡ of_kind k q
  in_queue =
      let kind : (queue_block k q - 4) % 7 ≡ k = omega (arith, lt) in
      let queue : (queue_block k q - 4) / 7 ≡ q = omega (arith, lt) in
      rw (le-ltb (queue_block k q) 4 (omega arith)) (ap₂ of_kind kind queue)

item_word : (q item k : ℕ) → k < 4 → item_place ((4 * item + k) % 4) q ((4 * item + k) / 4) ≡ item_place k q item
item_word q item k lt =
    let kind : (4 * item + k) % 4 ≡ k = omega (arith, lt) in
    let of_item : (4 * item + k) / 4 ≡ item = omega (arith, lt) in
    ap₂ (λ (a b : ℕ). item_place a q b) kind of_item

tag_word : (q item : ℕ) → item_place (4 * item % 4) q (4 * item / 4) ≡ Tag q item
unfolding item_place
tag_word q item =
    let kind : 4 * item % 4 ≡ 0 = omega arith in
    let of_item : 4 * item / 4 ≡ item = omega arith in
    ap₂ (λ (a b : ℕ). item_place a q b) kind of_item

chunk_word : (number : ℕ) → (16 * (number / 10) + number % 10) / 16 * 10 + (16 * (number / 10) + number % 10) % 16 ≡ number
chunk_word number = omega arith

place_is : (place : Place) → place_of (block_of place) (index_of place) ≡ place
unfolding first_place kind_place item_place
place_is NextStream = refl
place_is OpenedOut = refl
place_is OpenedBack = refl
place_is (Chunks number) = ap (λ (k : ℕ). Chunks k) (chunk_word number)
place_is (Head q FreeSide) = in_queue (λ b. first_place b 0) (λ k q. kind_place k q 0) 0 q (omega arith)
place_is (Tail q FreeSide) = in_queue (λ b. first_place b 0) (λ k q. kind_place k q 0) 1 q (omega arith)
place_is (Slot q FreeSide i) = in_queue (λ b. first_place b i) (λ k q. kind_place k q i) 2 q (omega arith)
place_is (Head q LineSide) = in_queue (λ b. first_place b 0) (λ k q. kind_place k q 0) 3 q (omega arith)
place_is (Tail q LineSide) = in_queue (λ b. first_place b 0) (λ k q. kind_place k q 0) 4 q (omega arith)
place_is (Slot q LineSide i) = in_queue (λ b. first_place b i) (λ k q. kind_place k q i) 5 q (omega arith)
place_is (Tag q i) = in_queue (λ b. first_place b (4 * i)) (λ k q. kind_place k q (4 * i)) 6 q (omega arith) ∙ tag_word q i
place_is (RunWord q i) = in_queue (λ b. first_place b (4 * i + 1)) (λ k q. kind_place k q (4 * i + 1)) 6 q (omega arith) ∙ item_word q i 1 (omega arith)
place_is (PartWord q i) = in_queue (λ b. first_place b (4 * i + 2)) (λ k q. kind_place k q (4 * i + 2)) 6 q (omega arith) ∙ item_word q i 2 (omega arith)

pub groups_in_queue : (shape : Shape) (k q : ℕ) → k < 7 → groups_of shape (queue_block k q) ≡ kind_groups k (items_of shape q)
groups_in_queue shape k q lt = in_queue (first_groups shape) (λ kind queue. kind_groups kind (items_of shape queue)) k q lt

index_in_block : (shape : Shape) (place : Place) → IsThere shape place → index_of place < 16 * groups_of shape (block_of place)
index_in_block shape NextStream there = omega arith
index_in_block shape OpenedOut there = omega arith
index_in_block shape OpenedBack there = omega arith
index_in_block shape (Chunks number) there = omega (arith, there)
index_in_block shape (Head q FreeSide) there = omega (arith, groups_in_queue shape 0 q (omega arith))
index_in_block shape (Tail q FreeSide) there = omega (arith, groups_in_queue shape 1 q (omega arith))
index_in_block shape (Slot q FreeSide i) there = omega (arith, there.in_items, groups_in_queue shape 2 q (omega arith))
index_in_block shape (Head q LineSide) there = omega (arith, groups_in_queue shape 3 q (omega arith))
index_in_block shape (Tail q LineSide) there = omega (arith, groups_in_queue shape 4 q (omega arith))
index_in_block shape (Slot q LineSide i) there = omega (arith, there.in_items, groups_in_queue shape 5 q (omega arith))
index_in_block shape (Tag q i) there = omega (arith, there.in_items, groups_in_queue shape 6 q (omega arith))
index_in_block shape (RunWord q i) there = omega (arith, there.in_items, groups_in_queue shape 6 q (omega arith))
index_in_block shape (PartWord q i) there = omega (arith, there.in_items, groups_in_queue shape 6 q (omega arith))

block_is_there : (shape : Shape) (place : Place) → IsThere shape place → block_of place < 4 + 7 * queues_of shape
block_is_there shape NextStream there = omega arith
block_is_there shape OpenedOut there = omega arith
block_is_there shape OpenedBack there = omega arith
block_is_there shape (Chunks number) there = omega arith
block_is_there shape (Head q FreeSide) there = omega (arith, there)
block_is_there shape (Tail q FreeSide) there = omega (arith, there)
block_is_there shape (Slot q FreeSide i) there = omega (arith, there.in_queues)
block_is_there shape (Head q LineSide) there = omega (arith, there)
block_is_there shape (Tail q LineSide) there = omega (arith, there)
block_is_there shape (Slot q LineSide i) there = omega (arith, there.in_queues)
block_is_there shape (Tag q i) there = omega (arith, there.in_queues)
block_is_there shape (RunWord q i) there = omega (arith, there.in_queues)
block_is_there shape (PartWord q i) there = omega (arith, there.in_queues)

-- a block of a word that many threads change has this word alone
shared_block : (place : Place) (i : ℕ) → is_shared place ≡ true → place_of (block_of place) i ≡ place
unfolding first_place kind_place
shared_block NextStream i is = refl
shared_block OpenedOut i is = refl
shared_block OpenedBack i is = refl
shared_block (Head q FreeSide) i is = in_queue (λ b. first_place b i) (λ k q. kind_place k q i) 0 q (omega arith)
shared_block (Tail q FreeSide) i is = in_queue (λ b. first_place b i) (λ k q. kind_place k q i) 1 q (omega arith)
shared_block (Head q LineSide) i is = in_queue (λ b. first_place b i) (λ k q. kind_place k q i) 3 q (omega arith)
shared_block (Tail q LineSide) i is = in_queue (λ b. first_place b i) (λ k q. kind_place k q i) 4 q (omega arith)
shared_block (Slot q s slot) i is = absurd (cc is)
shared_block (Tag q item) i is = absurd (cc is)
shared_block (RunWord q item) i is = absurd (cc is)
shared_block (PartWord q item) i is = absurd (cc is)
shared_block (Chunks number) i is = absurd (cc is)

-- ---- where words stand

-- two words in one group of 16 are of one block, and in one group of it
pub one_group : (shape : Shape) (place other : Place) → IsThere shape place → IsThere shape other → stand_of shape place / 16 ≡ stand_of shape other / 16
    → (block_of place ≡ block_of other) × (index_of place / 16 ≡ index_of other / 16)
one_group shape place other there also same =
    let a : stand_of shape place / 16 ≡ 1 + below (groups_of shape) (block_of place) + index_of place / 16 = omega arith in
    let b : stand_of shape other / 16 ≡ 1 + below (groups_of shape) (block_of other) + index_of other / 16 = omega arith in
    let in_a : index_of place / 16 < groups_of shape (block_of place) = omega (arith, index_in_block shape place there) in
    let in_b : index_of other / 16 < groups_of shape (block_of other) = omega (arith, index_in_block shape other also) in
    one_block (groups_of shape) (block_of place) (block_of other) (index_of place / 16) (index_of other / 16) in_a in_b (omega (arith, same, a, b))

pub stands_once : (shape : Shape) (place other : Place) → IsThere shape place → IsThere shape other → stand_of shape place ≡ stand_of shape other → place ≡ other
stands_once shape place other there also same =
    let is = one_group shape place other there also (ap (λ (n : ℕ). n / 16) same) in
    let index : index_of place ≡ index_of other = omega (arith, same, ap (below (groups_of shape)) is.0) in
    sym (place_is place) ∙ ap₂ place_of is.0 index ∙ place_is other

pub stands_within : (shape : Shape) (place : Place) → IsThere shape place → stand_of shape place < 16 * (1 + below (groups_of shape) (4 + 7 * queues_of shape))
stands_within shape place there =
    omega (arith, index_in_block shape place there, below_more (groups_of shape) (block_of place) (4 + 7 * queues_of shape) (block_is_there shape place there))

-- ---- groups of 16 words

pub shared_alone : (shape : Shape) (place other : Place) → IsThere shape place → IsThere shape other → is_shared place ≡ true → stand_of shape place / 16 ≡ stand_of shape other / 16 → place ≡ other
shared_alone shape place other there also shared same =
    let is = one_group shape place other there also same in
    sym (shared_block place (index_of other) shared) ∙ ap (λ (b : ℕ). place_of b (index_of other)) is.0 ∙ place_is other

pub segment_alone : (shape : Shape) (number : ℕ) (other : Place) → IsThere shape (Chunks number) → IsThere shape other → stand_of shape (Chunks number) / 16 ≡ stand_of shape other / 16
    → (k : ℕ) × (other ≡ Chunks k) × (k / 10 ≡ number / 10)
unfolding first_place
segment_alone shape number other there also same =
    let is = one_group shape (Chunks number) other there also same in
    let k : ℕ = index_of other / 16 * 10 + index_of other % 16 in
    let of_map : other ≡ Chunks k = sym (place_is other) ∙ ap (λ (b : ℕ). place_of b (index_of other)) (sym is.0) in
    let index : index_of other ≡ 16 * (k / 10) + k % 10 = ap index_of of_map in
    (k, of_map, omega (arith, index, is.1))
