-- The words of queues by what they mean, and what a step changes of them, as facts at points. Each queue has two rings, and each
-- of its items a tag, a run and a part. Only queues below their number count, and only items below the number of their queue.
use Rattle.std.specs.Prelude.{ℕ, ◌≢◌, ◌<◌, ◌⊎◌}
use Rattle.nncq_ring.specs.Words.{Words, SameWords}
use Rattle.tracking_word.specs.Words.{Sets, Stays}
use Rattle.app_queue.specs.declared.side.Side.{Side}

-- how many queues there are, and how many items each has
pub record Shape : Type 0 where
  pub queues : ℕ
  pub items : ℕ → ℕ

-- `ring q side`, `tag q i`, `run q i` and `part q i`
pub record QueueWords : Type 0 where
  pub ring : ℕ → Side → Words
  pub tag : ℕ → ℕ → ℕ
  pub run : ℕ → ℕ → ℕ
  pub part : ℕ → ℕ → ℕ

-- no ring changed
abbrev pub RingsStay : Shape → (ℕ → Side → Words) → (ℕ → Side → Words) → Type 0
RingsStay shape ring ring' = (q : ℕ) → q < shape.queues → (side : Side) → SameWords (shape.items q) (ring q side) (ring' q side)

-- another ring than this one
abbrev pub IsOther : ℕ → Side → ℕ → Side → Type 0
IsOther q side r other = (r ≢ q) ⊎ (other ≢ side)

-- no other ring than this one changed
abbrev pub OtherRingsStay : Shape → ℕ → Side → (ℕ → Side → Words) → (ℕ → Side → Words) → Type 0
OtherRingsStay shape q side ring ring' = (r : ℕ) → r < shape.queues → (other : Side) → IsOther q side r other → SameWords (shape.items r) (ring r other) (ring' r other)

-- no item's word changed; the same of the tags, the runs or the parts
abbrev pub WordsStay : Shape → (ℕ → ℕ → ℕ) → (ℕ → ℕ → ℕ) → Type 0
WordsStay shape word word' = (q : ℕ) → q < shape.queues → Stays (shape.items q) (word q) (word' q)

-- the word of this item became x, and no other item's word changed
pub record SetsWord (shape : Shape) (word word' : ℕ → ℕ → ℕ) (q item x : ℕ) : Type 0 where
  pub here : Sets (shape.items q) (word q) (word' q) item x
  pub others : (r : ℕ) → r < shape.queues → r ≢ q → Stays (shape.items r) (word r) (word' r)
