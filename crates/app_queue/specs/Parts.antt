-- The parts of a rule of queues, over views of any type. What a view says is told by functions on it, each of which is given the
-- queue, so that any table's rule can be made of the same parts.
use Rattle.std.specs.Prelude.{ℕ, ◌+◌, ◌^◌, ◌≡◌, ◌≢◌, ◌≤◌, ◌<◌, List}
use Rattle.unit_model.specs.Sharing.{Owned}
use Rattle.unit_model.specs.Weights.{weigh, is_number}
use Rattle.nncq_ring.specs.declared.view.RingEvent.{RingEvent}
use Rattle.nncq_ring.specs.Notes.{RingPart}
use Rattle.nncq_ring.specs.Rule.{line_weight, Emptied}
use Rattle.nncq_ring.specs.Words.{Words, logical_tail, line_of}
use Rattle.tracking_word.specs.Parts.{Counted, Known, KnownExactly}
use Rattle.tracking_word.specs.Words.{is_pair}
use Rattle.app_queue.specs.declared.side.Side.{Side}
use Rattle.app_queue.specs.declared.side.Side.TheVariants.{Free, Line}
use Rattle.app_queue.specs.Queues.{Shape}

-- Rings: each is well formed and ends at 2^62, and what the views noted of it is true. `log q side v` is what v noted.
pub record RingParts {V : Type 0} (log : ℕ → Side → V → List RingEvent) (shape : Shape) (ring : ℕ → Side → Words) (views : List V) : Type 0 where
  pub rings : (q : ℕ) → q < shape.queues → (side : Side) → RingPart (shape.items q) (log q side) (ring q side) views
  pub worn : (q : ℕ) → q < shape.queues → (side : Side) → logical_tail (shape.items q) (ring q side) ≤ 2 ^ 62

-- each pair of a place and an item that was put in the ring, or stood in it at first, was taken once, or stands in it once
abbrev pub HasMoved : {V : Type 0} → (pushes pops : (ℕ → ℕ → ℕ) → V → ℕ) → ℕ → List (ℕ × ℕ) → Words → List V → Type 0
HasMoved pushes pops n begun w views = (g : ℕ → ℕ → ℕ) → weigh (pushes g) views + weigh (λ e. g e.0 e.1) begun ≡ weigh (pops g) views + weigh (λ e. g e.0 e.1) (line_of n w)

-- Histories of rings: what was put in each, or stood in it at first, was taken or stands in it; and each place from its start up
-- to its head was emptied once, and no other. So the places of each ring are used in order, from its start on.
pub record RingHistories {V : Type 0} (pushes pops : ℕ → Side → (ℕ → ℕ → ℕ) → V → ℕ) (start : ℕ → Side → ℕ) (begun : ℕ → Side → List (ℕ × ℕ)) (shape : Shape) (ring : ℕ → Side → Words) (views : List V) : Type 0 where
  pub moved : (q : ℕ) → q < shape.queues → (side : Side) → HasMoved (pushes q side) (pops q side) (shape.items q) (begun q side) (ring q side) views
  pub emptied : (q : ℕ) → q < shape.queues → (side : Side) → Emptied (pops q side) (start q side) (ring q side) views

-- what the items in both rings of a queue weigh
abbrev pub lines_weight : ℕ → (Side → Words) → (ℕ → ℕ) → ℕ
lines_weight n ring f = line_weight n (ring Free) f + line_weight n (ring Line) f

-- Items: each is in the free ring once, in the line once, or in the hand of one seat once.
abbrev pub ItemsOwned : {V : Type 0} → (held : ℕ → (ℕ → ℕ) → V → ℕ) → Shape → (ℕ → Side → Words) → List V → Type 0
ItemsOwned held shape ring views = (q : ℕ) → q < shape.queues → Owned (held q) (lines_weight (shape.items q) (ring q)) (shape.items q) views

-- the item is in the ring
abbrev pub IsIn : ℕ → ℕ → Words → Type 0
IsIn item n w = 0 < line_weight n w (is_number item)

-- Free items: the tag of an item in a free ring is 0.
abbrev pub FreeUntagged : Shape → (ℕ → Side → Words) → (ℕ → ℕ → ℕ) → Type 0
FreeUntagged shape ring tag = (q : ℕ) → q < shape.queues → (item : ℕ) → item < shape.items q → IsIn item (shape.items q) (ring q Free) → tag q item ≡ 0

-- Tags: every arm was won once, or still stands.
abbrev pub TagsCounted : {V : Type 0} → (arms wins : ℕ → (ℕ → ℕ → ℕ) → V → ℕ) → Shape → (ℕ → ℕ → ℕ) → List V → Type 0
TagsCounted arms wins shape tag views = (q : ℕ) → q < shape.queues → Counted (arms q) (wins q) (shape.items q) (tag q) views

-- Known tags: the tag of an item in a seat's hand is what its view says, or 0.
abbrev pub TagsKnown : {V : Type 0} → (held : ℕ → (ℕ → ℕ) → V → ℕ) → (says : ℕ → V → ℕ → ℕ → Type 0) → Shape → (ℕ → ℕ → ℕ) → List V → Type 0
TagsKnown held says shape tag views = (q : ℕ) → q < shape.queues → Known (held q) (says q) (shape.items q) (tag q) views

-- Known runs and parts: the word of an item in a seat's hand is what its view says.
abbrev pub WordsKnown : {V : Type 0} → (held : ℕ → (ℕ → ℕ) → V → ℕ) → (says : ℕ → V → ℕ → ℕ → Type 0) → Shape → (ℕ → ℕ → ℕ) → List V → Type 0
WordsKnown held says shape word views = (q : ℕ) → q < shape.queues → KnownExactly (held q) (says q) (shape.items q) (word q) views

-- Noted runs and parts: each was 0 at first, and is 0 or what some view noted of it. `notes q f v` is what the notes of v weigh where
-- an item with its word weighs f.
abbrev pub WordsNoted : {V : Type 0} → (notes : ℕ → (ℕ → ℕ → ℕ) → V → ℕ) → Shape → (ℕ → ℕ → ℕ) → List V → Type 0
WordsNoted notes shape word views = (q : ℕ) → q < shape.queues → (item : ℕ) → item < shape.items q → word q item ≢ 0 → 0 < weigh (notes q (is_pair item (word q item))) views
