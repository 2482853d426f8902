-- Arms with their get places, over views of any type: where only a seat that got an item from the free ring arms it, and once
-- for each get, the arm with the greatest get place is the latest one.
use Rattle.std.specs.Prelude.{ℕ, ◌≡◌, ◌≢◌, ◌≤◌, ◌<◌, ◌==◌, ◌&&◌, List}
use mathlib.Core.Option.{some}
use lib.ListN.{get_elem?}
use Rattle.unit_model.specs.Sharing.{Holds}
use Rattle.unit_model.specs.Weights.{weigh, one_if}
use Rattle.app_queue.specs.declared.side.Side.TheVariants.{Free}
use Rattle.app_queue.specs.Queues.{Shape, QueueWords}

-- An item was armed with a stream. The place is that at which the seat got it from the free ring, and run and part are its words.
pub record Arm : Type 0 where
  pub item : ℕ
  pub place : ℕ
  pub stream : ℕ
  pub run : ℕ
  pub part : ℕ

-- 1 where the arm is of this item, got at this place
abbrev pub is_arm_at : ℕ → ℕ → Arm → ℕ
is_arm_at item place a = one_if (a.item == item && a.place == place)

-- some view has the arm
abbrev pub WasArmed : {V : Type 0} → (V → List Arm) → List V → Arm → Type 0
WasArmed {V} arms views a = (k : ℕ) × (v : V) × (get_elem? views k ≡ some v) × (j : ℕ) × (get_elem? (arms v) j ≡ some a)

-- The arm is one of the item's, and none of them has a greater get place.
pub record IsLatest {V : Type 0} (arms : V → List Arm) (views : List V) (a : Arm) : Type 0 where
  pub was : WasArmed arms views a
  pub greatest : (b : Arm) → WasArmed arms views b → b.item ≡ a.item → b.place ≤ a.place

-- the arm of an item whose tag stands, with its words
pub record IsStanding {V : Type 0} (arms : V → List Arm) (tag run part : ℕ → ℕ) (views : List V) (number : ℕ) : Type 0 where
  pub arm : Arm
  pub latest : IsLatest arms views arm
  pub of_item : arm.item ≡ number
  pub has_tag : arm.stream ≡ tag number
  pub has_run : arm.run ≡ run number
  pub has_part : arm.part ≡ part number

-- The item can be armed: it was got at this place, after all its arms, and its tag is 0.
pub record IsFresh {V : Type 0} (arms : V → List Arm) (head : ℕ) (tag : ℕ → ℕ) (views : List V) (number place : ℕ) : Type 0 where
  pub below : place < head
  pub untagged : tag number ≡ 0
  pub above : (b : Arm) → WasArmed arms views b → b.item ≡ number → b.place < place

-- Of one queue, whose free ring has this head. `got v i p` says that v has the item i from the free ring, at the place p, and
-- hasn't armed it since.
pub record ArmsOfQueue {V : Type 0} (arms : V → List Arm) (held : (ℕ → ℕ) → V → ℕ) (got : V → ℕ → ℕ → Type 0) (n head : ℕ) (tag run part : ℕ → ℕ) (views : List V) : Type 0 where
  pub below : (a : Arm) → WasArmed arms views a → a.place < head
  pub once : (item place : ℕ) → weigh (λ v. weigh (is_arm_at item place) (arms v)) views ≤ 1
  pub standing : (item : ℕ) → item < n → tag item ≢ 0 → IsStanding arms tag run part views item
  pub fresh : (k : ℕ) (v : V) → get_elem? views k ≡ some v → (item : ℕ) → item < n → Holds held item v → (place : ℕ) → got v item place → IsFresh arms head tag views item place

abbrev pub ArmsPlaced : {V : Type 0} → (arms : ℕ → V → List Arm) → (held : ℕ → (ℕ → ℕ) → V → ℕ) → (got : ℕ → V → ℕ → ℕ → Type 0) → Shape → QueueWords → List V → Type 0
ArmsPlaced arms held got shape w views = (q : ℕ) → q < shape.queues → ArmsOfQueue (arms q) (held q) (got q) (shape.items q) (w.ring q Free).head (w.tag q) (w.run q) (w.part q) views
