-- What steps do to arms and their get places, as statements over views of any type V. `got v i p` says that v has the item i from the
-- free ring, at the place p, and hasn't armed it since.
use Rattle.std.specs.Prelude.{ℕ, ◌+◌, ◌≡◌, ◌≢◌, ◌≤◌, ◌<◌, ◌⊎◌, List, ◌∷◌, set}
use mathlib.Core.Option.{some}
use lib.ListN.{get_elem?}
use Rattle.unit_model.specs.Sharing.{Owned, Holds}
use Rattle.app_queue.specs.declared.side.Side.{Side}
use Rattle.app_queue.specs.declared.side.Side.TheVariants.{Free}
use Rattle.app_queue.specs.Queues.{Shape, QueueWords, WordsStay, SetsWord}
use Rattle.app_queue.specs.Arms.{Arm, ArmsOfQueue, ArmsPlaced}

-- ---- one queue

-- what a step that arms nothing may do to an item's words: it leaves them, or the tag is 0 then
abbrev pub ArmedWordsStay : ℕ → (tag tag' run run' part part' : ℕ → ℕ) → Type 0
ArmedWordsStay n tag tag' run run' part part' = (item : ℕ) → item < n → (tag' item ≡ 0) ⊎ ((tag' item ≡ tag item) × (run' item ≡ run item) × (part' item ≡ part item))

-- The frame, also of a settle, of a run or a part that is set while the tag is 0, and of an item that goes.
abbrev pub ArmsStayLaw : (V : Type 0) → (V → ℕ → ℕ → Type 0) → Type 0
ArmsStayLaw V got = (arms : V → List Arm) (held : (ℕ → ℕ) → V → ℕ) (n head head' : ℕ) (tag tag' run run' part part' : ℕ → ℕ) (views : List V) (k : ℕ) (v u : V) → get_elem? views k ≡ some v
    → head ≤ head' → ArmedWordsStay n tag tag' run run' part part' → arms u ≡ arms v
    → ((item : ℕ) → Holds held item u → (place : ℕ) → got u item place → Holds held item v × got v item place)
    → ArmsOfQueue arms held got n head tag run part views → ArmsOfQueue arms held got n head' tag' run' part' (set views k u)

-- an item with tag 0 is got from the free ring, at its head
abbrev pub ArmsGetLaw : (V : Type 0) → (V → ℕ → ℕ → Type 0) → Type 0
ArmsGetLaw V got = (arms : V → List Arm) (held : (ℕ → ℕ) → V → ℕ) (n head head' : ℕ) (tag tag' run run' part part' : ℕ → ℕ) (views : List V) (k : ℕ) (v u : V) → get_elem? views k ≡ some v
    → head' ≡ head + 1 → ((item : ℕ) → item < n → (tag' item ≡ tag item) × (run' item ≡ run item) × (part' item ≡ part item)) → arms u ≡ arms v
    → (one : ℕ) → tag one ≡ 0
    → ((item : ℕ) → Holds held item u → (place : ℕ) → got u item place → ((item ≡ one) × (place ≡ head)) ⊎ (Holds held item v × got v item place))
    → ArmsOfQueue arms held got n head tag run part views → ArmsOfQueue arms held got n head' tag' run' part' (set views k u)

-- the holder of an item that was got and not armed since arms it
abbrev pub ArmsArmLaw : (V : Type 0) → (V → ℕ → ℕ → Type 0) → Type 0
ArmsArmLaw V got = (arms : V → List Arm) (held : (ℕ → ℕ) → V → ℕ) (elsewhere : (ℕ → ℕ) → ℕ) (n head head' : ℕ) (tag tag' run run' part part' : ℕ → ℕ) (views : List V) (k : ℕ) (v u : V) → get_elem? views k ≡ some v
    → head ≤ head' → (a : Arm) → a.item < n → Holds held a.item v → got v a.item a.place → a.run ≡ run a.item → a.part ≡ part a.item
    → tag' a.item ≡ a.stream → ((item : ℕ) → item < n → item ≢ a.item → tag' item ≡ tag item) → ((item : ℕ) → item < n → (run' item ≡ run item) × (part' item ≡ part item)) → arms u ≡ a ∷ arms v
    → ((item : ℕ) → Holds held item u → (place : ℕ) → got u item place → (item ≢ a.item) × Holds held item v × got v item place)
    → Owned held elsewhere n views → ArmsOfQueue arms held got n head tag run part views → ArmsOfQueue arms held got n head' tag' run' part' (set views k u)

-- ---- any number of queues

-- no head of a free ring falls, but for that of this queue
abbrev pub OtherHeadsRise : Shape → ℕ → QueueWords → QueueWords → Type 0
OtherHeadsRise shape q w w' = (r : ℕ) → r < shape.queues → r ≢ q → (w.ring r Free).head ≤ (w'.ring r Free).head

-- what of the other queues the seat says it got, it said before
abbrev pub OthersGotBefore : {V : Type 0} → (ℕ → (ℕ → ℕ) → V → ℕ) → (ℕ → V → ℕ → ℕ → Type 0) → Shape → ℕ → V → V → Type 0
OthersGotBefore held got shape q v u = (r : ℕ) → r < shape.queues → r ≢ q → (item : ℕ) → Holds (held r) item u → (place : ℕ) → got r u item place → Holds (held r) item v × got r v item place

-- what the seat says it got, it said before
abbrev pub GotBefore : {V : Type 0} → (ℕ → (ℕ → ℕ) → V → ℕ) → (ℕ → V → ℕ → ℕ → Type 0) → V → V → Type 0
GotBefore held got v u = (q item : ℕ) → Holds (held q) item u → (place : ℕ) → got q u item place → Holds (held q) item v × got q v item place

-- The frame: also of a step at a ring that takes nothing from a free one, of a settle, of a run or a part that is set while the tag
-- is 0, and of an item that comes from a line or goes.
abbrev pub PlacedStayLaw : (V : Type 0) → (ℕ → V → ℕ → ℕ → Type 0) → Type 0
PlacedStayLaw V got = (arms : ℕ → V → List Arm) (held : ℕ → (ℕ → ℕ) → V → ℕ) (shape : Shape) (w w' : QueueWords) (views : List V) (k : ℕ) (v u : V) → get_elem? views k ≡ some v
    → ((q : ℕ) → q < shape.queues → (w.ring q Free).head ≤ (w'.ring q Free).head) → ((q : ℕ) → q < shape.queues → ArmedWordsStay (shape.items q) (w.tag q) (w'.tag q) (w.run q) (w'.run q) (w.part q) (w'.part q))
    → ((q : ℕ) → arms q u ≡ arms q v) → GotBefore held got v u → ArmsPlaced arms held got shape w views → ArmsPlaced arms held got shape w' (set views k u)

-- An item with tag 0 is got from the free ring of a queue, at its head.
abbrev pub PlacedGetLaw : (V : Type 0) → (ℕ → V → ℕ → ℕ → Type 0) → Type 0
PlacedGetLaw V got = (arms : ℕ → V → List Arm) (held : ℕ → (ℕ → ℕ) → V → ℕ) (shape : Shape) (w w' : QueueWords) (views : List V) (k : ℕ) (v u : V) → get_elem? views k ≡ some v
    → (q one : ℕ) → (w'.ring q Free).head ≡ (w.ring q Free).head + 1 → OtherHeadsRise shape q w w' → WordsStay shape w.tag w'.tag → WordsStay shape w.run w'.run → WordsStay shape w.part w'.part
    → ((r : ℕ) → arms r u ≡ arms r v) → w.tag q one ≡ 0
    → ((item : ℕ) → Holds (held q) item u → (place : ℕ) → got q u item place → ((item ≡ one) × (place ≡ (w.ring q Free).head)) ⊎ (Holds (held q) item v × got q v item place))
    → OthersGotBefore held got shape q v u → ArmsPlaced arms held got shape w views → ArmsPlaced arms held got shape w' (set views k u)

-- The holder of an item that was got from a free ring, and not armed since, arms it: one arm more. `elsewhere q` is what items of the
-- queue weigh that no seat holds.
abbrev pub PlacedArmLaw : (V : Type 0) → (ℕ → V → ℕ → ℕ → Type 0) → Type 0
PlacedArmLaw V got = (arms : ℕ → V → List Arm) (held : ℕ → (ℕ → ℕ) → V → ℕ) (elsewhere : ℕ → (ℕ → ℕ) → ℕ) (shape : Shape) (w w' : QueueWords) (views : List V) (k : ℕ) (v u : V) → get_elem? views k ≡ some v
    → (q : ℕ) → q < shape.queues → (a : Arm) → a.item < shape.items q → Holds (held q) a.item v → got q v a.item a.place → a.run ≡ w.run q a.item → a.part ≡ w.part q a.item
    → ((r : ℕ) → r < shape.queues → (w.ring r Free).head ≤ (w'.ring r Free).head) → SetsWord shape w.tag w'.tag q a.item a.stream → WordsStay shape w.run w'.run → WordsStay shape w.part w'.part
    → arms q u ≡ a ∷ arms q v → ((r : ℕ) → r < shape.queues → r ≢ q → arms r u ≡ arms r v)
    → ((item : ℕ) → Holds (held q) item u → (place : ℕ) → got q u item place → (item ≢ a.item) × Holds (held q) item v × got q v item place)
    → OthersGotBefore held got shape q v u → Owned (held q) (elsewhere q) (shape.items q) views
    → ArmsPlaced arms held got shape w views → ArmsPlaced arms held got shape w' (set views k u)
