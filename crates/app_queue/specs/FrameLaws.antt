-- What steps do to the parts, as statements over views of any type V. A step changes the view of one seat, the k-th, from v to u:
-- what of it has changed is a premise.
use Rattle.std.specs.Prelude.{ℕ, ◌+◌, ◌^◌, ◌≡◌, ◌≢◌, ◌≤◌, ◌<◌, ◌⊎◌, ◌++◌, List, [], ◌∷◌, set}
use mathlib.Core.Option.{some}
use lib.ListN.{get_elem?}
use Rattle.unit_model.specs.Sharing.{Owned, Holds}
use Rattle.nncq_ring.specs.declared.view.RingEvent.{RingEvent}
use Rattle.nncq_ring.specs.Notes.{RingPart}
use Rattle.nncq_ring.specs.Rule.{Emptied}
use Rattle.nncq_ring.specs.Words.{Words, IsWellFormed, logical_tail, line_of}
use Rattle.tracking_word.specs.Words.{is_pair}
use Rattle.app_queue.specs.declared.side.Side.{Side}
use Rattle.app_queue.specs.declared.side.Side.TheVariants.{Free}
use Rattle.app_queue.specs.Queues.{Shape, RingsStay, IsOther, OtherRingsStay, WordsStay, SetsWord}
use Rattle.app_queue.specs.Parts.{RingParts, HasMoved, RingHistories, lines_weight, ItemsOwned, IsIn, FreeUntagged, TagsCounted, TagsKnown, WordsKnown, WordsNoted}

-- ---- rings

-- The frame: a step that leaves all rings, and the seat's notes of them.
abbrev pub RingsStayLaw : Type 0 → Type 0
RingsStayLaw V = (log : ℕ → Side → V → List RingEvent) (shape : Shape) (ring ring' : ℕ → Side → Words) (views : List V) (k : ℕ) (v u : V) → get_elem? views k ≡ some v
    → RingsStay shape ring ring' → ((q : ℕ) (side : Side) → log q side u ≡ log q side v) → RingParts log shape ring views → RingParts log shape ring' (set views k u)

-- A step at one ring: what holds of it then, and the others as they were.
abbrev pub RingStepLaw : Type 0 → Type 0
RingStepLaw V = (log : ℕ → Side → V → List RingEvent) (shape : Shape) (ring ring' : ℕ → Side → Words) (views : List V) (k : ℕ) (v u : V) → get_elem? views k ≡ some v
    → (q : ℕ) (side : Side) → OtherRingsStay shape q side ring ring' → ((r : ℕ) → r < shape.queues → (other : Side) → IsOther q side r other → log r other u ≡ log r other v)
    → RingPart (shape.items q) (log q side) (ring' q side) (set views k u) → logical_tail (shape.items q) (ring' q side) ≤ 2 ^ 62
    → RingParts log shape ring views → RingParts log shape ring' (set views k u)

-- the rings are well formed
abbrev pub AreWellFormed : Shape → (ℕ → Side → Words) → Type 0
AreWellFormed shape ring = (q : ℕ) → q < shape.queues → (side : Side) → IsWellFormed (shape.items q) (ring q side)

-- ---- histories of rings

-- the frame
abbrev pub HistoriesStayLaw : Type 0 → Type 0
HistoriesStayLaw V = (pushes pops : ℕ → Side → (ℕ → ℕ → ℕ) → V → ℕ) (start : ℕ → Side → ℕ) (begun : ℕ → Side → List (ℕ × ℕ)) (shape : Shape) (ring ring' : ℕ → Side → Words) (views : List V) (k : ℕ) (v u : V) → get_elem? views k ≡ some v
    → AreWellFormed shape ring → RingsStay shape ring ring'
    → ((q : ℕ) (side : Side) (g : ℕ → ℕ → ℕ) → pushes q side g u ≡ pushes q side g v) → ((q : ℕ) (side : Side) (g : ℕ → ℕ → ℕ) → pops q side g u ≡ pops q side g v)
    → RingHistories pushes pops start begun shape ring views → RingHistories pushes pops start begun shape ring' (set views k u)

-- a step at one ring: what holds of it then, and the others as they were
abbrev pub HistoryStepLaw : Type 0 → Type 0
HistoryStepLaw V = (pushes pops : ℕ → Side → (ℕ → ℕ → ℕ) → V → ℕ) (start : ℕ → Side → ℕ) (begun : ℕ → Side → List (ℕ × ℕ)) (shape : Shape) (ring ring' : ℕ → Side → Words) (views : List V) (k : ℕ) (v u : V) → get_elem? views k ≡ some v
    → AreWellFormed shape ring → (q : ℕ) (side : Side) → OtherRingsStay shape q side ring ring'
    → ((r : ℕ) → r < shape.queues → (other : Side) → IsOther q side r other → (g : ℕ → ℕ → ℕ) → pushes r other g u ≡ pushes r other g v)
    → ((r : ℕ) → r < shape.queues → (other : Side) → IsOther q side r other → (g : ℕ → ℕ → ℕ) → pops r other g u ≡ pops r other g v)
    → HasMoved (pushes q side) (pops q side) (shape.items q) (begun q side) (ring' q side) (set views k u) → Emptied (pops q side) (start q side) (ring' q side) (set views k u)
    → RingHistories pushes pops start begun shape ring views → RingHistories pushes pops start begun shape ring' (set views k u)

-- ---- items

-- the frame
abbrev pub ItemsStayLaw : Type 0 → Type 0
ItemsStayLaw V = (held : ℕ → (ℕ → ℕ) → V → ℕ) (shape : Shape) (ring ring' : ℕ → Side → Words) (views : List V) (k : ℕ) (v u : V) → get_elem? views k ≡ some v
    → AreWellFormed shape ring → RingsStay shape ring ring' → ((q : ℕ) (f : ℕ → ℕ) → held q f u ≡ held q f v) → ItemsOwned held shape ring views → ItemsOwned held shape ring' (set views k u)

-- a step at one queue: what holds of it then, and the other queues as they were
abbrev pub ItemsMoveLaw : Type 0 → Type 0
ItemsMoveLaw V = (held : ℕ → (ℕ → ℕ) → V → ℕ) (shape : Shape) (ring ring' : ℕ → Side → Words) (views : List V) (k : ℕ) (v u : V) → get_elem? views k ≡ some v
    → AreWellFormed shape ring → (q : ℕ) (side : Side) → OtherRingsStay shape q side ring ring' → ((r : ℕ) → r < shape.queues → r ≢ q → (f : ℕ → ℕ) → held r f u ≡ held r f v)
    → Owned (held q) (lines_weight (shape.items q) (ring' q)) (shape.items q) (set views k u) → ItemsOwned held shape ring views → ItemsOwned held shape ring' (set views k u)

-- ---- free items

-- each tag stays, or is taken to 0
abbrev pub TagsStayOrFall : Shape → (ℕ → ℕ → ℕ) → (ℕ → ℕ → ℕ) → Type 0
TagsStayOrFall shape tag tag' = (q : ℕ) → q < shape.queues → (item : ℕ) → item < shape.items q → (tag' q item ≡ tag q item) ⊎ (tag' q item ≡ 0)

-- the frame, where tags may be taken to 0
abbrev pub FreeStayLaw : Type 0
FreeStayLaw = (shape : Shape) (ring ring' : ℕ → Side → Words) (tag tag' : ℕ → ℕ → ℕ) → AreWellFormed shape ring → RingsStay shape ring ring'
    → TagsStayOrFall shape tag tag' → FreeUntagged shape ring tag → FreeUntagged shape ring' tag'

-- A step that leaves what is in the free rings: one at a line, or one that moves a tail.
abbrev pub FreeLinesStayLaw : Type 0
FreeLinesStayLaw = (shape : Shape) (ring ring' : ℕ → Side → Words) (tag tag' : ℕ → ℕ → ℕ)
    → ((q : ℕ) → q < shape.queues → line_of (shape.items q) (ring' q Free) ≡ line_of (shape.items q) (ring q Free))
    → TagsStayOrFall shape tag tag' → FreeUntagged shape ring tag → FreeUntagged shape ring' tag'

-- An item whose tag is 0 is put in a free ring.
abbrev pub FreePutLaw : Type 0
FreePutLaw = (shape : Shape) (ring ring' : ℕ → Side → Words) (tag tag' : ℕ → ℕ → ℕ) → AreWellFormed shape ring → (q place item : ℕ) → OtherRingsStay shape q Free ring ring'
    → line_of (shape.items q) (ring' q Free) ≡ line_of (shape.items q) (ring q Free) ++ (place, item) ∷ [] → tag q item ≡ 0
    → TagsStayOrFall shape tag tag' → FreeUntagged shape ring tag → FreeUntagged shape ring' tag'

-- An item is taken from a free ring: its tag is 0.
abbrev pub FreeTakeLaw : Type 0
FreeTakeLaw = (shape : Shape) (ring ring' : ℕ → Side → Words) (tag tag' : ℕ → ℕ → ℕ) → AreWellFormed shape ring → (q place item : ℕ) → q < shape.queues → item < shape.items q
    → OtherRingsStay shape q Free ring ring' → line_of (shape.items q) (ring q Free) ≡ (place, item) ∷ line_of (shape.items q) (ring' q Free)
    → TagsStayOrFall shape tag tag' → FreeUntagged shape ring tag → FreeUntagged shape ring' tag' × (tag q item ≡ 0)

-- The tag of an item that isn't in its free ring is set.
abbrev pub FreeArmLaw : Type 0
FreeArmLaw = (shape : Shape) (ring ring' : ℕ → Side → Words) (tag tag' : ℕ → ℕ → ℕ) → AreWellFormed shape ring → RingsStay shape ring ring'
    → (q item x : ℕ) → ¬ (IsIn item (shape.items q) (ring q Free)) → SetsWord shape tag tag' q item x → FreeUntagged shape ring tag → FreeUntagged shape ring' tag'

-- An item that a seat holds is in no ring of its queue.
abbrev pub HeldIsOutLaw : Type 0 → Type 0
HeldIsOutLaw V = (held : ℕ → (ℕ → ℕ) → V → ℕ) (shape : Shape) (ring : ℕ → Side → Words) (views : List V) (k : ℕ) (v : V) → get_elem? views k ≡ some v
    → (q item : ℕ) → q < shape.queues → item < shape.items q → Holds (held q) item v → ItemsOwned held shape ring views → (side : Side) → ¬ (IsIn item (shape.items q) (ring q side))

-- ---- tags

abbrev pub CountedStayLaw : Type 0 → Type 0
CountedStayLaw V = (arms wins : ℕ → (ℕ → ℕ → ℕ) → V → ℕ) (shape : Shape) (tag tag' : ℕ → ℕ → ℕ) (views : List V) (k : ℕ) (v u : V) → get_elem? views k ≡ some v → WordsStay shape tag tag'
    → ((q : ℕ) (f : ℕ → ℕ → ℕ) → arms q f u ≡ arms q f v) → ((q : ℕ) (f : ℕ → ℕ → ℕ) → wins q f u ≡ wins q f v)
    → TagsCounted arms wins shape tag views → TagsCounted arms wins shape tag' (set views k u)

-- an item whose tag is 0 is armed
abbrev pub CountedArmLaw : Type 0 → Type 0
CountedArmLaw V = (arms wins : ℕ → (ℕ → ℕ → ℕ) → V → ℕ) (shape : Shape) (tag tag' : ℕ → ℕ → ℕ) (views : List V) (k : ℕ) (v u : V) → get_elem? views k ≡ some v
    → (q item x : ℕ) → item < shape.items q → SetsWord shape tag tag' q item x → tag q item ≡ 0 → 0 < x
    → ((f : ℕ → ℕ → ℕ) → arms q f u ≡ f item x + arms q f v) → ((r : ℕ) → r < shape.queues → r ≢ q → (f : ℕ → ℕ → ℕ) → arms r f u ≡ arms r f v) → ((r : ℕ) (f : ℕ → ℕ → ℕ) → wins r f u ≡ wins r f v)
    → TagsCounted arms wins shape tag views → TagsCounted arms wins shape tag' (set views k u)

-- a tag is taken from the stream x to 0
abbrev pub CountedWinLaw : Type 0 → Type 0
CountedWinLaw V = (arms wins : ℕ → (ℕ → ℕ → ℕ) → V → ℕ) (shape : Shape) (tag tag' : ℕ → ℕ → ℕ) (views : List V) (k : ℕ) (v u : V) → get_elem? views k ≡ some v
    → (q item x : ℕ) → item < shape.items q → SetsWord shape tag tag' q item 0 → tag q item ≡ x → 0 < x
    → ((r : ℕ) (f : ℕ → ℕ → ℕ) → arms r f u ≡ arms r f v) → ((f : ℕ → ℕ → ℕ) → wins q f u ≡ f item x + wins q f v) → ((r : ℕ) → r < shape.queues → r ≢ q → (f : ℕ → ℕ → ℕ) → wins r f u ≡ wins r f v)
    → TagsCounted arms wins shape tag views → TagsCounted arms wins shape tag' (set views k u)

-- ---- what holders know

-- what the seat holds it held, and it says no more of it
abbrev pub SaysNoMore : {V : Type 0} → (ℕ → (ℕ → ℕ) → V → ℕ) → (ℕ → V → ℕ → ℕ → Type 0) → V → V → Type 0
SaysNoMore held says v u = (q item : ℕ) → Holds (held q) item u → Holds (held q) item v × ((x : ℕ) → says q u item x → says q v item x)

-- the frame, also of an item that goes
abbrev pub TagsKnownStayLaw : (V : Type 0) → (ℕ → V → ℕ → ℕ → Type 0) → Type 0
TagsKnownStayLaw V says = (held : ℕ → (ℕ → ℕ) → V → ℕ) (shape : Shape) (tag tag' : ℕ → ℕ → ℕ) (views : List V) (k : ℕ) (v u : V) → get_elem? views k ≡ some v
    → WordsStay shape tag tag' → SaysNoMore held says v u → TagsKnown held says shape tag views → TagsKnown held says shape tag' (set views k u)

abbrev pub WordsKnownStayLaw : (V : Type 0) → (ℕ → V → ℕ → ℕ → Type 0) → Type 0
WordsKnownStayLaw V says = (held : ℕ → (ℕ → ℕ) → V → ℕ) (shape : Shape) (word word' : ℕ → ℕ → ℕ) (views : List V) (k : ℕ) (v u : V) → get_elem? views k ≡ some v
    → WordsStay shape word word' → SaysNoMore held says v u → WordsKnown held says shape word views → WordsKnown held says shape word' (set views k u)

-- an item comes, or is looked at: what is said of its word is so
abbrev pub SaysOfOne : {V : Type 0} → (ℕ → (ℕ → ℕ) → V → ℕ) → (ℕ → V → ℕ → ℕ → Type 0) → Shape → ℕ → ℕ → V → V → Type 0
SaysOfOne held says shape q one v u = (r item : ℕ) → r < shape.queues → (r ≢ q) ⊎ (item ≢ one) → Holds (held r) item u → Holds (held r) item v × ((x : ℕ) → says r u item x → says r v item x)

abbrev pub TagsKnownOneLaw : (V : Type 0) → (ℕ → V → ℕ → ℕ → Type 0) → Type 0
TagsKnownOneLaw V says = (held : ℕ → (ℕ → ℕ) → V → ℕ) (shape : Shape) (tag tag' : ℕ → ℕ → ℕ) (views : List V) (k : ℕ) (v u : V) → get_elem? views k ≡ some v
    → WordsStay shape tag tag' → (q one : ℕ) → SaysOfOne held says shape q one v u → ((x : ℕ) → says q u one x → (tag' q one ≡ x) ⊎ (tag' q one ≡ 0))
    → TagsKnown held says shape tag views → TagsKnown held says shape tag' (set views k u)

abbrev pub WordsKnownOneLaw : (V : Type 0) → (ℕ → V → ℕ → ℕ → Type 0) → Type 0
WordsKnownOneLaw V says = (held : ℕ → (ℕ → ℕ) → V → ℕ) (shape : Shape) (word word' : ℕ → ℕ → ℕ) (views : List V) (k : ℕ) (v u : V) → get_elem? views k ≡ some v
    → WordsStay shape word word' → (q one : ℕ) → SaysOfOne held says shape q one v u → ((x : ℕ) → says q u one x → word' q one ≡ x)
    → WordsKnown held says shape word views → WordsKnown held says shape word' (set views k u)

-- The holder of an item sets its word. `elsewhere q` is what items weigh that no seat holds.
abbrev pub TagsKnownSetLaw : (V : Type 0) → (ℕ → V → ℕ → ℕ → Type 0) → Type 0
TagsKnownSetLaw V says = (held : ℕ → (ℕ → ℕ) → V → ℕ) (elsewhere : ℕ → (ℕ → ℕ) → ℕ) (shape : Shape) (tag tag' : ℕ → ℕ → ℕ) (views : List V) (k : ℕ) (v u : V) → get_elem? views k ≡ some v
    → (q item x : ℕ) → q < shape.queues → item < shape.items q → SetsWord shape tag tag' q item x → Holds (held q) item v → Owned (held q) (elsewhere q) (shape.items q) views
    → SaysOfOne held says shape q item v u → ((y : ℕ) → says q u item y → y ≡ x)
    → TagsKnown held says shape tag views → TagsKnown held says shape tag' (set views k u)

abbrev pub WordsKnownSetLaw : (V : Type 0) → (ℕ → V → ℕ → ℕ → Type 0) → Type 0
WordsKnownSetLaw V says = (held : ℕ → (ℕ → ℕ) → V → ℕ) (elsewhere : ℕ → (ℕ → ℕ) → ℕ) (shape : Shape) (word word' : ℕ → ℕ → ℕ) (views : List V) (k : ℕ) (v u : V) → get_elem? views k ≡ some v
    → (q item x : ℕ) → q < shape.queues → item < shape.items q → SetsWord shape word word' q item x → Holds (held q) item v → Owned (held q) (elsewhere q) (shape.items q) views
    → SaysOfOne held says shape q item v u → ((y : ℕ) → says q u item y → y ≡ x)
    → WordsKnown held says shape word views → WordsKnown held says shape word' (set views k u)

-- any seat takes a tag to 0
abbrev pub TagsKnownWinLaw : (V : Type 0) → (ℕ → V → ℕ → ℕ → Type 0) → Type 0
TagsKnownWinLaw V says = (held : ℕ → (ℕ → ℕ) → V → ℕ) (shape : Shape) (tag tag' : ℕ → ℕ → ℕ) (views : List V) (k : ℕ) (v u : V) → get_elem? views k ≡ some v
    → (q item : ℕ) → SetsWord shape tag tag' q item 0 → SaysOfOne held says shape q item v u
    → TagsKnown held says shape tag views → TagsKnown held says shape tag' (set views k u)

-- ---- noted runs and parts

-- the frame
abbrev pub NotedStayLaw : Type 0 → Type 0
NotedStayLaw V = (notes : ℕ → (ℕ → ℕ → ℕ) → V → ℕ) (shape : Shape) (word word' : ℕ → ℕ → ℕ) (views : List V) (k : ℕ) (v u : V) → get_elem? views k ≡ some v
    → WordsStay shape word word' → ((q : ℕ) (f : ℕ → ℕ → ℕ) → notes q f v ≤ notes q f u) → WordsNoted notes shape word views → WordsNoted notes shape word' (set views k u)

-- a word is set, and noted
abbrev pub NotedSetLaw : Type 0 → Type 0
NotedSetLaw V = (notes : ℕ → (ℕ → ℕ → ℕ) → V → ℕ) (shape : Shape) (word word' : ℕ → ℕ → ℕ) (views : List V) (k : ℕ) (v u : V) → get_elem? views k ≡ some v
    → (q item x : ℕ) → SetsWord shape word word' q item x → 0 < notes q (is_pair item x) u → ((r : ℕ) (f : ℕ → ℕ → ℕ) → notes r f v ≤ notes r f u)
    → WordsNoted notes shape word views → WordsNoted notes shape word' (set views k u)
