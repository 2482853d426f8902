-- What becomes of the parts where a view is cut in two, and where two views are made one, as statements over views of any type V. The
-- k-th view v becomes `left`, and `right` comes behind all others; or v and the view o of another seat become `both` and `spent`.
use Rattle.std.specs.Prelude.{ℕ, ◌+◌, ◌≡◌, ◌≢◌, ◌⊎◌, ◌++◌, List, [], ◌∷◌, set}
use mathlib.Core.Option.{some}
use lib.ListN.{get_elem?}
use Rattle.unit_model.specs.Sharing.{Holds}
use Rattle.unit_model.specs.Weights.{weigh}
use Rattle.nncq_ring.specs.declared.view.RingEvent.{RingEvent}
use Rattle.nncq_ring.specs.Words.{Words}
use Rattle.app_queue.specs.declared.side.Side.{Side}
use Rattle.app_queue.specs.Arms.{Arm, ArmsPlaced}
use Rattle.app_queue.specs.ArmLaws.{GotBefore}
use Rattle.app_queue.specs.FrameLaws.{SaysNoMore}
use Rattle.app_queue.specs.Parts.{RingParts, RingHistories, ItemsOwned, TagsCounted, TagsKnown, WordsKnown, WordsNoted}
use Rattle.app_queue.specs.Queues.{Shape, QueueWords}

abbrev pub halved : {V : Type 0} → List V → ℕ → V → V → List V
halved views k left right = set views k left ++ right ∷ []

abbrev pub merged : {V : Type 0} → List V → ℕ → V → ℕ → V → List V
merged views k both other spent = set (set views k both) other spent

-- the views of two seats, of which the first becomes `both`
pub record AreTwo {V : Type 0} (views : List V) (k : ℕ) (v both : V) (other : ℕ) (o : V) : Type 0 where
  pub first : get_elem? views k ≡ some v
  pub apart : other ≢ k
  pub second : get_elem? (set views k both) other ≡ some o

-- what is said by weights is cut in two, or put together
abbrev pub Parted : {V X : Type 0} → (ℕ → X → V → ℕ) → V → V → V → Type 0
Parted {V} {X} says v left right = (q : ℕ) (f : X) → says q f left + says q f right ≡ says q f v

abbrev pub United : {V X : Type 0} → (ℕ → X → V → ℕ) → V → V → V → V → Type 0
United {V} {X} says v o both spent = (q : ℕ) (f : X) → says q f both + says q f spent ≡ says q f v + says q f o

-- ---- rings

-- each half has the notes, or none of them
abbrev pub RingsSplitLaw : Type 0 → Type 0
RingsSplitLaw V = (log : ℕ → Side → V → List RingEvent) (shape : Shape) (ring : ℕ → Side → Words) (views : List V) (k : ℕ) (v left right : V) → get_elem? views k ≡ some v
    → ((q : ℕ) (side : Side) → (log q side left ≡ log q side v) ⊎ (log q side left ≡ [])) → ((q : ℕ) (side : Side) → (log q side right ≡ log q side v) ⊎ (log q side right ≡ []))
    → RingParts log shape ring views → RingParts log shape ring (halved views k left right)

-- one has the notes of both, and the other none
abbrev pub RingsJoinLaw : Type 0 → Type 0
RingsJoinLaw V = (log : ℕ → Side → V → List RingEvent) (shape : Shape) (ring : ℕ → Side → Words) (views : List V) (k other : ℕ) (v o both spent : V) → AreTwo views k v both other o
    → ((q : ℕ) (side : Side) → log q side both ≡ log q side v ++ log q side o) → ((q : ℕ) (side : Side) → log q side spent ≡ [])
    → RingParts log shape ring views → RingParts log shape ring (merged views k both other spent)

-- ---- histories of rings

abbrev pub HistoriesSplitLaw : Type 0 → Type 0
HistoriesSplitLaw V = (pushes pops : ℕ → Side → (ℕ → ℕ → ℕ) → V → ℕ) (start : ℕ → Side → ℕ) (begun : ℕ → Side → List (ℕ × ℕ)) (shape : Shape) (ring : ℕ → Side → Words) (views : List V) (k : ℕ) (v left right : V) → get_elem? views k ≡ some v
    → ((side : Side) → Parted (λ q. pushes q side) v left right) → ((side : Side) → Parted (λ q. pops q side) v left right)
    → RingHistories pushes pops start begun shape ring views → RingHistories pushes pops start begun shape ring (halved views k left right)

abbrev pub HistoriesJoinLaw : Type 0 → Type 0
HistoriesJoinLaw V = (pushes pops : ℕ → Side → (ℕ → ℕ → ℕ) → V → ℕ) (start : ℕ → Side → ℕ) (begun : ℕ → Side → List (ℕ × ℕ)) (shape : Shape) (ring : ℕ → Side → Words) (views : List V) (k other : ℕ) (v o both spent : V) → AreTwo views k v both other o
    → ((side : Side) → United (λ q. pushes q side) v o both spent) → ((side : Side) → United (λ q. pops q side) v o both spent)
    → RingHistories pushes pops start begun shape ring views → RingHistories pushes pops start begun shape ring (merged views k both other spent)

-- ---- items

abbrev pub ItemsSplitLaw : Type 0 → Type 0
ItemsSplitLaw V = (held : ℕ → (ℕ → ℕ) → V → ℕ) (shape : Shape) (ring : ℕ → Side → Words) (views : List V) (k : ℕ) (v left right : V) → get_elem? views k ≡ some v
    → Parted held v left right → ItemsOwned held shape ring views → ItemsOwned held shape ring (halved views k left right)

abbrev pub ItemsJoinLaw : Type 0 → Type 0
ItemsJoinLaw V = (held : ℕ → (ℕ → ℕ) → V → ℕ) (shape : Shape) (ring : ℕ → Side → Words) (views : List V) (k other : ℕ) (v o both spent : V) → AreTwo views k v both other o
    → United held v o both spent → ItemsOwned held shape ring views → ItemsOwned held shape ring (merged views k both other spent)

-- ---- arms and wins

abbrev pub CountedSplitLaw : Type 0 → Type 0
CountedSplitLaw V = (arms wins : ℕ → (ℕ → ℕ → ℕ) → V → ℕ) (shape : Shape) (tag : ℕ → ℕ → ℕ) (views : List V) (k : ℕ) (v left right : V) → get_elem? views k ≡ some v
    → Parted arms v left right → Parted wins v left right → TagsCounted arms wins shape tag views → TagsCounted arms wins shape tag (halved views k left right)

abbrev pub CountedJoinLaw : Type 0 → Type 0
CountedJoinLaw V = (arms wins : ℕ → (ℕ → ℕ → ℕ) → V → ℕ) (shape : Shape) (tag : ℕ → ℕ → ℕ) (views : List V) (k other : ℕ) (v o both spent : V) → AreTwo views k v both other o
    → United arms v o both spent → United wins v o both spent → TagsCounted arms wins shape tag views → TagsCounted arms wins shape tag (merged views k both other spent)

-- ---- what holders know

-- what is said then of an item that is held, one of the two said of one that it held
abbrev pub SaidByOne : {V : Type 0} → (ℕ → (ℕ → ℕ) → V → ℕ) → (ℕ → V → ℕ → ℕ → Type 0) → V → V → V → Type 0
SaidByOne held says v o both = (q item x : ℕ) → Holds (held q) item both → says q both item x → (Holds (held q) item v × says q v item x) ⊎ (Holds (held q) item o × says q o item x)

abbrev pub HoldsNothing : {V : Type 0} → (ℕ → (ℕ → ℕ) → V → ℕ) → V → Type 0
HoldsNothing held spent = (q item : ℕ) → ¬ (Holds (held q) item spent)

abbrev pub TagsKnownSplitLaw : (V : Type 0) → (ℕ → V → ℕ → ℕ → Type 0) → Type 0
TagsKnownSplitLaw V says = (held : ℕ → (ℕ → ℕ) → V → ℕ) (shape : Shape) (tag : ℕ → ℕ → ℕ) (views : List V) (k : ℕ) (v left right : V) → get_elem? views k ≡ some v
    → SaysNoMore held says v left → SaysNoMore held says v right → TagsKnown held says shape tag views → TagsKnown held says shape tag (halved views k left right)

abbrev pub TagsKnownJoinLaw : (V : Type 0) → (ℕ → V → ℕ → ℕ → Type 0) → Type 0
TagsKnownJoinLaw V says = (held : ℕ → (ℕ → ℕ) → V → ℕ) (shape : Shape) (tag : ℕ → ℕ → ℕ) (views : List V) (k other : ℕ) (v o both spent : V) → AreTwo views k v both other o
    → SaidByOne held says v o both → HoldsNothing held spent → TagsKnown held says shape tag views → TagsKnown held says shape tag (merged views k both other spent)

abbrev pub WordsKnownSplitLaw : (V : Type 0) → (ℕ → V → ℕ → ℕ → Type 0) → Type 0
WordsKnownSplitLaw V says = (held : ℕ → (ℕ → ℕ) → V → ℕ) (shape : Shape) (word : ℕ → ℕ → ℕ) (views : List V) (k : ℕ) (v left right : V) → get_elem? views k ≡ some v
    → SaysNoMore held says v left → SaysNoMore held says v right → WordsKnown held says shape word views → WordsKnown held says shape word (halved views k left right)

abbrev pub WordsKnownJoinLaw : (V : Type 0) → (ℕ → V → ℕ → ℕ → Type 0) → Type 0
WordsKnownJoinLaw V says = (held : ℕ → (ℕ → ℕ) → V → ℕ) (shape : Shape) (word : ℕ → ℕ → ℕ) (views : List V) (k other : ℕ) (v o both spent : V) → AreTwo views k v both other o
    → SaidByOne held says v o both → HoldsNothing held spent → WordsKnown held says shape word views → WordsKnown held says shape word (merged views k both other spent)

-- ---- noted runs and parts

abbrev pub NotedSplitLaw : Type 0 → Type 0
NotedSplitLaw V = (notes : ℕ → (ℕ → ℕ → ℕ) → V → ℕ) (shape : Shape) (word : ℕ → ℕ → ℕ) (views : List V) (k : ℕ) (v left right : V) → get_elem? views k ≡ some v
    → Parted notes v left right → WordsNoted notes shape word views → WordsNoted notes shape word (halved views k left right)

abbrev pub NotedJoinLaw : Type 0 → Type 0
NotedJoinLaw V = (notes : ℕ → (ℕ → ℕ → ℕ) → V → ℕ) (shape : Shape) (word : ℕ → ℕ → ℕ) (views : List V) (k other : ℕ) (v o both spent : V) → AreTwo views k v both other o
    → United notes v o both spent → WordsNoted notes shape word views → WordsNoted notes shape word (merged views k both other spent)

-- ---- arms with their get places

-- what arms weigh, by a weight of arms
abbrev pub arms_weight : {V : Type 0} → (ℕ → V → List Arm) → ℕ → (Arm → ℕ) → V → ℕ
arms_weight arms q g v = weigh g (arms q v)

abbrev pub PlacedSplitLaw : (V : Type 0) → (ℕ → V → ℕ → ℕ → Type 0) → Type 0
PlacedSplitLaw V got = (arms : ℕ → V → List Arm) (held : ℕ → (ℕ → ℕ) → V → ℕ) (shape : Shape) (w : QueueWords) (views : List V) (k : ℕ) (v left right : V) → get_elem? views k ≡ some v
    → Parted (arms_weight arms) v left right → GotBefore held got v left → GotBefore held got v right
    → ArmsPlaced arms held got shape w views → ArmsPlaced arms held got shape w (halved views k left right)

abbrev pub PlacedJoinLaw : (V : Type 0) → (ℕ → V → ℕ → ℕ → Type 0) → Type 0
PlacedJoinLaw V got = (arms : ℕ → V → List Arm) (held : ℕ → (ℕ → ℕ) → V → ℕ) (shape : Shape) (w : QueueWords) (views : List V) (k other : ℕ) (v o both spent : V) → AreTwo views k v both other o
    → United (arms_weight arms) v o both spent → SaidByOne held got v o both → HoldsNothing held spent
    → ArmsPlaced arms held got shape w views → ArmsPlaced arms held got shape w (merged views k both other spent)
