-- The rule of a table that holds one ring. Word 0 is none of the ring's, so that the loads of a split and a join meet no hot
-- word; the ring's words stand from word 16 on.
use Rattle.std.specs.Prelude.{ℕ, ◌+◌, ◌^◌, ◌/◌, ◌≡◌, ◌≢◌, ◌≤◌, ◌<◌, List, length}
use mathlib.Core.Option.{some}
use lib.ListN.{get_elem?}
use Rattle.atomic_table.specs.Table.{State, Me, Step}
use Rattle.unit_model.specs.Weights.{weigh, below}
use Rattle.unit_model.specs.Sharing.{Owned}
use Rattle.nncq_ring.specs.declared.view.RingEvent.TheVariants.{SawTail, SawHead, SawEntry, Pushed, Popped}
use Rattle.nncq_ring.specs.declared.view.RingView.{RingView}
use Rattle.nncq_ring.specs.Words.{Words, logical_tail, line_of}
use Rattle.nncq_ring.specs.Later.{Begun}
use Rattle.nncq_ring.specs.Notes.{RingPart}
use Rattle.nncq_ring.specs.RingWords.{ring_words}
use Rattle.nncq_ring.specs.Moments.{PutLast, TookFirst, WasEmpty, WasEntry, WasHead, WasTail}
use Rattle.nncq_ring.specs.Shown.{SawPlace}
use Rattle.nncq_ring.specs.Views.{held_by, events_of, pushes_of, pops_of, makes}

-- what the values in the line weigh
abbrev pub line_weight : ℕ → Words → (ℕ → ℕ) → ℕ
line_weight n w f = weigh (λ e. f e.1) (line_of n w)

-- Each pair of place and value that was put was taken once, or stands in the line once.
abbrev pub Moved : {V : Type 0} → (pushes pops : (ℕ → ℕ → ℕ) → V → ℕ) → ℕ → Words → List V → Type 0
Moved pushes pops n w views = (g : ℕ → ℕ → ℕ) → weigh (pushes g) views ≡ weigh (pops g) views + weigh (λ e. g e.0 e.1) (line_of n w)

-- Each place from the start up to the head was emptied once, and no other.
abbrev pub Emptied : {V : Type 0} → (pops : (ℕ → ℕ → ℕ) → V → ℕ) → ℕ → Words → List V → Type 0
Emptied pops start w views = (f : ℕ → ℕ) → weigh (pops (λ place value. f place)) views + below f start ≡ below f w.head

-- the key is the ring's size and its start
pub record RingHolds {S : Type 0} (key : ℕ × ℕ) (s : State S RingView) : Type 0 where
  pub wide : length s.words ≡ key.0 + 48
  pub part : RingPart key.0 events_of (ring_words 16 s.words) s.views
  pub begun : Begun key.0 key.1 (ring_words 16 s.words)
  pub worn : logical_tail key.0 (ring_words 16 s.words) ≤ 2 ^ 62
  pub owned : Owned held_by (line_weight key.0 (ring_words 16 s.words)) key.0 s.views
  pub moved : Moved pushes_of pops_of key.0 (ring_words 16 s.words) s.views
  pub emptied : Emptied pops_of key.1 (ring_words 16 s.words) s.views

-- ---- what the steps tell

-- the tail was loaded
abbrev pub SeesTail : ℕ → {S : Type 0} → Step S → Me S RingView → ℕ → Me S RingView → Type 0
SeesTail n st m found m' = (m'.1 ≡ m.1) × (found ≤ 2 ^ 62) × makes (SawTail found) m.0 m'.0 × WasTail n found (events_of m.0)

-- the head was loaded
abbrev pub SeesHead : ℕ → {S : Type 0} → Step S → Me S RingView → ℕ → Me S RingView → Type 0
SeesHead n st m found m' = (m'.1 ≡ m.1) × (found ≤ 2 ^ 62) × makes (SawHead found) m.0 m'.0 × WasHead n found (events_of m.0)

-- The entry at the place was loaded. Where the tail or the head was seen to be this place, its cycle is at least the one before.
-- Where the head was, the cycle before shows that the line is empty.
abbrev pub SeesEntry : ℕ → ℕ → {S : Type 0} → Step S → Me S RingView → ℕ → Me S RingView → Type 0
SeesEntry n place st m found m' = (m'.1 ≡ m.1) × makes (SawEntry place found) m.0 m'.0 × WasEntry n place found (events_of m.0) × (SawPlace place (events_of m.0) → place / n ≤ found / n + 1)
    × (get_elem? (events_of m.0) 0 ≡ some (SawHead place) → found / n + 1 ≡ place / n → WasEmpty n place (events_of m.0))

-- the value was put at the place, or the exchange found another entry there, of the place's cycle or a later one
abbrev pub Puts : ℕ → ℕ → ℕ → {S : Type 0} → Step S → Me S RingView → ℕ → Me S RingView → Type 0
Puts n place value st m found m' = (m'.1 ≡ m.1) × (found ≡ st.first → makes (Pushed place value) m.0 m'.0 × PutLast n place value (events_of m.0))
    × (found ≢ st.first → makes (SawEntry place found) m.0 m'.0 × (place / n ≤ found / n))

-- the value was taken at the place that the head was, or the exchange found a later head
abbrev pub Takes : ℕ → ℕ → {S : Type 0} → Step S → Me S RingView → ℕ → Me S RingView → Type 0
Takes n value st m found m' = (m'.1 ≡ m.1) × (found ≡ st.first → makes (Popped st.first value) m.0 m'.0 × TookFirst n st.first value (events_of m.0))
    × (found ≢ st.first → makes (SawHead found) m.0 m'.0 × (st.first < found))

-- the tail is past the place, by this exchange or by another
abbrev pub IsPast : ℕ → RingView → RingView → Type 0
IsPast place v v' = (tail : ℕ) × (place < tail) × makes (SawTail tail) v v'

abbrev pub Helps : {S : Type 0} → Step S → Me S RingView → ℕ → Me S RingView → Type 0
Helps st m found m' = (m'.1 ≡ m.1) × IsPast st.first m.0 m'.0
