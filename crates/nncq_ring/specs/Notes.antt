-- What a seat's events still say of the words, however much later.
use Rattle.std.specs.Prelude.{ℕ, ◌+◌, ◌/◌, ◌%◌, ◌≡◌, ◌⊎◌, ◌≤◌, ◌<◌, List, [], ◌∷◌}
use Rattle.nncq_ring.specs.declared.view.RingEvent.{RingEvent}
use Rattle.nncq_ring.specs.declared.view.RingEvent.TheVariants.{SawTail, SawHead, SawEntry, Pushed, Popped}
use mathlib.Core.Option.{some}
use lib.ListN.{get_elem?}
use Rattle.nncq_ring.specs.Words.{Words, logical_tail, IsWellFormed}

-- an entry seen at a place
pub record EntryNoted (n : ℕ) (w : Words) (place x : ℕ) : Type 0 where
  pub filled : x / n ≡ place / n → (w.entry (place % n) ≡ x) ⊎ (place < w.head)
  pub above : x / n ≡ place / n → place < logical_tail n w
  pub vacant : x / n + 1 ≡ place / n → (w.entry (place % n) ≡ x) ⊎ (place < logical_tail n w)
  pub passed : place / n < x / n → place < w.head

abbrev pub Noted : ℕ → Words → RingEvent → Type 0
Noted n w (SawTail t) = t ≤ w.tail
Noted n w (SawHead h) = h ≤ w.head
Noted n w (SawEntry place x) = EntryNoted n w place x
Noted n w (Pushed place value) = place < logical_tail n w
Noted n w (Popped place value) = place < w.head

abbrev pub AllNoted : ℕ → Words → List RingEvent → Type 0
AllNoted n w [] = Unit {0}
AllNoted n w (e ∷ es) = Noted n w e × AllNoted n w es

-- The part of a rule that speaks of a ring: its words are well formed, and what every view noted is true. `log v` is what the
-- view v noted of this ring.
pub record RingPart {V : Type 0} (n : ℕ) (log : V → List RingEvent) (w : Words) (views : List V) : Type 0 where
  pub fine : IsWellFormed n w
  pub noted : (k : ℕ) (v : V) → get_elem? views k ≡ some v → AllNoted n w (log v)
