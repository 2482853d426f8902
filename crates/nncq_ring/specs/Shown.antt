-- What a seat's newest event shows.
use Rattle.std.specs.Prelude.{ℕ, ◌/◌, ◌≡◌, ◌⊎◌, List}
use mathlib.Core.Option.{some}
use lib.ListN.{get_elem?}
use Rattle.nncq_ring.specs.declared.view.RingEvent.{RingEvent}
use Rattle.nncq_ring.specs.declared.view.RingEvent.TheVariants.{SawTail, SawHead, SawEntry, Pushed}

-- the tail or the head was this place
abbrev pub SawPlace : ℕ → List RingEvent → Type 0
SawPlace place log = (get_elem? log 0 ≡ some (SawTail place)) ⊎ (get_elem? log 0 ≡ some (SawHead place))

-- the place is filled
abbrev pub ShowsFilled : ℕ → ℕ → List RingEvent → Type 0
ShowsFilled n place log = ((value : ℕ) × (get_elem? log 0 ≡ some (Pushed place value))) ⊎ ((entry : ℕ) × (get_elem? log 0 ≡ some (SawEntry place entry)) × (entry / n ≡ place / n))
