-- What holds when a ring is closed.
use Rattle.std.specs.Prelude.{ℕ, ◌≡◌}
use Rattle.std.specs.Slots.{slots_items}
use mathlib.Core.Option.{some}
use lib.ListN.{get_elem?}
use Rattle.atomic_table.specs.Table.{State}
use Rattle.nncq_ring.specs.declared.closing.ClosedRing.{ClosedRing}
use Rattle.nncq_ring.specs.declared.ring.Ring.{Ring}
use Rattle.nncq_ring.specs.declared.seat.RingSeat.{RingSeat}
use Rattle.nncq_ring.specs.declared.view.RingView.{RingView}
use Rattle.nncq_ring.specs.RingWords.{ring_words}
use Rattle.nncq_ring.specs.Rule.{RingHolds}
use Rattle.nncq_ring.specs.Seats.{knows, start_of}
use Rattle.nncq_ring.specs.Words.{Words}

-- the last words
abbrev pub last_words : ClosedRing → Words
last_words closed = ring_words 16 (slots_items closed.closed.words)

-- A state with the last words, and with this seat's view among those of all seats, meets the rule.
pub record EndsWith (ring : Ring) (seat : RingSeat) (closed : ClosedRing) : Type 0 where
  pub last : State ℕ RingView
  pub meets : RingHolds (ring.size, start_of ring) last
  pub view : get_elem? last.views seat.seat.id ≡ some (knows seat)
  pub words : last.words ≡ slots_items closed.closed.words
