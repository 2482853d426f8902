-- What contracts say of a seat of a ring.
use Rattle.std.specs.Prelude.{ℕ, ◌≡◌}
use Rattle.nncq_ring.specs.declared.seat.RingSeat.{RingSeat}
use Rattle.nncq_ring.specs.declared.ring.Ring.{Ring}
use Rattle.nncq_ring.specs.declared.view.RingView.{RingView}

-- the seat is one of this ring
abbrev pub BelongsTo : RingSeat → Ring → Type 0
BelongsTo seat ring = seat.seat.table_id ≡ ring.table.shared.table_id

-- the place where the ring began
abbrev pub start_of : Ring → ℕ
start_of ring = ring.table.shared.key.1

-- what the seat knows
abbrev pub knows : RingSeat → RingView
knows seat = seat.seat.me.0
