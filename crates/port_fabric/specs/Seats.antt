-- What contracts say of a fabric, and of the seats of its engines and workers.
use Rattle.std.specs.Prelude.{◌-◌, ◌≡◌}
use Rattle.unit_model.specs.declared.shape.Shape.{Shape}
use Rattle.unit_types.specs.declared.handlers.Handlers as Handlers
use Rattle.fabric_rule.specs.declared.view.Ledger.{Ledger}
use Rattle.port_fabric.specs.States.{account_in}
use Rattle.port_fabric.specs.declared.fabric.Fabric.{Fabric}
use Rattle.port_fabric.specs.declared.seats.EngineSeat.{EngineSeat}
use Rattle.port_fabric.specs.declared.seats.WorkerSeat.{WorkerSeat}

-- the shape with which it was opened
abbrev pub shape_of : {H : Type 0} → Fabric H → Shape
shape_of fabric = fabric.table.table.shared.key

-- the seat is one of this fabric
abbrev pub IsEngineOf : {H : Type 0} {g : Handlers.Ghosts H} → Fabric H → EngineSeat H g → Type 0
IsEngineOf fabric seat = seat.seat.seat.table_id ≡ fabric.table.table.shared.table_id

abbrev pub IsWorkerOf : {H : Type 0} {g : Handlers.Ghosts H} → Fabric H → WorkerSeat H g → Type 0
IsWorkerOf fabric seat = seat.seat.seat.table_id ≡ fabric.table.table.shared.table_id

-- The account of a seat: its number, the eight lists, what it was refused, newest first, and how many of its states are unspent.
abbrev pub account : {H : Type 0} {g : Handlers.Ghosts H} → EngineSeat H g → Ledger
account seat = account_in seat.seat.seat.me.0

abbrev pub worker_account : {H : Type 0} {g : Handlers.Ghosts H} → WorkerSeat H g → Ledger
worker_account seat = account_in seat.seat.seat.me.0

-- an account with one unspent state less
abbrev pub one_work_less : Ledger → Ledger
one_work_less c = record c { opened_works = c.opened_works - 1 }
