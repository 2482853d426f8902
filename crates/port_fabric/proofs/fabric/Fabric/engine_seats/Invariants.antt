use Rattle.std.proofs.Common.{◌≡◌, map, ◌≤◌}
use Rattle.std.specs.List.{All, range_with_len}
use Rattle.fabric_rule.specs.Opening.{fresh_ledger}
use Rattle.fabric_rule.specs.Seats.{first_from}
use Rattle.port_fabric.specs.Seats.{IsEngineOf, account, shape_of}
use Rattle.port_fabric.proofs.fabric.Fabric.engine_seats.Given as goal

abbrev pub invariant-loop-number : goal.invariant-loop-number
invariant-loop-number g l =
    (l.number ≤ l.count) × (l.first.seat.table_id ≡ l.fn.first.seat.table_id)
    × (l.first.seat.me.0 ≡ first_from (shape_of l.self) l.number)
    × All (IsEngineOf l.self) l.seats.items
    × (map account l.seats.items ≡ map fresh_ledger (range_with_len 0 l.number))
