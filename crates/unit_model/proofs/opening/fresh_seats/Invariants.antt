use Rattle.std.proofs.Common.{◌≡◌, replicate}
use Rattle.unit_model.specs.Core.{no_seat}
use Rattle.unit_model.proofs.opening.fresh_seats.Given as goal

abbrev pub invariant-loop : goal.invariant-loop
invariant-loop l = l.seats.items ≡ replicate l.counter no_seat
