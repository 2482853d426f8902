use Rattle.std.proofs.Common.{◌≡◌, slice_index}
use Rattle.status_book.specs.Seats.{CountsIn, sums_of}
use Rattle.status_book.proofs.tests.add_thousand.Given as goal

abbrev pub invariant-loop-done : goal.invariant-loop-done
invariant-loop-done l =
    CountsIn l.book l.seat
    × (l.seat.engine ≡ l.initial.seat.engine)
    × (slice_index (sums_of l.seat) 1 ≡ l.done)
