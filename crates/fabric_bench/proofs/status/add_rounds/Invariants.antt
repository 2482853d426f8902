use Rattle.std.proofs.Common.{◌≡◌, slice_index}
use Rattle.status_book.specs.Seats.{CountsIn, sums_of}
use Rattle.fabric_bench.proofs.status.add_rounds.Given as goal

abbrev pub invariant-loop-round : goal.invariant-loop-round
invariant-loop-round l = record {
  own : CountsIn l.book l.seat;
  sum : slice_index (sums_of l.seat) 1 ≡ l.round;
}
