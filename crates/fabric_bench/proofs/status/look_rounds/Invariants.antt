use Rattle.status_book.specs.Seats.{LooksAt}
use Rattle.fabric_bench.proofs.status.look_rounds.Given as goal

abbrev pub invariant-loop : goal.invariant-loop
invariant-loop l = LooksAt l.book l.seat
