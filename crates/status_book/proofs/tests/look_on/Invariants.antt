use Rattle.status_book.specs.Seats.{LooksAt}
use Rattle.status_book.proofs.tests.look_on.Given as goal

abbrev pub invariant-loop-round : goal.invariant-loop-round
invariant-loop-round l = LooksAt l.book l.look
