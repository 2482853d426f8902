use Rattle.std.proofs.Common.{◌≡◌, false}
use Rattle.http_front.proofs.tests.told.Given as goal

abbrev pub invariant-loop-piece : goal.invariant-loop-piece
invariant-loop-piece l = l.reader.ended ≡ false
