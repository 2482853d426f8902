use Rattle.std.proofs.Common.{◌≡◌, length}
use Rattle.path_normal.specs.ExpansionLeft.{expansion_left}
use Rattle.path_normal.specs.PiecesLeft.{pieces_left}
use Rattle.path_normal.proofs.expansion.ExpansionIterator.next.Given as goal

abbrev pub invariant-loop-byte : goal.invariant-loop-byte
invariant-loop-byte l = expansion_left l.self ≡ expansion_left l.fn.self

abbrev pub decreases-loop-byte : goal.decreases-loop-byte
decreases-loop-byte l = length (pieces_left l.self.pieces)
