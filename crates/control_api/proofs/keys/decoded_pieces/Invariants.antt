use Rattle.std.proofs.Common.{◌≡◌, ◌++◌, length}
use Rattle.control_api.specs.Keys.{decoded_pieces}
use Rattle.control_api.proofs.keys.decoded_pieces.Given as goal

abbrev pub invariant-loop-piece : goal.invariant-loop-piece
invariant-loop-piece l = decoded_pieces l.text ≡ l.keys.items ++ decoded_pieces l.rest

abbrev pub decreases-loop-piece : goal.decreases-loop-piece
decreases-loop-piece l = length l.rest
