use Rattle.std.proofs.Common.{◌≡◌, false}
use Rattle.unit_bench.proofs.heads.count_in_pieces.Given as goal

abbrev pub invariant-loop-piece : goal.invariant-loop-piece
invariant-loop-piece l = l.reader.ended ≡ false
