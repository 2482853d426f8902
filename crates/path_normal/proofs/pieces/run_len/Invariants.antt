use Rattle.std.proofs.Common.{◌≡◌, ◌+◌, drop}
use Rattle.path_normal.specs.Variables.{run_len}
use Rattle.path_normal.proofs.pieces.run_len.Given as goal

abbrev pub invariant-loop-at : goal.invariant-loop-at
invariant-loop-at l = run_len l.text ≡ l.at + run_len (drop l.at l.text)
