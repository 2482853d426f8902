use Rattle.std.proofs.Common.{◌≡◌, take}
use Rattle.std.specs.Prelude.{count_by}
use Rattle.trace_check.specs.Verdicts.{is_free}
use Rattle.trace_check.proofs.frame.Frame.free_chunks.Given as goal

abbrev pub invariant-loop-number : goal.invariant-loop-number
invariant-loop-number l = l.free ≡ count_by is_free (take l.number l.self.owners)
