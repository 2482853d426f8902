use Rattle.std.proofs.Common.{◌≡◌}
use Rattle.unit_model.specs.Core.{chunk_number}
use Rattle.unit_model.specs.Effects.{set_all}
use Rattle.trace_check.proofs.frame.Frame.set_run_owner.Given as goal

abbrev pub invariant-loop-i : goal.invariant-loop-i
invariant-loop-i l = record {
  first : l.first ≡ chunk_number l.fn.run.segment l.fn.run.chunk;
  core : l.self ≡ record l.fn.self { owners = set_all l.fn.self.owners l.first l.i l.owner };
}
