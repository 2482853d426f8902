use Rattle.std.proofs.Common.{ap}
use Rattle.trace_check.specs.Owners.{or_free}
use Rattle.trace_check.proofs.Keys.{apart_keys}
use Rattle.trace_check.proofs.effects.forget.Goals as goal

pub returns : goal.returns
returns c = record {
  here = ap or_free (c.remove.ensures.updates.1);
  apart = λ i ne. ap or_free (c.remove.ensures.updates.2 i (apart_keys i c.args.number ne));
}
