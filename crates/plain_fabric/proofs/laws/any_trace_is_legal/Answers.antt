use Rattle.plain_fabric.proofs.Traces.{traced}
use Rattle.plain_fabric.proofs.laws.any_trace_is_legal.Goals as goal

pub returns : goal.returns
returns c = traced
