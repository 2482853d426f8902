use Rattle.plain_fabric.proofs.Traces.{opened}
use Rattle.plain_fabric.proofs.laws.a_plain_core_begins_at_rest.Goals as goal

pub returns : goal.returns
returns c = opened
