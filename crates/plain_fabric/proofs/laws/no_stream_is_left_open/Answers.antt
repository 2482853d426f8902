use Rattle.plain_fabric.proofs.LeftOpen.{none_left_open}
use Rattle.plain_fabric.proofs.laws.no_stream_is_left_open.Goals as goal

pub returns : goal.returns
returns c = none_left_open
