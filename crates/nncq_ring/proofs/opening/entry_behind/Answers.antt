use Rattle.std.proofs.Common.{◌+◌, arith, div-add-mod'}
use Rattle.nncq_ring.proofs.opening.entry_behind.Goals as goal

pub returns : goal.returns
returns c = omega (arith, div-add-mod' (c.args.start + c.args.value) c.args.size)
