use Rattle.std.proofs.Common.{arith}
use Rattle.unit_model.specs.Weights.{is_number}
use Rattle.unit_model.proofs.Weights.{below_is}
use Rattle.nncq_ring.proofs.rule_laws.each_number_is_in_one_place.Goals as goal

pub returns : goal.returns
returns c key s holds number lt = omega (arith, holds.owned (is_number number), below_is key.0 number lt)
