use Rattle.std.proofs.Common.{◌<◌, arith}
use Rattle.unit_model.specs.Weights.{is_number}
use Rattle.unit_model.proofs.Weights.{below_is}
use Rattle.app_queue.proofs.rule_laws.each_item_is_in_one_place.Goals as goal

pub returns : goal.returns
returns c key s holds item lt =
    let one : 0 < 1 = omega arith in
    omega (arith, holds.owned 0 one (is_number item), below_is key.0 item lt)
