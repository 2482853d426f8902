use Rattle.unit_model.proofs.PartOrderBack.{arm_in_order, push_in_order, pop_in_order, settle_in_order}
use Rattle.unit_model.proofs.PartOrderOthers.{close_in_order, in_order_at_first, others_in_order}
use Rattle.unit_model.proofs.laws.parts_stay_in_order.Goals as goal

pub returns-clause-at_first : goal.returns-clause-at_first
returns-clause-at_first c = in_order_at_first

pub returns-clause-arm : goal.returns-clause-arm
returns-clause-arm c = arm_in_order

pub returns-clause-push : goal.returns-clause-push
returns-clause-push c = push_in_order

pub returns-clause-pop : goal.returns-clause-pop
returns-clause-pop c = pop_in_order

pub returns-clause-settle : goal.returns-clause-settle
returns-clause-settle c = settle_in_order

pub returns-clause-close : goal.returns-clause-close
returns-clause-close c = close_in_order

pub returns-clause-others : goal.returns-clause-others
returns-clause-others c = others_in_order
