use Rattle.unit_model.proofs.PartOrderBack.{last_ends_received, popped_next, received_in_order}
use Rattle.unit_model.proofs.laws.parts_are_received_in_order.Goals as goal

pub returns-clause-received : goal.returns-clause-received
returns-clause-received c = received_in_order

pub returns-clause-last : goal.returns-clause-last
returns-clause-last c = last_ends_received

pub returns-clause-popped : goal.returns-clause-popped
returns-clause-popped c = popped_next
