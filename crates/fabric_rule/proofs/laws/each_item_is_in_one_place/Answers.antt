use Rattle.fabric_rule.proofs.Hands.{chunk_in_hand, hands_owned, in_hand}
use Rattle.fabric_rule.proofs.laws.each_item_is_in_one_place.Goals as goal

pub returns-clause-hand : goal.returns-clause-hand
returns-clause-hand c = in_hand

pub returns-clause-owned : goal.returns-clause-owned
returns-clause-owned c = hands_owned

pub returns-clause-chunk : goal.returns-clause-chunk
returns-clause-chunk c = chunk_in_hand
