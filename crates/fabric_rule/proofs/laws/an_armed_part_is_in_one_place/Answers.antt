use Rattle.fabric_rule.proofs.UnderWay.{alone, armed_back, armed_once, closed_gone}
use Rattle.fabric_rule.proofs.laws.an_armed_part_is_in_one_place.Goals as goal

pub returns-clause-one : goal.returns-clause-one
returns-clause-one c = armed_back

pub returns-clause-alone : goal.returns-clause-alone
returns-clause-alone c = alone

pub returns-clause-once : goal.returns-clause-once
returns-clause-once c = armed_once

pub returns-clause-gone : goal.returns-clause-gone
returns-clause-gone c = closed_gone
