use Rattle.fabric_rule.proofs.ArmLists.{streams_arm}
use Rattle.fabric_rule.proofs.Noting.{lists_noted, noted_same}
use Rattle.fabric_rule.proofs.laws.lists_are_noted.Goals as goal

pub returns-clause-lists : goal.returns-clause-lists
returns-clause-lists c = lists_noted

pub returns-clause-others : goal.returns-clause-others
returns-clause-others c = noted_same

pub returns-clause-arms : goal.returns-clause-arms
returns-clause-arms c = streams_arm
