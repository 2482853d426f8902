use Rattle.fabric_rule.proofs.Contents.{filled_stay}
use Rattle.fabric_rule.proofs.Passing.{slots_come, slots_go}
use Rattle.fabric_rule.proofs.laws.slots_pass_with_tags.Goals as goal

pub returns-clause-come : goal.returns-clause-come
returns-clause-come g c = slots_come g.row.H.Denot

pub returns-clause-go : goal.returns-clause-go
returns-clause-go g c = slots_go g.row.H.Denot

pub returns-clause-stay : goal.returns-clause-stay
returns-clause-stay g c = filled_stay g.row.H.Denot
