use Rattle.fabric_rule.proofs.Accounting.{account}
use Rattle.fabric_rule.proofs.SeatSteps.{join, split}
use Rattle.fabric_rule.proofs.laws.seats_come_and_go.Goals as goal

pub returns-clause-account : goal.returns-clause-account
returns-clause-account g c = account g.row.H.Denot

pub returns-clause-split : goal.returns-clause-split
returns-clause-split g c = split g.row.H.Denot

pub returns-clause-join : goal.returns-clause-join
returns-clause-join g c = join g.row.H.Denot
