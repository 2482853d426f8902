use Rattle.std.proofs.Common.{◌∙◌}
use Rattle.fabric_rule.proofs.TurnsTold.{works_on}
use Rattle.fabric_rule.proofs.tests.turns.goes_round.Goals as goal

pub returns-in-Some-clause-works : goal.returns-in-Some-clause-works
returns-in-Some-clause-works c = works_on c.args.seat.now.seat.me.0 c.got.new.seat.seat.me.0 c.is_given.new.seat.seat.me.0 c.got.ensures.works c.is_given.ensures.works
