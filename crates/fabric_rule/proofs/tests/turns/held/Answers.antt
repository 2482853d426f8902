use Rattle.fabric_rule.proofs.tests.turns.held.Goals as goal

pub returns-in-Run-clause-empty : goal.returns-in-Run-clause-empty
returns-in-Run-clause-empty c = (c.in-Run.ensures.told.within, c.in-Run.ensures.told.slots.1)
