use Rattle.fabric_rule.proofs.EntrySteps.{give_item, push_line}
use Rattle.fabric_rule.proofs.laws.an_entry_is_a_step.Goals as goal

pub returns-clause-push : goal.returns-clause-push
returns-clause-push g c = push_line g.row.H.Denot

pub returns-clause-give : goal.returns-clause-give
returns-clause-give g c = give_item g.row.H.Denot
