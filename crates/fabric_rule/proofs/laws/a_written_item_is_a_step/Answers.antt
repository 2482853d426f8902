use Rattle.fabric_rule.proofs.StoreSteps.{store_part, store_run}
use Rattle.fabric_rule.proofs.laws.a_written_item_is_a_step.Goals as goal

pub returns-clause-run : goal.returns-clause-run
returns-clause-run g c = store_run g.row.H.Denot

pub returns-clause-part : goal.returns-clause-part
returns-clause-part g c = store_part g.row.H.Denot
