use Rattle.carried_slots.proofs.RunLists.{run_is_gone}
use Rattle.carried_slots.proofs.laws.a_run_is_without.Goals as goal

pub returns : goal.returns
returns g c = run_is_gone
