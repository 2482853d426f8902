use Rattle.fabric_rule.proofs.Beginning.{opens_law}
use Rattle.fabric_rule.proofs.laws.a_table_begins.Goals as goal

pub returns : goal.returns
returns g c = opens_law g.row.H.Denot
