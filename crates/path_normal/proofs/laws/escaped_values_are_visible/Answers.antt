use Rattle.path_normal.proofs.ExpansionLemmas.{escaped_visible}
use Rattle.path_normal.proofs.laws.escaped_values_are_visible.Goals as goal

pub returns : goal.returns
returns c = escaped_visible
