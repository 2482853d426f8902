use Rattle.fabric_rule.specs.Parts.{IsOfFabric, ShowsLists}
use Rattle.fabric_rule.specs.Views.{lists_at}
use Rattle.fabric_rule.specs.declared.view.FabricView.{FabricView}
use Rattle.fabric_rule.proofs.Frames.{of_each}
use Rattle.fabric_rule.proofs.KeyedSteps.{keyed_join, keyed_split, keyed_step}
use Rattle.fabric_rule.proofs.laws.what_one_view_says_stays.Goals as goal

pub returns-clause-step : goal.returns-clause-step
returns-clause-step c core core' popped popped' = keyed_step FabricView lists_at (ShowsLists core popped) (ShowsLists core' popped')

pub returns-clause-split : goal.returns-clause-split
returns-clause-split c core popped = keyed_split FabricView lists_at (ShowsLists core popped)

pub returns-clause-join : goal.returns-clause-join
returns-clause-join c core popped = keyed_join FabricView lists_at (ShowsLists core popped)

pub returns-clause-each : goal.returns-clause-each
returns-clause-each c core core' = of_each (IsOfFabric core) (IsOfFabric core')
