-- Runs of steps of which each is enabled in its turn, with what holds behind them.
use Rattle.std.proofs.Common.{List, [], ◌∷◌, ◌++◌}
use Rattle.unit_model.specs.Effects.{after_step}
use Rattle.unit_model.specs.Running.{AllEnabled, Enabled, after_steps}
use Rattle.unit_model.specs.declared.machine.Core.{Core}
use Rattle.unit_model.specs.declared.machine.Step.{Step}

-- each of the steps is enabled in its turn, and this holds of the core behind them
abbrev pub Leads : Core → List Step → (Core → Type 0) → Type 0
Leads core steps P = AllEnabled core steps × P (after_steps core steps)

pub done : (P : Core → Type 0) (core : Core) → P core → Leads core [] P
done P core holds = (tt, holds)

pub then : (P : Core → Type 0) (core : Core) (step : Step) (steps : List Step) → Enabled core step → Leads (after_step core step) steps P → Leads core (step ∷ steps) P
then P core step steps met rest = ((met, rest.0), rest.1)

pub joined : (P Q : Core → Type 0) (core : Core) (steps more : List Step) → Leads core steps P → ((c : Core) → P c → Leads c more Q) → Leads core (steps ++ more) Q
joined P Q core [] more first second = second core first.1
joined P Q core (step ∷ steps) more first second =
    then Q core step (steps ++ more) first.0.0 (joined P Q (after_step core step) steps more (first.0.1, first.1) second)

-- what holds behind them can be said otherwise
pub so : (P Q : Core → Type 0) (core : Core) (steps : List Step) → Leads core steps P → ((c : Core) → P c → Q c) → Leads core steps Q
so P Q core steps run say = (run.0, say (after_steps core steps) run.1)
