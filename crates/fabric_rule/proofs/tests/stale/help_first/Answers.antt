use Rattle.std.proofs.Common.{rules, refl}
use Rattle.nncq_ring.specs.declared.view.RingEvent.TheVariants.{Pushed}
use Rattle.fabric_rule.proofs.tests.stale.help_first.Goals as goal

pub help-requires-clause-above : goal.help-requires-clause-above
help-requires-clause-above c = (0, Pushed 16 0, search rules, refl)
