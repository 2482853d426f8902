use Rattle.std.proofs.Common.{rules, refl}
use Rattle.nncq_ring.specs.declared.view.RingEvent.TheVariants.{SawEntry}
use Rattle.fabric_rule.proofs.tests.stale.help_second.Goals as goal

pub help-requires-clause-above : goal.help-requires-clause-above
help-requires-clause-above c = (0, SawEntry 16 16, search rules, (refl, search rules))
