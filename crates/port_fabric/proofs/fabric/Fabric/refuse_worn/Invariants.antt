use Rattle.fabric_rule.specs.declared.cause.Cause.TheVariants.{Worn}
use Rattle.port_fabric.specs.States.{with_refusal}
use Rattle.port_fabric.proofs.fabric.Fabric.refuse_worn.Given as goal

abbrev pub ghosts-account : goal.ghosts-account
ghosts-account g a = record { becomes = with_refusal 0 (Worn a.about) a.seat.now.seat.me.0 }
