use Rattle.std.proofs.Common.{refl, List}
use Rattle.nncq_ring.specs.declared.view.RingEvent.{RingEvent}
use Rattle.nncq_ring.proofs.RingParts.{part_steps}
use Rattle.nncq_ring.proofs.laws.parts_step.Goals as goal

pub returns : goal.returns
returns c n w views k v at part w' e later fine noted = part_steps n (λ (log : List RingEvent). log) w views k v at part w' (_) e refl later fine noted
