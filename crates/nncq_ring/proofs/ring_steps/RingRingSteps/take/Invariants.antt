use Rattle.std.proofs.Common.{◌%◌}
use Rattle.nncq_ring.proofs.ring_steps.RingRingSteps.take.Given as goal

abbrev pub ghosts-exchange_head : goal.ghosts-exchange_head
ghosts-exchange_head a = record { size = a.self.now.size; place = a.place; value = a.entry % a.self.now.size }
