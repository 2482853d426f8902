use Rattle.nncq_ring.proofs.ring_steps.RingRingSteps.see_tail.Given as goal

abbrev pub ghosts-load_tail : goal.ghosts-load_tail
ghosts-load_tail a = record { size = a.self.now.size; place = 0; value = 0 }
