use Rattle.nncq_ring.proofs.ring_steps.RingRingSteps.see_head.Given as goal

abbrev pub ghosts-load_head : goal.ghosts-load_head
ghosts-load_head a = record { size = a.self.now.size; place = 0; value = 0 }
