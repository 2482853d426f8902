use Rattle.nncq_ring.proofs.ring_steps.RingRingSteps.see_entry.Given as goal

abbrev pub ghosts-load_entry : goal.ghosts-load_entry
ghosts-load_entry a = record { size = a.self.now.size; place = a.place; value = 0 }
