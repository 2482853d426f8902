use Rattle.nncq_ring.proofs.ring_steps.RingRingSteps.put.Given as goal

abbrev pub ghosts-exchange_entry : goal.ghosts-exchange_entry
ghosts-exchange_entry a = record { size = a.self.now.size; place = a.place; value = a.v }
