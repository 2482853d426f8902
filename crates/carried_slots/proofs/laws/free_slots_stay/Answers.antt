use Rattle.carried_slots.proofs.FreeSlots.{free_first, free_stay, free_become, free_taken_by}
use Rattle.carried_slots.proofs.laws.free_slots_stay.Goals as goal

pub returns-clause-first : goal.returns-clause-first
returns-clause-first g c = free_first

pub returns-clause-stay : goal.returns-clause-stay
returns-clause-stay g c = free_stay

pub returns-clause-turned : goal.returns-clause-turned
returns-clause-turned g c = free_become

pub returns-clause-taken : goal.returns-clause-taken
returns-clause-taken g c = free_taken_by
