use Rattle.std.proofs.Common.{refl}
use Rattle.nncq_ring.specs.Seats.{knows}
use Rattle.nncq_ring.proofs.Holding.{got_turn_holds}
use Rattle.nncq_ring.proofs.tests.the_last_place_is_used_and_none_after_it.Goals as goal

pub push_turn-requires-2-clause-held : goal.push_turn-requires-2-clause-held
push_turn-requires-2-clause-held g c = got_turn_holds c.in_ok-ring.ring.size c.in-Got.place c.in-Got.value (knows c.push_turn.new.seat) (knows c.pop_turn.new.seat) (c.in-Got.ensures.got c.in-Got.place c.in-Got.value refl)
