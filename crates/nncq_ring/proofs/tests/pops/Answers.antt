use Rattle.std.proofs.Common.{refl}
use Rattle.nncq_ring.specs.Seats.{knows}
use Rattle.nncq_ring.proofs.Holding.{empty_holds, got_holds}
use Rattle.nncq_ring.proofs.tests.pops.Goals as goal

pub returns-in-Got-clause-others : goal.returns-in-Got-clause-others
returns-in-Got-clause-others g c i held = got_holds c.args.ring.now.size c.in-Got.place c.in-Got.value i (knows c.args.seat.now) (knows c.pop.new.seat) (c.in-Got.ensures.got c.in-Got.place c.in-Got.value refl) held

pub returns-in-Empty-clause-others : goal.returns-in-Empty-clause-others
returns-in-Empty-clause-others g c i held = empty_holds c.args.ring.now.size c.in-Empty.place c.in-Empty.entry i (knows c.args.seat.now) (knows c.pop.new.seat) (c.in-Empty.ensures.empty c.in-Empty.place c.in-Empty.entry refl) held
