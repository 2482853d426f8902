use Rattle.std.proofs.Common.{refl}
use Rattle.nncq_ring.specs.Seats.{knows}
use Rattle.nncq_ring.proofs.Holding.{done_holds, worn_holds}
use Rattle.nncq_ring.proofs.tests.pushes.Goals as goal

pub returns-in-Done-clause-others : goal.returns-in-Done-clause-others
returns-in-Done-clause-others g c i other held = done_holds c.args.ring.now.size c.args.v c.in-Done.field-0 i (knows c.args.seat.now) (knows c.push.new.seat) (c.in-Done.ensures.done c.in-Done.field-0 refl) c.requires.held other held

pub returns-in-Worn-clause-others : goal.returns-in-Worn-clause-others
returns-in-Worn-clause-others g c i other held = worn_holds c.args.ring.now.size c.in-Worn.field-0 i (knows c.args.seat.now) (knows c.push.new.seat) (c.in-Worn.ensures.worn c.in-Worn.field-0 refl) held
