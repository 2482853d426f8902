use Rattle.nncq_ring.specs.Turns.{Tells, AllLooks}
use Rattle.nncq_ring.proofs.waiting.pop.Given as goal

abbrev pub invariant-loop : goal.invariant-loop
invariant-loop g l = record {
  able : (goal.iterator-loop g).can_next l.iterator';
  ends : (goal.iterator-loop g).is_finite l.iterator';
  own : g.T.RingSteps.belongs l.seat l.ring;
  may : g.T.RingSteps.may_take l.ring (g.T.RingSteps.knows l.seat);
  looked : Tells (g.T.RingSteps.steps l.ring) (g.T.RingSteps.knows l.fn.seat) (g.T.RingSteps.knows l.seat) AllLooks;
}
