use Rattle.std.proofs.Common.{rules, refl}
use Rattle.nncq_ring.specs.Turns.{Tells, AllLooks}
use Rattle.nncq_ring.proofs.Looking.{pop_lost_looks, looks_keep, looks_on}
use Rattle.nncq_ring.proofs.waiting.pop.Goals as goal

pub loop-preserved : goal.loop-preserved
loop-preserved g c =
    let s = g.T.RingSteps in
    let ring = c.args.ring.now in
    let v = s.knows c.loop.seat in
    let u = s.knows c.pop_turn.new.seat in
    let lost = c.in-Lost.ensures.lost c.in-Lost.head c.in-Lost.entry refl in
    let looks : Tells (s.steps ring) v u AllLooks = (lost.0, pop_lost_looks (s.slots ring) (s.events ring v) c.in-Lost.head c.in-Lost.entry lost.0 lost.1, lost.2) in
    record {
      able = search rules;
      ends = search rules;
      own = search rules;
      may = looks_keep s.View (s.steps ring) (s.may_take ring) (g.met.T.RingSteps.looks_keep_take ring) v u looks c.loop.invariant.may;
      looked = looks_on s.View (s.steps ring) (s.knows c.args.seat.now) v u c.loop.invariant.looked looks;
    }
