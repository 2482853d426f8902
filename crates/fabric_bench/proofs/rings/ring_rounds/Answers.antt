use Rattle.std.proofs.Common.{refl}
use Rattle.nncq_ring.specs.Seats.{knows}
use Rattle.nncq_ring.proofs.Holding.{got_holds_it}
use Rattle.fabric_bench.proofs.rings.ring_rounds.Goals as goal

pub loop-round-preserved : goal.loop-round-preserved
loop-round-preserved g c = record {
  own = c.pop.ensures.own;
  held = got_holds_it c.args.ring.now.size c.in-Got.place c.in-Got.value (knows c.push.new.seat) (knows c.pop.new.seat) (c.in-Got.ensures.got c.in-Got.place c.in-Got.value refl);
}
