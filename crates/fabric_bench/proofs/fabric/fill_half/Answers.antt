use Rattle.std.proofs.Common.{◌∙◌, refl}
use Rattle.fabric_rule.specs.declared.event.Segments.TheVariants.{Out}
use Rattle.fabric_rule.proofs.TurnsTold.{works_on, works_take}
use Rattle.fabric_bench.proofs.fabric.fill_half.Goals as goal

pub loop-init : goal.loop-init
loop-init c = record { own = c.requires.own; works = (refl, refl) }

pub take_second-requires-clause-may : goal.take_second-requires-clause-may
take_second-requires-clause-may c = works_take c.args.table.now.table.shared.key Out c.args.seat.now.seat.me.0 c.loop.seat.seat.me.0 c.loop.invariant.works c.requires.may

pub loop-preserved : goal.loop-preserved
loop-preserved c = record {
  own = c.take_second.ensures.own ∙ c.loop.invariant.own;
  works = works_on c.args.seat.now.seat.me.0 c.loop.seat.seat.me.0 c.take_second.new.seat.seat.me.0 c.loop.invariant.works c.take_second.ensures.works;
}
