use Rattle.std.proofs.Common.{◌≡◌, ◌∙◌, refl}
use Rattle.fabric_rule.specs.declared.event.Segments.TheVariants.{Out}
use Rattle.fabric_rule.proofs.TurnsTold.{works_get, works_on, works_take}
use Rattle.fabric_rule.proofs.tests.turns.rounds.Goals as goal

pub loop-round-init : goal.loop-round-init
loop-round-init c = record { own = c.requires.own; works = (refl, refl) }

pub passes-requires-clause-gets : goal.passes-requires-clause-gets
passes-requires-clause-gets c = works_get c.args.table.now.table.shared.key 0 c.args.seat.now.seat.me.0 c.loop-round.seat.seat.me.0 c.loop-round.invariant.works c.requires.gets

pub passes-requires-clause-takes : goal.passes-requires-clause-takes
passes-requires-clause-takes c = works_take c.args.table.now.table.shared.key Out c.args.seat.now.seat.me.0 c.loop-round.seat.seat.me.0 c.loop-round.invariant.works c.requires.takes

pub loop-round-preserved : goal.loop-round-preserved
loop-round-preserved c = record {
  own = c.passes.ensures.own ∙ c.loop-round.invariant.own;
  works = works_on c.args.seat.now.seat.me.0 c.loop-round.seat.seat.me.0 c.passes.new.seat.seat.me.0 c.loop-round.invariant.works c.passes.ensures.works;
}
