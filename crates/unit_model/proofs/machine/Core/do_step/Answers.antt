use Rattle.unit_model.specs.Conditions.{eleventh_of}
use Rattle.unit_model.proofs.MetConditions.{draw_below, push_below, give_below}
use Rattle.unit_model.proofs.machine.Core.do_step.Goals as goal

pub draw-requires : goal.draw-requires
draw-requires c = draw_below c.args.self.now (eleventh_of c.args.self.now) c.in-Draw.seat c.in-Draw.stream (rw c.in-Draw.is at c.requires)

pub push-requires : goal.push-requires
push-requires c = push_below c.args.self.now (eleventh_of c.args.self.now) c.in-Push.seat c.in-Push.queue c.in-Push.item c.in-Push.place (rw c.in-Push.is at c.requires)

pub give_item-requires : goal.give_item-requires
give_item-requires c = give_below c.args.self.now (eleventh_of c.args.self.now) c.in-GiveItem.seat c.in-GiveItem.queue c.in-GiveItem.item c.in-GiveItem.place (rw c.in-GiveItem.is at c.requires)
