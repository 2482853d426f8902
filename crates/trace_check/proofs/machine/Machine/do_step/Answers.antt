use Rattle.std.specs.BTreeMap.{get}
use Rattle.std.specs.Ordering.{nat_cmp}
use Rattle.trace_check.specs.Streams.{eleventh_known}
use Rattle.unit_model.specs.Conditions.{conditions_by}
use Rattle.unit_model.proofs.MetConditions.{draw_below, push_below, give_below}
use Rattle.trace_check.proofs.machine.Machine.do_step.Goals as goal

pub draw-requires : goal.draw-requires
draw-requires c =
    let m = c.args.self.now in
    draw_below m.frame (eleventh_known m.frame (get nat_cmp m.streams)) c.in-Draw.seat c.in-Draw.stream (rw c.in-Draw.is at c.requires)

pub push-requires : goal.push-requires
push-requires c =
    let m = c.args.self.now in
    push_below m.frame (eleventh_known m.frame (get nat_cmp m.streams)) c.in-Push.seat c.in-Push.queue c.in-Push.item c.in-Push.place (rw c.in-Push.is at c.requires)

pub give_item-requires : goal.give_item-requires
give_item-requires c =
    let m = c.args.self.now in
    give_below m.frame (eleventh_known m.frame (get nat_cmp m.streams)) c.in-GiveItem.seat c.in-GiveItem.queue c.in-GiveItem.item c.in-GiveItem.place (rw c.in-GiveItem.is at c.requires)

pub open_next-requires : goal.open_next-requires
unfolding conditions_by
open_next-requires c = rw c.in-Open.is at c.requires
