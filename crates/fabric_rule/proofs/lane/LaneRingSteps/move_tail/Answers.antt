use Rattle.std.proofs.Common.{ℕ, ◌+◌, ap}
use Rattle.unit_model.specs.Holding.{items_of}
use Rattle.fabric_rule.specs.Views.{log_at}
use Rattle.fabric_rule.proofs.LaneSteps.{filled_end, tail_moved}
use Rattle.fabric_rule.proofs.lane.LaneRingSteps.move_tail.Goals as goal

pub help-requires-clause-word : goal.help-requires-clause-word
help-requires-clause-word g c = ap (λ (m : ℕ). m + 16) c.args.self.now.start_is.0

pub help-requires-clause-above : goal.help-requires-clause-above
help-requires-clause-above g c =
    let lane = c.args.self.now in
    filled_end (items_of lane.table.now.table.shared.key lane.queue) c.args.place (log_at lane.queue lane.side c.args.seat.now.seat.me.0) c.requires.shown

pub returns-clause-view : goal.returns-clause-view
returns-clause-view g c =
    let lane = c.args.self.now in
    tail_moved g.H.Handlers.reply_of lane.table.now.table.shared.key (c.args.seat.now.seat.id, c.args.seat.now.seat.me) (c.help.new.seat.seat.id, c.help.new.seat.seat.me) c.help.ensures.own.1 c.help.ensures.told.slots lane.queue lane.side lane.part c.args.place c.help.result c.help.ensures.told
