use Rattle.fabric_rule.proofs.TurnsTold.{got_may_give}
use Rattle.fabric_rule.proofs.table.FabricTable.get_item_turn.Goals as goal

pub returns-clause-may : goal.returns-clause-may
returns-clause-may g c place item is =
    got_may_give g.H.Handlers.reply_of c.args.self.now.table.shared.key c.args.queue (c.args.seat.now.seat.id, c.args.seat.now.seat.me) c.take_at.result (c.take_at.new.seat.seat.id, c.take_at.new.seat.seat.me) c.requires.there c.requires.may.busy c.take_at.ensures.told place item is
