use Rattle.app_queue.proofs.Turned.{hand_push}
use Rattle.app_queue.proofs.queue.AppQueue.push_at.Goals as goal

pub returns-clause-told : goal.returns-clause-told
returns-clause-told c =
    let told = c.push_turn.ensures in
    record {
      hand = hand_push c.args.side c.args.self.now.table.shared.key.0 c.args.item c.args.seat.now.seat.me.0 c.push_turn.new.seat.seat.me.0 c.push_turn.result told.done told.lost told.worn;
      done = told.done;
      lost = told.lost;
      worn = told.worn;
    }
