use Rattle.std.proofs.Common.{◌≡◌}
use Rattle.fabric_rule.specs.Turns.{Known, SameWorks}
use Rattle.fabric_rule.proofs.TurnsTold.{put_again, put_leaves, slots_stay, works_stay}
use Rattle.fabric_rule.proofs.table.FabricTable.put_at.Goals as goal

pub returns-clause-told : goal.returns-clause-told
returns-clause-told g c =
    let told = c.push_turn.ensures in
    let reply_of = g.H.Handlers.reply_of in
    let key = c.args.self.now.table.shared.key in
    let at = c.args.at in
    let k : Known g.row.H.Denot = (c.args.seat.now.seat.id, c.args.seat.now.seat.me) in
    let k' : Known g.row.H.Denot = (c.push_turn.new.seat.seat.id, c.push_turn.new.seat.seat.me) in
    record {
      slots = put_leaves reply_of key at.queue at.side at.part (k'.1.1 ≡ k.1.1) k k' (slots_stay reply_of key at.queue at.side at.part k k') c.args.item c.push_turn.result told.done told.lost told.worn;
      works = λ none. put_leaves reply_of key at.queue at.side at.part (SameWorks k.1.0 k'.1.0) k k' (works_stay reply_of key at.queue at.side at.part k k' none) c.args.item c.push_turn.result told.done told.lost told.worn;
      done = told.done;
      lost = told.lost;
      worn = told.worn;
      again = λ tail entry is. put_again reply_of key at.queue at.side at.part c.args.item k k' tail entry c.requires.may (told.lost tail entry is);
    }
