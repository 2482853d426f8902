use Rattle.std.proofs.Common.{◌≡◌, refl}
use Rattle.std.specs.Prelude.{None}
use Rattle.fabric_rule.specs.Turns.{Known, SameWorks}
use Rattle.fabric_rule.proofs.TurnsTold.{slots_stay, take_again, take_leaves, works_stay}
use Rattle.fabric_rule.proofs.table.FabricTable.take_at.Goals as goal

pub returns-clause-told : goal.returns-clause-told
returns-clause-told g c =
    let told = c.pop_turn.ensures in
    let reply_of = g.H.Handlers.reply_of in
    let key = c.args.self.now.table.shared.key in
    let k : Known g.row.H.Denot = (c.args.seat.now.seat.id, c.args.seat.now.seat.me) in
    let k' : Known g.row.H.Denot = (c.pop_turn.new.seat.seat.id, c.pop_turn.new.seat.seat.me) in
    record {
      slots = take_leaves reply_of key c.args.queue c.args.side None (k'.1.1 ≡ k.1.1) k k' (slots_stay reply_of key c.args.queue c.args.side None k k') c.pop_turn.result told.got told.empty told.lost;
      works = take_leaves reply_of key c.args.queue c.args.side None (SameWorks k.1.0 k'.1.0) k k' (works_stay reply_of key c.args.queue c.args.side None k k' refl) c.pop_turn.result told.got told.empty told.lost;
      got = told.got;
      empty = told.empty;
      lost = told.lost;
      again = λ head entry is. take_again reply_of key c.args.queue c.args.side None k k' head entry c.requires.may (told.lost head entry is);
    }
