use Rattle.std.proofs.Common.{ℕ, ◌<◌, ◌%◌, arith, mod-lt}
use Rattle.app_queue.proofs.Turned.{hand_pop}
use Rattle.app_queue.proofs.queue.AppQueue.pop_at.Goals as goal

pub returns-clause-told : goal.returns-clause-told
returns-clause-told c =
    let told = c.pop_turn.ensures in
    let n : ℕ = c.args.self.now.table.shared.key.0 in
    record {
      hand = hand_pop c.args.side n c.args.seat.now.seat.me.0 c.pop_turn.new.seat.seat.me.0 c.pop_turn.result told.got told.empty told.lost;
      inside = λ place item is.
          let got = (told.got place item is).1 in
          let some : 0 < n = omega (arith, c.args.self.now.sized.0, c.args.self.now.sized.2) in
          let inside : got.entry % n < n = mod-lt got.entry some in
          omega (arith, got.carried, inside);
      got = told.got;
      empty = told.empty;
      lost = told.lost;
    }
