use Rattle.std.proofs.Common.{rules, ◌≡◌, IsTrue, List, sym, subst}
use Rattle.app_queue.specs.declared.view.ItemEvent.{ItemEvent}
use Rattle.app_queue.specs.Seats.{knows}
use Rattle.app_queue.specs.Views.{is_armed}
use Rattle.app_queue.proofs.HandLaws.{same_holds}
use Rattle.app_queue.proofs.tests.push_on.Goals as goal

pub loop-preserved : goal.loop-preserved
loop-preserved g c =
    let hand = c.in-Lost.ensures.told.hand in
    record {
      able = search rules;
      ends = search rules;
      own = search rules;
      held = same_holds c.args.item (knows c.loop.seat) (knows c.push_item_turn.new.seat) hand.0 c.loop.invariant.held;
      armed = subst (λ (items : List ItemEvent). IsTrue (is_armed c.args.item items)) (sym hand.1) c.loop.invariant.armed;
    }
