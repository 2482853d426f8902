use Rattle.std.proofs.Common.{ℕ, ◌≤◌, ◌^◌, subst}
use Rattle.fabric_rule.proofs.RingMoments.{head_below, met, ring_then}
use Rattle.fabric_rule.proofs.lane.LaneRingSteps.see_head.Goals as goal

pub load-requires-clause-word : goal.load-requires-clause-word
load-requires-clause-word g c = c.args.self.now.start_is.0

pub returns-clause-most : goal.returns-clause-most
returns-clause-most g c =
    let told = c.load.ensures.told in
    let lane = c.args.self.now in
    subst (λ (x : ℕ). x ≤ 2 ^ 62) told.was (head_below g.H.Handlers.reply_of lane.table.now.table.shared.key c.args.seat.now.seat.id c.args.seat.now.seat.me.0 c.load.new.seat.seat.me.0 told.moment lane.queue lane.side lane.there)

pub returns-clause-was : goal.returns-clause-was
returns-clause-was g c =
    let told = c.load.ensures.told in
    let lane = c.args.self.now in
    let key = lane.table.now.table.shared.key in
    record {
      words = ring_then g.H.Handlers.reply_of key c.args.seat.now.seat.id c.args.seat.now.seat.me.0 c.load.new.seat.seat.me.0 told.moment lane.queue lane.side lane.there;
      met = met g.H.Handlers.reply_of key c.args.seat.now.seat.id c.args.seat.now.seat.me.0 c.load.new.seat.seat.me.0 told.moment lane.queue lane.side lane.there;
      head = told.was;
    }

pub returns-clause-view : goal.returns-clause-view
returns-clause-view g c =
    let told = c.load.ensures.told in
    record { same = c.load.ensures.own.1; slots = told.slots; moment = told.moment; becomes = told.noted; made = told.none }
