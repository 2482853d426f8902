use Rattle.std.proofs.Common.{ℕ, ◌≡◌, ◌+◌, ◌/◌, ◌%◌, ◌≤◌, ◌∙◌, ap₂, subst, sym, mod-lt, arith}
use Rattle.unit_model.specs.Holding.{items_of}
use Rattle.fabric_rule.proofs.RingMoments.{is_empty, is_near, met, ring_then}
use Rattle.fabric_rule.proofs.lane.LaneRingSteps.see_entry.Goals as goal

pub load-requires-clause-word : goal.load-requires-clause-word
load-requires-clause-word g c =
    let lane = c.args.self.now in
    c.slot.ensures ∙ ap₂ (λ (a b : ℕ). a + 32 + c.args.place % b) lane.start_is.0 lane.size_is.0

pub load-requires-clause-there : goal.load-requires-clause-there
load-requires-clause-there g c =
    let lane = c.args.self.now in
    record { in_queues = lane.there; in_items = mod-lt c.args.place (omega (arith, lane.size_is.0, lane.size_is.1)) }

pub returns-clause-was : goal.returns-clause-was
returns-clause-was g c =
    let told = c.load.ensures.told in
    let lane = c.args.self.now in
    let key = lane.table.now.table.shared.key in
    record {
      words = ring_then g.H.Handlers.reply_of key c.args.seat.now.seat.id c.args.seat.now.seat.me.0 c.load.new.seat.seat.me.0 told.moment lane.queue lane.side lane.there;
      met = met g.H.Handlers.reply_of key c.args.seat.now.seat.id c.args.seat.now.seat.me.0 c.load.new.seat.seat.me.0 told.moment lane.queue lane.side lane.there;
      entry = told.was;
    }

pub returns-clause-near : goal.returns-clause-near
returns-clause-near g c saw =
    let told = c.load.ensures.told in
    let lane = c.args.self.now in
    let key = lane.table.now.table.shared.key in
    let n : ℕ = items_of key lane.queue in
    subst (λ (x : ℕ). c.args.place / n ≤ x / n + 1) told.was
    (is_near g.H.Handlers.reply_of key c.args.seat.now.seat.id c.args.seat.now.seat.me.0 c.load.new.seat.seat.me.0 told.moment lane.queue lane.side lane.there c.args.place saw)

pub returns-clause-empty : goal.returns-clause-empty
returns-clause-empty g c saw before =
    let told = c.load.ensures.told in
    let lane = c.args.self.now in
    let key = lane.table.now.table.shared.key in
    let n : ℕ = items_of key lane.queue in
    is_empty g.H.Handlers.reply_of key c.args.seat.now.seat.id c.args.seat.now.seat.me.0 c.load.new.seat.seat.me.0 told.moment lane.queue lane.side lane.there c.args.place saw
    (subst (λ (x : ℕ). x / n + 1 ≡ c.args.place / n) (sym told.was) before)

pub returns-clause-view : goal.returns-clause-view
returns-clause-view g c =
    let told = c.load.ensures.told in
    record { same = c.load.ensures.own.1; slots = told.slots; moment = told.moment; becomes = told.noted; made = told.none }
