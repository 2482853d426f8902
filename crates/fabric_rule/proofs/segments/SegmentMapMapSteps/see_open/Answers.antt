use Rattle.std.proofs.Common.{ℕ, ◌≤◌, ap₂, subst}
use Rattle.fabric_rule.specs.Claiming.{side_segments}
use Rattle.fabric_rule.specs.Views.{open_noted}
use Rattle.fabric_rule.proofs.OpenWords.{open_between}
use Rattle.fabric_rule.proofs.SideSlots.{open_there}
use Rattle.fabric_rule.proofs.segments.SegmentMapMapSteps.see_open.Goals as goal

pub load-requires-clause-word : goal.load-requires-clause-word
load-requires-clause-word g c = c.args.self.now.opened_is

pub load-requires-clause-there : goal.load-requires-clause-there
load-requires-clause-there g c = open_there c.args.self.now.table.now.table.shared.key c.args.self.now.segments

pub returns-clause-count : goal.returns-clause-count
returns-clause-count g c =
    let told = c.load.ensures.told in
    let map = c.args.self.now in
    let key = map.table.now.table.shared.key in
    let v = c.args.seat.now.seat.me.0 in
    let between = subst (λ (x : ℕ). (1 ≤ x) × (open_noted map.segments v ≤ x) × (x ≤ side_segments key map.segments)) told.was
    (open_between g.H.Handlers.reply_of key told.moment.before told.moment.holds c.args.seat.now.seat.id v told.moment.was map.segments) in
    (between.0, between.1, between.2, map.some.1)

pub returns-clause-view : goal.returns-clause-view
returns-clause-view g c = let told = c.load.ensures.told in ap₂ (λ a b. (a, b)) told.noted told.slots
