use Rattle.std.proofs.Common.{◌∙◌, ap}
use Rattle.app_queue.specs.declared.side.Side.{Side}
use Rattle.app_queue.specs.declared.side.Side.TheVariants.{Free, Line}
use Rattle.fabric_words.specs.Offsets.{ring_start}
use Rattle.fabric_rule.specs.Turns.{Known}
use Rattle.fabric_rule.specs.Views.{word_side}
use Rattle.fabric_rule.proofs.LaneSteps.{got_missed, got_won, may_get, may_pop, popped_missed, popped_won, saw_first}
use Rattle.fabric_rule.proofs.lane.LaneRingSteps.take.Goals as goal

pub get_item-requires-clause-word : goal.get_item-requires-clause-word
get_item-requires-clause-word g c =
    let lane = c.args.self.now in
    lane.start_is.0 ∙ ap (λ (s : Side). ring_start lane.table.now.table.shared.key lane.queue (word_side s)) c.in-Free.is

pub get_item-requires-clause-busy : goal.get_item-requires-clause-busy
get_item-requires-clause-busy g c =
    let lane = c.args.self.now in
    let key = lane.table.now.table.shared.key in
    (may_get key lane.queue lane.side c.args.seat.now.seat.me.0 c.in-Free.is c.requires.may).busy

pub get_item-requires-clause-fills : goal.get_item-requires-clause-fills
get_item-requires-clause-fills g c =
    let lane = c.args.self.now in
    let key = lane.table.now.table.shared.key in
    (may_get key lane.queue lane.side c.args.seat.now.seat.me.0 c.in-Free.is c.requires.may).fills

pub get_item-requires-clause-saw : goal.get_item-requires-clause-saw
get_item-requires-clause-saw g c =
    let lane = c.args.self.now in
    saw_first lane.table.now.table.shared.key lane.queue lane.side Free c.args.seat.now.seat.me.0 c.args.place c.args.entry c.in-Free.is c.requires.looked c.requires.seen c.requires.full

pub returns-in-Free-clause-won : goal.returns-in-Free-clause-won
returns-in-Free-clause-won g c won =
    let lane = c.args.self.now in
    let key = lane.table.now.table.shared.key in
    let k : Known g.row.H.Denot = (c.args.seat.now.seat.id, c.args.seat.now.seat.me) in
    let k' : Known g.row.H.Denot = (c.get_item.new.seat.seat.id, c.get_item.new.seat.seat.me) in
    got_won g.H.Handlers.reply_of key k k' c.get_item.ensures.own.1 c.get_item.ensures.slots lane.queue lane.side c.in-Free.is lane.part lane.there c.args.place c.args.entry c.get_item.result c.get_item.ensures.told c.requires.looked c.requires.full won

pub returns-in-Free-clause-missed : goal.returns-in-Free-clause-missed
returns-in-Free-clause-missed g c ne =
    let lane = c.args.self.now in
    let key = lane.table.now.table.shared.key in
    let k : Known g.row.H.Denot = (c.args.seat.now.seat.id, c.args.seat.now.seat.me) in
    let k' : Known g.row.H.Denot = (c.get_item.new.seat.seat.id, c.get_item.new.seat.seat.me) in
    got_missed g.H.Handlers.reply_of key k k' c.get_item.ensures.own.1 c.get_item.ensures.slots lane.queue lane.side c.in-Free.is lane.part lane.there c.args.place c.args.entry c.get_item.result c.get_item.ensures.told ne

pub pop-requires-clause-word : goal.pop-requires-clause-word
pop-requires-clause-word g c =
    let lane = c.args.self.now in
    lane.start_is.0 ∙ ap (λ (s : Side). ring_start lane.table.now.table.shared.key lane.queue (word_side s)) c.in-Line.is

pub pop-requires-clause-main : goal.pop-requires-clause-main
pop-requires-clause-main g c =
    let lane = c.args.self.now in
    let key = lane.table.now.table.shared.key in
    (may_pop key lane.queue lane.side c.args.seat.now.seat.me.0 c.in-Line.is c.requires.may).main

pub pop-requires-clause-role : goal.pop-requires-clause-role
pop-requires-clause-role g c =
    let lane = c.args.self.now in
    let key = lane.table.now.table.shared.key in
    (may_pop key lane.queue lane.side c.args.seat.now.seat.me.0 c.in-Line.is c.requires.may).role

pub pop-requires-clause-empties : goal.pop-requires-clause-empties
pop-requires-clause-empties g c =
    let lane = c.args.self.now in
    let key = lane.table.now.table.shared.key in
    (may_pop key lane.queue lane.side c.args.seat.now.seat.me.0 c.in-Line.is c.requires.may).empties

pub pop-requires-clause-saw : goal.pop-requires-clause-saw
pop-requires-clause-saw g c =
    let lane = c.args.self.now in
    saw_first lane.table.now.table.shared.key lane.queue lane.side Line c.args.seat.now.seat.me.0 c.args.place c.args.entry c.in-Line.is c.requires.looked c.requires.seen c.requires.full

pub returns-in-Line-clause-won : goal.returns-in-Line-clause-won
returns-in-Line-clause-won g c won =
    let lane = c.args.self.now in
    let key = lane.table.now.table.shared.key in
    let k : Known g.row.H.Denot = (c.args.seat.now.seat.id, c.args.seat.now.seat.me) in
    let k' : Known g.row.H.Denot = (c.pop.new.seat.seat.id, c.pop.new.seat.seat.me) in
    popped_won g.H.Handlers.reply_of key k k' c.pop.ensures.own.1 c.pop.ensures.slots lane.queue lane.side c.in-Line.is lane.part lane.there c.args.place c.args.entry c.pop.result c.pop.ensures.told c.requires.looked c.requires.full won

pub returns-in-Line-clause-missed : goal.returns-in-Line-clause-missed
returns-in-Line-clause-missed g c ne =
    let lane = c.args.self.now in
    let key = lane.table.now.table.shared.key in
    let k : Known g.row.H.Denot = (c.args.seat.now.seat.id, c.args.seat.now.seat.me) in
    let k' : Known g.row.H.Denot = (c.pop.new.seat.seat.id, c.pop.new.seat.seat.me) in
    popped_missed g.H.Handlers.reply_of key k k' c.pop.ensures.own.1 c.pop.ensures.slots lane.queue lane.side c.in-Line.is lane.part lane.there c.args.place c.args.entry c.pop.result c.pop.ensures.told ne
