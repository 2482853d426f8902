use Rattle.std.proofs.Common.{ℕ, ◌+◌, ◌%◌, ◌≡◌, ◌∙◌, ap, ap₂, refl, subst}
use Rattle.std.specs.Prelude.{None, Some}
use Rattle.app_queue.specs.declared.side.Side.{Side}
use Rattle.app_queue.specs.declared.side.Side.TheVariants.{Free, Line}
use Rattle.unit_model.specs.Holding.{items_of}
use Rattle.fabric_words.specs.Offsets.{offset_of}
use Rattle.fabric_rule.specs.Sending.{queue_to}
use Rattle.fabric_rule.specs.Steps.{slot_of}
use Rattle.fabric_rule.specs.Turns.{IsPartOf, Known}
use Rattle.fabric_rule.proofs.LaneSteps.{line_of_part, may_answer, may_give, may_post, put_missed, put_won, saw_vacant}
use Rattle.fabric_rule.proofs.lane.LaneRingSteps.put.Goals as goal

pub push_part-requires-clause-size : goal.push_part-requires-clause-size
push_part-requires-clause-size g c =
    let lane = c.args.self.now in
    let key = lane.table.now.table.shared.key in
    let part = c.in-Some-default.part in
    let of : (lane.queue ≡ queue_to part) × (lane.side ≡ Line) = line_of_part lane.queue lane.side part (subst (IsPartOf lane.queue lane.side) c.in-Some-default.is-0 lane.part_is) in
    lane.size_is.0 ∙ ap (items_of key) of.0

pub push_part-requires-clause-word : goal.push_part-requires-clause-word
push_part-requires-clause-word g c =
    let lane = c.args.self.now in
    let key = lane.table.now.table.shared.key in
    let part = c.in-Some-default.part in
    let of : (lane.queue ≡ queue_to part) × (lane.side ≡ Line) = line_of_part lane.queue lane.side part (subst (IsPartOf lane.queue lane.side) c.in-Some-default.is-0 lane.part_is) in
    c.slot-word.ensures ∙ ap₂ (λ (a b : ℕ). a + 32 + c.args.place % b) lane.start_is.0 lane.size_is.0 ∙ ap₂ (λ (q : ℕ) (s : Side). offset_of key (slot_of key q s c.args.place)) of.0 of.1

pub push_part-requires-clause-there : goal.push_part-requires-clause-there
push_part-requires-clause-there g c =
    let lane = c.args.self.now in
    let key = lane.table.now.table.shared.key in
    let part = c.in-Some-default.part in
    let v = c.args.seat.now.seat.me.0 in
    (may_answer key lane.queue lane.side lane.part part c.args.v v c.in-Some-default.is-0 c.requires.may).there

pub push_part-requires-clause-work : goal.push_part-requires-clause-work
push_part-requires-clause-work g c =
    let lane = c.args.self.now in
    let key = lane.table.now.table.shared.key in
    let part = c.in-Some-default.part in
    let v = c.args.seat.now.seat.me.0 in
    (may_answer key lane.queue lane.side lane.part part c.args.v v c.in-Some-default.is-0 c.requires.may).work

pub push_part-requires-clause-worker : goal.push_part-requires-clause-worker
push_part-requires-clause-worker g c =
    let lane = c.args.self.now in
    let key = lane.table.now.table.shared.key in
    let part = c.in-Some-default.part in
    let v = c.args.seat.now.seat.me.0 in
    (may_answer key lane.queue lane.side lane.part part c.args.v v c.in-Some-default.is-0 c.requires.may).worker

pub push_part-requires-clause-holds : goal.push_part-requires-clause-holds
push_part-requires-clause-holds g c =
    let lane = c.args.self.now in
    let key = lane.table.now.table.shared.key in
    let part = c.in-Some-default.part in
    let v = c.args.seat.now.seat.me.0 in
    (may_answer key lane.queue lane.side lane.part part c.args.v v c.in-Some-default.is-0 c.requires.may).holds

pub push_part-requires-clause-armed : goal.push_part-requires-clause-armed
push_part-requires-clause-armed g c =
    let lane = c.args.self.now in
    let key = lane.table.now.table.shared.key in
    let part = c.in-Some-default.part in
    let v = c.args.seat.now.seat.me.0 in
    (may_answer key lane.queue lane.side lane.part part c.args.v v c.in-Some-default.is-0 c.requires.may).armed

pub push_part-requires-clause-saw : goal.push_part-requires-clause-saw
push_part-requires-clause-saw g c =
    let lane = c.args.self.now in
    let key = lane.table.now.table.shared.key in
    let part = c.in-Some-default.part in
    let v = c.args.seat.now.seat.me.0 in
    let of : (lane.queue ≡ queue_to part) × (lane.side ≡ Line) = line_of_part lane.queue lane.side part (subst (IsPartOf lane.queue lane.side) c.in-Some-default.is-0 lane.part_is) in
    saw_vacant key lane.queue (queue_to part) lane.side Line v c.args.place c.args.entry of.0 of.1 c.requires.looked c.requires.seen c.requires.before c.requires.fresh

pub returns-in-Some-default-clause-won : goal.returns-in-Some-default-clause-won
returns-in-Some-default-clause-won g c won =
    let lane = c.args.self.now in
    let key = lane.table.now.table.shared.key in
    let part = c.in-Some-default.part in
    let v = c.args.seat.now.seat.me.0 in
    let may = may_answer key lane.queue lane.side lane.part part c.args.v v c.in-Some-default.is-0 c.requires.may in
    let of : (lane.queue ≡ queue_to part) × (lane.side ≡ Line) = line_of_part lane.queue lane.side part (subst (IsPartOf lane.queue lane.side) c.in-Some-default.is-0 lane.part_is) in
    let k : Known g.row.H.Denot = (c.args.seat.now.seat.id, c.args.seat.now.seat.me) in
    let k' : Known g.row.H.Denot = (c.push_part.new.seat.seat.id, c.push_part.new.seat.seat.me) in
    put_won g.H.Handlers.reply_of key k k' c.push_part.ensures.own.1 c.push_part.ensures.slots (queue_to part) Line (Some part) lane.queue lane.side lane.part of.0 of.1 c.in-Some-default.is-0 c.args.v c.args.place c.args.entry c.push_part.result c.push_part.ensures.told may.there
    (saw_vacant key lane.queue (queue_to part) lane.side Line v c.args.place c.args.entry of.0 of.1 c.requires.looked c.requires.seen c.requires.before c.requires.fresh) won

pub returns-in-Some-default-clause-missed : goal.returns-in-Some-default-clause-missed
returns-in-Some-default-clause-missed g c ne =
    let lane = c.args.self.now in
    let key = lane.table.now.table.shared.key in
    let part = c.in-Some-default.part in
    let v = c.args.seat.now.seat.me.0 in
    let may = may_answer key lane.queue lane.side lane.part part c.args.v v c.in-Some-default.is-0 c.requires.may in
    let of : (lane.queue ≡ queue_to part) × (lane.side ≡ Line) = line_of_part lane.queue lane.side part (subst (IsPartOf lane.queue lane.side) c.in-Some-default.is-0 lane.part_is) in
    let k : Known g.row.H.Denot = (c.args.seat.now.seat.id, c.args.seat.now.seat.me) in
    let k' : Known g.row.H.Denot = (c.push_part.new.seat.seat.id, c.push_part.new.seat.seat.me) in
    put_missed g.H.Handlers.reply_of key k k' c.push_part.ensures.own.1 c.push_part.ensures.slots (queue_to part) Line (Some part) lane.queue lane.side lane.part of.0 of.1 c.in-Some-default.is-0 c.args.v c.args.place c.args.entry c.push_part.result c.push_part.ensures.told ne

pub give-requires-clause-size : goal.give-requires-clause-size
give-requires-clause-size g c =
    let lane = c.args.self.now in
    let key = lane.table.now.table.shared.key in
    lane.size_is.0

pub give-requires-clause-word : goal.give-requires-clause-word
give-requires-clause-word g c =
    let lane = c.args.self.now in
    let key = lane.table.now.table.shared.key in
    c.slot-word.ensures ∙ ap₂ (λ (a b : ℕ). a + 32 + c.args.place % b) lane.start_is.0 lane.size_is.0 ∙ ap (λ (s : Side). offset_of key (slot_of key lane.queue s c.args.place)) c.in-None-Free.is-1

pub give-requires-clause-there : goal.give-requires-clause-there
give-requires-clause-there g c =
    let lane = c.args.self.now in
    let key = lane.table.now.table.shared.key in
    let v = c.args.seat.now.seat.me.0 in
    (may_give key lane.queue lane.side lane.part c.args.v v c.in-None-Free.is-0 c.in-None-Free.is-1 c.requires.may).there

pub give-requires-clause-busy : goal.give-requires-clause-busy
give-requires-clause-busy g c =
    let lane = c.args.self.now in
    let key = lane.table.now.table.shared.key in
    let v = c.args.seat.now.seat.me.0 in
    (may_give key lane.queue lane.side lane.part c.args.v v c.in-None-Free.is-0 c.in-None-Free.is-1 c.requires.may).busy

pub give-requires-clause-holds : goal.give-requires-clause-holds
give-requires-clause-holds g c =
    let lane = c.args.self.now in
    let key = lane.table.now.table.shared.key in
    let v = c.args.seat.now.seat.me.0 in
    (may_give key lane.queue lane.side lane.part c.args.v v c.in-None-Free.is-0 c.in-None-Free.is-1 c.requires.may).holds

pub give-requires-clause-untagged : goal.give-requires-clause-untagged
give-requires-clause-untagged g c =
    let lane = c.args.self.now in
    let key = lane.table.now.table.shared.key in
    let v = c.args.seat.now.seat.me.0 in
    (may_give key lane.queue lane.side lane.part c.args.v v c.in-None-Free.is-0 c.in-None-Free.is-1 c.requires.may).untagged

pub give-requires-clause-saw : goal.give-requires-clause-saw
give-requires-clause-saw g c =
    let lane = c.args.self.now in
    let key = lane.table.now.table.shared.key in
    let v = c.args.seat.now.seat.me.0 in
    saw_vacant key lane.queue lane.queue lane.side Free v c.args.place c.args.entry refl c.in-None-Free.is-1 c.requires.looked c.requires.seen c.requires.before c.requires.fresh

pub returns-in-None-Free-clause-won : goal.returns-in-None-Free-clause-won
returns-in-None-Free-clause-won g c won =
    let lane = c.args.self.now in
    let key = lane.table.now.table.shared.key in
    let v = c.args.seat.now.seat.me.0 in
    let may = may_give key lane.queue lane.side lane.part c.args.v v c.in-None-Free.is-0 c.in-None-Free.is-1 c.requires.may in
    let k : Known g.row.H.Denot = (c.args.seat.now.seat.id, c.args.seat.now.seat.me) in
    let k' : Known g.row.H.Denot = (c.give.new.seat.seat.id, c.give.new.seat.seat.me) in
    put_won g.H.Handlers.reply_of key k k' c.give.ensures.own.1 c.give.ensures.slots lane.queue Free None lane.queue lane.side lane.part refl c.in-None-Free.is-1 c.in-None-Free.is-0 c.args.v c.args.place c.args.entry c.give.result c.give.ensures.told may.there
    (saw_vacant key lane.queue lane.queue lane.side Free v c.args.place c.args.entry refl c.in-None-Free.is-1 c.requires.looked c.requires.seen c.requires.before c.requires.fresh) won

pub returns-in-None-Free-clause-missed : goal.returns-in-None-Free-clause-missed
returns-in-None-Free-clause-missed g c ne =
    let lane = c.args.self.now in
    let key = lane.table.now.table.shared.key in
    let v = c.args.seat.now.seat.me.0 in
    let may = may_give key lane.queue lane.side lane.part c.args.v v c.in-None-Free.is-0 c.in-None-Free.is-1 c.requires.may in
    let k : Known g.row.H.Denot = (c.args.seat.now.seat.id, c.args.seat.now.seat.me) in
    let k' : Known g.row.H.Denot = (c.give.new.seat.seat.id, c.give.new.seat.seat.me) in
    put_missed g.H.Handlers.reply_of key k k' c.give.ensures.own.1 c.give.ensures.slots lane.queue Free None lane.queue lane.side lane.part refl c.in-None-Free.is-1 c.in-None-Free.is-0 c.args.v c.args.place c.args.entry c.give.result c.give.ensures.told ne

pub push-requires-clause-size : goal.push-requires-clause-size
push-requires-clause-size g c =
    let lane = c.args.self.now in
    let key = lane.table.now.table.shared.key in
    let v = c.args.seat.now.seat.me.0 in
    let may = may_post key lane.queue lane.side lane.part c.args.v v c.in-None-Line.is-0 c.in-None-Line.is-1 c.requires.may in
    lane.size_is.0 ∙ ap (items_of key) may.line

pub push-requires-clause-word : goal.push-requires-clause-word
push-requires-clause-word g c =
    let lane = c.args.self.now in
    let key = lane.table.now.table.shared.key in
    let v = c.args.seat.now.seat.me.0 in
    let may = may_post key lane.queue lane.side lane.part c.args.v v c.in-None-Line.is-0 c.in-None-Line.is-1 c.requires.may in
    c.slot-word.ensures ∙ ap₂ (λ (a b : ℕ). a + 32 + c.args.place % b) lane.start_is.0 lane.size_is.0 ∙ ap₂ (λ (q : ℕ) (s : Side). offset_of key (slot_of key q s c.args.place)) may.line c.in-None-Line.is-1

pub push-requires-clause-there : goal.push-requires-clause-there
push-requires-clause-there g c =
    let lane = c.args.self.now in
    let key = lane.table.now.table.shared.key in
    let v = c.args.seat.now.seat.me.0 in
    (may_post key lane.queue lane.side lane.part c.args.v v c.in-None-Line.is-0 c.in-None-Line.is-1 c.requires.may).there

pub push-requires-clause-busy : goal.push-requires-clause-busy
push-requires-clause-busy g c =
    let lane = c.args.self.now in
    let key = lane.table.now.table.shared.key in
    let v = c.args.seat.now.seat.me.0 in
    (may_post key lane.queue lane.side lane.part c.args.v v c.in-None-Line.is-0 c.in-None-Line.is-1 c.requires.may).busy

pub push-requires-clause-engine : goal.push-requires-clause-engine
push-requires-clause-engine g c =
    let lane = c.args.self.now in
    let key = lane.table.now.table.shared.key in
    let v = c.args.seat.now.seat.me.0 in
    (may_post key lane.queue lane.side lane.part c.args.v v c.in-None-Line.is-0 c.in-None-Line.is-1 c.requires.may).engine

pub push-requires-clause-holds : goal.push-requires-clause-holds
push-requires-clause-holds g c =
    let lane = c.args.self.now in
    let key = lane.table.now.table.shared.key in
    let v = c.args.seat.now.seat.me.0 in
    (may_post key lane.queue lane.side lane.part c.args.v v c.in-None-Line.is-0 c.in-None-Line.is-1 c.requires.may).holds

pub push-requires-clause-armed : goal.push-requires-clause-armed
push-requires-clause-armed g c =
    let lane = c.args.self.now in
    let key = lane.table.now.table.shared.key in
    let v = c.args.seat.now.seat.me.0 in
    (may_post key lane.queue lane.side lane.part c.args.v v c.in-None-Line.is-0 c.in-None-Line.is-1 c.requires.may).armed

pub push-requires-clause-saw : goal.push-requires-clause-saw
push-requires-clause-saw g c =
    let lane = c.args.self.now in
    let key = lane.table.now.table.shared.key in
    let v = c.args.seat.now.seat.me.0 in
    let may = may_post key lane.queue lane.side lane.part c.args.v v c.in-None-Line.is-0 c.in-None-Line.is-1 c.requires.may in
    saw_vacant key lane.queue 0 lane.side Line v c.args.place c.args.entry may.line c.in-None-Line.is-1 c.requires.looked c.requires.seen c.requires.before c.requires.fresh

pub returns-in-None-Line-clause-won : goal.returns-in-None-Line-clause-won
returns-in-None-Line-clause-won g c won =
    let lane = c.args.self.now in
    let key = lane.table.now.table.shared.key in
    let v = c.args.seat.now.seat.me.0 in
    let may = may_post key lane.queue lane.side lane.part c.args.v v c.in-None-Line.is-0 c.in-None-Line.is-1 c.requires.may in
    let k : Known g.row.H.Denot = (c.args.seat.now.seat.id, c.args.seat.now.seat.me) in
    let k' : Known g.row.H.Denot = (c.push.new.seat.seat.id, c.push.new.seat.seat.me) in
    put_won g.H.Handlers.reply_of key k k' c.push.ensures.own.1 c.push.ensures.slots 0 Line None lane.queue lane.side lane.part may.line c.in-None-Line.is-1 c.in-None-Line.is-0 c.args.v c.args.place c.args.entry c.push.result c.push.ensures.told may.there
    (saw_vacant key lane.queue 0 lane.side Line v c.args.place c.args.entry may.line c.in-None-Line.is-1 c.requires.looked c.requires.seen c.requires.before c.requires.fresh) won

pub returns-in-None-Line-clause-missed : goal.returns-in-None-Line-clause-missed
returns-in-None-Line-clause-missed g c ne =
    let lane = c.args.self.now in
    let key = lane.table.now.table.shared.key in
    let v = c.args.seat.now.seat.me.0 in
    let may = may_post key lane.queue lane.side lane.part c.args.v v c.in-None-Line.is-0 c.in-None-Line.is-1 c.requires.may in
    let k : Known g.row.H.Denot = (c.args.seat.now.seat.id, c.args.seat.now.seat.me) in
    let k' : Known g.row.H.Denot = (c.push.new.seat.seat.id, c.push.new.seat.seat.me) in
    put_missed g.H.Handlers.reply_of key k k' c.push.ensures.own.1 c.push.ensures.slots 0 Line None lane.queue lane.side lane.part may.line c.in-None-Line.is-1 c.in-None-Line.is-0 c.args.v c.args.place c.args.entry c.push.result c.push.ensures.told ne
