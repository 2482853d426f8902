use Rattle.std.proofs.Common.{◌≡◌, ◌∙◌, refl}
use Rattle.fabric_rule.proofs.TurnsTold.{works_get, works_on}
use Rattle.fabric_rule.proofs.tests.turns.got.Goals as goal

pub loop-init : goal.loop-init
loop-init c = record { own = c.requires.own; slots = refl; works = (refl, refl) }

pub get_item_turn-requires-clause-may : goal.get_item_turn-requires-clause-may
get_item_turn-requires-clause-may c = works_get c.args.table.now.table.shared.key 0 c.args.seat.now.seat.me.0 c.loop.seat.seat.me.0 c.loop.invariant.works c.requires.may

pub loop-preserved : goal.loop-preserved
loop-preserved c =
    let told = c.get_item_turn.ensures.told in
    record {
      own = c.get_item_turn.ensures.own ∙ c.loop.invariant.own;
      slots = told.slots ∙ c.loop.invariant.slots;
      works = works_on c.args.seat.now.seat.me.0 c.loop.seat.seat.me.0 c.get_item_turn.new.seat.seat.me.0 c.loop.invariant.works told.works;
    }

pub returns-in-Got-clause-slots : goal.returns-in-Got-clause-slots
returns-in-Got-clause-slots c = c.get_item_turn.ensures.told.slots ∙ c.loop.invariant.slots

pub returns-in-Got-clause-works : goal.returns-in-Got-clause-works
returns-in-Got-clause-works c = works_on c.args.seat.now.seat.me.0 c.loop.seat.seat.me.0 c.get_item_turn.new.seat.seat.me.0 c.loop.invariant.works c.get_item_turn.ensures.told.works

pub returns-in-Got-clause-may : goal.returns-in-Got-clause-may
returns-in-Got-clause-may c = c.get_item_turn.ensures.may c.in-Got.place c.in-Got.value c.in-Got.is
