use Rattle.std.proofs.Common.{◌≡◌, ◌∙◌, refl}
use Rattle.fabric_rule.proofs.TurnsTold.{works_on}
use Rattle.fabric_rule.proofs.tests.turns.is_given.Goals as goal

pub loop-init : goal.loop-init
loop-init c = record { own = c.requires.own; may = c.requires.may; slots = refl; works = (refl, refl) }

pub loop-preserved : goal.loop-preserved
loop-preserved c =
    let told = c.give_turn.ensures.told in
    record {
      own = c.give_turn.ensures.own ∙ c.loop.invariant.own;
      may = told.again c.in-Lost.tail c.in-Lost.entry c.in-Lost.is;
      slots = told.slots ∙ c.loop.invariant.slots;
      works = works_on c.args.seat.now.seat.me.0 c.loop.seat.seat.me.0 c.give_turn.new.seat.seat.me.0 c.loop.invariant.works (told.works refl);
    }

pub returns-in-Done-clause-slots : goal.returns-in-Done-clause-slots
returns-in-Done-clause-slots c = c.give_turn.ensures.told.slots ∙ c.loop.invariant.slots

pub returns-in-Done-clause-works : goal.returns-in-Done-clause-works
returns-in-Done-clause-works c = works_on c.args.seat.now.seat.me.0 c.loop.seat.seat.me.0 c.give_turn.new.seat.seat.me.0 c.loop.invariant.works (c.give_turn.ensures.told.works refl)

pub returns-in-Worn-clause-slots : goal.returns-in-Worn-clause-slots
returns-in-Worn-clause-slots c = c.give_turn.ensures.told.slots ∙ c.loop.invariant.slots

pub returns-in-Worn-clause-works : goal.returns-in-Worn-clause-works
returns-in-Worn-clause-works c = works_on c.args.seat.now.seat.me.0 c.loop.seat.seat.me.0 c.give_turn.new.seat.seat.me.0 c.loop.invariant.works (c.give_turn.ensures.told.works refl)
