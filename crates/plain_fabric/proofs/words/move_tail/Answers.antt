use Rattle.std.proofs.Common.{subst}
use Rattle.unit_model.specs.Running.{Enabled}
use Rattle.fabric_words.specs.Makes.{IsPlaced}
use Rattle.plain_fabric.proofs.Tails.{free_moved, line_moved}
use Rattle.plain_fabric.proofs.words.move_tail.Goals as goal

pub returns-in-Push-clause-shows : goal.returns-in-Push-clause-shows
returns-in-Push-clause-shows c core shown enabled =
    let placed = subst (IsPlaced c.args.layout.now.shape) c.in-Push.is c.requires.0 in
    line_moved c.args.layout.now.shape c.args.words.now c.set_word.new.words c.in-Push.seat c.in-Push.queue c.in-Push.item c.in-Push.place placed.0.in_queues c.set_word.ensures.sets core shown
    (subst (Enabled core) c.in-Push.is enabled)

pub returns-in-GiveItem-clause-shows : goal.returns-in-GiveItem-clause-shows
returns-in-GiveItem-clause-shows c core shown enabled =
    let placed = subst (IsPlaced c.args.layout.now.shape) c.in-GiveItem.is c.requires.0 in
    free_moved c.args.layout.now.shape c.args.words.now c.set_word-in-GiveItem.new.words c.in-GiveItem.seat c.in-GiveItem.queue c.in-GiveItem.item c.in-GiveItem.place placed.0.in_queues c.set_word-in-GiveItem.ensures.sets core shown
    (subst (Enabled core) c.in-GiveItem.is enabled)
