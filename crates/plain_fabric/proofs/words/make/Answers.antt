use Rattle.plain_fabric.proofs.Making.{made_here}
use Rattle.plain_fabric.proofs.words.make.Goals as goal

pub returns-clause-shows : goal.returns-clause-shows
returns-clause-shows c core shown enabled =
    made_here c.args.layout.now.shape c.move_tail.new.words c.make.new.words c.args.step.now c.move_tail.ensures.on c.make.ensures.step core
    (c.move_tail.ensures.shows core shown enabled) enabled
