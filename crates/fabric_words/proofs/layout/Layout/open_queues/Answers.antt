use Rattle.std.proofs.Common.{◌∙◌, refl, arith}
use Rattle.fabric_words.proofs.Filling.{no_queues, queues_go_on}
use Rattle.fabric_words.specs.Offsets.{word_in}
use Rattle.fabric_words.proofs.layout.Layout.open_queues.Goals as goal

pub loop-queue-init : goal.loop-queue-init
loop-queue-init c = (no_queues c.args.self.now.shape (word_in c.args.self.now.shape c.args.words.now), refl)

pub loop-queue-preserved : goal.loop-queue-preserved
loop-queue-preserved c =
    let s = c.args.self.now.shape in
    let now = c.loop-queue.invariant in (
      queues_go_on s (word_in s c.args.words.now) (word_in s c.loop-queue.words) (word_in s c.open_free.new.words) (word_in s c.open_line.new.words) c.loop-queue.queue c.args.self.now.valid (omega (arith, c.loop-queue-test.true)) now.0
          c.open_free.ensures.others c.open_free.ensures.starts c.open_line.ensures.others c.open_line.ensures.starts,
      c.open_line.ensures.long ∙ c.open_free.ensures.long ∙ now.1,
    )

pub returns-clause-begun : goal.returns-clause-begun
returns-clause-begun c queue lt = c.loop-queue.invariant.0.begun queue (omega (arith, lt, c.loop-queue-test.false))

pub returns-clause-others : goal.returns-clause-others
returns-clause-others c = c.loop-queue.invariant.0.others
