use Rattle.fabric_words.proofs.EachStep.{made_step}
use Rattle.fabric_words.specs.Offsets.{word_in}
use Rattle.fabric_words.proofs.layout.Layout.make.Goals as goal

pub returns-clause-step : goal.returns-clause-step
returns-clause-step c core is sound shows needs =
    let s = c.args.self.now.shape in
    made_step s (word_in s c.args.words.now) (word_in s c.change.new.words) c.args.step.now c.change.ensures.made core is sound shows needs
