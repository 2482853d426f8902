use Rattle.fabric_words.proofs.EachStep.{entry_put}
use Rattle.fabric_words.specs.Offsets.{word_in}
use Rattle.fabric_words.proofs.layout.Layout.put_entry.Goals as goal

pub returns-clause-puts : goal.returns-clause-puts
returns-clause-puts c =
    let s = c.args.self.now.shape in
    entry_put s (word_in s c.args.words.now) (word_in s c.set_word.new.words) c.args.queue c.items-size.result c.args.place c.args.item c.args.side c.items-size.ensures.value c.set_word.ensures.sets
