use Rattle.std.proofs.Common.{ℕ, ◌/◌, ◌∙◌, ap, sym}
use Rattle.fabric_words.proofs.EachStep.{tail_helped}
use Rattle.fabric_words.specs.Offsets.{word_in}
use Rattle.fabric_words.proofs.layout.Layout.help.Goals as goal

pub returns-then-tail-lt-PLACE_LIMIT-clause-shows :
    goal.returns-then-tail-lt-PLACE_LIMIT-clause-shows
returns-then-tail-lt-PLACE_LIMIT-clause-shows c core is shows =
    let s = c.args.self.now.shape in
    let size : ℕ = c.items-size.result in
    tail_helped s (word_in s c.args.words.now) (word_in s c.set_word.new.words) c.args.queue size c.word-tail.result c.args.side c.items-size.ensures.value c.requires.0
    (sym c.word-tail.ensures) (ap (λ (x : ℕ). x / size) (sym c.word-entry.ensures) ∙ c.if-entry-size.true) c.set_word.ensures.sets core is shows
