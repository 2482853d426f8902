use Rattle.std.proofs.Common.{◌∙◌}
use Rattle.fabric_words.proofs.Filling.{free_begun, free_goes_on}
use Rattle.fabric_words.specs.Offsets.{word_in}
use Rattle.fabric_words.proofs.layout.Layout.open_free.Goals as goal

pub loop-slot-init : goal.loop-slot-init
loop-slot-init c =
    let s = c.args.self.now.shape in
    (free_begun s (word_in s c.args.words.now) (word_in s c.set_word.new.words) (word_in s c.set_word-2.new.words) c.args.queue c.items-size.result s.start c.requires.0 c.set_word.ensures.sets c.set_word-2.ensures.sets, c.set_word-2.ensures.long ∙ c.set_word.ensures.long)

pub loop-slot-preserved : goal.loop-slot-preserved
loop-slot-preserved c =
    let s = c.args.self.now.shape in
    let now = c.loop-slot.invariant in (
      free_goes_on s (word_in s c.args.words.now) (word_in s c.loop-slot.words) (word_in s c.set_word-in-loop-slot.new.words) c.args.queue c.loop-slot.slot c.full_entry-entry.result c.items-size.result s.start
          c.requires.0 c.items-size.ensures.value c.loop-slot-test.true now.0 c.set_word-in-loop-slot.ensures.sets c.full_entry-entry.ensures,
      c.set_word-in-loop-slot.ensures.long ∙ now.1,
    )
