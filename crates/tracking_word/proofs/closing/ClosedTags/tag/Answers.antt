use Rattle.std.specs.Slots.{slots_items}
use Rattle.unit_model.proofs.LastWords.{word_read}
use Rattle.tracking_word.proofs.closing.ClosedTags.tag.Goals as goal

pub returns : goal.returns
returns c = word_read (slots_items c.args.self.now.closed.words) c.args.item c.word.result c.word.ensures
