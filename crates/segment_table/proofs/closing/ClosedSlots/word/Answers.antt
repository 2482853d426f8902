use Rattle.std.proofs.Common.{◌+◌, ◌*◌, ◌/◌, ◌%◌}
use Rattle.std.specs.Slots.{slots_items}
use Rattle.unit_model.proofs.LastWords.{word_read}
use Rattle.segment_table.proofs.closing.ClosedSlots.word.Goals as goal

pub returns : goal.returns
returns g c = word_read (slots_items c.args.self.now.closed.words) (16 * (c.args.number / 10 + 1) + c.args.number % 10) c.word.result c.word.ensures
