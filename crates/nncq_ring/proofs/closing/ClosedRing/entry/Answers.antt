use Rattle.std.proofs.Common.{◌+◌}
use Rattle.std.specs.Slots.{slots_items}
use Rattle.unit_model.proofs.LastWords.{word_read}
use Rattle.nncq_ring.proofs.closing.ClosedRing.entry.Goals as goal

pub returns : goal.returns
returns c = word_read (slots_items c.args.self.now.closed.words) (48 + c.args.slot) c.word.result c.word.ensures
