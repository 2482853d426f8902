use Rattle.std.specs.Slots.{slots_items}
use Rattle.unit_model.proofs.LastWords.{word_read}
use Rattle.chunk_map.proofs.closing.ClosedMap.open_count.Goals as goal

pub returns : goal.returns
returns c = word_read (slots_items c.args.self.now.closed.words) 0 c.word.result c.word.ensures
