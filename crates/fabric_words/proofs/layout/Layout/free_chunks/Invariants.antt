use Rattle.std.proofs.Common.{◌≡◌, length}
use Rattle.fabric_words.proofs.Filling.{MapSoFar}
use Rattle.fabric_words.specs.Offsets.{word_in}
use Rattle.fabric_words.proofs.layout.Layout.free_chunks.Given as goal

abbrev pub invariant-loop-number : goal.invariant-loop-number
invariant-loop-number l = MapSoFar l.self.shape (word_in l.self.shape l.fn.words) (word_in l.self.shape l.words) l.number × (length l.words ≡ length l.fn.words)
