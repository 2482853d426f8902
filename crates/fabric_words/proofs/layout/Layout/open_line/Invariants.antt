use Rattle.std.proofs.Common.{◌≡◌, length}
use Rattle.fabric_words.proofs.Filling.{LineSoFar}
use Rattle.fabric_words.specs.Offsets.{word_in}
use Rattle.fabric_words.proofs.layout.Layout.open_line.Given as goal

abbrev pub invariant-loop-slot : goal.invariant-loop-slot
invariant-loop-slot l = LineSoFar l.self.shape (word_in l.self.shape l.fn.words) (word_in l.self.shape l.words) l.queue l.slot l.size l.start × (length l.words ≡ length l.fn.words)
