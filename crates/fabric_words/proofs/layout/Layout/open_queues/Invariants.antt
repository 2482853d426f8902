use Rattle.std.proofs.Common.{◌≡◌, length}
use Rattle.fabric_words.proofs.Filling.{QueuesSoFar}
use Rattle.fabric_words.specs.Offsets.{word_in}
use Rattle.fabric_words.proofs.layout.Layout.open_queues.Given as goal

abbrev pub invariant-loop-queue : goal.invariant-loop-queue
invariant-loop-queue l = QueuesSoFar l.self.shape (word_in l.self.shape l.fn.words) (word_in l.self.shape l.words) l.queue × (length l.words ≡ length l.fn.words)
