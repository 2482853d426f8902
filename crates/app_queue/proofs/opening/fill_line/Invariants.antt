use Rattle.std.proofs.Common.{ℕ, ◌≡◌, ◌≤◌, ◌<◌, ◌+◌, ◌*◌, ◌%◌, ◌⊎◌, slice_index}
use Rattle.nncq_ring.specs.Words.{entry_of}
use Rattle.app_queue.proofs.opening.fill_line.Given as goal

abbrev pub invariant-loop-slot : goal.invariant-loop-slot
invariant-loop-slot l = record {
  filled : (place : ℕ) → place < l.start → l.start ≤ place + l.size → place % l.size < l.slot → slice_index l.words (96 + l.size + place % l.size) ≡ entry_of l.size place 0;
  others : (i : ℕ) → (i < 96 + l.size) ⊎ (96 + 2 * l.size ≤ i) → slice_index l.words i ≡ slice_index l.initial.words i;
}
