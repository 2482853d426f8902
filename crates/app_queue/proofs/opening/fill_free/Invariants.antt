use Rattle.std.proofs.Common.{ℕ, ◌≡◌, ◌≤◌, ◌<◌, ◌+◌, ◌%◌, ◌⊎◌, slice_index}
use Rattle.nncq_ring.specs.Words.{entry_of}
use Rattle.app_queue.proofs.opening.fill_free.Given as goal

abbrev pub invariant-loop-slot : goal.invariant-loop-slot
invariant-loop-slot l = record {
  filled : (value : ℕ) → value < l.size → (l.start + value) % l.size < l.slot → slice_index l.words (48 + (l.start + value) % l.size) ≡ entry_of l.size (l.start + value) value;
  others : (i : ℕ) → (i < 48) ⊎ (48 + l.size ≤ i) → slice_index l.words i ≡ slice_index l.initial.words i;
}
