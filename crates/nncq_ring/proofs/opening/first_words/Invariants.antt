use Rattle.std.proofs.Common.{ℕ, ◌≡◌, ◌≤◌, ◌<◌, ◌+◌, ◌*◌, ◌/◌, ◌%◌, length, slice_index}
use Rattle.nncq_ring.proofs.opening.first_words.Given as goal

abbrev pub invariant-loop-slot : goal.invariant-loop-slot
invariant-loop-slot l = record {
  count : length l.words.items ≡ 48 + l.slot;
  head : slice_index l.words.items 16 ≡ l.start;
  tail : slice_index l.words.items 32 ≡ l.start;
  entries : (place : ℕ) → place < l.start → l.start ≤ place + l.size → place % l.size < l.slot → slice_index l.words.items (48 + place % l.size) ≡ place / l.size * l.size;
}
