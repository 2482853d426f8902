use Rattle.std.proofs.Common.{ℕ, ◌≡◌, ◌≢◌, ◌+◌, ◌*◌, ◌/◌, ◌<◌, length, slice_index}
use Rattle.chunk_map.proofs.search.note.Given as goal

abbrev pub invariant-loop-number : goal.invariant-loop-number
invariant-loop-number l =
    (length l.seen ≡ 80)
    × ((number : ℕ) → number < l.number → slice_index l.seen (10 * l.segment + number) ≡ slice_index l.words number)
    × ((number : ℕ) → number / 10 ≢ l.segment → slice_index l.seen number ≡ slice_index l.fn.seen number)
