use Rattle.std.proofs.Common.{ℕ, ◌≡◌, ◌<◌, ◌≤◌, length, slice_index}
use Rattle.std.specs.Slots.{slots_items}
use Rattle.status_book.specs.Words.{word_at}
use Rattle.status_book.proofs.closing.last_looks.Given as goal

abbrev pub invariant-loop-place : goal.invariant-loop-place
invariant-loop-place l =
    (length l.counts ≡ 32)
    × ((q : ℕ) → q < l.place → slice_index l.counts q ≡ slice_index (slots_items l.closed.words) (word_at q))
    × ((q : ℕ) → l.place ≤ q → slice_index l.counts q ≡ 0)
