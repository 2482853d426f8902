use Rattle.std.proofs.Common.{ℕ, ◌≡◌, ◌<◌, ◌≤◌, ◌++◌, length, slice_index}
use Rattle.status_book.specs.Words.{word_at}
use Rattle.status_book.specs.Seats.{LooksAt, readings_of}
use Rattle.status_book.specs.Views.{last_reading, readings_told}
use Rattle.status_book.proofs.book.StatusBook.look.Given as goal

abbrev pub invariant-loop-place : goal.invariant-loop-place
invariant-loop-place l =
    LooksAt l.self l.seat
    × (length l.counts ≡ 32)
    × (readings_of l.seat ≡ readings_told l.counts l.place ++ readings_of l.initial.seat)
    × ((q : ℕ) → q < l.place → last_reading (word_at q) (readings_of l.initial.seat) ≤ slice_index l.counts q)
    × ((q : ℕ) → l.place ≤ q → slice_index l.counts q ≡ 0)
