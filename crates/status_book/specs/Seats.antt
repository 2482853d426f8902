-- What contracts say of the seats of a status book.
use Rattle.std.specs.Prelude.{ℕ, ◌≡◌, List}
use Rattle.status_book.specs.declared.book.StatusBook.{StatusBook}
use Rattle.status_book.specs.declared.seat.CountSeat.{CountSeat}
use Rattle.status_book.specs.declared.seat.LookSeat.{LookSeat}
use Rattle.status_book.specs.declared.view.EngineSums.{EngineSums}
use Rattle.status_book.specs.declared.view.Reading.{Reading}
use Rattle.status_book.specs.Views.{first_sums, last_reading}
use Rattle.status_book.specs.Words.{word_of}

-- the seat counts in this book
abbrev pub CountsIn : StatusBook → CountSeat → Type 0
CountsIn book seat = seat.seat.table_id ≡ book.table.shared.table_id

-- the seat looks at this book
abbrev pub LooksAt : StatusBook → LookSeat → Type 0
LooksAt book seat = seat.seat.table_id ≡ book.table.shared.table_id

-- what the seat has added, in sum, of each kind
abbrev pub sums_of : CountSeat → List ℕ
sums_of seat = first_sums seat.seat.me.0.engines

abbrev pub counts_of : CountSeat → EngineSums
counts_of seat = record { engine = seat.engine; sums = sums_of seat }

-- the numbers that the seat found, newest first
abbrev pub readings_of : LookSeat → List Reading
readings_of seat = seat.seat.me.0.readings

-- what the seat noted of a count last, or 0
abbrev pub noted : LookSeat → ℕ → ℕ → ℕ
noted seat engine kind = last_reading (word_of engine kind) (readings_of seat)
