use Rattle.std.proofs.Common.{◌≡◌, ◌-◌, [], map, replicate}
use Rattle.std.specs.List.{All, range_with_len}
use Rattle.status_book.specs.declared.seat.CountSeat.{CountSeat}
use Rattle.status_book.specs.Views.{new_engines}
use Rattle.status_book.specs.Seats.{CountsIn, sums_of}
use Rattle.status_book.specs.Words.{kinds}
use Rattle.status_book.proofs.book.StatusBook.seats.Given as goal

abbrev pub invariant-loop-engine : goal.invariant-loop-engine
invariant-loop-engine l =
    (l.seat.table_id ≡ l.self.table.shared.table_id)
    × (l.seat.me ≡ (new_engines l.engine (l.self.engines - l.engine), []))
    × All (CountsIn l.self) l.counts.items
    × (map (λ (s : CountSeat). s.engine) l.counts.items ≡ range_with_len 0 l.engine)
    × All (λ (s : CountSeat). sums_of s ≡ replicate kinds 0) l.counts.items
