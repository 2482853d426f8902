use Rattle.std.proofs.Common.{◌≡◌, ◌++◌, map}
use Rattle.std.specs.List.{All}
use Rattle.status_book.specs.Seats.{CountsIn, counts_of}
use Rattle.status_book.proofs.book.StatusBook.gather.Given as goal

abbrev pub invariant-loop-count : goal.invariant-loop-count
invariant-loop-count l =
    (l.last.table_id ≡ l.initial.last.table_id)
    × All (CountsIn l.self) l.counts.items
    × (map counts_of l.counts.items ++ l.last.me.0.engines ≡ map counts_of l.initial.counts.items ++ l.initial.last.me.0.engines)
    × (l.last.me.0.readings ≡ l.initial.last.me.0.readings)
    × (l.last.me.1 ≡ l.initial.last.me.1)

abbrev pub decreases-loop-count : goal.decreases-loop-count
decreases-loop-count l = goal.left-loop-count l
