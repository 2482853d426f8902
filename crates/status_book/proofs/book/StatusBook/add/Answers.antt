use Rattle.std.proofs.Common.{ℕ, [], ◌+◌, ◌%◌, ◌^◌, ◌<◌, sym, subst, arith}
use mathlib.Core.Option.{none}
use Rattle.atomic_table.specs.Table.{Me, step, Allows}
use Rattle.status_book.specs.declared.view.StatusView.{StatusView}
use Rattle.status_book.specs.Rule.{StatusHolds, Counts}
use Rattle.status_book.specs.Seats.{sums_of}
use Rattle.status_book.specs.Words.{word_of}
use Rattle.status_book.proofs.Steps.{counts}
use Rattle.status_book.proofs.book.StatusBook.add.Goals as goal

pub fetch_add-requires : goal.fetch_add-requires
fetch_add-requires c =
    let shared = c.args.self.now.table.shared in
    let seat = c.args.seat.now in
    let word : ℕ = word_of seat.engine c.args.kind in
    let there : word < seat.seat.table_id.words = omega (arith, seat.sound.2, c.requires.kind) in (
      c.requires.own,
      subst (λ (id : _). word < id.words) c.requires.own there,
      subst
          (λ (m : Me ℕ StatusView). Allows (StatusHolds {S = ℕ} shared.key) shared.table_id.slots seat.seat.id m word (λ n. (n + c.args.n) % 2 ^ 64) (Counts (step shared.table_id.slots word c.args.n 0 none) m))
          (sym seat.sound.0)
          (λ s holds homes at fits. counts shared.key shared.table_id.slots seat.seat.id seat.engine c.args.kind c.args.n (sums_of seat) [] s c.requires.kind seat.sound.1 c.requires.room holds at),
    )
