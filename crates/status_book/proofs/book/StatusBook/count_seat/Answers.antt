use Rattle.std.proofs.Common.{ℕ, ◌≡◌, ◌+◌, ◌-◌, ◌<◌, suc, [], ap, ◌∙◌, arith}
use Rattle.status_book.specs.Views.{new_engines, others_of}
use Rattle.status_book.proofs.Steps.{splits}
use Rattle.status_book.proofs.book.StatusBook.count_seat.Goals as goal

pub split_seat-requires : goal.split_seat-requires
split_seat-requires c =
    let shared = c.args.self.now.table.shared in
    let sized = c.args.self.now.sized in
    let some : 0 < shared.table_id.words = omega (arith, sized.1, sized.2) in
    (c.requires.own, some, λ s holds at. splits shared.key c.args.seat.now.id c.args.seat.now.me.0 s holds at)

pub returns-clause-view : goal.returns-clause-view
returns-clause-view c =
    let engine : ℕ = c.args.engine in
    let all : ℕ = c.args.self.now.engines in
    let one : all - engine ≡ suc (all - (engine + 1)) = omega (arith, c.requires.next) in
    c.split_seat.ensures.2 ∙ ap (λ (m : _). (others_of m.0, m.1)) c.requires.view ∙ ap (λ (k : ℕ). (others_of (new_engines engine k), [])) one
