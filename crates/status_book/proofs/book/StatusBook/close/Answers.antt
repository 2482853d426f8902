use Rattle.std.proofs.Common.{ℕ, ◌≡◌, ◌+◌, ◌*◌, ◌<◌, List, slice_index, sym, ap, ◌∙◌, subst, arith}
use Rattle.std.specs.List.{All}
use Rattle.std.specs.Slots.{slots_items}
use Rattle.status_book.specs.Rule.{AreSums, IsKnown, StatusHolds}
use Rattle.status_book.specs.Words.{place_of, word_of}
use Rattle.status_book.proofs.LastSums.{sums_at}
use Rattle.status_book.proofs.Places.{word_of_place}
use Rattle.status_book.proofs.book.StatusBook.close.Goals as goal

pub returns-clause-sums : goal.returns-clause-sums
returns-clause-sums c engine kind lt kind_lt =
    let end = c.close_with-closed.ensures.values.2 in
    let state = end.0 in
    let words : List ℕ = slots_items c.close_with-closed.result.words in
    let word : ℕ → ℕ = slice_index state.words in
    let meets : StatusHolds c.args.self.engines state = subst (λ (n : ℕ). StatusHolds n state) c.args.self.sized.0 end.1.0 in
    let view = c.gather.new.last.me.0 in
    let known : IsKnown word view = meets.known c.gather.new.last.id view end.1.1 in
    let all = subst (All (AreSums word)) (ap (λ (m : _). m.0.engines) c.gather.ensures.view) known.0 in
    let from_zero : engine ≡ 0 + engine = omega arith in
    let place : place_of engine kind < 8 * c.args.self.engines = omega (arith, lt, kind_lt) in
    c.last_looks-looks.ensures.words (place_of engine kind) place
    ∙ ap (slice_index words) (word_of_place engine kind kind_lt)
    ∙ sym (ap (λ (ws : List ℕ). slice_index ws (word_of engine kind)) end.2)
    ∙ ap (λ (n : ℕ). word (word_of n kind)) from_zero
    ∙ sums_at word c.args.look.seat.me.0.engines 0 c.args.self.engines c.args.counts.items all c.requires.all engine kind lt kind_lt
