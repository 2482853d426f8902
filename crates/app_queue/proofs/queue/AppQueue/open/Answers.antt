use Rattle.std.proofs.Common.{ℕ, ◌+◌, ◌≤◌, ◌<◌, ◌^◌, ◌∙◌, ◌∷◌, [], sym, ap, subst, List, arith}
use Rattle.app_queue.specs.declared.view.QueueView.{QueueView}
use Rattle.app_queue.specs.Opening.{IsFirst}
use Rattle.app_queue.proofs.QueueSeats.{opens, zero_at_first}
use Rattle.app_queue.proofs.queue.AppQueue.open.Goals as goal

pub of_words-requires : goal.of_words-requires
of_words-requires c =
    let n : ℕ = c.args.items in
    let words : List ℕ = c.as_slice.result.now in
    let some : 0 < n = omega (arith, c.requires.0) in
    let low : c.args.start + n ≤ 2 ^ 62 = omega (arith, c.requires.1, c.requires.3) in
    opens n c.args.start words some c.requires.2 low (subst (IsFirst n c.args.start) (sym c.as_slice.ensures.value) c.in_ok-words.ensures)

pub returns-clause-zero : goal.returns-clause-zero
returns-clause-zero c s holds alone item lt =
    zero_at_first _ s holds (alone ∙ ap (λ (m : QueueView × List (ℕ × ℕ)). m.0 ∷ []) c.in_ok-table.ensures.4) item lt
