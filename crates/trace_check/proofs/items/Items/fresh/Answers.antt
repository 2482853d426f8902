use Rattle.std.proofs.Common.{◌≡◌, ◌∙◌, sym, ap, refl}
use Rattle.trace_check.specs.Hands.{count_at, hand_of, same_hand}
use Rattle.trace_check.proofs.Held.{free_counts}
use Rattle.trace_check.proofs.items.Items.fresh.Goals as goal
use Rattle.unit_model.specs.Weights.{weigh, one_if}

pub invariant_of-result : goal.invariant_of-result
invariant_of-result c = λ hand ne.
    let none : count_at c.new.result hand ≡ 0 = rw c.new.ensures.empty refl in
    none ∙ sym (free_counts hand c.args.count ne) ∙ ap (weigh (λ item. one_if (same_hand hand (hand_of item)))) (sym c.in_ok-blanks.ensures)
