use Rattle.std.proofs.Common.{◌≡◌, ◌<◌, length, ap, arith}
use Rattle.trace_check.specs.Hands.{count_at, hand_of, same_hand}
use Rattle.trace_check.proofs.Held.{set_counts, weigh_small}
use Rattle.trace_check.proofs.items.Items.set.Goals as goal
use Rattle.unit_model.specs.Weights.{one_if}

pub give-requires : goal.give-requires
give-requires c = λ ne.
    let count = c.self.invariant c.of-to.result ne in
    omega (arith, count, weigh_small (λ item. same_hand c.of-to.result (hand_of item)) c.self.inside.values.items)

pub invariant_of-self-2 : goal.invariant_of-self-2
invariant_of-self-2 c = λ hand ne.
    let items = c.self.inside.values.items in
    let within : c.args.item < length items = omega arith in
    let moved = c.in_ok-give.ensures.ok hand ne in
    let of_new : one_if (same_hand hand c.of-to.result) ≡ one_if (same_hand hand (hand_of c.args.new)) = ap (λ h. one_if (same_hand hand h)) c.of-to.ensures in
    let of_old : one_if (same_hand hand c.of-from.result) ≡ one_if (same_hand hand (hand_of c.index.result.now)) = ap (λ h. one_if (same_hand hand h)) c.of-from.ensures in
    set_counts hand items c.args.item c.index.result.now c.args.new (count_at c.self.inside.hands hand) (count_at c.give.new.hands hand) within c.index.ensures
    (c.self.invariant hand ne) (rw (← of_new, ← of_old) moved)
