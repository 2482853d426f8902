use Rattle.std.proofs.Common.{◌≡◌, ◌∷◌, replicate}
use Rattle.unit_model.specs.Opening.{fresh_queue}
use Rattle.trace_check.proofs.effects.fresh_queues.Given as goal

abbrev pub invariant-loop : goal.invariant-loop
invariant-loop l = l.queues.items ≡ fresh_queue l.shape.start l.shape.items ∷ replicate l.counter (fresh_queue l.shape.start l.shape.back_items)
