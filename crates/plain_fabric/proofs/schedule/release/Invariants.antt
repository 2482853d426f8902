use Rattle.std.proofs.Common.{◌≡◌, ℕ, ◌++◌, map}
use Rattle.std.specs.List.{range_with_len}
use Rattle.unit_model.specs.declared.machine.Step.TheVariants.{Release}
use Rattle.plain_fabric.proofs.schedule.release.Given as goal

abbrev pub invariant-loop-chunk : goal.invariant-loop-chunk
invariant-loop-chunk l = l.steps.items ≡ l.fn.steps.items ++ map (λ (chunk : ℕ). Release l.seat l.run.segment chunk) (range_with_len 0 l.chunk)
