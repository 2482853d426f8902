use Rattle.std.proofs.Common.{ℕ}
use Rattle.unit_model.specs.declared.machine.Step.TheVariants.{Release}
use Rattle.plain_fabric.proofs.Lists.{one_more}
use Rattle.plain_fabric.proofs.schedule.release.Goals as goal

pub loop-chunk-preserved : goal.loop-chunk-preserved
loop-chunk-preserved c =
    one_more (λ (chunk : ℕ). Release c.args.seat c.args.run.segment chunk) c.loop-chunk.chunk c.args.steps.now.items c.loop-chunk.steps.items _ c.loop-chunk.invariant c.in_ok-push.ensures.items
