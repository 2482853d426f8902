use Rattle.std.proofs.Common.{sym, subst, take, ◌∙◌}
use Rattle.unit_model.specs.Soundness.{IsSound}
use Rattle.unit_model.specs.StreamCounts.{StreamCounts}
use Rattle.unit_model.proofs.Running.{run_one_more}
use Rattle.unit_model.proofs.SoundRuns.{sound_by_all, streams_by_all}
use Rattle.unit_model.proofs.steps.run_core.Goals as goal

pub loop-i-preserved : goal.loop-i-preserved
loop-i-preserved c =
    let both = run_one_more c.args.core.now c.loop-i.core c.step_core.new.core c.args.steps.now c.loop-i.i _ c.loop-i-test.true c.loop-i.invariant.enabled c.loop-i.invariant.done c.in_default.ensures.enabled c.in_default.ensures.done in
    record { enabled = both.0; done = both.1; held = λ first. c.step_core.ensures.held (c.loop-i.invariant.held first) }

pub returns-clause-streams : goal.returns-clause-streams
returns-clause-streams c = λ old.
    subst StreamCounts (sym c.loop-i.invariant.done) (streams_by_all c.args.core.now (take c.loop-i.i c.args.steps.now) old c.loop-i.invariant.enabled)

pub returns-in-Err-clause-streams : goal.returns-in-Err-clause-streams
returns-in-Err-clause-streams c = λ old.
    subst StreamCounts (sym (c.in-Err.ensures.kept ∙ c.loop-i.invariant.done)) (streams_by_all c.args.core.now (take c.loop-i.i c.args.steps.now) old c.loop-i.invariant.enabled)

pub returns-clause-sound : goal.returns-clause-sound
returns-clause-sound c = λ old.
    subst IsSound (sym c.loop-i.invariant.done) (sound_by_all c.args.core.now (take c.loop-i.i c.args.steps.now) old c.loop-i.invariant.enabled)

pub returns-in-Err-clause-sound : goal.returns-in-Err-clause-sound
returns-in-Err-clause-sound c = λ old.
    subst IsSound (sym (c.in-Err.ensures.kept ∙ c.loop-i.invariant.done)) (sound_by_all c.args.core.now (take c.loop-i.i c.args.steps.now) old c.loop-i.invariant.enabled)
