use Rattle.std.proofs.Common.{rules, sym, subst}
use Rattle.unit_model.proofs.HeldSteps.{step_holds_right}
use Rattle.unit_model.proofs.StreamLaw.{keeps as keeps_streams}
use Rattle.unit_model.proofs.SoundRuns.{keeps_sound}
use Rattle.unit_model.specs.Holding.{IsHeldRight}
use Rattle.unit_model.specs.Running.{Enabled}
use Rattle.unit_model.specs.Soundness.{IsSound}
use Rattle.unit_model.specs.StreamCounts.{StreamCounts}
use Rattle.unit_model.specs.declared.machine.Core.{Core}
use Rattle.unit_model.proofs.steps.step_core.Goals as goal

pub returns-in-Ok-clause-held : goal.returns-in-Ok-clause-held
returns-in-Ok-clause-held c = λ held.
    let enabled : Enabled c.args.core.now c.args.step.now = search rules in
    subst (λ (core : Core). IsHeldRight core) (sym c.in-Ok.ensures.done) (step_holds_right c.args.core.now c.args.step.now held enabled)

pub returns-in-Ok-clause-streams : goal.returns-in-Ok-clause-streams
returns-in-Ok-clause-streams c = λ old.
    let enabled : Enabled c.args.core.now c.args.step.now = search rules in
    subst (λ (core : Core). StreamCounts core) (sym c.in-Ok.ensures.done) (keeps_streams c.args.core.now c.args.step.now old enabled)

pub returns-in-Ok-clause-sound : goal.returns-in-Ok-clause-sound
returns-in-Ok-clause-sound c = λ old.
    let enabled : Enabled c.args.core.now c.args.step.now = search rules in
    subst (λ (core : Core). IsSound core) (sym c.in-Ok.ensures.done) (keeps_sound c.args.core.now c.args.step.now old enabled)
