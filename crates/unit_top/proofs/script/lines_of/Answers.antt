use Rattle.std.proofs.Common.{◌∙◌, ◌++◌, ap, sym, take, get_or, List, ℕ}
use Rattle.std.proofs.lemmas.List.{take_more}
use Rattle.trace_check.specs.Traces as lines
use Rattle.unit_model.specs.Lines.{line_of}
use Rattle.unit_model.specs.declared.machine.Step.TheVariants.{Draw}
use Rattle.unit_top.proofs.ScriptLemmas.{line_more}
use Rattle.unit_top.proofs.script.lines_of.Goals as goal

pub loop-step-preserved : goal.loop-step-preserved
loop-step-preserved c =
    let steps = c.args.steps.now in
    let step = get_or steps c.loop-step.step-index (Draw 0 0) in
    c.in_ok-step_line.ensures.ok ∙ ap (λ (text : List ℕ). text ++ line_of step) c.loop-step.invariant
    ∙ sym (line_more (take c.loop-step.step-index steps) step) ∙ ap lines.trace_of (sym (take_more steps c.loop-step.step-index (Draw 0 0) c.loop-step-test.true))
