use Rattle.std.proofs.Common.{take, subst, sym, ◌∙◌, arith}
use Rattle.std.proofs.lemmas.List.{take_more}
use Rattle.unit_model.specs.declared.machine.Step.TheVariants.{Draw}
use Rattle.plain_fabric.specs.Stepping.{MakesAll}
use Rattle.plain_fabric.proofs.Making.{makes_on, makes_one, placed_at}
use Rattle.plain_fabric.proofs.words.make_all.Goals as goal

pub make-requires : goal.make-requires
make-requires c =
    (placed_at c.args.layout.now.shape c.args.steps.now c.loop-step.step-index (Draw 0 0) c.requires.0 c.loop-step-test.true, omega (arith, c.requires.1, c.loop-step.invariant.long))

pub loop-step-preserved : goal.loop-step-preserved
loop-step-preserved c =
    let shape = c.args.layout.now.shape in
    let steps = c.args.steps.now in
    let more = take_more steps c.loop-step.step-index (Draw 0 0) c.loop-step-test.true in
    record {
      made = subst (MakesAll shape c.args.words.now c.make.new.words) (sym more)
          (makes_on shape c.args.words.now c.loop-step.words c.make.new.words (take c.loop-step.step-index steps) _ c.loop-step.invariant.made
          (makes_one shape c.loop-step.words c.make.new.words _ c.make.ensures.shows));
      long = c.make.ensures.long ∙ c.loop-step.invariant.long;
    }
