use Rattle.std.proofs.Common.{◌≡◌, ◌+◌, ◌-◌, ◌∙◌, suc, sym, arith}
use Rattle.route_match.specs.declared.walk.Progress.TheVariants.{Ends, Passes}
use Rattle.route_match.specs.Target.{goal_of}
use Rattle.route_match.proofs.WalkLemmas.{ends, goes_on}
use Rattle.route_match.proofs.walk.walk.Goals as goal

pub returns-in-Ends : goal.returns-in-Ends
returns-in-Ends c =
    let conf = c.args.conf.now in
    let request = c.args.request.now in
    let left : 255 - c.loop.counter ≡ suc (255 - (c.loop.counter + 1)) = omega (arith, c.loop-test.true) in
    sym (c.loop.invariant ∙ goes_on (goal_of conf request) conf request (255 - c.loop.counter) (255 - (c.loop.counter + 1)) c.loop.step c.loop.goal (Ends c.in-Ends.outcome) left (sym c.in-Ends.is ∙ c.advance.ensures))

pub loop-preserved : goal.loop-preserved
loop-preserved c =
    let conf = c.args.conf.now in
    let request = c.args.request.now in
    let left : 255 - c.loop.counter ≡ suc (255 - (c.loop.counter + 1)) = omega (arith, c.loop-test.true) in
    c.loop.invariant ∙ goes_on (goal_of conf request) conf request (255 - c.loop.counter) (255 - (c.loop.counter + 1)) c.loop.step c.loop.goal (Passes c.in-Passes.taken c.in-Passes.next) left (sym c.in-Passes.is ∙ c.advance.ensures)

pub returns : goal.returns
returns c =
    let conf = c.args.conf.now in
    let request = c.args.request.now in
    c.refused.ensures ∙ sym (c.loop.invariant ∙ ends (goal_of conf request) conf request (255 - c.loop.counter) c.loop.step c.loop.goal (omega (arith, c.loop-test.false)))
