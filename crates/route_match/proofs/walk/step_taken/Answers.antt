use Rattle.std.proofs.Common.{◌≡◌, ◌+◌, ◌<◌, ◌∙◌, sym, ap, drop, length, arith}
use Rattle.route_match.proofs.WalkLemmas.{among_all, from_index, matches_here, matches_later}
use Rattle.route_match.proofs.walk.step_taken.Goals as goal

pub returns-then-request_matches : goal.returns-then-request_matches
returns-then-request_matches c =
    let all = c.args.conf.now.steps in
    let steps = c.in_ok-steps.steps.now in
    let at = c.loop-at.at in
    let step = c.index-steps-at.result in
    let below : at < c.args.count = omega (arith, c.loop-at.invariant.within, c.if-at-count.false) in
    let here = matches_here c.args.request.now steps (c.args.first + at) at c.args.count step c.loop-at-test.true below c.index-steps-at.is (sym c.request_matches.ensures ∙ c.if-request_matches.true) in
    let whole : c.steps.result.now ≡ all = c.steps.ensures in
    let are : steps ≡ drop c.args.first all = c.in_ok-steps.ensures.lookup.0.2 ∙ from_index c.steps.result.now c.args.first ∙ ap (drop c.args.first) whole in
    (c.loop-at.invariant.left ∙ here, among_all all steps c.args.first at step are (c.in_ok-steps.ensures.lookup.0.3 ∙ ap length whole) c.loop-at-test.true c.index-steps-at.is)

pub loop-at-preserved : goal.loop-at-preserved
loop-at-preserved c =
    let steps = c.in_ok-steps.steps.now in
    let at = c.loop-at.at in
    let below : at < c.args.count = omega (arith, c.loop-at.invariant.within, c.if-at-count.false) in
    let later = matches_later c.args.request.now steps (c.args.first + at) (c.args.first + (at + 1)) at c.args.count c.index-steps-at.result (omega arith) c.loop-at-test.true below c.index-steps-at.is (sym c.request_matches.ensures ∙ c.if-request_matches.false) in
    record {
      within = omega (arith, below);
      left = c.loop-at.invariant.left ∙ later;
    }
