use Rattle.std.proofs.Common.{arith}
use Rattle.std.proofs.lemmas.List.{take_rest}
use Rattle.http_front.specs.Front.{blank_len}
use Rattle.http_front.proofs.BlockLemmas.{blank_past}
use Rattle.http_front.proofs.lines.blank_len.Goals as goal

pub returns-then-step-eq0-clause-value : goal.returns-then-step-eq0-clause-value
returns-then-step-eq0-clause-value c =
    let none = rw (take_rest c.args.bytes.now c.loop-at.at) at (c.empty_line_len-step.ensures.none c.if-step-eq0.true) in
    omega (arith, none, c.loop-at.invariant.passed)

pub returns-clause-value : goal.returns-clause-value
unfolding blank_len
returns-clause-value c =
    let none = blank_past c.loop-at.at c.args.bytes.now (omega arith) in
    omega (arith, none, c.loop-at.invariant.passed)
