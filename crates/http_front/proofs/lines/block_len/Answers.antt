use Rattle.std.proofs.Common.{◌≡◌, ◌+◌, ◌-◌, ◌∙◌, refl, sym, ap, length, take, drop, arith, length-take-le}
use Rattle.std.proofs.lemmas.List.{take_rest}
use Rattle.std.specs.Option.{option_map}
use Rattle.http_front.specs.Front.{block_len, block_in}
use Rattle.http_front.proofs.BlockLemmas.{block_line}
use Rattle.http_front.proofs.lines.block_len.Goals as goal

pub returns-then-is_empty_line-clause-value : goal.returns-then-is_empty_line-clause-value
unfolding block_len
returns-then-is_empty_line-clause-value c =
    let first = rw (take_rest c.args.bytes.now c.loop-len.at) at c.in-Some.ensures.first in
    let within = rw (take_rest c.args.bytes.now c.loop-len.at) at c.in-Some.ensures.within in
    let same : c.loop-len.at + c.in-Some.len - c.loop-len.at ≡ c.in-Some.len = omega arith in
    let empty = rw same at (sym c.is_empty_line.ensures ∙ c.if-is_empty_line.true) in
    let long : length (take c.in-Some.len (drop c.loop-len.at c.args.bytes.now)) ≡ c.in-Some.len =
    length-take-le c.in-Some.len (drop c.loop-len.at c.args.bytes.now) (omega (arith, within)) in
    sym ((block_line c.loop-len.at (c.in-Some.len + 1) c.in-Some.len c.args.bytes.now (take c.in-Some.len (drop c.loop-len.at c.args.bytes.now))
    first long refl c.loop-len.invariant.passed).0 empty)

pub returns-clause-value : goal.returns-clause-value
unfolding block_len
returns-clause-value c =
    let none = rw (take_rest c.args.bytes.now c.loop-len.at) at c.in_default.ensures.none in
    sym (c.loop-len.invariant.passed ∙ ap (λ ls. option_map (λ k. c.loop-len.at + k) (block_in ls)) none)
