use Rattle.std.proofs.Common.{◌≡◌, ◌+◌, ◌-◌, ◌∙◌, ◌||◌, ap, sym, drop, arith, drop-drop, length-drop}
use Rattle.std.proofs.lemmas.List.{take_rest}
use Rattle.http_front.specs.Message.{is_close, lists_close}
use Rattle.http_front.proofs.ClosingLemmas.{lists_at, lists_whole}
use Rattle.http_front.proofs.closing.lists_close.Goals as goal

pub returns-then-is_close : goal.returns-then-is_close
returns-then-is_close c =
    let place = rw (take_rest c.args.value.now c.loop-len.start) at c.in-Some.ensures.place in
    let same : c.loop-len.start + c.in-Some.len - c.loop-len.start ≡ c.in-Some.len = omega arith in
    let close = rw same at (sym c.is_close.ensures ∙ c.if-is_close.true) in
    sym (c.loop-len.invariant.passed ∙ lists_at (drop c.loop-len.start c.args.value.now) c.in-Some.len place
    ∙ ap (λ b. b || lists_close (drop (c.in-Some.len + 1) (drop c.loop-len.start c.args.value.now))) close)

pub loop-len-preserved : goal.loop-len-preserved
loop-len-preserved c =
    let place = rw (take_rest c.args.value.now c.loop-len.start) at c.in-Some.ensures.place in
    let within = rw (take_rest c.args.value.now c.loop-len.start) at c.in-Some.ensures.within in
    let same : c.loop-len.start + c.in-Some.len - c.loop-len.start ≡ c.in-Some.len = omega arith in
    let other = rw same at (sym c.is_close.ensures ∙ c.if-is_close.false) in
    record {
      fits = omega (arith, within, length-drop c.loop-len.start c.args.value.now);
      passed = c.loop-len.invariant.passed ∙ lists_at (drop c.loop-len.start c.args.value.now) c.in-Some.len place
          ∙ ap (λ b. b || lists_close (drop (c.in-Some.len + 1) (drop c.loop-len.start c.args.value.now))) other
          ∙ ap lists_close (drop-drop (c.in-Some.len + 1) c.loop-len.start c.args.value.now);
    }

pub returns : goal.returns
returns c =
    let place = rw (take_rest c.args.value.now c.loop-len.start) at c.in_default.ensures.place in
    c.is_close-2.ensures ∙ ap is_close (take_rest c.args.value.now c.loop-len.start)
    ∙ sym (c.loop-len.invariant.passed ∙ lists_whole (drop c.loop-len.start c.args.value.now) place)
