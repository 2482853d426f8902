use Rattle.std.proofs.Common.{arith, sym, ◌∙◌}
use Rattle.conf_validate.proofs.SearchLemmas.{both_end, is_greater, is_less, is_same, name_ends, text_ends}
use Rattle.conf_validate.proofs.search.compare.Goals as goal

pub returns-in_default : goal.returns-in_default
returns-in_default g c bytes yields =
    sym (text_ends g.I.Iterator.next_gives c.args.name.now bytes c.loop-byte.byte-index c.loop-byte.text c.next.new.self (c.loop-byte.invariant.passed bytes yields) c.in_default.ensures.steps (omega (arith, c.loop-byte-test.true)))

pub returns-in-Less : goal.returns-in-Less
returns-in-Less g c bytes yields =
    sym (is_less g.I.Iterator.next_gives c.args.name.now bytes c.loop-byte.byte-index c.in-Some.other c.loop-byte.text c.next.new.self (c.loop-byte.invariant.passed bytes yields) c.in-Some.ensures.steps (omega (arith, c.loop-byte-test.true)) (sym c.cmp.ensures ∙ c.in-Less.is))

pub returns-in-Greater : goal.returns-in-Greater
returns-in-Greater g c bytes yields =
    sym (is_greater g.I.Iterator.next_gives c.args.name.now bytes c.loop-byte.byte-index c.in-Some.other c.loop-byte.text c.next.new.self (c.loop-byte.invariant.passed bytes yields) c.in-Some.ensures.steps (omega (arith, c.loop-byte-test.true)) (sym c.cmp.ensures ∙ c.in-Greater.is))

pub loop-byte-preserved : goal.loop-byte-preserved
loop-byte-preserved g c =
    let goes = c.in-Some.ensures.goes.on c.loop-byte.invariant.ends in
    record {
      can = goes.0;
      ends = goes.1;
      passed = λ bytes yields. is_same g.I.Iterator.next_gives c.args.name.now bytes c.loop-byte.byte-index c.in-Some.other c.loop-byte.text c.next.new.self (c.loop-byte.invariant.passed bytes yields) c.in-Some.ensures.steps (omega (arith, c.loop-byte-test.true)) (sym c.cmp.ensures ∙ c.in-Equal.is);
    }

pub returns-in-Some-next : goal.returns-in-Some-next
returns-in-Some-next g c bytes yields =
    sym (name_ends g.I.Iterator.next_gives c.args.name.now bytes c.loop-byte.byte-index c.in-Some-next.field-0 c.loop-byte.text c.next-2.new.self (c.loop-byte.invariant.passed bytes yields) c.in-Some-next.ensures.steps (omega (arith, c.loop-byte-test.false)))

pub returns-in-None : goal.returns-in-None
returns-in-None g c bytes yields =
    sym (both_end g.I.Iterator.next_gives c.args.name.now bytes c.loop-byte.byte-index c.loop-byte.text c.next-2.new.self (c.loop-byte.invariant.passed bytes yields) c.in-None.ensures.steps (omega (arith, c.loop-byte-test.false)))
