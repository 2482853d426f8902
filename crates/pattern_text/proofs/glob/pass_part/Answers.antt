use Rattle.std.proofs.Common.{arith}
use Rattle.pattern_text.proofs.GlobLemmas.{text_ended, text_differs, text_goes_on, both_ended, passed_one_more}
use Rattle.pattern_text.proofs.glob.pass_part.Goals as goal

pub returns-in_default-clause-front : goal.returns-in_default-clause-front
returns-in_default-clause-front g c bytes yields =
    text_ended g.I.Iterator.next_gives c.args.case c.args.pattern.now bytes c.loop-at.at c.loop-at.text c.next.new.self (c.loop-at.invariant.begun bytes yields) c.in_default.ensures.steps (omega arith) c.if-wanted-eq42.false

pub returns-then-fold-clause-front : goal.returns-then-fold-clause-front
returns-then-fold-clause-front g c bytes yields =
    let differs = rw (c.fold.ensures, c.fold-in-loop-at.ensures) at c.if-fold.true in
    text_differs g.I.Iterator.next_gives c.args.case c.args.pattern.now bytes c.loop-at.at c.loop-at.text c.in-Some.byte c.next.new.self (c.loop-at.invariant.begun bytes yields) c.in-Some.ensures.steps (omega arith) c.if-wanted-eq42.false differs

pub loop-at-preserved : goal.loop-at-preserved
loop-at-preserved g c =
    let same = rw (c.fold.ensures, c.fold-in-loop-at.ensures) at c.if-fold.false in
    let goes = c.in-Some.ensures.goes.on c.loop-at.invariant.ends in
    record {
      can = goes.0;
      ends = goes.1;
      nearer = omega (arith, goes.2, c.loop-at.invariant.nearer);
      begun = λ bytes yields. passed_one_more g.I.Iterator.next_gives c.args.case c.args.pattern.now bytes c.loop-at.at c.loop-at.text c.in-Some.byte c.next.new.self (c.loop-at.invariant.begun bytes yields) c.in-Some.ensures.steps (omega arith) c.if-wanted-eq42.false same;
    }

pub returns-in-Some-next-clause-front : goal.returns-in-Some-next-clause-front
returns-in-Some-next-clause-front g c bytes yields =
    text_goes_on g.I.Iterator.next_gives c.args.case c.args.pattern.now bytes c.loop-at.at c.loop-at.text c.in-Some-next.field-0 c.next-2.new.self (c.loop-at.invariant.begun bytes yields) c.in-Some-next.ensures.steps (omega arith)

pub returns-in-None-clause-front : goal.returns-in-None-clause-front
returns-in-None-clause-front g c bytes yields =
    both_ended g.I.Iterator.next_gives c.args.case c.args.pattern.now bytes c.loop-at.at c.loop-at.text c.next-2.new.self (c.loop-at.invariant.begun bytes yields) c.in-None.ensures.steps (omega arith)
