use Rattle.std.proofs.Common.{arith}
use Rattle.std.proofs.lemmas.Bool.Decides.{nat_tests}
use Rattle.pattern_text.specs.Case.{folded_all}
use Rattle.pattern_text.specs.TextPattern.{text_matches, some_end}
use Rattle.pattern_text.proofs.GlobLemmas.{answer_at_whole, answer_at_empty, answer_at_end, awaits_next, awaits_behind_part}
use Rattle.pattern_text.proofs.glob.matches_some_end.Goals as goal

pub returns-in-Whole : goal.returns-in-Whole
returns-in-Whole g c bytes yields =
    let awaits = c.loop-pattern.invariant.awaits bytes yields in
    answer_at_whole g.I.Iterator.next_gives c.args.case (some_end (text_matches (folded_all c.args.case c.args.pattern.now)) (folded_all c.args.case bytes)) c.loop-pattern.pattern.now c.loop-pattern.text awaits (c.in-Whole.ensures.front awaits.0 awaits.1)

pub loop-pattern-preserved-in-Star : goal.loop-pattern-preserved-in-Star
loop-pattern-preserved-in-Star g c = record {
  can = c.in-Star.ensures.nearer.0;
  ends = c.in-Star.ensures.nearer.1;
  awaits = λ bytes yields.
      let awaits = c.loop-pattern.invariant.awaits bytes yields in
      awaits_behind_part g.I.Iterator.next_gives c.args.case (some_end (text_matches (folded_all c.args.case c.args.pattern.now)) (folded_all c.args.case bytes)) c.loop-pattern.pattern.now c.in-Star.rest.now c.loop-pattern.text c.in-Star.after awaits (c.in-Star.ensures.front awaits.0 awaits.1);
}

pub returns : goal.returns
returns g c bytes yields =
    answer_at_empty g.I.Iterator.next_gives c.args.case (some_end (text_matches (folded_all c.args.case c.args.pattern.now)) (folded_all c.args.case bytes)) c.loop-pattern.pattern.now c.loop-pattern.text (grind (arith, nat_tests)) (c.loop-pattern.invariant.awaits bytes yields)

pub loop-pattern-preserved : goal.loop-pattern-preserved
loop-pattern-preserved g c =
    let goes = c.in-Some.ensures.goes.on c.loop-pattern.invariant.ends in
    record {
      can = goes.0;
      ends = goes.1;
      awaits = λ bytes yields.
          let awaits = c.loop-pattern.invariant.awaits bytes yields in
          awaits_next g.I.Iterator.next_gives c.args.case (some_end (text_matches (folded_all c.args.case c.args.pattern.now)) (folded_all c.args.case bytes)) c.loop-pattern.pattern.now c.loop-pattern.text c.in-Some.field-0 c.next.new.self awaits (c.in-Differs.ensures.front awaits.0 awaits.1) c.in-Some.ensures.steps;
    }

pub returns-in-None : goal.returns-in-None
returns-in-None g c bytes yields =
    let awaits = c.loop-pattern.invariant.awaits bytes yields in
    answer_at_end g.I.Iterator.next_gives c.args.case (some_end (text_matches (folded_all c.args.case c.args.pattern.now)) (folded_all c.args.case bytes)) c.loop-pattern.pattern.now c.loop-pattern.text c.next.new.self awaits (c.in-Differs.ensures.front awaits.0 awaits.1) c.in-None.ensures.steps
