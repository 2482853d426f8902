use Rattle.std.proofs.Common.{arith, length-append}
use Rattle.trace_check.proofs.checker.Checker.feed.Goals as goal

pub returns-in-Ok-clause-fed : goal.returns-in-Ok-clause-fed
returns-in-Ok-clause-fed c = λ bytes has. record {
  whole = has.whole;
  count = omega (arith, has.count, length-append bytes c.args.piece.now);
  stands = c.in-Ok.ensures.stands bytes has.stands;
}
