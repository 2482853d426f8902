use Rattle.std.proofs.Common.{rules, subst, sym}
use Rattle.fabric_rule.specs.Drawing.{with_drawn}
use Rattle.fabric_rule.specs.Opening.{ledger_of}
use Rattle.fabric_rule.specs.SegmentMaps.{MayTakeChunks}
use Rattle.fabric_rule.specs.Turns.{MayGet}
use Rattle.fabric_rule.specs.declared.event.Segments.TheVariants.{Out}
use Rattle.fabric_rule.proofs.TurnsTold.{drawn_may}
use Rattle.fabric_rule.proofs.tests.turns.has_drawn.Goals as goal

pub returns-clause-drew : goal.returns-clause-drew
returns-clause-drew c drew =
    let key = c.args.table.now.table.shared.key in
    let v = c.args.engine.now.seat.me.0 in
    subst (λ u. MayGet key 0 u × MayTakeChunks key Out u) (sym (c.draw.ensures.told.won (search rules)))
    (drawn_may key c.args.stream (ledger_of v) v c.requires.engine)
