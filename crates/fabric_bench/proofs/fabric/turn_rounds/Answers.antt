use Rattle.std.proofs.Common.{◌≡◌, ◌∙◌, ◌==◌, ℕ, ap, refl, arith}
use Rattle.fabric_rule.proofs.TurnsTold.{works_get, works_on}
use Rattle.fabric_bench.proofs.fabric.turn_rounds.Goals as goal

pub loop-round-init : goal.loop-round-init
loop-round-init c = record {
  own = c.args.engine.own;
  may = record { busy = c.args.engine.works; fills = ap (λ (role : ℕ). role == 0) c.args.engine.role };
}

pub loop-round-preserved : goal.loop-round-preserved
loop-round-preserved c =
    let old = c.loop-round.seat.seat.me.0 in
    let got = c.get_item_turn.new.seat.seat.me.0 in
    let given = c.give_turn.new.seat.seat.me.0 in
    record {
      own = c.give_turn.ensures.own ∙ c.get_item_turn.ensures.own ∙ c.loop-round.invariant.own;
      may = works_get c.args.engine.table.table.shared.key 0 old given (works_on old got given c.get_item_turn.ensures.told.works (c.give_turn.ensures.told.works refl)) c.loop-round.invariant.may;
    }
