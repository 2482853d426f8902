use Rattle.std.proofs.Common.{◌≡◌, ◌+◌, ◌∙◌, ◌∷◌, ◌++◌, [], List, map, arith, sym, subst}
use Rattle.std.specs.List.{All, range_with_len}
use Rattle.std.proofs.lemmas.List.Elements.{All-append, All-cons, All-nil}
use Rattle.fabric_rule.specs.Opening.{fresh_ledger}
use Rattle.port_fabric.specs.Seats.{IsEngineOf, account}
use Rattle.port_fabric.specs.declared.seats.EngineSeat.{EngineSeat}
use Rattle.port_fabric.proofs.Accounts.{one_more}
use Rattle.port_fabric.proofs.fabric.Fabric.engine_seats.Goals as goal

pub loop-number-preserved : goal.loop-number-preserved
loop-number-preserved g c =
    let inv = c.loop-number.invariant in
    let before : List (EngineSeat g.row.H.Denot g.H.Handlers) = c.loop-number.seats.items in
    let seat = c.engine_seat.result in
    let Of : EngineSeat g.row.H.Denot g.H.Handlers → Type 0 = IsEngineOf c.args.self.now in
    let all : All Of (before ++ seat ∷ []) = All-append Of before (seat ∷ []) inv.3 (All-cons Of seat [] c.engine_seat.ensures.own.1 (All-nil Of)) in
    let accounts : map account (before ++ seat ∷ []) ≡ map fresh_ledger (range_with_len 0 (c.loop-number.number + 1)) =
    one_more account fresh_ledger before seat 0 c.loop-number.number c.loop-number.number inv.4 (omega arith) c.engine_seat.ensures.fresh in (
      omega (arith, c.loop-number-test.true),
      c.engine_seat.ensures.own.0 ∙ inv.1,
      c.engine_seat.ensures.from,
      subst (λ (seats : List (EngineSeat g.row.H.Denot g.H.Handlers)). All Of seats) {x = before ++ seat ∷ []} {y = c.push.new.self.items} (sym c.in_ok-push.ensures.items) all,
      subst (λ (seats : List (EngineSeat g.row.H.Denot g.H.Handlers)). map account seats ≡ map fresh_ledger (range_with_len 0 (c.loop-number.number + 1))) {x = before ++ seat ∷ []} {y = c.push.new.self.items} (sym c.in_ok-push.ensures.items) accounts,
    )
