use Rattle.std.proofs.Common.{ℕ, ◌-◌, ◌≡◌, ◌+◌, ◌∙◌, ◌∷◌, ◌++◌, [], List, map, ap, arith, sym, subst}
use Rattle.std.specs.List.{All, range_with_len}
use Rattle.std.proofs.lemmas.List.Elements.{All-append, All-cons, All-nil}
use Rattle.unit_model.specs.declared.shape.Shape.{Shape}
use Rattle.fabric_rule.specs.Opening.{fresh_ledger}
use Rattle.port_fabric.specs.Seats.{IsWorkerOf, worker_account, shape_of}
use Rattle.port_fabric.specs.declared.seats.WorkerSeat.{WorkerSeat}
use Rattle.port_fabric.proofs.Accounts.{one_more}
use Rattle.port_fabric.proofs.fabric.Fabric.worker_seats.Goals as goal

pub loop-number-preserved : goal.loop-number-preserved
loop-number-preserved g c =
    let inv = c.loop-number.invariant in
    let before : List (WorkerSeat g.row.H.Denot g.H.Handlers) = c.loop-number.seats.items in
    let seat = c.worker_seat.result in
    let Of : WorkerSeat g.row.H.Denot g.H.Handlers → Type 0 = IsWorkerOf c.args.self.now in
    let engines = (shape_of c.args.self.now).engines in
    let said : c.shape-shape.result ≡ shape_of c.args.self.now = c.shape-shape.ensures ∙ c.args.self.now.same in
    let many : c.shape-shape.result.engines + c.shape-shape.result.workers ≡ (shape_of c.args.self.now).engines + (shape_of c.args.self.now).workers =
    ap (λ (s : Shape). s.engines + s.workers) said in
    let all : All Of (before ++ seat ∷ []) = All-append Of before (seat ∷ []) inv.4 (All-cons Of seat [] c.worker_seat.ensures.own.1 (All-nil Of)) in
    let more : c.loop-number.number - engines + 1 ≡ c.loop-number.number + 1 - engines = omega (arith, inv.0) in
    let accounts : map worker_account (before ++ seat ∷ []) ≡ map fresh_ledger (range_with_len engines (c.loop-number.number - engines + 1)) =
    one_more worker_account fresh_ledger before seat engines (c.loop-number.number - engines) c.loop-number.number inv.5 (omega (arith, inv.0)) c.worker_seat.ensures.fresh in
    let same : map worker_account (before ++ seat ∷ []) ≡ map fresh_ledger (range_with_len engines (c.loop-number.number + 1 - engines)) =
    subst (λ (n : ℕ). map worker_account (before ++ seat ∷ []) ≡ map fresh_ledger (range_with_len engines n)) more accounts in (
      omega (arith, inv.0),
      omega (arith, c.loop-number-test.true, many),
      c.worker_seat.ensures.own.0 ∙ inv.2,
      c.worker_seat.ensures.from,
      subst (λ (seats : List (WorkerSeat g.row.H.Denot g.H.Handlers)). All Of seats) {x = before ++ seat ∷ []} {y = c.push.new.self.items} (sym c.in_ok-push.ensures.items) all,
      subst (λ (seats : List (WorkerSeat g.row.H.Denot g.H.Handlers)). map worker_account seats ≡ map fresh_ledger (range_with_len engines (c.loop-number.number + 1 - engines))) {x = before ++ seat ∷ []} {y = c.push.new.self.items} (sym c.in_ok-push.ensures.items) same,
    )
