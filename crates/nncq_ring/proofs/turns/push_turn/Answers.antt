use Rattle.std.proofs.Common.{rules, ℕ, ◌≡◌, ◌+◌, ◌/◌, ◌<◌, ◌≤◌, subst, ap, inl, inr, List}
use mathlib.Core.Option.{some}
use lib.ListN.{get_elem?}
use Rattle.nncq_ring.specs.declared.view.RingEvent.{RingEvent}
use Rattle.nncq_ring.specs.declared.view.RingEvent.TheVariants.{SawTail, SawEntry}
use Rattle.nncq_ring.specs.Turns.{IsDone, IsPushLost, Tells}
use Rattle.nncq_ring.proofs.Turning.{newest, second_newest, put_shows, done, lost_filled, lost_later, lost_exchange}
use Rattle.nncq_ring.proofs.turns.push_turn.Goals as goal

pub put-requires-clause-may : goal.put-requires-clause-may
put-requires-clause-may g c =
    let s = g.T.RingSteps in
    let keep = g.met.T.RingSteps.looks_keep c.args.ring.now in
    keep (SawEntry c.see_tail-tail.result c.see_entry-entry.result) c.args.v (s.knows c.see_tail-tail.new.seat) (s.knows c.see_entry-entry.new.seat) tt c.see_entry-entry.ensures.view
    (keep (SawTail c.see_tail-tail.result) c.args.v (s.knows c.args.seat.now) (s.knows c.see_tail-tail.new.seat) tt c.see_tail-tail.ensures.view c.requires.may)

pub put-requires-clause-seen : goal.put-requires-clause-seen
put-requires-clause-seen g c =
    let s = g.T.RingSteps in
    let ring = c.args.ring.now in
    second_newest s.View (s.events ring) (s.steps ring) (g.met.T.RingSteps.logs ring) (SawEntry c.see_tail-tail.result c.see_entry-entry.result) (SawTail c.see_tail-tail.result)
    (s.knows c.args.seat.now) (s.knows c.see_tail-tail.new.seat) (s.knows c.see_entry-entry.new.seat) c.see_tail-tail.ensures.view c.see_entry-entry.ensures.view

pub move_tail-requires-clause-shown : goal.move_tail-requires-clause-shown
move_tail-requires-clause-shown g c =
    let s = g.T.RingSteps in
    let ring = c.args.ring.now in
    put_shows s.View (s.events ring) (s.steps ring) (g.met.T.RingSteps.logs ring) (s.slots ring) c.see_tail-tail.result c.args.v (s.knows c.see_entry-entry.new.seat) (s.knows c.put.new.seat)
    (c.put.ensures.won c.if-put-entry.true).0

pub move_tail-requires-in-Filled-clause-shown : goal.move_tail-requires-in-Filled-clause-shown
move_tail-requires-in-Filled-clause-shown g c =
    let s = g.T.RingSteps in
    let ring = c.args.ring.now in
    let has : c.see_entry-entry.result / s.slots ring ≡ c.see_tail-tail.result / s.slots ring = search rules in
    inr (
      c.see_entry-entry.result,
      newest s.View (s.events ring) (s.steps ring) (g.met.T.RingSteps.logs ring) (SawEntry c.see_tail-tail.result c.see_entry-entry.result) (s.knows c.see_tail-tail.new.seat) (s.knows c.see_entry-entry.new.seat) c.see_entry-entry.ensures.view,
      has,
    )

pub returns-in-Vacant-clause-done : goal.returns-in-Vacant-clause-done
returns-in-Vacant-clause-done g c place is =
    let s = g.T.RingSteps in
    let ring = c.args.ring.now in
    let n : ℕ = s.slots ring in
    let v = s.knows c.args.seat.now in
    let same : c.see_tail-tail.result ≡ place = cc is in
    subst (λ (p : ℕ). Tells (s.steps ring) v (s.knows c.move_tail.new.seat) (IsDone n c.args.v (s.events ring v) p)) same
    (done s.View (s.events ring) (s.steps ring) (g.met.T.RingSteps.logs ring) n c.see_tail-tail.result c.see_entry-entry.result (search rules) v (s.knows c.see_tail-tail.new.seat) (s.knows c.see_entry-entry.new.seat)
    c.see_tail-tail.ensures.was c.see_tail-tail.ensures.view c.see_entry-entry.ensures.view c.see_entry-entry.ensures.was c.args.v (s.knows c.put.new.seat) (s.knows c.move_tail.new.seat) (search rules) (c.put.ensures.won c.if-put-entry.true) c.move_tail.ensures.view)

pub returns-in-Filled-clause-lost : goal.returns-in-Filled-clause-lost
returns-in-Filled-clause-lost g c place entry is =
    let s = g.T.RingSteps in
    let ring = c.args.ring.now in
    let n : ℕ = s.slots ring in
    let v = s.knows c.args.seat.now in
    let same : c.see_tail-tail.result ≡ place = cc is in
    let same' : c.see_entry-entry.result ≡ entry = cc is in
    subst (λ (x : ℕ). Tells (s.steps ring) v (s.knows c.move_tail-in-Filled.new.seat) (IsPushLost n (s.events ring v) place x)) same' (subst (λ (p : ℕ). Tells (s.steps ring) v (s.knows c.move_tail-in-Filled.new.seat) (IsPushLost n (s.events ring v) p c.see_entry-entry.result)) same
    (lost_filled s.View (s.events ring) (s.steps ring) (g.met.T.RingSteps.logs ring) n c.see_tail-tail.result c.see_entry-entry.result (search rules) v (s.knows c.see_tail-tail.new.seat) (s.knows c.see_entry-entry.new.seat)
    c.see_tail-tail.ensures.was c.see_tail-tail.ensures.view c.see_entry-entry.ensures.view c.see_entry-entry.ensures.was (s.knows c.move_tail-in-Filled.new.seat) (search rules) c.move_tail-in-Filled.ensures.view))

pub returns-in_default-clause-lost : goal.returns-in_default-clause-lost
returns-in_default-clause-lost g c place entry is =
    let s = g.T.RingSteps in
    let ring = c.args.ring.now in
    let n : ℕ = s.slots ring in
    let v = s.knows c.args.seat.now in
    let same : c.see_tail-tail.result ≡ place = cc is in
    let same' : c.see_entry-entry.result ≡ entry = cc is in
    subst (λ (x : ℕ). Tells (s.steps ring) v (s.knows c.put.new.seat) (IsPushLost n (s.events ring v) place x)) same' (subst (λ (p : ℕ). Tells (s.steps ring) v (s.knows c.put.new.seat) (IsPushLost n (s.events ring v) p c.see_entry-entry.result)) same
    (lost_exchange s.View (s.events ring) (s.steps ring) (g.met.T.RingSteps.logs ring) n c.see_tail-tail.result c.see_entry-entry.result (search rules) v (s.knows c.see_tail-tail.new.seat) (s.knows c.see_entry-entry.new.seat)
    c.see_tail-tail.ensures.was c.see_tail-tail.ensures.view c.see_entry-entry.ensures.view c.see_entry-entry.ensures.was c.put.result (s.knows c.put.new.seat) (search rules) (search rules) (c.put.ensures.missed (search rules))))

pub returns-in_default-2-clause-lost : goal.returns-in_default-2-clause-lost
returns-in_default-2-clause-lost g c place entry is =
    let s = g.T.RingSteps in
    let ring = c.args.ring.now in
    let n : ℕ = s.slots ring in
    let v = s.knows c.args.seat.now in
    let same : c.see_tail-tail.result ≡ place = cc is in
    let same' : c.see_entry-entry.result ≡ entry = cc is in
    let shown : get_elem? (s.events ring (s.knows c.see_tail-tail.new.seat)) 0 ≡ some (SawTail c.see_tail-tail.result) = ap (λ (l : List RingEvent). get_elem? l 0) (g.met.T.RingSteps.logs ring (SawTail c.see_tail-tail.result) v (s.knows c.see_tail-tail.new.seat) c.see_tail-tail.ensures.view) in
    let near : c.see_tail-tail.result / n ≤ c.see_entry-entry.result / n + 1 = c.see_entry-entry.ensures.near (inl shown) in
    let later : c.see_tail-tail.result / n < c.see_entry-entry.result / n = search rules in
    subst (λ (x : ℕ). Tells (s.steps ring) v (s.knows c.see_entry-entry.new.seat) (IsPushLost n (s.events ring v) place x)) same' (subst (λ (p : ℕ). Tells (s.steps ring) v (s.knows c.see_entry-entry.new.seat) (IsPushLost n (s.events ring v) p c.see_entry-entry.result)) same
    (lost_later s.View (s.events ring) (s.steps ring) (g.met.T.RingSteps.logs ring) n c.see_tail-tail.result c.see_entry-entry.result (search rules) v (s.knows c.see_tail-tail.new.seat) (s.knows c.see_entry-entry.new.seat)
    c.see_tail-tail.ensures.was c.see_tail-tail.ensures.view c.see_entry-entry.ensures.view c.see_entry-entry.ensures.was later))
