use Rattle.std.proofs.Common.{rules, ℕ, ◌≡◌, ◌+◌, ◌/◌, ◌%◌, ◌<◌, ◌≤◌, ◌∙◌, ap, sym, subst, inr}
use mathlib.Core.Option.{some}
use lib.ListN.{get_elem?}
use Rattle.nncq_ring.specs.declared.view.RingEvent.TheVariants.{SawEntry, SawHead}
use Rattle.nncq_ring.specs.Turns.{IsEmpty, IsGot, IsPopLost, Tells}
use Rattle.nncq_ring.proofs.Turning.{newest, got, empty, pop_lost_later, pop_lost_exchange}
use Rattle.nncq_ring.proofs.turns.pop_turn.Goals as goal

pub take-requires-clause-may : goal.take-requires-clause-may
take-requires-clause-may g c =
    let s = g.T.RingSteps in
    let keep = g.met.T.RingSteps.looks_keep_take c.args.ring.now in
    keep (SawEntry c.see_head-head.result c.see_entry-entry.result) (s.knows c.see_head-head.new.seat) (s.knows c.see_entry-entry.new.seat) tt c.see_entry-entry.ensures.view
    (keep (SawHead c.see_head-head.result) (s.knows c.args.seat.now) (s.knows c.see_head-head.new.seat) tt c.see_head-head.ensures.view c.requires.may)

pub returns-in-Filled-clause-got : goal.returns-in-Filled-clause-got
returns-in-Filled-clause-got g c place value is =
    let s = g.T.RingSteps in
    let ring = c.args.ring.now in
    let n : ℕ = s.slots ring in
    let v = s.knows c.args.seat.now in
    let after = s.knows c.take.new.seat in
    let head : ℕ = c.see_head-head.result in
    let entry : ℕ = c.see_entry-entry.result in
    let size : c.slot_count-size.result ≡ n = c.slot_count-size.ensures.0 in
    let same : head ≡ place = cc is in
    let same' : entry % c.slot_count-size.result ≡ value = cc is in
    let same'' : entry % n ≡ value = ap (λ (m : ℕ). entry % m) (sym size) ∙ same' in
    let full : entry / n ≡ head / n = search rules in
    subst (λ (x : ℕ). Tells (s.steps ring) v after (IsGot n (s.events ring v) place x)) same'' (subst (λ (p : ℕ). Tells (s.steps ring) v after (IsGot n (s.events ring v) p (entry % n))) same
    (got s.View (s.events ring) (s.steps ring) (g.met.T.RingSteps.logs ring) n head entry v (s.knows c.see_head-head.new.seat) (s.knows c.see_entry-entry.new.seat)
    c.see_head-head.ensures.was c.see_head-head.ensures.view c.see_entry-entry.ensures.view c.see_entry-entry.ensures.was after full (c.take.ensures.won c.if-take-head.true)))

pub returns-in_default-clause-lost : goal.returns-in_default-clause-lost
returns-in_default-clause-lost g c place entry is =
    let s = g.T.RingSteps in
    let ring = c.args.ring.now in
    let n : ℕ = s.slots ring in
    let v = s.knows c.args.seat.now in
    let after = s.knows c.take.new.seat in
    let same : c.see_head-head.result ≡ place = cc is in
    let same' : c.see_entry-entry.result ≡ entry = cc is in
    let full : c.see_entry-entry.result / n ≡ c.see_head-head.result / n = search rules in
    subst (λ (x : ℕ). Tells (s.steps ring) v after (IsPopLost n (s.events ring v) place x)) same' (subst (λ (p : ℕ). Tells (s.steps ring) v after (IsPopLost n (s.events ring v) p c.see_entry-entry.result)) same
    (pop_lost_exchange s.View (s.events ring) (s.steps ring) (g.met.T.RingSteps.logs ring) n c.see_head-head.result c.see_entry-entry.result v (s.knows c.see_head-head.new.seat) (s.knows c.see_entry-entry.new.seat)
    c.see_head-head.ensures.was c.see_head-head.ensures.view c.see_entry-entry.ensures.view c.see_entry-entry.ensures.was c.take.result after full (c.take.ensures.missed (search rules))))

pub returns-in_default-2-clause-lost : goal.returns-in_default-2-clause-lost
returns-in_default-2-clause-lost g c place entry is =
    let s = g.T.RingSteps in
    let ring = c.args.ring.now in
    let n : ℕ = s.slots ring in
    let v = s.knows c.args.seat.now in
    let after = s.knows c.see_entry-entry.new.seat in
    let same : c.see_head-head.result ≡ place = cc is in
    let same' : c.see_entry-entry.result ≡ entry = cc is in
    let shown : get_elem? (s.events ring (s.knows c.see_head-head.new.seat)) 0 ≡ some (SawHead c.see_head-head.result) = newest s.View (s.events ring) (s.steps ring) (g.met.T.RingSteps.logs ring) (SawHead c.see_head-head.result) v (s.knows c.see_head-head.new.seat) c.see_head-head.ensures.view in
    let near : c.see_head-head.result / n ≤ c.see_entry-entry.result / n + 1 = c.see_entry-entry.ensures.near (inr shown) in
    let later : c.see_head-head.result / n < c.see_entry-entry.result / n = search rules in
    subst (λ (x : ℕ). Tells (s.steps ring) v after (IsPopLost n (s.events ring v) place x)) same' (subst (λ (p : ℕ). Tells (s.steps ring) v after (IsPopLost n (s.events ring v) p c.see_entry-entry.result)) same
    (pop_lost_later s.View (s.events ring) (s.steps ring) (g.met.T.RingSteps.logs ring) n c.see_head-head.result c.see_entry-entry.result v (s.knows c.see_head-head.new.seat) (s.knows c.see_entry-entry.new.seat)
    c.see_head-head.ensures.was c.see_head-head.ensures.view c.see_entry-entry.ensures.view c.see_entry-entry.ensures.was later))

pub returns-in-Vacant-clause-empty : goal.returns-in-Vacant-clause-empty
returns-in-Vacant-clause-empty g c place entry is =
    let s = g.T.RingSteps in
    let ring = c.args.ring.now in
    let n : ℕ = s.slots ring in
    let v = s.knows c.args.seat.now in
    let after = s.knows c.see_entry-entry.new.seat in
    let same : c.see_head-head.result ≡ place = cc is in
    let same' : c.see_entry-entry.result ≡ entry = cc is in
    let shown : get_elem? (s.events ring (s.knows c.see_head-head.new.seat)) 0 ≡ some (SawHead c.see_head-head.result) = newest s.View (s.events ring) (s.steps ring) (g.met.T.RingSteps.logs ring) (SawHead c.see_head-head.result) v (s.knows c.see_head-head.new.seat) c.see_head-head.ensures.view in
    let before : c.see_entry-entry.result / n + 1 ≡ c.see_head-head.result / n = search rules in
    subst (λ (x : ℕ). Tells (s.steps ring) v after (IsEmpty n (s.events ring v) place x)) same' (subst (λ (p : ℕ). Tells (s.steps ring) v after (IsEmpty n (s.events ring v) p c.see_entry-entry.result)) same
    (empty s.View (s.events ring) (s.steps ring) (g.met.T.RingSteps.logs ring) n c.see_head-head.result c.see_entry-entry.result v (s.knows c.see_head-head.new.seat) (s.knows c.see_entry-entry.new.seat)
    c.see_head-head.ensures.was c.see_head-head.ensures.view c.see_entry-entry.ensures.view c.see_entry-entry.ensures.was before (c.see_entry-entry.ensures.empty shown before)))
