use Rattle.std.proofs.Common.{◌≡◌, ◌+◌, ◌*◌, ◌<◌, ◌∙◌, ap, refl, sym, subst, arith}
use Rattle.unit_model.specs.Weights.{is_number}
use Rattle.chunk_map.specs.declared.view.MapEvent.TheVariants.{Missed}
use Rattle.chunk_map.specs.Gains.{gained}
use Rattle.chunk_map.specs.Looks.{open_seen}
use Rattle.chunk_map.proofs.GainLaws.{gained_held, log_gained, search_gained, steps_gained, steps_keep}
use Rattle.chunk_map.proofs.search.gain.Goals as goal

pub take-requires-clause-open : goal.take-requires-clause-open
take-requires-clause-open g c =
    let s = g.T.MapSteps in
    let map = c.args.map.now in
    let v = s.knows c.args.seat.now in
    let opened : open_seen (s.events map (s.knows c.loop-i.seat)) ≡ open_seen (s.events map v) =
    ap (λ (u : s.View). open_seen (s.events map u)) c.loop-i.invariant.1
    ∙ ap open_seen (log_gained s.View (s.after map) (s.events map) (g.met.T.MapSteps.logs map) c.args.first c.loop-i.i v)
    ∙ (search_gained c.args.first c.loop-i.i (s.events map v)).opened in
    omega (arith, opened, c.requires.open, c.loop-i-test.true)

pub take-requires-clause-may : goal.take-requires-clause-may
take-requires-clause-may g c =
    let s = g.T.MapSteps in
    let map = c.args.map.now in
    let v = s.knows c.args.seat.now in
    subst (s.may_take map) (sym c.loop-i.invariant.1)
    (steps_keep s.View (s.after map) (s.may_take map) (g.met.T.MapSteps.keeps_may_take map) v (gained (s.after map) c.args.first c.loop-i.i v) (steps_gained s.View (s.after map) c.args.first c.loop-i.i v) c.requires.may)

pub give_back-requires-clause-held : goal.give_back-requires-clause-held
give_back-requires-clause-held g c i lt =
    let s = g.T.MapSteps in
    let laws = g.met.T.MapSteps in
    let map = c.args.map.now in
    let had = gained (s.after map) c.args.first c.loop-i.i (s.knows c.args.seat.now) in
    let view = c.if-not-take.ensures.missed refl ∙ ap (s.after map (Missed (c.args.first + c.loop-i.i))) c.loop-i.invariant.1 in
    subst (λ (u : s.View). 0 < s.weighs map (is_number (c.args.first + i)) u) (sym view)
    (omega (arith, laws.misses map (is_number (c.args.first + i)) (c.args.first + c.loop-i.i) had, gained_held s.View (s.after map) (s.weighs map) (640 * s.segments map) (laws.gains map) c.args.first c.loop-i.i i (s.knows c.args.seat.now) (omega (arith, c.requires.within, c.loop-i-test.true)) lt))
