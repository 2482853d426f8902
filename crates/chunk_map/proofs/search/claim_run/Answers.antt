use Rattle.std.proofs.Common.{ℕ, ◌≡◌, ◌∷◌, ◌∙◌, ap, refl, sym, subst, arith, List}
use Rattle.chunk_map.specs.declared.view.MapEvent.{MapEvent}
use Rattle.chunk_map.specs.declared.view.MapEvent.TheVariants.{SawOpen}
use Rattle.chunk_map.specs.Gains.{SameSearch}
use Rattle.chunk_map.specs.Looks.{Begins}
use Rattle.chunk_map.proofs.Claiming.{begins}
use Rattle.chunk_map.proofs.GainLaws.{steps_on, steps_one}
use Rattle.chunk_map.proofs.search.claim_run.Goals as goal

pub search_among-requires-clause-begins : goal.search_among-requires-clause-begins
search_among-requires-clause-begins g c =
    let s = g.T.MapSteps in
    let map = c.args.map.now in
    let opened : ℕ = c.see_open-opened.result in
    let log : List MapEvent = s.events map (s.knows c.args.seat.now) in
    let view : s.events map (s.knows c.see_open-opened.new.seat) ≡ SawOpen opened ∷ log = ap (s.events map) c.see_open-opened.ensures.view ∙ g.met.T.MapSteps.logs map (SawOpen opened) (s.knows c.args.seat.now) in
    subst (Begins opened) (sym view) (begins opened log)

pub returns-in-Some-clause-told : goal.returns-in-Some-clause-told
returns-in-Some-clause-told g c =
    let s = g.T.MapSteps in
    let map = c.args.map.now in
    let v = s.knows c.args.seat.now in
    let u = s.knows c.see_open-opened.new.seat in
    steps_on s.View (s.after map) v u (s.knows c.search_among.new.seat) (steps_one s.View (s.after map) (SawOpen c.see_open-opened.result) v u c.see_open-opened.ensures.view) c.search_among.ensures.told

pub returns-in-Some-clause-search : goal.returns-in-Some-clause-search
returns-in-Some-clause-search g c =
    let s = g.T.MapSteps in
    let map = c.args.map.now in
    let opened : ℕ = c.see_open-opened.result in
    let log : List MapEvent = s.events map (s.knows c.args.seat.now) in
    let log' : List MapEvent = s.events map (s.knows c.search_among.new.seat) in
    let view : s.events map (s.knows c.see_open-opened.new.seat) ≡ SawOpen opened ∷ log = ap (s.events map) c.see_open-opened.ensures.view ∙ g.met.T.MapSteps.logs map (SawOpen opened) (s.knows c.args.seat.now) in
    let search : SameSearch (SawOpen opened ∷ log) log' = subst (λ (l : List MapEvent). SameSearch l log') view c.in-Some.ensures.search.0 in
    let count = c.see_open-opened.ensures.count in
    (opened, count.0, count.1, count.2, search.searched opened log (refl, refl), c.in-Some.ensures.search.1, tt)

pub returns-in-Some-clause-gained : goal.returns-in-Some-clause-gained
returns-in-Some-clause-gained g c f =
    let s = g.T.MapSteps in
    let map = c.args.map.now in
    omega (arith, c.in-Some.ensures.gained f, ap (s.weighs map f) c.see_open-opened.ensures.view, g.met.T.MapSteps.looks map f c.see_open-opened.result (s.knows c.args.seat.now))

pub returns-in-None-clause-told : goal.returns-in-None-clause-told
returns-in-None-clause-told g c =
    let s = g.T.MapSteps in
    let map = c.args.map.now in
    let v = s.knows c.args.seat.now in
    let u = s.knows c.see_open-opened.new.seat in
    steps_on s.View (s.after map) v u (s.knows c.search_among.new.seat) (steps_one s.View (s.after map) (SawOpen c.see_open-opened.result) v u c.see_open-opened.ensures.view) c.search_among.ensures.told

pub returns-in-None-clause-search : goal.returns-in-None-clause-search
returns-in-None-clause-search g c =
    let s = g.T.MapSteps in
    let map = c.args.map.now in
    let opened : ℕ = c.see_open-opened.result in
    let log : List MapEvent = s.events map (s.knows c.args.seat.now) in
    let log' : List MapEvent = s.events map (s.knows c.search_among.new.seat) in
    let view : s.events map (s.knows c.see_open-opened.new.seat) ≡ SawOpen opened ∷ log = ap (s.events map) c.see_open-opened.ensures.view ∙ g.met.T.MapSteps.logs map (SawOpen opened) (s.knows c.args.seat.now) in
    let search : SameSearch (SawOpen opened ∷ log) log' = subst (λ (l : List MapEvent). SameSearch l log') view c.in-None.ensures.search.0 in
    let count = c.see_open-opened.ensures.count in
    (opened, count.0, count.1, count.2, search.searched opened log (refl, refl), tt, c.in-None.ensures.search.2)

pub returns-in-None-clause-held : goal.returns-in-None-clause-held
returns-in-None-clause-held g c f =
    let s = g.T.MapSteps in
    let map = c.args.map.now in
    c.in-None.ensures.held f ∙ ap (s.weighs map f) c.see_open-opened.ensures.view ∙ g.met.T.MapSteps.looks map f c.see_open-opened.result (s.knows c.args.seat.now)

pub search_among-requires-clause-may : goal.search_among-requires-clause-may
search_among-requires-clause-may g c =
    let s = g.T.MapSteps in
    let map = c.args.map.now in
    subst (s.may_take map) (sym c.see_open-opened.ensures.view) (g.met.T.MapSteps.keeps_may_take map (SawOpen c.see_open-opened.result) (s.knows c.args.seat.now) c.requires.may)
