use Rattle.std.proofs.Common.{ℕ, ◌≡◌, ◌+◌, ◌*◌, ◌<◌, ◌∙◌, inr, sym, ap, subst, arith, List}
use Rattle.chunk_map.specs.declared.view.MapEvent.{MapEvent}
use Rattle.chunk_map.specs.Gains.{SameSearch, Steps, gained, tried, more}
use Rattle.chunk_map.specs.Looks.{seen_free, was_gained, was_looked}
use Rattle.chunk_map.proofs.ClaimLaws.{Trying, starts_first, none_here, run_same, tried_on}
use Rattle.chunk_map.proofs.GainLaws.{search_on, search_gained, gained_run, gained_outside, log_gained, log_tried, steps_keep, steps_on, steps_gained, steps_tried, tried_weigh}
use Rattle.chunk_map.proofs.search.claim_in.Goals as goal

pub loop-first-init : goal.loop-first-init
loop-first-init g c =
    let s = g.T.MapSteps in
    let map = c.args.map.now in
    let looked = c.look.ensures in (
      looked.own,
      omega arith,
      record {
        search = looked.search;
        looked = looked.looked;
        fresh = λ chunk from. looked.gained chunk ∙ c.requires.fresh chunk (omega (arith, from));
        shows = looked.shows;
        elsewhere = looked.elsewhere;
        marked = λ place from. starts_first c.look.new.words c.run_starts-starts.result (s.events map (s.knows c.look.new.seat)) c.args.segment c.args.count looked.long c.requires.count.0 looked.shows c.run_starts-starts.ensures place;
        none = λ chunk below free. absurd (omega (arith, below));
      },
      looked.held,
      looked.told,
    )

pub gain-gained-requires-clause-own : goal.gain-gained-requires-clause-own
gain-gained-requires-clause-own g c = c.loop-first.invariant.0

pub gain-gained-requires-clause-within : goal.gain-gained-requires-clause-within
gain-gained-requires-clause-within g c =
    let s = g.T.MapSteps in
    let map = c.args.map.now in
    let before : List MapEvent = s.events map (s.knows c.args.seat.now) in
    let log : List MapEvent = s.events map (s.knows c.loop-first.seat) in
    let free = (c.loop-first.invariant.2.marked c.in-Some.first c.in-Some.ensures.some.0).0 c.in-Some.ensures.some.2 in
    omega (arith, free.0, c.requires.segment)

pub gain-gained-requires-clause-open : goal.gain-gained-requires-clause-open
gain-gained-requires-clause-open g c =
    let s = g.T.MapSteps in
    let map = c.args.map.now in
    let before : List MapEvent = s.events map (s.knows c.args.seat.now) in
    let log : List MapEvent = s.events map (s.knows c.loop-first.seat) in
    let trying = c.loop-first.invariant.2 in
    let free = (trying.marked c.in-Some.first c.in-Some.ensures.some.0).0 c.in-Some.ensures.some.2 in
    omega (arith, free.0, trying.search.opened, c.requires.open)

pub clear-requires : goal.clear-requires
clear-requires g c =
    let s = g.T.MapSteps in
    let map = c.args.map.now in
    let before : List MapEvent = s.events map (s.knows c.args.seat.now) in
    let log : List MapEvent = s.events map (s.knows c.loop-first.seat) in
    let free = (c.loop-first.invariant.2.marked c.in-Some.first c.in-Some.ensures.some.0).0 c.in-Some.ensures.some.2 in
    omega (arith, free.0, c.gain-gained.ensures.most, c.if-gained-count.false)

pub loop-first-preserved : goal.loop-first-preserved
loop-first-preserved g c =
    let s = g.T.MapSteps in
    let map = c.args.map.now in
    let before : List MapEvent = s.events map (s.knows c.args.seat.now) in
    let log : List MapEvent = s.events map (s.knows c.loop-first.seat) in
    let trying = c.loop-first.invariant.2 in
    let found = c.in-Some.ensures.some in
    let free = (trying.marked c.in-Some.first found.0).0 found.2 in
    let fewer : c.gain-gained.result < c.args.count = omega (arith, c.gain-gained.ensures.most, c.if-gained-count.false) in
    let n : ℕ = c.gain-gained.result in
    let place : ℕ = 640 * c.args.segment + c.in-Some.first in
    let v = s.knows c.loop-first.seat in
    let laws = g.met.T.MapSteps in
    let became : s.knows c.gain-gained.new.seat ≡ tried (s.after map) place n v = c.gain-gained.ensures.fewer fewer in
    let view : s.events map (s.knows c.gain-gained.new.seat) ≡ tried more place n log = ap (s.events map) became ∙ log_tried s.View (s.after map) (s.events map) (laws.logs map) place n v in (
      c.gain-gained.ensures.own,
      omega (arith, fewer, free.0),
      subst (λ (u : List MapEvent). Trying before u c.clear.new.words c.run_starts-starts.result c.args.segment c.args.count (c.in-Some.first + c.gain-gained.result + 1)) (sym view)
          (tried_on before log c.loop-first.words c.run_starts-starts.result c.args.segment c.args.count c.loop-first.from trying c.in-Some.first c.clear.new.words c.gain-gained.result fewer found.0 free found.3 c.clear.ensures.here c.clear.ensures.others),
      (λ f. ap (s.weighs map f) became ∙ tried_weigh s.View (s.after map) (s.weighs map) (640 * s.segments map) (laws.gains map) (laws.frees map) (laws.misses map) place n v f (omega (arith, fewer, free.0, c.requires.segment)) ∙ c.loop-first.invariant.3 f),
      subst (Steps (s.after map) (s.knows c.args.seat.now)) (sym became) (steps_on s.View (s.after map) (s.knows c.args.seat.now) v (tried (s.after map) place n v) c.loop-first.invariant.4 (steps_tried s.View (s.after map) place n v)),
    )

pub returns-then-gained-count-clause-shows : goal.returns-then-gained-count-clause-shows
returns-then-gained-count-clause-shows g c chunk within =
    let s = g.T.MapSteps in
    let map = c.args.map.now in
    let before : List MapEvent = s.events map (s.knows c.args.seat.now) in
    let log : List MapEvent = s.events map (s.knows c.loop-first.seat) in
    let all = c.gain-gained.ensures.all c.if-gained-count.true in
    let view : s.events map (s.knows c.gain-gained.new.seat) ≡ gained more (640 * c.args.segment + c.in-Some.first) c.args.count log = ap (s.events map) all ∙ log_gained s.View (s.after map) (s.events map) (g.met.T.MapSteps.logs map) (640 * c.args.segment + c.in-Some.first) c.args.count (s.knows c.loop-first.seat) in
    let trying = c.loop-first.invariant.2 in
    let found = c.in-Some.ensures.some in
    trying.shows chunk within ∙ sym (ap (λ (u : List MapEvent). seen_free u chunk) view ∙ run_same before log c.loop-first.words c.run_starts-starts.result c.args.segment c.args.count c.loop-first.from trying c.in-Some.first ((trying.marked c.in-Some.first found.0).0 found.2) chunk)

pub returns-then-gained-count-clause-elsewhere : goal.returns-then-gained-count-clause-elsewhere
returns-then-gained-count-clause-elsewhere g c chunk ne =
    let s = g.T.MapSteps in
    let map = c.args.map.now in
    let before : List MapEvent = s.events map (s.knows c.args.seat.now) in
    let log : List MapEvent = s.events map (s.knows c.loop-first.seat) in
    let all = c.gain-gained.ensures.all c.if-gained-count.true in
    let view : s.events map (s.knows c.gain-gained.new.seat) ≡ gained more (640 * c.args.segment + c.in-Some.first) c.args.count log = ap (s.events map) all ∙ log_gained s.View (s.after map) (s.events map) (g.met.T.MapSteps.logs map) (640 * c.args.segment + c.in-Some.first) c.args.count (s.knows c.loop-first.seat) in
    let trying = c.loop-first.invariant.2 in
    let found = c.in-Some.ensures.some in
    ap (λ (u : List MapEvent). seen_free u chunk) view ∙ run_same before log c.loop-first.words c.run_starts-starts.result c.args.segment c.args.count c.loop-first.from trying c.in-Some.first ((trying.marked c.in-Some.first found.0).0 found.2) chunk ∙ trying.elsewhere chunk ne

pub returns-then-gained-count-clause-search : goal.returns-then-gained-count-clause-search
returns-then-gained-count-clause-search g c =
    let s = g.T.MapSteps in
    let map = c.args.map.now in
    let before : List MapEvent = s.events map (s.knows c.args.seat.now) in
    let log : List MapEvent = s.events map (s.knows c.loop-first.seat) in
    let all = c.gain-gained.ensures.all c.if-gained-count.true in
    let view : s.events map (s.knows c.gain-gained.new.seat) ≡ gained more (640 * c.args.segment + c.in-Some.first) c.args.count log = ap (s.events map) all ∙ log_gained s.View (s.after map) (s.events map) (g.met.T.MapSteps.logs map) (640 * c.args.segment + c.in-Some.first) c.args.count (s.knows c.loop-first.seat) in
    let trying = c.loop-first.invariant.2 in
    let first : ℕ = 640 * c.args.segment + c.in-Some.first in
    subst (λ (u : List MapEvent). SameSearch before u) (sym view) (search_on before log _ trying.search (search_gained first c.args.count log))

pub returns-then-gained-count-clause-looked : goal.returns-then-gained-count-clause-looked
returns-then-gained-count-clause-looked g c chunk is =
    let s = g.T.MapSteps in
    let map = c.args.map.now in
    let before : List MapEvent = s.events map (s.knows c.args.seat.now) in
    let log : List MapEvent = s.events map (s.knows c.loop-first.seat) in
    let all = c.gain-gained.ensures.all c.if-gained-count.true in
    let view : s.events map (s.knows c.gain-gained.new.seat) ≡ gained more (640 * c.args.segment + c.in-Some.first) c.args.count log = ap (s.events map) all ∙ log_gained s.View (s.after map) (s.events map) (g.met.T.MapSteps.logs map) (640 * c.args.segment + c.in-Some.first) c.args.count (s.knows c.loop-first.seat) in
    let trying = c.loop-first.invariant.2 in
    let first : ℕ = 640 * c.args.segment + c.in-Some.first in
    ap (λ (u : List MapEvent). was_looked u chunk) view ∙ (search_gained first c.args.count log).looked chunk (trying.looked chunk is)

pub returns-then-gained-count-clause-fresh : goal.returns-then-gained-count-clause-fresh
returns-then-gained-count-clause-fresh g c chunk from =
    let s = g.T.MapSteps in
    let map = c.args.map.now in
    let before : List MapEvent = s.events map (s.knows c.args.seat.now) in
    let log : List MapEvent = s.events map (s.knows c.loop-first.seat) in
    let all = c.gain-gained.ensures.all c.if-gained-count.true in
    let view : s.events map (s.knows c.gain-gained.new.seat) ≡ gained more (640 * c.args.segment + c.in-Some.first) c.args.count log = ap (s.events map) all ∙ log_gained s.View (s.after map) (s.events map) (g.met.T.MapSteps.logs map) (640 * c.args.segment + c.in-Some.first) c.args.count (s.knows c.loop-first.seat) in
    let trying = c.loop-first.invariant.2 in
    let first : ℕ = 640 * c.args.segment + c.in-Some.first in
    let free = (trying.marked c.in-Some.first c.in-Some.ensures.some.0).0 c.in-Some.ensures.some.2 in
    ap (λ (u : List MapEvent). was_gained u chunk) view ∙ gained_outside first c.args.count log chunk (inr (omega (arith, free.0, from))) ∙ trying.fresh chunk (omega (arith, from, c.loop-first.invariant.1))

pub returns-then-gained-count-clause-some : goal.returns-then-gained-count-clause-some
returns-then-gained-count-clause-some g c =
    let s = g.T.MapSteps in
    let map = c.args.map.now in
    let before : List MapEvent = s.events map (s.knows c.args.seat.now) in
    let log : List MapEvent = s.events map (s.knows c.loop-first.seat) in
    let all = c.gain-gained.ensures.all c.if-gained-count.true in
    let view : s.events map (s.knows c.gain-gained.new.seat) ≡ gained more (640 * c.args.segment + c.in-Some.first) c.args.count log = ap (s.events map) all ∙ log_gained s.View (s.after map) (s.events map) (g.met.T.MapSteps.logs map) (640 * c.args.segment + c.in-Some.first) c.args.count (s.knows c.loop-first.seat) in
    let trying = c.loop-first.invariant.2 in
    let found = c.in-Some.ensures.some in
    let free = (trying.marked c.in-Some.first found.0).0 found.2 in (
      free.0,
      λ i lt.
          let place : ℕ = 640 * c.args.segment + (c.in-Some.first + i) in
          ap (λ (u : List MapEvent). seen_free u place) view ∙ run_same before log c.loop-first.words c.run_starts-starts.result c.args.segment c.args.count c.loop-first.from trying c.in-Some.first free place ∙ free.1 i lt,
    )

pub returns-then-gained-count-clause-lowest : goal.returns-then-gained-count-clause-lowest
returns-then-gained-count-clause-lowest g c chunk below now =
    let s = g.T.MapSteps in
    let map = c.args.map.now in
    let before : List MapEvent = s.events map (s.knows c.args.seat.now) in
    let log : List MapEvent = s.events map (s.knows c.loop-first.seat) in
    let all = c.gain-gained.ensures.all c.if-gained-count.true in
    let view : s.events map (s.knows c.gain-gained.new.seat) ≡ gained more (640 * c.args.segment + c.in-Some.first) c.args.count log = ap (s.events map) all ∙ log_gained s.View (s.after map) (s.events map) (g.met.T.MapSteps.logs map) (640 * c.args.segment + c.in-Some.first) c.args.count (s.knows c.loop-first.seat) in
    let trying = c.loop-first.invariant.2 in
    let found = c.in-Some.ensures.some in
    let free = (trying.marked c.in-Some.first found.0).0 found.2 in
    none_here before log c.loop-first.words c.run_starts-starts.result c.args.segment c.args.count c.loop-first.from trying c.in-Some.first found.3 chunk below (
      now.0,
      λ i lt.
          let place : ℕ = 640 * c.args.segment + (chunk + i) in
          sym (ap (λ (u : List MapEvent). seen_free u place) view ∙ run_same before log c.loop-first.words c.run_starts-starts.result c.args.segment c.args.count c.loop-first.from trying c.in-Some.first free place) ∙ now.1 i lt,
    )

pub returns-then-gained-count-clause-gained : goal.returns-then-gained-count-clause-gained
returns-then-gained-count-clause-gained g c f =
    let s = g.T.MapSteps in
    let map = c.args.map.now in
    let before : List MapEvent = s.events map (s.knows c.args.seat.now) in
    let log : List MapEvent = s.events map (s.knows c.loop-first.seat) in
    let laws = g.met.T.MapSteps in
    let all = c.gain-gained.ensures.all c.if-gained-count.true in
    let free = (c.loop-first.invariant.2.marked c.in-Some.first c.in-Some.ensures.some.0).0 c.in-Some.ensures.some.2 in
    omega (
      arith,
      ap (s.weighs map f) all,
      gained_run s.View (s.after map) (s.weighs map) (640 * s.segments map) (laws.gains map) (640 * c.args.segment + c.in-Some.first) c.args.count (s.knows c.loop-first.seat) f (omega (arith, free.0, c.requires.segment)),
      c.loop-first.invariant.3 f,
    )

pub returns-clause-none : goal.returns-clause-none
returns-clause-none g c =
    let s = g.T.MapSteps in
    let map = c.args.map.now in
    let before : List MapEvent = s.events map (s.knows c.args.seat.now) in
    let log : List MapEvent = s.events map (s.knows c.loop-first.seat) in
    none_here before log c.loop-first.words c.run_starts-starts.result c.args.segment c.args.count c.loop-first.from c.loop-first.invariant.2 640 c.in_default.ensures.none

pub returns-then-gained-count-clause-told : goal.returns-then-gained-count-clause-told
returns-then-gained-count-clause-told g c =
    let s = g.T.MapSteps in
    let map = c.args.map.now in
    let place : ℕ = 640 * c.args.segment + c.in-Some.first in
    let v = s.knows c.loop-first.seat in
    let all = c.gain-gained.ensures.all c.if-gained-count.true in
    subst (Steps (s.after map) (s.knows c.args.seat.now)) (sym all) (steps_on s.View (s.after map) (s.knows c.args.seat.now) v (gained (s.after map) place c.args.count v) c.loop-first.invariant.4 (steps_gained s.View (s.after map) place c.args.count v))

pub gain-gained-requires-clause-may : goal.gain-gained-requires-clause-may
gain-gained-requires-clause-may g c =
    let s = g.T.MapSteps in
    let map = c.args.map.now in
    steps_keep s.View (s.after map) (s.may_take map) (g.met.T.MapSteps.keeps_may_take map) (s.knows c.args.seat.now) (s.knows c.loop-first.seat) c.loop-first.invariant.4 c.requires.may
