use Rattle.std.proofs.Common.{ℕ, ◌≡◌, ◌+◌, ◌*◌, ◌∙◌, ⊎_elim, [], refl, sym, ap, ap₂, subst, arith}
use Rattle.std.proofs.lemmas.Bool.{cases_eq, cases_lt}
use Rattle.std.specs.List.{range_with_len}
use Rattle.unit_model.specs.Runs.{chunks_for}
use Rattle.unit_model.specs.Weights.{weigh}
use Rattle.chunk_map.specs.Looks.{seen_free, may_be_free}
use Rattle.chunk_map.specs.Runs.{AreFree, IsLowest, NoneBelow, run_chunks}
use Rattle.chunk_map.proofs.ClaimLaws.{none_allowed, none_free, none_stays, no_run, shows_noted}
use Rattle.chunk_map.proofs.GainLaws.{search_same, search_on, steps_keep, steps_on}
use Rattle.chunk_map.proofs.search.claim_behind.Goals as goal

pub loop-segment-init : goal.loop-segment-init
loop-segment-init g c =
    let s = g.T.MapSteps in
    let map = c.args.map.now in
    let v = s.events map (s.knows c.args.seat.now) in (
      c.requires.own,
      shows_noted c.args.seen.now.words c.note.new.seen c.args.first.now v 0 (λ chunk within ne. none_free c.args.seen.now.words c.requires.unseen chunk ∙ sym (c.requires.behind chunk (omega (arith, ne)))) c.note.ensures.here c.note.ensures.others c.requires.shows,
      search_same v,
      (λ f. refl),
      c.requires.fresh,
      (λ earlier lt.
          let is : 0 ≡ earlier = omega (arith, lt) in
          subst (λ (s : ℕ). NoneBelow (seen_free v) (chunks_for c.args.size) s 640) is c.requires.none),
      (λ number from. c.note.ensures.others number (λ is. absurd (omega (arith, is, from))) ∙ c.requires.unseen number),
      c.requires.looked,
      ([], refl),
    )

pub returns-in-Some-clause-search : goal.returns-in-Some-clause-search
returns-in-Some-clause-search g c =
    let s = g.T.MapSteps in
    let map = c.args.map.now in
    search_on (s.events map (s.knows c.args.seat.now)) (s.events map (s.knows c.loop-segment.seat)) (s.events map (s.knows c.claim_in.new.seat)) c.loop-segment.invariant.2 c.claim_in.ensures.search

pub returns-in-Some-clause-run : goal.returns-in-Some-clause-run
returns-in-Some-clause-run g c =
    let s = g.T.MapSteps in
    let map = c.args.map.now in
    let now = c.loop-segment.invariant in
    let count = c.chunk_count-count.ensures.0 in
    let v = s.events map (s.knows c.claim_in.new.seat) in
    let n : ℕ = chunks_for c.args.size in
    let segment : ℕ = c.loop-segment.segment in
    let chunk : ℕ = c.in-Some.chunk in
    let free : AreFree (seen_free v) n segment chunk = subst (λ (k : ℕ). AreFree (seen_free v) k segment chunk) count c.in-Some.ensures.some in
    let lowest : IsLowest (may_be_free v) n segment chunk = (
      λ earlier before. none_allowed v n earlier 640 (λ other is. c.claim_in.ensures.search.looked other (now.7 other (omega (arith, is, before)))) (none_stays (s.events map (s.knows c.loop-segment.seat)) v n segment earlier 640 (λ is. absurd (omega (arith, is, before))) c.claim_in.ensures.elsewhere (now.5 earlier before)),
      none_allowed v n segment chunk c.claim_in.ensures.looked (subst (λ (k : ℕ). NoneBelow (seen_free v) k segment chunk) count c.in-Some.ensures.lowest),
    ) in
    let made = c.run_at.ensures in
    let found : AreFree (seen_free v) n c.run_at.result.segment c.run_at.result.chunk × IsLowest (may_be_free v) n c.run_at.result.segment c.run_at.result.chunk = subst (λ (s : ℕ). AreFree (seen_free v) n s c.run_at.result.chunk × IsLowest (may_be_free v) n s c.run_at.result.chunk) (sym made.0) (subst (λ (k : ℕ). AreFree (seen_free v) n segment k × IsLowest (may_be_free v) n segment k) (sym made.1) (free, lowest)) in
    (made.2, found.0, found.1)

pub loop-segment-preserved : goal.loop-segment-preserved
loop-segment-preserved g c =
    let s = g.T.MapSteps in
    let map = c.args.map.now in
    let now = c.loop-segment.invariant in
    let count = c.chunk_count-count.ensures.0 in
    let v = s.events map (s.knows c.loop-segment.seat) in
    let v' = s.events map (s.knows c.claim_in.new.seat) in
    let noted = c.note-in-loop-segment.ensures in (
      c.claim_in.ensures.own,
      shows_noted c.loop-segment.seen.words c.note-in-loop-segment.new.seen c.claim_in.new.words v' c.loop-segment.segment (λ chunk within ne. now.1 chunk within ∙ sym (c.claim_in.ensures.elsewhere chunk ne)) noted.here noted.others c.claim_in.ensures.shows,
      search_on (s.events map (s.knows c.args.seat.now)) v v' now.2 c.claim_in.ensures.search,
      (λ f. c.in_default.ensures.held f ∙ now.3 f),
      c.claim_in.ensures.fresh,
      (λ earlier lt. ⊎_elim
          (λ is. subst (λ (s : ℕ). NoneBelow (seen_free v') (chunks_for c.args.size) s 640) (sym is) (subst (λ (k : ℕ). NoneBelow (seen_free v') k c.loop-segment.segment 640) count c.in_default.ensures.none))
          (λ ne. none_stays v v' (chunks_for c.args.size) c.loop-segment.segment earlier 640 ne c.claim_in.ensures.elsewhere (now.5 earlier (omega (arith, lt, ne))))
          (cases_eq earlier c.loop-segment.segment)),
      (λ number from. noted.others number (λ is. absurd (omega (arith, is, from))) ∙ now.6 number (omega (arith, from))),
      (λ chunk below. ⊎_elim
          (λ earlier. c.claim_in.ensures.search.looked chunk (now.7 chunk earlier))
          (λ here. c.claim_in.ensures.looked chunk (omega (arith, below, here)))
          (cases_lt chunk (640 * c.loop-segment.segment))),
      steps_on s.View (s.after map) (s.knows c.args.seat.now) (s.knows c.loop-segment.seat) (s.knows c.claim_in.new.seat) now.8 c.claim_in.ensures.told,
    )

pub returns-clause-full : goal.returns-clause-full
returns-clause-full g c =
    let s = g.T.MapSteps in
    let map = c.args.map.now in
    let now = c.loop-segment.invariant in
    (now.1, no_run _ (s.events map (s.knows c.loop-segment.seat)) (chunks_for c.args.size) (omega (arith, c.chunk_count-count.ensures.0, c.chunk_count-count.ensures.1)) (omega (arith, c.requires.open.2, c.requires.few)) now.1 (λ segment lt. now.5 segment (omega (arith, lt, c.loop-segment-test.false))))

pub returns-in-Some-clause-told : goal.returns-in-Some-clause-told
returns-in-Some-clause-told g c =
    let s = g.T.MapSteps in
    let map = c.args.map.now in
    steps_on s.View (s.after map) (s.knows c.args.seat.now) (s.knows c.loop-segment.seat) (s.knows c.claim_in.new.seat) c.loop-segment.invariant.8 c.claim_in.ensures.told

pub returns-in-Some-clause-gained : goal.returns-in-Some-clause-gained
returns-in-Some-clause-gained g c f =
    let s = g.T.MapSteps in
    let map = c.args.map.now in
    let made = c.run_at.ensures in
    let first : ℕ = 640 * c.loop-segment.segment + c.in-Some.chunk in
    let same : 640 * c.run_at.result.segment + c.run_at.result.chunk ≡ first = ap₂ (λ (a b : ℕ). 640 * a + b) made.0 made.1 in
    let count : c.chunk_count-count.result ≡ chunks_for c.run_at.result.size = c.chunk_count-count.ensures.0 ∙ ap chunks_for (sym made.2) in
    let run : weigh f (range_with_len first c.chunk_count-count.result) ≡ weigh f (run_chunks c.run_at.result) = ap₂ (λ (a b : ℕ). weigh f (range_with_len a b)) (sym same) count in
    omega (arith, run, c.in-Some.ensures.gained f, c.loop-segment.invariant.3 f)

pub claim_in-requires-clause-may : goal.claim_in-requires-clause-may
claim_in-requires-clause-may g c =
    let s = g.T.MapSteps in
    let map = c.args.map.now in
    steps_keep s.View (s.after map) (s.may_take map) (g.met.T.MapSteps.keeps_may_take map) (s.knows c.args.seat.now) (s.knows c.loop-segment.seat) c.loop-segment.invariant.8 c.requires.may
