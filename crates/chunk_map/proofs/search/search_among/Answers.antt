use Rattle.std.proofs.Common.{ℕ, ◌≡◌, ◌+◌, ◌*◌, ◌∙◌, ap, ap₂, sym, subst, arith, List}
use Rattle.std.specs.List.{range_with_len}
use Rattle.std.proofs.lemmas.Option.{IfSome_then}
use Rattle.unit_model.specs.Runs.{chunks_for}
use Rattle.unit_model.specs.Weights.{weigh}
use Rattle.chunk_map.specs.declared.view.MapEvent.{MapEvent}
use Rattle.chunk_map.specs.Looks.{seen_free, may_be_free}
use Rattle.chunk_map.specs.Runs.{AreFree, IsLowest, NoneBelow, run_chunks}
use Rattle.chunk_map.proofs.Claiming.{none_then}
use Rattle.chunk_map.proofs.ClaimLaws.{none_allowed}
use Rattle.chunk_map.proofs.GainLaws.{search_on, steps_keep, steps_on}
use Rattle.chunk_map.proofs.search.search_among.Goals as goal

pub claim_in-requires-clause-open : goal.claim_in-requires-clause-open
claim_in-requires-clause-open g c = omega (arith, c.requires.begins.count, c.requires.open.0)

pub claim_in-requires-clause-fresh : goal.claim_in-requires-clause-fresh
claim_in-requires-clause-fresh g c chunk from = c.requires.begins.gained chunk

pub claim_behind-requires-clause-open : goal.claim_behind-requires-clause-open
claim_behind-requires-clause-open g c = (sym (c.claim_in.ensures.search.opened ∙ c.requires.begins.count), c.requires.open.0, c.requires.open.1)

pub claim_behind-requires-clause-looked : goal.claim_behind-requires-clause-looked
claim_behind-requires-clause-looked g c chunk low = c.claim_in.ensures.looked chunk (omega (arith, low))

pub claim_behind-requires-clause-behind : goal.claim_behind-requires-clause-behind
claim_behind-requires-clause-behind g c chunk from = c.claim_in.ensures.elsewhere chunk (λ is. absurd (omega (arith, is, from))) ∙ c.requires.begins.seen chunk

pub claim_behind-requires-clause-none : goal.claim_behind-requires-clause-none
claim_behind-requires-clause-none g c =
    let s = g.T.MapSteps in
    subst (λ (k : ℕ). NoneBelow (seen_free (s.events c.args.map.now (s.knows c.claim_in.new.seat))) k 0 640) c.chunk_count-count.ensures.0 c.in-None.ensures.none

pub returns-in-Some-clause-search : goal.returns-in-Some-clause-search
returns-in-Some-clause-search g c = (c.claim_in.ensures.search, omega (arith, c.run_at.ensures.0, c.requires.open.0), tt)

pub returns-in-Some-clause-run : goal.returns-in-Some-clause-run
returns-in-Some-clause-run g c =
    let s = g.T.MapSteps in
    let count = c.chunk_count-count.ensures.0 in
    let log : List MapEvent = s.events c.args.map.now (s.knows c.claim_in.new.seat) in
    let n : ℕ = chunks_for c.args.size in
    let chunk : ℕ = c.in-Some.chunk in
    let free : AreFree (seen_free log) n 0 chunk = subst (λ (k : ℕ). AreFree (seen_free log) k 0 chunk) count c.in-Some.ensures.some in
    let lowest : IsLowest (may_be_free log) n 0 chunk = (
      λ earlier before. absurd (omega (arith, before)),
      none_allowed log n 0 chunk c.claim_in.ensures.looked (subst (λ (k : ℕ). NoneBelow (seen_free log) k 0 chunk) count c.in-Some.ensures.lowest),
    ) in
    let made = c.run_at.ensures in
    let found : AreFree (seen_free log) n c.run_at.result.segment c.run_at.result.chunk × IsLowest (may_be_free log) n c.run_at.result.segment c.run_at.result.chunk = subst (λ (k : ℕ). AreFree (seen_free log) n k c.run_at.result.chunk × IsLowest (may_be_free log) n k c.run_at.result.chunk) (sym made.0) (subst (λ (k : ℕ). AreFree (seen_free log) n 0 k × IsLowest (may_be_free log) n 0 k) (sym made.1) (free, lowest)) in
    (made.2, found.0, found.1)

pub returns-in-Some-clause-gained : goal.returns-in-Some-clause-gained
returns-in-Some-clause-gained g c f =
    let made = c.run_at.ensures in
    let first : ℕ = 640 * 0 + c.in-Some.chunk in
    let same : 640 * c.run_at.result.segment + c.run_at.result.chunk ≡ first = ap₂ (λ (a b : ℕ). 640 * a + b) made.0 made.1 in
    let count : c.chunk_count-count.result ≡ chunks_for c.run_at.result.size = c.chunk_count-count.ensures.0 ∙ ap chunks_for (sym made.2) in
    let run : weigh f (range_with_len first c.chunk_count-count.result) ≡ weigh f (run_chunks c.run_at.result) = ap₂ (λ (a b : ℕ). weigh f (range_with_len a b)) (sym same) count in
    omega (arith, run, c.in-Some.ensures.gained f)

pub returns-in-None-clause-told : goal.returns-in-None-clause-told
returns-in-None-clause-told g c =
    let s = g.T.MapSteps in
    steps_on s.View (s.after c.args.map.now) (s.knows c.args.seat.now) (s.knows c.claim_in.new.seat) (s.knows c.claim_behind.new.seat) c.claim_in.ensures.told c.claim_behind.ensures.told

pub returns-in-None-clause-search : goal.returns-in-None-clause-search
returns-in-None-clause-search g c =
    let s = g.T.MapSteps in
    let map = c.args.map.now in (
      search_on (s.events map (s.knows c.args.seat.now)) (s.events map (s.knows c.claim_in.new.seat)) (s.events map (s.knows c.claim_behind.new.seat)) c.claim_in.ensures.search c.claim_behind.ensures.search,
      c.claim_behind.ensures.segment.0,
      c.claim_behind.ensures.segment.1,
    )

pub returns-in-None-clause-gained : goal.returns-in-None-clause-gained
returns-in-None-clause-gained g c = IfSome_then c.claim_behind.result c.claim_behind.ensures.gained (λ run it f. omega (arith, it f, c.in-None.ensures.held f))

pub returns-in-None-clause-held : goal.returns-in-None-clause-held
returns-in-None-clause-held g c = none_then c.claim_behind.result c.claim_behind.ensures.held (λ it f. it f ∙ c.in-None.ensures.held f)

pub claim_behind-requires-clause-may : goal.claim_behind-requires-clause-may
claim_behind-requires-clause-may g c =
    let s = g.T.MapSteps in
    let map = c.args.map.now in
    steps_keep s.View (s.after map) (s.may_take map) (g.met.T.MapSteps.keeps_may_take map) (s.knows c.args.seat.now) (s.knows c.claim_in.new.seat) c.claim_in.ensures.told c.requires.may
