use Rattle.std.proofs.Common.{◌≡◌, ◌∙◌, ◌+◌, ◌*◌, ℕ, length, refl, ap, sym}
use Rattle.std.specs.Prelude.{count_by}
use Rattle.std.specs.BTreeMap.{get}
use Rattle.std.specs.Ordering.{nat_cmp}
use Rattle.trace_check.specs.Outcomes.{has_outcome}
use Rattle.trace_check.specs.Streams.{known}
use Rattle.trace_check.specs.Verdicts.{is_free, streams_that}
use Rattle.trace_check.specs.declared.verdict.Outcome.{Outcome}
use Rattle.trace_check.specs.declared.verdict.Outcome.TheVariants.{Drawn, Accepted, Cancelled, Abandoned, Refused, LeftOpen}
use Rattle.trace_check.proofs.Tallied.{counted, counted_drawn, outcome_test}
use Rattle.trace_check.proofs.machine.Machine.tally.Goals as goal
use Rattle.unit_model.specs.Weights.{below, one_if, weigh}

pub returns : goal.returns
returns c = λ core shows.
    let at = get nat_cmp c.args.self.now.streams in
    let frame = shows.frame in
    let of : (outcome : Outcome) (n : ℕ) → n ≡ below (λ s. one_if (known (has_outcome outcome) (at s))) c.args.self.now.frame.next → n ≡ streams_that (outcome_test outcome) core =
    λ outcome n e. e ∙ ap (λ f. below (λ s. one_if (known (has_outcome outcome) (at s))) f.next) frame ∙ sym (counted core at shows.agrees shows.reached outcome) in
    let free : c.free_chunks.result ≡ count_by is_free core.owners = c.free_chunks.ensures ∙ ap (λ f. count_by is_free f.owners) frame in
    let chunks : c.chunk_count.result ≡ 640 * (core.shape.out_segments + core.shape.back_segments) = c.chunk_count.ensures.value ∙ ap (λ f. 640 * (f.shape.out_segments + f.shape.back_segments)) frame in
    let drawn : c.count.result ≡ weigh (λ lists. length lists.drawn) core.seats =
    c.count.ensures ∙ ap (λ f. below (λ s. one_if (known (has_outcome Drawn) (at s))) f.next) frame ∙ sym (counted_drawn core at shows.agrees shows.reached) in
    rw (free, chunks, drawn, of Accepted _ c.count-2.ensures, of Cancelled _ c.count-3.ensures, of Abandoned _ c.count-4.ensures, of Refused _ c.count-5.ensures, of LeftOpen _ c.count-6.ensures) refl
