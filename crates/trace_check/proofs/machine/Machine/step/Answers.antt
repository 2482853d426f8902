use Rattle.std.proofs.Common.{◌≡◌, ◌∙◌, ℕ, [], ap, sym, subst}
use Rattle.std.specs.BTreeMap.{get}
use Rattle.std.specs.Ordering.{nat_cmp}
use Rattle.std.specs.Prelude.{Option}
use Rattle.trace_check.specs.Shows.{Agrees, IsReached}
use Rattle.trace_check.specs.Streams.{first_unmet_known, frame_after, stream_after}
use Rattle.trace_check.specs.declared.streams.Stream.{Stream}
use Rattle.trace_check.proofs.Kept.{frame_kept, kept}
use Rattle.trace_check.proofs.SameConditions.{same_unmet}
use Rattle.trace_check.proofs.machine.Machine.step.Goals as goal
use Rattle.unit_model.specs.Effects.{after_step}

pub returns : goal.returns
returns c = record {
  unmet = λ core shows.
      let at = get nat_cmp c.args.self.now.streams in
      c.in_ok-unmet.ensures.unmet ∙ ap (λ frame. first_unmet_known frame at c.args.step.now) shows.frame ∙ sym (same_unmet core at shows.agrees shows.reached c.args.step.now);
  done = λ core shows none.
      let step = c.args.step.now in
      let at = get nat_cmp c.args.self.now.streams in
      let unmet = sym (c.in_ok-unmet.ensures.unmet ∙ ap (λ frame. first_unmet_known frame at step) shows.frame ∙ sym (same_unmet core at shows.agrees shows.reached step)) ∙ none in
      let all = kept core at step shows.agrees shows.reached unmet in
      let after = get nat_cmp c.try_step.new.self.streams in
      let F : ℕ → Option Stream = stream_after (record core { seats = [] }) at step in
      let same : F ≡ after = λ i n. sym (c.in_ok-unmet.ensures.streams none n ∙ ap (λ frame. stream_after frame at step n) shows.frame) i in
      record {
        frame = c.in_ok-unmet.ensures.frame none ∙ ap (λ frame. frame_after frame step) shows.frame ∙ frame_kept core step;
        agrees = subst (Agrees (after_step core step).seats) same all.0;
        reached = subst (IsReached (after_step core step)) same all.1;
      };
}
