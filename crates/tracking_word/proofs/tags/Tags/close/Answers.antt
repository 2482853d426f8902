use Rattle.std.proofs.Common.{ℕ, List, subst, slice_index}
use Rattle.tracking_word.specs.Parts.{Counted, Known}
use Rattle.tracking_word.specs.Rule.{TagsHold}
use Rattle.tracking_word.specs.Views.{held_by, arms_of, wins_of, says}
use Rattle.tracking_word.proofs.tags.Tags.close.Goals as goal

pub returns-clause-last : goal.returns-clause-last
returns-clause-last c =
    let end = c.close_with.ensures.values.2 in
    let state = end.0 in
    let meets : TagsHold c.args.self.items state = subst (λ (n : ℕ). TagsHold n state) c.args.self.sized.0 end.1.0 in
    record {
      views = state.views;
      view = end.1.1;
      counted = subst (λ (words : List ℕ). Counted arms_of wins_of c.args.self.items (slice_index words) state.views) end.2 meets.counted;
      owned = meets.owned;
      known = subst (λ (words : List ℕ). Known held_by says c.args.self.items (slice_index words) state.views) end.2 meets.known;
    }
