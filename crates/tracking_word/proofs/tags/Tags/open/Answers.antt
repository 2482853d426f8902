use Rattle.std.proofs.Common.{ℕ, ◌≡◌, ◌<◌, ◌∙◌, ap, sym, subst, length}
use Rattle.std.proofs.lemmas.List.{length-replicate}
use Rattle.unit_model.specs.Sharing.{Holds}
use Rattle.tracking_word.specs.Views.{held_by}
use Rattle.tracking_word.proofs.Steps.{opens, whole_below}
use Rattle.tracking_word.proofs.tags.Tags.open.Goals as goal

pub of_words-requires : goal.of_words-requires
of_words-requires c = opens c.args.items c.as_slice.result.now (c.as_slice.ensures.value ∙ c.in_ok-words.ensures.items_if_clones_equal (λ y same. same))

pub invariant_of-result-2 : goal.invariant_of-result-2
invariant_of-result-2 c =
    let made = c.in_ok-table.ensures in
    let count : c.in_ok-table.seat.table_id.words ≡ c.args.items = ap (λ id. id.words) made.2 ∙ made.0 ∙ ap length (c.as_slice.ensures.value ∙ c.in_ok-words.ensures.items_if_clones_equal (λ y same. same)) ∙ length-replicate c.args.items 0 in
    record {
      sound = (
        ap (λ m. m.1) made.4,
        λ item mine. subst (λ (m : ℕ). item < m) (sym count) (whole_below c.args.items item (subst (λ m. Holds held_by item m.0) made.4 mine)),
      );
    }
