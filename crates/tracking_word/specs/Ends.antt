-- What holds when a table of tags is closed.
use Rattle.std.specs.Prelude.{ℕ, ◌≡◌, List, slice_index}
use Rattle.std.specs.Slots.{slots_items}
use mathlib.Core.Option.{some}
use lib.ListN.{get_elem?}
use Rattle.unit_model.specs.Sharing.{Owned}
use Rattle.tracking_word.specs.declared.closing.ClosedTags.{ClosedTags}
use Rattle.tracking_word.specs.declared.seat.TagSeat.{TagSeat}
use Rattle.tracking_word.specs.declared.tags.Tags.{Tags}
use Rattle.tracking_word.specs.declared.view.TagView.{TagView}
use Rattle.tracking_word.specs.Parts.{Counted, Known}
use Rattle.tracking_word.specs.Seats.{knows}
use Rattle.tracking_word.specs.Views.{held_by, arms_of, wins_of, says}

-- the last tags
abbrev pub last_tags : ClosedTags → ℕ → ℕ
last_tags closed = slice_index (slots_items closed.closed.words)

-- Of the last views of all seats, of which this seat's is one, and of the last tags: every arm was won once or still stands,
-- each item is with one seat, and a holder knows its item's tag, or it is 0.
pub record EndsWith (tags : Tags) (seat : TagSeat) (closed : ClosedTags) : Type 0 where
  pub views : List TagView
  pub view : get_elem? views seat.seat.id ≡ some (knows seat)
  pub counted : Counted arms_of wins_of tags.items (last_tags closed) views
  pub owned : Owned held_by (λ f. 0) tags.items views
  pub known : Known held_by says tags.items (last_tags closed) views
