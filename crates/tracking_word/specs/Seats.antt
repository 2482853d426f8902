-- What contracts say of a seat of tags.
use Rattle.std.specs.Prelude.{◌≡◌}
use Rattle.tracking_word.specs.declared.seat.TagSeat.{TagSeat}
use Rattle.tracking_word.specs.declared.tags.Tags.{Tags}
use Rattle.tracking_word.specs.declared.view.TagView.{TagView}

-- the seat is one of these tags
abbrev pub BelongsTo : TagSeat → Tags → Type 0
BelongsTo seat tags = seat.seat.table_id ≡ tags.table.shared.table_id

-- what the seat knows
abbrev pub knows : TagSeat → TagView
knows seat = seat.seat.me.0
