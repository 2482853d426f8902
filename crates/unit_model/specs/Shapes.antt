-- Which shapes a fabric can have, and what a shape says of seats and sides.
use Rattle.std.specs.Prelude.{ℕ, ◌+◌, ◌≤◌, ◌==◌, nat_lt, if◌then◌else◌, max}
use Rattle.unit_model.specs.Limits.{most_items, most_segments, most_seats, last_start}
use Rattle.unit_model.specs.declared.shape.Role.{Role}
use Rattle.unit_model.specs.declared.shape.Role.TheVariants.{Engine, Worker, NoSeat}
use Rattle.unit_model.specs.declared.shape.Shape.{Shape}

abbrev pub IsFrom1To : ℕ → ℕ → Type 0
IsFrom1To most n = (1 ≤ n) × (n ≤ most)

pub record IsValid (shape : Shape) : Type 0 where
  pub items : IsFrom1To most_items shape.items
  pub back_items : IsFrom1To most_items shape.back_items
  pub out_segments : IsFrom1To most_segments shape.out_segments
  pub back_segments : IsFrom1To most_segments shape.back_segments
  pub engines : IsFrom1To most_seats shape.engines
  pub workers : IsFrom1To most_seats shape.workers
  -- each item has a place before the first one
  pub room_before : max shape.items shape.back_items ≤ shape.start
  pub room_behind : shape.start ≤ last_start

-- ---- seats and sides

-- a role as a number
abbrev pub role_code : Role → ℕ
role_code Engine = 0
role_code Worker = 1
role_code NoSeat = 3

-- the role of a seat, as a number: engines first, then workers
abbrev pub role_in : Shape → ℕ → ℕ
role_in shape seat =
    if nat_lt seat shape.engines then 0 else if nat_lt seat (shape.engines + shape.workers) then 1 else 3

-- the first segment of a seat's side, and the one behind its last
abbrev pub side_start_in : Shape → ℕ → ℕ
side_start_in shape seat = if role_in shape seat == 0 then 0 else shape.out_segments

abbrev pub side_end_in : Shape → ℕ → ℕ
side_end_in shape seat =
    if role_in shape seat == 0 then shape.out_segments else shape.out_segments + shape.back_segments
