-- Which role holds which items and has which lists: what a sound core doesn't say and each step keeps too.
use Rattle.std.specs.Prelude.{ℕ, ◌+◌, ◌≡◌, ◌≢◌, []}
use Rattle.unit_model.specs.Core.{item_of, role_of, seat_of}
use Rattle.unit_model.specs.Effects.{after_step}
use Rattle.unit_model.specs.Opening.{opened_core}
use Rattle.unit_model.specs.Running.{Enabled}
use Rattle.unit_model.specs.Shapes.{IsValid}
use Rattle.unit_model.specs.Soundness.{IsSound}
use Rattle.unit_model.specs.declared.machine.Core.{Core}
use Rattle.unit_model.specs.declared.machine.Item.{Item}
use Rattle.unit_model.specs.declared.machine.Seat.{Seat as SeatLists}
use Rattle.unit_model.specs.declared.machine.Step.{Step}
use Rattle.unit_model.specs.declared.machine.Whereabouts.TheVariants.{InLine, WithSeat}
use Rattle.unit_model.specs.declared.shape.Shape.{Shape}

-- of one item of a queue, where seats have these roles
pub record ItemByRole (role : ℕ → ℕ) (queue : ℕ) (it : Item) : Type 0 where
  -- an item in the line of a back queue has a tag
  pub in_line : queue ≢ 0 → it.whereabouts ≡ InLine → it.tag ≢ 0
  -- an item of queue 0 with a tag that an engine holds has that engine's number as its part word: the engine posted it
  pub poster : (seat : ℕ)
      → role seat ≡ 0 → queue ≡ 0 → it.whereabouts ≡ WithSeat seat → it.tag ≢ 0 → it.part ≡ seat
  -- of the back queues an engine holds items of its own alone
  pub own : (seat : ℕ) → role seat ≡ 0 → queue ≢ 0 → it.whereabouts ≡ WithSeat seat
      → queue ≡ 1 + seat

-- so of all items
abbrev pub ItemsByRole : Core → Type 0
ItemsByRole core = (queue item : ℕ) → ItemByRole (role_of core) queue (item_of core queue item)

-- each enabled step of a sound core keeps it
abbrev pub ItemsByRoleStay : Type 0
ItemsByRoleStay = (core : Core) (step : Step)
    → IsSound core → ItemsByRole core → Enabled core step → ItemsByRole (after_step core step)

-- and so it is at first
abbrev pub ItemsByRoleAtFirst : Type 0
ItemsByRoleAtFirst = (shape : Shape) → IsValid shape → ItemsByRole (opened_core shape)

-- ---- the lists of seats

-- of the lists of one seat that has this role
pub record SeatByRole (role : ℕ) (lists : SeatLists) : Type 0 where
  -- who is no engine has none of an engine's lists
  pub engine : role ≢ 0
      → (lists.drawn ≡ []) × (lists.posted ≡ []) × (lists.cancelled ≡ []) × (lists.abandoned ≡ [])
      × (lists.received ≡ [])
  -- and who is no worker none of a worker's
  pub worker : role ≢ 1 → (lists.taken ≡ []) × (lists.sent ≡ []) × (lists.closed ≡ [])

abbrev pub SeatsByRole : Core → Type 0
SeatsByRole core = (seat : ℕ) → SeatByRole (role_of core seat) (seat_of core seat)

abbrev pub SeatsByRoleStay : Type 0
SeatsByRoleStay = (core : Core) (step : Step)
    → SeatsByRole core → Enabled core step → SeatsByRole (after_step core step)

abbrev pub SeatsByRoleAtFirst : Type 0
SeatsByRoleAtFirst = (shape : Shape) → SeatsByRole (opened_core shape)
