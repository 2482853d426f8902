-- What a draw answers.
use Rattle.std.specs.Prelude.{◌+◌, ◌^◌, ◌≡◌, ◌≢◌, ◌≤◌, ◌∷◌}
use Rattle.unit_model.specs.declared.machine.Note.TheVariants as note
use Rattle.unit_types.specs.declared.handlers.Handlers as Handlers
use Rattle.fabric_rule.specs.Steps.{with_note}
use Rattle.fabric_rule.specs.declared.cause.Cause.TheVariants as cause
use Rattle.fabric_rule.specs.declared.event.FabricEvent.TheVariants.{SawNext}
use Rattle.fabric_rule.specs.declared.view.FabricView.{FabricView}
use Rattle.port_fabric.specs.States.{account_in, log_in, refused}
use Rattle.port_fabric.specs.declared.drawing.Draw.{Draw}
use Rattle.port_fabric.specs.declared.drawing.Draw.TheVariants as draw
use Rattle.port_fabric.specs.declared.drawing.Drawn.{Drawn}
use Rattle.port_fabric.specs.declared.fabric.Fabric.{Fabric}
use Rattle.port_fabric.specs.declared.seats.EngineSeat.{EngineSeat}

-- the state is of this fabric
abbrev pub IsDrawnOf : {H : Type 0} {g : Handlers.Ghosts H} → Fabric H → Drawn H g → Type 0
IsDrawnOf fabric drawn = drawn.seat.seat.table_id ≡ fabric.table.table.shared.table_id

-- the seat's engine drew the stream
abbrev pub IsDrawnBy : {H : Type 0} {g : Handlers.Ghosts H} → EngineSeat H g → Drawn H g → Type 0
IsDrawnBy seat drawn = drawn.seat.seat.me.0.seat ≡ seat.number

-- what was drawn is of this fabric
abbrev pub IsAnswerOf : {H : Type 0} {g : Handlers.Ghosts H} → Fabric H → Draw H g → Type 0
IsAnswerOf fabric (draw.Drawn drawn) = IsDrawnOf fabric drawn
IsAnswerOf fabric (draw.Lost expected found) = Unit {0}
IsAnswerOf fabric (draw.Worn place) = Unit {0}

-- Of a seat's view before and after. A stream is drawn; or another seat drew the one that was seen, between this call's load and
-- its exchange; or none is left.
abbrev pub Draws : {H : Type 0} {g : Handlers.Ghosts H} → FabricView → FabricView → Draw H g → Type 0
Draws v u (draw.Drawn drawn) =
    (account_in u ≡ with_note (note.Drawn drawn.stream) 1 (account_in v))
    × (drawn.seat.seat.me.0.seat ≡ v.seat)
    × (log_in u ≡ SawNext (drawn.stream + 1) ∷ SawNext drawn.stream ∷ log_in v)
Draws v u (draw.Lost expected found) =
    (account_in u ≡ account_in v) × (found ≢ expected)
    × (log_in u ≡ SawNext found ∷ SawNext expected ∷ log_in v)
Draws v u (draw.Worn place) =
    (account_in u ≡ refused 0 (cause.Worn place) (account_in v)) × (2 ^ 62 ≤ place)
    × (log_in u ≡ SawNext place ∷ log_in v)
