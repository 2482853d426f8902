-- Each change of the words of a fabric is a step of the core that they show, or none. The core is any sound one.
use Rattle.std.specs.Prelude.{ℕ, ◌+◌, ◌/◌, ◌%◌, ◌≡◌, ◌<◌}
use Rattle.port_message.specs.Words.{numbers_of}
use Rattle.unit_model.specs.Core.{owner_of}
use Rattle.unit_model.specs.Effects.{after_step}
use Rattle.unit_model.specs.Holding.{IsInRun, items_of}
use Rattle.unit_model.specs.Opening.{opened_core}
use Rattle.unit_model.specs.Shapes.{IsValid}
use Rattle.unit_model.specs.Soundness.{IsSound}
use Rattle.unit_model.specs.declared.machine.Core.{Core}
use Rattle.unit_model.specs.declared.machine.Owner.TheVariants.{Seat, Message}
use Rattle.unit_model.specs.declared.machine.Step.{Step}
use Rattle.unit_model.specs.declared.machine.Step.TheVariants.{Draw, Claim, Release, Open, GetItem, SetRun, SetPart, Arm, Push, Pop, Settle, GiveItem, Abandon}
use Rattle.unit_model.specs.declared.runs.Run.{Run}
use Rattle.unit_model.specs.declared.shape.Shape.{Shape}
use Rattle.fabric_words.specs.Makes.{Makes}
use Rattle.fabric_words.specs.Needs.{Needs, NeedsArm, NeedsSettle}
use Rattle.fabric_words.specs.Opened.{IsOpened}
use Rattle.fabric_words.specs.Places.{Sets, Stays, queues_of}
use Rattle.fabric_words.specs.Shown.{Shows, IsStep}
use Rattle.fabric_words.specs.declared.place.Place.{Place}
use Rattle.fabric_words.specs.declared.place.Place.TheVariants.{Tail, Slot, RunWord}
use Rattle.fabric_words.specs.declared.place.Side.{Side}

-- ---- steps

-- where the words show a sound core and the seat has what the step needs, the change of its word is the step
abbrev pub StepIsShown : Step → Type 0
StepIsShown step =
    (word word' : Place → ℕ) (core : Core) → IsSound core → Shows word core → Needs word core step
    → Makes core.shape word word' step
    → IsStep word' core step

abbrev pub DrawLaw : Type 0
DrawLaw = (seat stream : ℕ) → StepIsShown (Draw seat stream)

abbrev pub ClaimLaw : Type 0
ClaimLaw = (seat segment chunk : ℕ) → StepIsShown (Claim seat segment chunk)

abbrev pub ReleaseLaw : Type 0
ReleaseLaw = (seat segment chunk : ℕ) → StepIsShown (Release seat segment chunk)

abbrev pub OpenLaw : Type 0
OpenLaw = (seat count : ℕ) → StepIsShown (Open seat count)

abbrev pub GetItemLaw : Type 0
GetItemLaw = (seat queue item place : ℕ) → StepIsShown (GetItem seat queue item place)

abbrev pub SetRunLaw : Type 0
SetRunLaw = (seat queue item : ℕ) (run : Run) → StepIsShown (SetRun seat queue item run)

abbrev pub SetPartLaw : Type 0
SetPartLaw = (seat queue item part : ℕ) → StepIsShown (SetPart seat queue item part)

abbrev pub ArmLaw : Type 0
ArmLaw = (seat queue item stream : ℕ) → StepIsShown (Arm seat queue item stream)

abbrev pub PushLaw : Type 0
PushLaw = (seat queue item place : ℕ) → StepIsShown (Push seat queue item place)

abbrev pub PopLaw : Type 0
PopLaw = (seat queue item place : ℕ) → StepIsShown (Pop seat queue item place)

abbrev pub SettleLaw : Type 0
SettleLaw = (seat queue item stream : ℕ) → StepIsShown (Settle seat queue item stream)

abbrev pub GiveItemLaw : Type 0
GiveItemLaw = (seat queue item place : ℕ) → StepIsShown (GiveItem seat queue item place)

abbrev pub AbandonLaw : Type 0
AbandonLaw = (seat stream : ℕ) → StepIsShown (Abandon seat stream)

-- ---- who has the chunks of a message

-- an arm gives the chunks of the run that the run word says from the seat to the message
abbrev pub ArmGivesRun : Type 0
ArmGivesRun = (word : Place → ℕ) (core : Core) → IsSound core → Shows word core
    → (seat queue item stream : ℕ) → NeedsArm word core seat queue item stream
    → (number : ℕ) → IsInRun (numbers_of (word (RunWord queue item))) number
    → (owner_of core number ≡ Seat seat)
    × (owner_of (after_step core (Arm seat queue item stream)) number ≡ Message queue item)

-- and a settle from the message to the seat
abbrev pub SettleGivesRun : Type 0
SettleGivesRun = (word : Place → ℕ) (core : Core) → IsSound core → Shows word core
    → (seat queue item stream : ℕ) → NeedsSettle word core seat queue item stream
    → (number : ℕ) → IsInRun (numbers_of (word (RunWord queue item))) number
    → (owner_of core number ≡ Message queue item)
    × (owner_of (after_step core (Settle seat queue item stream)) number ≡ Seat seat)

-- ---- no steps

-- after a load, or an exchange that was lost, the same core is shown
abbrev pub StayLaw : Type 0
StayLaw = (word word' : Place → ℕ) (core : Core) → Shows word core → Stays core.shape word word'
    → Shows word' core

-- and so after a tail is moved on, by whoever helps, where the entry at it has its cycle
abbrev pub HelpLaw : Type 0
HelpLaw = (word word' : Place → ℕ) (core : Core) → Shows word core
    → (queue place : ℕ) (side : Side) → queue < queues_of core.shape
    → word (Tail queue side) ≡ place
    → word (Slot queue side (place % items_of core.shape queue)) / items_of core.shape queue ≡ place / items_of core.shape queue
    → Sets core.shape word word' (Tail queue side) (place + 1)
    → Shows word' core

-- ---- at first

-- the words of a fabric that was just made show the core as it begins
abbrev pub OpenedLaw : Type 0
OpenedLaw = (shape : Shape) (word : Place → ℕ) → IsValid shape → IsOpened shape word
    → Shows word (opened_core shape)
