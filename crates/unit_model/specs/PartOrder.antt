-- The parts of a stream that an engine received, and after them those on their way to it, are the sent ones, in their order.
-- What an engine popped and hasn't settled, and what is armed and not pushed, is told by two functions beside the core.
use Rattle.std.specs.Prelude.{ℕ, ◌+◌, ◌≡◌, ◌≢◌, ◌≤◌, ◌<◌, true, List, [], ◌∷◌, ◌++◌, map, filter, length, get_or}
use Rattle.unit_model.specs.Core.{queue_of, item_of, role_of, seat_of, number_in, first_item}
use Rattle.unit_model.specs.Effects.{after_step}
use Rattle.unit_model.specs.Limits.{past_items}
use Rattle.unit_model.specs.Opening.{opened_core}
use Rattle.unit_model.specs.PartCounts.{is_of_stream, sent_parts, no_part}
use Rattle.unit_model.specs.SoundStreams.{part_in}
use Rattle.unit_model.specs.Running.{Enabled}
use Rattle.unit_model.specs.Soundness.{IsSound}
use Rattle.unit_model.specs.StreamCounts.{by_seat, by_all, posted, taken, closed}
use Rattle.unit_model.specs.declared.machine.Core.{Core}
use Rattle.unit_model.specs.declared.machine.Part.{Part}
use Rattle.unit_model.specs.declared.machine.Step.{Step}
use Rattle.unit_model.specs.declared.machine.Step.TheVariants.{Draw, Claim, Release, Open, GetItem, SetRun, SetPart, Arm, Push, Pop, Settle, GiveItem, Abandon}
use Rattle.unit_model.specs.declared.shape.Shape.{Shape}
use Rattle.unit_model.specs.Premises.{Fills, IsInHand, MaySend}

-- so is each element
abbrev pub Each : {X : Type 0} → (X → Type 0) → List X → Type 0
Each P [] = Unit {0}
Each P (x ∷ xs) = P x × Each P xs

abbrev pub four : List Part → List Part → List Part → List Part → List Part
four received popped line armed = received ++ (popped ++ (line ++ armed))

-- the parts of a queue's line
abbrev pub line_parts : Core → ℕ → List Part
line_parts core queue = map (λ entry. part_in core queue entry.item) (queue_of core queue).line

-- what the engine received, then what it popped and hasn't settled, then its line, then what is armed and not pushed
abbrev pub all_parts : Core → ℕ → List ℕ → List ℕ → List Part
all_parts core engine popped armed =
    four (seat_of core engine).received (map (part_in core (1 + engine)) popped) (line_parts core (1 + engine)) (map (part_in core (1 + engine)) armed)

-- those of one stream
abbrev pub course : Core → ℕ → ℕ → List ℕ → List ℕ → List Part
course core engine stream popped armed = filter (is_of_stream stream) (all_parts core engine popped armed)

-- they are what the worker sent, but for at most one last part, which was taken back where the stream is closed
pub record IsOrdered (core : Core) (engine worker stream : ℕ) (popped armed : List ℕ) : Type 0 where
  pub gone : List Part
  pub few : length gone ≤ 1
  pub whole : course core engine stream popped armed ++ gone ≡ sent_parts core worker stream
  pub complete : by_seat closed core worker stream ≡ 0 → gone ≡ []

-- an item that an engine popped from its back queue and hasn't settled
pub record IsPopped (core : Core) (engine item : ℕ) : Type 0 where
  pub role : role_of core engine ≡ 0
  pub hand : IsInHand core engine (1 + engine) item
  pub tagged : (item_of core (1 + engine) item).tag ≢ 0

-- an item that a worker armed for an engine and hasn't pushed
pub record IsUnpushed (core : Core) (engine stream item : ℕ) : Type 0 where
  pub seat : ℕ
  pub role : role_of core seat ≡ 1
  pub hand : IsInHand core seat (1 + engine) item
  pub tag : (item_of core (1 + engine) item).tag ≡ stream

-- `popped engine` is what the views of an engine say that it popped, and `armed stream` what the view with the stream's
-- work says that it armed; an engine has popped one item at most
pub record PartsInOrder (popped armed : ℕ → List ℕ) (core : Core) : Type 0 where
  pub one : (engine : ℕ) → length (popped engine) ≤ 1
  pub pops : (engine : ℕ) → Each (IsPopped core engine) (popped engine)
  pub arms : (engine stream : ℕ) → 1 ≤ by_seat posted core engine stream
      → Each (IsUnpushed core engine stream) (armed stream)
  pub untaken : (stream : ℕ) → by_all taken core stream ≡ 0 → armed stream ≡ []
  pub order : (engine worker stream : ℕ) → 1 ≤ by_seat posted core engine stream
      → 1 ≤ by_seat taken core worker stream
      → IsOrdered core engine worker stream (popped engine) (armed stream)

-- the list of one number is this now, and no other's has changed
pub record Puts (lists lists' : ℕ → List ℕ) (key : ℕ) (old now : List ℕ) : Type 0 where
  pub before : lists key ≡ old
  pub after : lists' key ≡ now
  pub others : (k : ℕ) → k ≢ key → lists' k ≡ lists k

-- ---- the steps

-- a worker arms a part
abbrev pub ArmInOrder : Type 0
ArmInOrder = (popped armed armed' : ℕ → List ℕ) (core : Core) → IsSound core
    → PartsInOrder popped armed core
    → (seat engine item stream : ℕ) → Fills core seat (1 + engine)
    → IsInHand core seat (1 + engine) item → (item_of core (1 + engine) item).tag ≡ 0
    → MaySend core seat (1 + engine) item stream (item_of core (1 + engine) item).part
    → Puts armed armed' stream [] (item ∷ [])
    → PartsInOrder popped armed' (after_step core (Arm seat (1 + engine) item stream))

-- and pushes it
abbrev pub PushInOrder : Type 0
PushInOrder = (popped armed armed' : ℕ → List ℕ) (core : Core) → IsSound core
    → PartsInOrder popped armed core
    → (seat engine item place stream : ℕ) → Fills core seat (1 + engine)
    → IsInHand core seat (1 + engine) item → (item_of core (1 + engine) item).tag ≡ stream
    → stream ≢ 0
    → Puts armed armed' stream (item ∷ []) []
    → PartsInOrder popped armed' (after_step core (Push seat (1 + engine) item place))

-- an engine pops it
abbrev pub PopInOrder : Type 0
PopInOrder = (popped popped' armed : ℕ → List ℕ) (core : Core) → IsSound core
    → PartsInOrder popped armed core
    → (engine item place : ℕ) → role_of core engine ≡ 0
    → first_item (queue_of core (1 + engine)).line ≡ item → item < past_items
    → (item_of core (1 + engine) item).tag ≢ 0
    → Puts popped popped' engine [] (item ∷ [])
    → PartsInOrder popped' armed (after_step core (Pop engine (1 + engine) item place))

-- and receives it
abbrev pub SettleInOrder : Type 0
SettleInOrder = (popped popped' armed : ℕ → List ℕ) (core : Core) → IsSound core
    → PartsInOrder popped armed core
    → (engine item stream : ℕ) → (item_of core (1 + engine) item).tag ≡ stream
    → Puts popped popped' engine (item ∷ []) []
    → PartsInOrder popped' armed (after_step core (Settle engine (1 + engine) item stream))

-- a worker takes its last part back
abbrev pub CloseInOrder : Type 0
CloseInOrder = (popped armed armed' : ℕ → List ℕ) (core : Core) → IsSound core
    → PartsInOrder popped armed core
    → (seat engine item stream : ℕ) → role_of core seat ≡ 1 → IsInHand core seat (1 + engine) item
    → (item_of core (1 + engine) item).tag ≡ stream → stream ≢ 0
    → Puts armed armed' stream (item ∷ []) []
    → PartsInOrder popped armed' (after_step core (Settle seat (1 + engine) item stream))

-- all other steps
abbrev pub IsOther : Step → Type 0
IsOther (Draw seat stream) = Unit {0}
IsOther (Claim seat segment chunk) = Unit {0}
IsOther (Release seat segment chunk) = Unit {0}
IsOther (Open seat count) = Unit {0}
IsOther (GetItem seat queue item place) = Unit {0}
IsOther (SetRun seat queue item run) = Unit {0}
IsOther (SetPart seat queue item part) = Unit {0}
IsOther (Arm seat queue item stream) = queue ≡ 0
IsOther (Push seat queue item place) = queue ≡ 0
IsOther (Pop seat queue item place) = queue ≡ 0
IsOther (Settle seat queue item stream) = queue ≡ 0
IsOther (GiveItem seat queue item place) = Unit {0}
IsOther (Abandon seat stream) = Unit {0}

abbrev pub OthersInOrder : Type 0
OthersInOrder = (popped armed : ℕ → List ℕ) (core : Core) (step : Step) → IsSound core
    → PartsInOrder popped armed core → IsOther step → Enabled core step
    → PartsInOrder popped armed (after_step core step)

-- and at first
abbrev pub InOrderAtFirst : Type 0
InOrderAtFirst = (shape : Shape) → PartsInOrder (λ _. []) (λ _. []) (opened_core shape)

-- ---- what it says

-- the parts of a stream that an engine received, oldest first
abbrev pub received_parts : Core → ℕ → ℕ → List Part
received_parts core engine stream = filter (is_of_stream stream) (seat_of core engine).received

-- what an engine received of a stream is the first of what the worker sent, and their numbers are 0, 1, 2 and so on
abbrev pub ReceivedInOrder : Type 0
ReceivedInOrder = (popped armed : ℕ → List ℕ) (core : Core) → IsSound core
    → PartsInOrder popped armed core
    → (engine worker stream : ℕ) → 1 ≤ by_seat posted core engine stream
    → 1 ≤ by_seat taken core worker stream
    → (place : ℕ) → place < length (received_parts core engine stream)
    → (get_or (received_parts core engine stream) place no_part ≡ get_or (sent_parts core worker stream) place no_part)
    × ((get_or (received_parts core engine stream) place no_part).number ≡ place)

-- the received parts of a stream are all that the worker sent, and no other part of it is popped, in the line, armed or taken
-- back
pub record IsReceivedWhole (core : Core) (engine worker stream : ℕ) (popped armed : List ℕ) : Type 0 where
  pub all : received_parts core engine stream ≡ sent_parts core worker stream
  pub none : course core engine stream popped armed ≡ received_parts core engine stream

-- Where a received part is the last, it is the final one of them, and behind it none is on its way, nor was one sent. So no other
-- is the last, and as this holds after each step, none is received behind it.
abbrev pub LastEndsReceived : Type 0
LastEndsReceived = (popped armed : ℕ → List ℕ) (core : Core) → IsSound core
    → PartsInOrder popped armed core
    → (engine worker stream : ℕ) → 1 ≤ by_seat posted core engine stream
    → 1 ≤ by_seat taken core worker stream
    → (place : ℕ) → place < length (received_parts core engine stream)
    → (get_or (received_parts core engine stream) place no_part).last ≡ true
    → (place + 1 ≡ length (received_parts core engine stream))
    × IsReceivedWhole core engine worker stream (popped engine) (armed stream)

-- the part that an engine has popped is the next one
abbrev pub PoppedIsNext : Type 0
PoppedIsNext = (popped armed : ℕ → List ℕ) (core : Core) → IsSound core
    → PartsInOrder popped armed core
    → (engine worker stream item : ℕ) → 1 ≤ by_seat posted core engine stream
    → 1 ≤ by_seat taken core worker stream
    → popped engine ≡ item ∷ [] → (item_of core (1 + engine) item).tag ≡ stream
    → number_in (item_of core (1 + engine) item).part ≡ length (received_parts core engine stream)
