-- What a step does. All that a step doesn't name stays.
use Rattle.std.specs.Prelude.{ℕ, zero, suc, ◌+◌, ◌==◌, Bool, if◌then◌else◌, List, [], ◌∷◌, ◌++◌, drop, set}
use Rattle.unit_model.specs.Conditions.{part_of}
use Rattle.unit_model.specs.Core.{item_of, role_of, chunk_number}
use Rattle.unit_model.specs.Lists.{change_at}
use Rattle.unit_model.specs.Runs.{chunks_for}
use Rattle.unit_model.specs.declared.machine.Core.{Core}
use Rattle.unit_model.specs.declared.machine.Entry.{Entry}
use Rattle.unit_model.specs.declared.machine.Item.{Item}
use Rattle.unit_model.specs.declared.machine.Note.{Note}
use Rattle.unit_model.specs.declared.machine.Note.TheVariants.{Drawn, Posted, Cancelled, Abandoned, Received, Taken, Sent, Closed}
use Rattle.unit_model.specs.declared.machine.Owner.{Owner}
use Rattle.unit_model.specs.declared.machine.Owner.TheVariants.{Free, Seat, Message}
use Rattle.unit_model.specs.declared.machine.Queue.{Queue}
use Rattle.unit_model.specs.declared.machine.Seat.{Seat as SeatLists}
use Rattle.unit_model.specs.declared.machine.Step.{Step}
use Rattle.unit_model.specs.declared.machine.Step.TheVariants.{Draw, Claim, Release, Open, GetItem, SetRun, SetPart, Arm, Push, Pop, Settle, GiveItem, Abandon}
use Rattle.unit_model.specs.declared.machine.Whereabouts.TheVariants.{InFreeList, InLine, WithSeat}
use Rattle.unit_model.specs.declared.runs.Run.{Run}

-- ---- seats

-- the lists of a seat with a note more
abbrev pub noted : Note → SeatLists → SeatLists
noted (Drawn stream) lists = record lists { drawn = lists.drawn ++ stream ∷ [] }
noted (Posted stream) lists = record lists { posted = lists.posted ++ stream ∷ [] }
noted (Cancelled stream) lists = record lists { cancelled = lists.cancelled ++ stream ∷ [] }
noted (Abandoned stream) lists = record lists { abandoned = lists.abandoned ++ stream ∷ [] }
noted (Received part) lists = record lists { received = lists.received ++ part ∷ [] }
noted (Taken stream) lists = record lists { taken = lists.taken ++ stream ∷ [] }
noted (Sent part) lists = record lists { sent = lists.sent ++ part ∷ [] }
noted (Closed stream) lists = record lists { closed = lists.closed ++ stream ∷ [] }

unfoldable pub with_note : ℕ → Note → Core → Core
with_note seat note core = record core { seats = change_at seat (noted note) core.seats }

-- ---- queues

abbrev pub change_queue : ℕ → (Queue → Queue) → Core → Core
change_queue queue change core = record core { queues = change_at queue change core.queues }

unfoldable pub with_item : ℕ → ℕ → Item → Core → Core
with_item queue item new core =
    change_queue queue (λ q. record q { items = set q.items item new }) core

unfoldable pub without_first_free : ℕ → Core → Core
without_first_free queue core = change_queue queue (λ q. record q { free = drop 1 q.free }) core

unfoldable pub without_first_in_line : ℕ → Core → Core
without_first_in_line queue core = change_queue queue (λ q. record q { line = drop 1 q.line }) core

unfoldable pub with_free : ℕ → Entry → Core → Core
with_free queue entry core =
    change_queue queue (λ q. record q {
      free =
          q.free ++ entry ∷ [];
      next_free = entry.place + 1;
    }) core

unfoldable pub with_in_line : ℕ → Entry → Core → Core
with_in_line queue entry core =
    change_queue queue (λ q. record q {
      line =
          q.line ++ entry ∷ [];
      next_line = entry.place + 1;
    }) core

-- ---- chunks

unfoldable pub with_owner : ℕ → Owner → Core → Core
with_owner number owner core = record core { owners = set core.owners number owner }

-- the list with this value from a place on, so many times
abbrev pub set_all : {X : Type 0} → List X → ℕ → ℕ → X → List X
set_all xs first zero x = xs
set_all xs first (suc count) x = set (set_all xs first count x) (first + count) x

unfoldable pub with_run_owner : Run → Owner → Core → Core
with_run_owner run owner core =
    record core {
      owners =
          set_all core.owners (chunk_number run.segment run.chunk) (chunks_for run.size) owner;
    }

unfoldable pub with_opened : ℕ → ℕ → Core → Core
with_opened seat count core =
    let opened =
    if role_of core seat == 0
    then record core.opened { out = count }
    else record core.opened { back = count } in
    record core { opened = opened }

-- ---- what each step does

-- what the seat that arms an item has done by it
abbrev pub armed_note : ℕ → ℕ → Item → Note
armed_note queue stream item = if queue == 0 then Posted stream else Sent (part_of stream item)

-- what the seat that settles an item has done by it
abbrev pub settled_note : Bool → ℕ → ℕ → Item → Note
settled_note is_engine queue stream item =
    if is_engine
    then (if queue == 0 then Cancelled stream else Received (part_of stream item))
    else (if queue == 0 then Taken stream else Closed stream)

unfoldable pub after_step : Core → Step → Core
after_step core (Draw seat stream) =
    record (with_note seat (Drawn stream) core) { next = stream + 1 }
after_step core (Claim seat segment chunk) =
    with_owner (chunk_number segment chunk) (Seat seat) core
after_step core (Release seat segment chunk) = with_owner (chunk_number segment chunk) Free core
after_step core (Open seat count) = with_opened seat (count + 1) core
after_step core (GetItem seat queue item place) =
    with_item queue item (record (item_of core queue item) {
      whereabouts =
          WithSeat seat;
    }) (without_first_free queue core)
after_step core (SetRun seat queue item run) =
    with_item queue item (record (item_of core queue item) { run = run }) core
after_step core (SetPart seat queue item part) =
    with_item queue item (record (item_of core queue item) { part = part }) core
after_step core (Arm seat queue item stream) =
    let old = item_of core queue item in
    with_run_owner old.run (Message queue item)
    (with_item queue item (record old { tag = stream; stream = stream })
    (with_note seat (armed_note queue stream old) core))
after_step core (Push seat queue item place) =
    with_item queue item (record (item_of core queue item) { whereabouts = InLine })
    (with_in_line queue (record { place = place; item = item }) core)
after_step core (Pop seat queue item place) =
    with_item queue item (record (item_of core queue item) {
      whereabouts =
          WithSeat seat;
    }) (without_first_in_line queue core)
after_step core (Settle seat queue item stream) =
    let old = item_of core queue item in
    with_run_owner old.run (Seat seat)
    (with_item queue item (record old { tag = 0 })
    (with_note seat (settled_note (role_of core seat == 0) queue stream old) core))
after_step core (GiveItem seat queue item place) =
    with_item queue item (record (item_of core queue item) { whereabouts = InFreeList })
    (with_free queue (record { place = place; item = item }) core)
after_step core (Abandon seat stream) = with_note seat (Abandoned stream) core
