-- What is kept of each stream, in place of the lists of all seats, and what each step makes of it.
use Rattle.std.specs.Prelude.{ℕ, ◌+◌, ◌-◌, ◌==◌, nat_lt, ◌&&◌, ◌||◌, not, Bool, true, false, if◌then◌else◌, get_or, set, replicate, Option, Some, None, option_map}
use Rattle.trace_check.specs.declared.streams.Stream.{Stream}
use Rattle.unit_model.specs.Conditions.{first_unmet_by, holds, holds_tagged, unless}
use Rattle.unit_model.specs.Core.{item_of, role_of, number_in, is_last_in}
use Rattle.unit_model.specs.Effects.{after_step}
use Rattle.unit_model.specs.declared.machine.Core.{Core}
use Rattle.unit_model.specs.declared.machine.Item.{Item}
use Rattle.unit_model.specs.declared.machine.Step.{Step}
use Rattle.unit_model.specs.declared.machine.Step.TheVariants.{Draw, Arm, Settle, Abandon}
use Rattle.unit_model.specs.declared.machine.Unmet.{Unmet}

-- ---- what is known of a stream, of which there is a record once it is drawn

abbrev pub known : (Stream → Bool) → Option Stream → Bool
known test None = false
known test (Some stream) = test stream

abbrev pub drawn_by : ℕ → Option Stream → Bool
drawn_by seat stream = known (λ s. s.engine == seat) stream

abbrev pub posted_by : ℕ → Option Stream → Bool
posted_by seat stream = known (λ s. s.engine == seat && s.posted) stream

abbrev pub cancelled_by : ℕ → Option Stream → Bool
cancelled_by seat stream = known (λ s. s.engine == seat && s.cancelled) stream

abbrev pub abandoned_by : ℕ → Option Stream → Bool
abandoned_by seat stream = known (λ s. s.engine == seat && s.abandoned) stream

abbrev pub taken_by : ℕ → Option Stream → Bool
taken_by seat stream = known (λ s. nat_lt seat 8 && get_or s.takers seat false) stream

abbrev pub sent_of : Option Stream → ℕ
sent_of None = 0
sent_of (Some stream) = stream.sent

-- ---- the eleventh condition

abbrev pub may_post_known : Core → Option Stream → ℕ → ℕ → ℕ → Option Unmet
may_post_known core stream seat queue item =
    unless (drawn_by seat stream && (not (posted_by seat stream) && (item_of core queue item).part == seat)) 11 1 0

abbrev pub may_send_known : Core → Option Stream → ℕ → ℕ → ℕ → ℕ → Option Unmet
may_send_known core stream seat queue item number =
    let asked = taken_by seat stream && posted_by (queue - 1) stream in
    let unfinished = not (known (λ s. s.last_sent) stream) && not (known (λ s. s.closed) stream) in
    let is_next_part = number_in (item_of core queue item).part == sent_of stream in
    unless (asked && (unfinished && (is_next_part && not (holds_tagged core seat queue number)))) 11 1 0

abbrev pub may_arm_known : Core → Option Stream → ℕ → ℕ → ℕ → ℕ → Option Unmet
may_arm_known core stream seat queue item number =
    if queue == 0 then may_post_known core stream seat queue item else may_send_known core stream seat queue item number

-- a worker that holds an armed item of a back queue has sent its part
abbrev pub may_win_known : Core → Option Stream → ℕ → ℕ → ℕ → Bool
may_win_known core stream seat queue item =
    if queue == 0
    then (if role_of core seat == 0 then posted_by seat stream else holds core seat queue item)
    else holds core seat queue item && (if role_of core seat == 0 then queue == 1 + seat else true)

abbrev pub may_settle_known : Core → Option Stream → ℕ → ℕ → ℕ → ℕ → Option Unmet
may_settle_known core stream seat queue item number =
    unless (not (number == 0) && may_win_known core stream seat queue item) 11 1 0

abbrev pub may_abandon_known : Option Stream → ℕ → Option Unmet
may_abandon_known stream seat =
    let is_posted = posted_by seat stream && known (λ s. s.taken) stream in
    let ended = cancelled_by seat stream || abandoned_by seat stream in
    unless (is_posted && not (ended || known (λ s. s.received_last) stream)) 11 1 0

-- the eleventh condition, of the steps that have it, given a core without its seats' lists and what is kept of each stream
abbrev pub eleventh_known : Core → (ℕ → Option Stream) → Step → Option Unmet
eleventh_known core at (Arm seat queue item stream) =
    may_arm_known core (at stream) seat queue item stream
eleventh_known core at (Settle seat queue item stream) =
    may_settle_known core (at stream) seat queue item stream
eleventh_known core at (Abandon seat stream) = may_abandon_known (at stream) seat
eleventh_known core at step = None

abbrev pub first_unmet_known : Core → (ℕ → Option Stream) → Step → Option Unmet
first_unmet_known core at = first_unmet_by core (eleventh_known core at)

-- ---- what each step makes of a stream's record

abbrev pub drawn_stream : ℕ → Stream
drawn_stream seat = record {
  engine = seat;
  posted = false;
  cancelled = false;
  abandoned = false;
  received_last = false;
  taken = false;
  takers = replicate 8 false;
  sent = 0;
  last_sent = false;
  closed = false;
}

abbrev pub armed_stream : ℕ → Item → Stream → Stream
armed_stream queue item stream =
    if queue == 0
    then record stream { posted = true }
    else record stream {
      sent =
          number_in item.part + 1;
      last_sent = stream.last_sent || is_last_in item.part;
    }

-- a part counts as received where the stream's own engine received it
abbrev pub settled_stream : Bool → ℕ → ℕ → Item → Stream → Stream
settled_stream is_engine seat queue item stream =
    if is_engine
    then (if queue == 0
    then record stream { cancelled = true }
    else record stream {
      received_last =
          stream.received_last || (stream.engine == seat && is_last_in item.part);
    })
    else (if queue == 0
    then record stream { taken = true; takers = set stream.takers seat true }
    else record stream { closed = true })

abbrev pub abandoned_stream : Stream → Stream
abandoned_stream stream = record stream { abandoned = true }

-- the record of a stream after a step, given the core and the records before it
unfoldable pub stream_after : Core → (ℕ → Option Stream) → Step → ℕ → Option Stream
stream_after core at (Draw seat stream) number =
    if number == stream then Some (drawn_stream seat) else at number
stream_after core at (Arm seat queue item stream) number =
    if number == stream then option_map (armed_stream queue (item_of core queue item)) (at stream) else at number
stream_after core at (Settle seat queue item stream) number =
    if number == stream
    then option_map (settled_stream (role_of core seat == 0) seat queue (item_of core queue item)) (at stream)
    else at number
stream_after core at (Abandon seat stream) number =
    if number == stream then option_map abandoned_stream (at stream) else at number
stream_after core at step number = at number

-- ---- a core without its seats' lists

-- the core after a step, but for the lists of its seats
abbrev pub frame_after : Core → Step → Core
frame_after core step = record (after_step core step) { seats = core.seats }
