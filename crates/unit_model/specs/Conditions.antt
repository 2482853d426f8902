-- The conditions of a step, in their order, and the first that isn't met.
use Rattle.std.specs.Prelude.{ℕ, zero, suc, ◌+◌, ◌-◌, ◌*◌, ◌==◌, ◌&&◌, ◌||◌, not, min, nat_lt, nat_le, Bool, if◌then◌else◌, List, [], ◌∷◌, count_by, length, Option, Some, None}
use Rattle.std.specs.Option.{option_or}
use Rattle.std.specs.List.{list_any}
use Rattle.unit_model.specs.Core.{queue_of, item_of, number_in, is_last_in, first_place, first_item, whereabouts_code, seat_of, role_of, chunk_number, owner_code, owner_of, side_start, side_end, side_opened}
use Rattle.unit_model.specs.Limits.{segment_chunks, stream_limit, place_limit, past_items}
use Rattle.unit_model.specs.Runs.{chunks_for}
use Rattle.unit_model.specs.Weights.{weigh}
use Rattle.unit_model.specs.declared.machine.Core.{Core}
use Rattle.unit_model.specs.declared.machine.Item.{Item}
use Rattle.unit_model.specs.declared.machine.Part.{Part}
use Rattle.unit_model.specs.declared.machine.Step.{Step}
use Rattle.unit_model.specs.declared.machine.Step.TheVariants.{Draw, Claim, Release, Open, GetItem, SetRun, SetPart, Arm, Push, Pop, Settle, GiveItem, Abandon}
use Rattle.unit_model.specs.declared.machine.Unmet.{Unmet}
use Rattle.unit_model.specs.declared.runs.Run.{Run}

-- nothing where the condition holds, and else its number with what it wants and what was found
abbrev pub unless : Bool → ℕ → ℕ → ℕ → Option Unmet
unless holds rule want found =
    if holds then None else Some (record { rule = rule; want = want; found = found })

-- the first of the conditions that isn't met
abbrev pub first_of : List (Option Unmet) → Option Unmet
first_of [] = None
first_of (condition ∷ conditions) = option_or condition (first_of conditions)

-- ---- the conditions by their numbers

-- 1: the seat has the role
unfoldable pub is_engine : Core → ℕ → Option Unmet
is_engine core seat = unless (role_of core seat == 0) 1 0 (role_of core seat)

unfoldable pub is_worker : Core → ℕ → Option Unmet
is_worker core seat = unless (role_of core seat == 1) 1 1 (role_of core seat)

unfoldable pub is_either : Core → ℕ → Option Unmet
is_either core seat = unless (nat_le (role_of core seat) 1) 1 2 (role_of core seat)

-- 2: the stream is the next one and below its limit
unfoldable pub is_next_stream : Core → ℕ → Option Unmet
is_next_stream core stream =
    unless (stream == core.next && nat_lt stream stream_limit) 2 (min core.next stream_limit) stream

-- 3: the chunk is in one of these segments
unfoldable pub is_in_segments : ℕ → ℕ → ℕ → ℕ → Option Unmet
is_in_segments start end segment chunk =
    let is_chunk = nat_lt chunk segment_chunks in
    let want =
    if is_chunk && nat_lt segment start then segment_chunks * start else segment_chunks * end in
    let found = if is_chunk then chunk_number segment chunk else past_items in
    unless (is_chunk && (nat_le start segment && nat_lt segment end)) 3 want found

-- 4: the chunk's owner
unfoldable pub has_owner : Core → ℕ → ℕ → Option Unmet
has_owner core code number =
    unless (owner_code (owner_of core number) == code) 4 code (owner_code (owner_of core number))

-- 4: the owner of so many chunks from this number on, the first that fails
abbrev pub all_have_owner : Core → ℕ → ℕ → ℕ → Option Unmet
all_have_owner core code number zero = None
all_have_owner core code number (suc count) =
    option_or (has_owner core code number) (all_have_owner core code (number + 1) count)

unfoldable pub run_has_owner : Core → ℕ → Run → Option Unmet
run_has_owner core code run =
    all_have_owner core code (chunk_number run.segment run.chunk) (chunks_for run.size)

-- 5: queue and item are there
abbrev pub is_there : Core → ℕ → ℕ → Bool
is_there core queue item = nat_lt item (length (queue_of core queue).items)

-- 5, and the queue is this seat's to fill: engines fill queue 0, workers the back queues
unfoldable pub may_fill : Core → ℕ → ℕ → ℕ → Option Unmet
may_fill core seat queue item =
    unless
    (is_there core queue item && (if role_of core seat == 0 then queue == 0 else not (queue == 0)))
    5 1 0

-- 5, and the queue is this seat's to empty: queue 0 a worker's, queue 1 + e that of engine e
unfoldable pub may_empty : Core → ℕ → ℕ → ℕ → Option Unmet
may_empty core seat queue item =
    unless (is_there core queue item && (queue == 0 || queue == 1 + seat)) 5 1 0

-- 5, where each seat may use each queue
unfoldable pub may_use : Core → ℕ → ℕ → Option Unmet
may_use core queue item = unless (is_there core queue item) 5 1 0

-- 6: the place is the first one of the list, or the one behind it and below its limit
unfoldable pub is_first_free_place : Core → ℕ → ℕ → Option Unmet
is_first_free_place core queue place =
    let first = first_place (queue_of core queue).free (queue_of core queue).next_free in
    unless (place == first) 6 first place

unfoldable pub is_first_line_place : Core → ℕ → ℕ → Option Unmet
is_first_line_place core queue place =
    let first = first_place (queue_of core queue).line (queue_of core queue).next_line in
    unless (place == first) 6 first place

abbrev pub is_next_place : ℕ → ℕ → Option Unmet
is_next_place next place =
    unless (place == next && nat_lt place place_limit) 6 (min next place_limit) place

unfoldable pub is_next_line_place : Core → ℕ → ℕ → Option Unmet
is_next_line_place core queue place = is_next_place (queue_of core queue).next_line place

unfoldable pub is_next_free_place : Core → ℕ → ℕ → Option Unmet
is_next_free_place core queue place = is_next_place (queue_of core queue).next_free place

-- 7: the item is the first of the list
unfoldable pub is_first_free_item : Core → ℕ → ℕ → Option Unmet
is_first_free_item core queue item =
    let first = first_item (queue_of core queue).free in
    unless (item == first) 7 first item

unfoldable pub is_first_line_item : Core → ℕ → ℕ → Option Unmet
is_first_line_item core queue item =
    let first = first_item (queue_of core queue).line in
    unless (item == first) 7 first item

-- 8: the seat holds the item
abbrev pub holds : Core → ℕ → ℕ → ℕ → Bool
holds core seat queue item = whereabouts_code (item_of core queue item).whereabouts == 1 + seat

unfoldable pub seat_holds : Core → ℕ → ℕ → ℕ → Option Unmet
seat_holds core seat queue item =
    unless (holds core seat queue item)
    8 (1 + seat) (whereabouts_code (item_of core queue item).whereabouts)

-- 9: the tag is this one, or any but 0
unfoldable pub has_tag : Core → ℕ → ℕ → ℕ → Option Unmet
has_tag core queue item tag =
    unless ((item_of core queue item).tag == tag) 9 tag (item_of core queue item).tag

unfoldable pub is_tagged : Core → ℕ → ℕ → Option Unmet
is_tagged core queue item =
    unless (not ((item_of core queue item).tag == 0)) 9 place_limit (item_of core queue item).tag

-- 10: the run has a size of at least 1 and fits its segment and the seat's side
unfoldable pub fits_side : Core → ℕ → Run → Option Unmet
fits_side core seat run =
    let in_segment = nat_lt 0 run.size && nat_le (run.chunk + chunks_for run.size) segment_chunks in
    let on_side =
    nat_le (side_start core seat) run.segment && nat_lt run.segment (side_end core seat) in
    unless (in_segment && on_side) 10 1 0

-- 11: the stream's state

abbrev pub has_stream : ℕ → List ℕ → Bool
has_stream stream streams = list_any (λ other. other == stream) streams

-- the seat drew the stream and hasn't posted it, and the item's part is the seat's number
unfoldable pub may_post : Core → ℕ → ℕ → ℕ → ℕ → Option Unmet
may_post core seat queue item stream =
    let lists = seat_of core seat in
    let is_new = has_stream stream lists.drawn in
    let is_own = (item_of core queue item).part == seat in
    unless (is_new && (not (has_stream stream lists.posted) && is_own)) 11 1 0

-- the stream's last part is sent
abbrev pub is_last_sent : Core → ℕ → Bool
is_last_sent core stream =
    list_any (λ lists. list_any (λ part. part.stream == stream && part.last) lists.sent) core.seats

-- the stream is closed
abbrev pub is_closed : Core → ℕ → Bool
is_closed core stream = list_any (λ lists. has_stream stream lists.closed) core.seats

-- some seat took the stream
abbrev pub is_taken : Core → ℕ → Bool
is_taken core stream = list_any (λ lists. has_stream stream lists.taken) core.seats

-- how many parts of the stream were sent
abbrev pub parts_sent : Core → ℕ → ℕ
parts_sent core stream =
    weigh (λ lists. count_by (λ part. part.stream == stream) lists.sent) core.seats

-- the seat holds an item of the queue whose tag is the stream
abbrev pub holds_tagged : Core → ℕ → ℕ → ℕ → Bool
holds_tagged core seat queue stream =
    list_any (λ item. whereabouts_code item.whereabouts == 1 + seat && item.tag == stream)
    (queue_of core queue).items

-- the seat took the stream and the queue's engine posted it; neither is its last part sent nor is it closed; the part
-- word's number is how many parts were sent; and the seat holds no other part of it that is to be pushed
unfoldable pub may_send : Core → ℕ → ℕ → ℕ → ℕ → Option Unmet
may_send core seat queue item stream =
    let asked =
    has_stream stream (seat_of core seat).taken
    && has_stream stream (seat_of core (queue - 1)).posted in
    let unfinished = not (is_last_sent core stream) && not (is_closed core stream) in
    let is_next_part = number_in (item_of core queue item).part == parts_sent core stream in
    let is_waiting = holds_tagged core seat queue stream in
    unless (asked && (unfinished && (is_next_part && not is_waiting))) 11 1 0

unfoldable pub may_arm : Core → ℕ → ℕ → ℕ → ℕ → Option Unmet
may_arm core seat queue item stream =
    if queue == 0
    then may_post core seat queue item stream
    else may_send core seat queue item stream

-- the part that the item carries of this stream
abbrev pub part_of : ℕ → Item → Part
part_of stream item =
    record { stream = stream; number = number_in item.part; last = is_last_in item.part }

abbrev pub is_same_part : Part → Part → Bool
is_same_part one other =
    one.stream == other.stream
    && (one.number == other.number && (if one.last then other.last else not other.last))

-- of queue 0: a worker that holds the item takes the stream, or the engine that posted it cancels it
abbrev pub may_win_request : Core → ℕ → ℕ → ℕ → ℕ → Bool
may_win_request core seat queue item stream =
    if role_of core seat == 0
    then has_stream stream (seat_of core seat).posted
    else holds core seat queue item

-- of queue 1 + e: engine e, holding the item, receives the part, or a worker that holds the item and sent this part closes
-- the stream
abbrev pub may_win_part : Core → ℕ → ℕ → ℕ → ℕ → Bool
may_win_part core seat queue item stream =
    holds core seat queue item
    && (if role_of core seat == 0
    then queue == 1 + seat
    else list_any (is_same_part (part_of stream (item_of core queue item))) (seat_of core seat).sent)

unfoldable pub may_settle : Core → ℕ → ℕ → ℕ → ℕ → Option Unmet
may_settle core seat queue item stream =
    let may_win =
    if queue == 0
    then may_win_request core seat queue item stream
    else may_win_part core seat queue item stream in
    unless (not (stream == 0) && may_win) 11 1 0

-- the seat posted the stream, has neither cancelled nor abandoned it nor received its last part, and some seat took it
unfoldable pub may_abandon : Core → ℕ → ℕ → Option Unmet
may_abandon core seat stream =
    let lists = seat_of core seat in
    let is_posted = has_stream stream lists.posted && is_taken core stream in
    let ended = has_stream stream lists.cancelled || has_stream stream lists.abandoned in
    let is_received = list_any (λ part. part.stream == stream && part.last) lists.received in
    unless (is_posted && not (ended || is_received)) 11 1 0

-- 12: the segment is one of the open ones, which are the lowest of the seat's side
unfoldable pub is_open : Core → ℕ → ℕ → Option Unmet
is_open core seat segment =
    let number = segment - side_start core seat in
    unless (nat_lt number (side_opened core seat)) 12 (side_opened core seat) number

-- 13: the count is the number of open segments of the seat's side, of which one isn't open
unfoldable pub may_open : Core → ℕ → ℕ → Option Unmet
may_open core seat count =
    let opened = side_opened core seat in
    let some_left = nat_lt opened (side_end core seat - side_start core seat) in
    unless (some_left && count == opened) 13 (if some_left then opened else past_items) count

-- ---- the conditions of each step, in their order

-- the eleventh condition, of the steps that have it
abbrev pub eleventh_of : Core → Step → Option Unmet
eleventh_of core (Arm seat queue item stream) = may_arm core seat queue item stream
eleventh_of core (Settle seat queue item stream) = may_settle core seat queue item stream
eleventh_of core (Abandon seat stream) = may_abandon core seat stream
eleventh_of core step = None

-- the conditions of a step where this function tells the eleventh, which alone reads the lists of seats
unfoldable pub conditions_by : Core → (Step → Option Unmet) → Step → List (Option Unmet)
conditions_by core eleventh (Draw seat stream) = is_engine core seat ∷ is_next_stream core stream ∷ []
conditions_by core eleventh (Claim seat segment chunk) =
    is_either core seat
    ∷ is_in_segments (side_start core seat) (side_end core seat) segment chunk
    ∷ is_open core seat segment
    ∷ has_owner core 0 (chunk_number segment chunk)
    ∷ []
conditions_by core eleventh (Release seat segment chunk) =
    is_either core seat
    ∷ is_in_segments 0 (core.shape.out_segments + core.shape.back_segments) segment chunk
    ∷ has_owner core (1 + seat) (chunk_number segment chunk)
    ∷ []
conditions_by core eleventh (Open seat count) = is_either core seat ∷ may_open core seat count ∷ []
conditions_by core eleventh (GetItem seat queue item place) =
    is_either core seat
    ∷ may_fill core seat queue item
    ∷ is_first_free_place core queue place
    ∷ is_first_free_item core queue item
    ∷ []
conditions_by core eleventh (SetRun seat queue item run) =
    is_either core seat
    ∷ may_fill core seat queue item
    ∷ seat_holds core seat queue item
    ∷ has_tag core queue item 0
    ∷ fits_side core seat run
    ∷ run_has_owner core (1 + seat) run
    ∷ []
conditions_by core eleventh (SetPart seat queue item part) =
    is_either core seat
    ∷ may_fill core seat queue item
    ∷ seat_holds core seat queue item
    ∷ has_tag core queue item 0
    ∷ []
conditions_by core eleventh (Arm seat queue item stream) =
    is_either core seat
    ∷ may_fill core seat queue item
    ∷ seat_holds core seat queue item
    ∷ has_tag core queue item 0
    ∷ fits_side core seat (item_of core queue item).run
    ∷ run_has_owner core (1 + seat) (item_of core queue item).run
    ∷ eleventh (Arm seat queue item stream)
    ∷ []
conditions_by core eleventh (Push seat queue item place) =
    is_either core seat
    ∷ may_fill core seat queue item
    ∷ seat_holds core seat queue item
    ∷ is_tagged core queue item
    ∷ is_next_line_place core queue place
    ∷ []
conditions_by core eleventh (Pop seat queue item place) =
    (if queue == 0 then is_worker core seat else is_engine core seat)
    ∷ may_empty core seat queue item
    ∷ is_first_line_place core queue place
    ∷ is_first_line_item core queue item
    ∷ []
conditions_by core eleventh (Settle seat queue item stream) =
    is_either core seat
    ∷ may_use core queue item
    ∷ has_tag core queue item stream
    ∷ eleventh (Settle seat queue item stream)
    ∷ []
conditions_by core eleventh (GiveItem seat queue item place) =
    is_either core seat
    ∷ may_use core queue item
    ∷ seat_holds core seat queue item
    ∷ has_tag core queue item 0
    ∷ is_next_free_place core queue place
    ∷ []
conditions_by core eleventh (Abandon seat stream) = is_engine core seat ∷ eleventh (Abandon seat stream) ∷ []

abbrev pub conditions_of : Core → Step → List (Option Unmet)
conditions_of core = conditions_by core (eleventh_of core)

-- the first condition of the step that isn't met
abbrev pub first_unmet_by : Core → (Step → Option Unmet) → Step → Option Unmet
first_unmet_by core eleventh step = first_of (conditions_by core eleventh step)

abbrev pub first_unmet : Core → Step → Option Unmet
first_unmet core = first_unmet_by core (eleventh_of core)
