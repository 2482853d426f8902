-- The verdict of a trace.
use Rattle.std.specs.Prelude.{ℕ, ◌+◌, ◌*◌, ◌==◌, ◌&&◌, ◌||◌, not, nat_le, Bool, true, false, if◌then◌else◌, List, [], ◌∷◌, length, max, Option, Some, None, count_by}
use Rattle.std.specs.List.{list_any}
use Rattle.trace_check.specs.Lines.{shape_of, step_of}
use Rattle.trace_check.specs.declared.verdict.Tally.{Tally}
use Rattle.trace_check.specs.declared.verdict.Verdict.{Verdict}
use Rattle.trace_check.specs.declared.verdict.Verdict.TheVariants.{Broken, Illegal, Legal}
use Rattle.unit_model.specs.Limits.{most_items, most_segments, most_seats, last_start, segment_chunks}
use Rattle.unit_model.specs.Conditions.{first_unmet, has_stream}
use Rattle.unit_model.specs.Effects.{after_step}
use Rattle.unit_model.specs.Opening.{opened_core}
use Rattle.unit_model.specs.Weights.{weigh}
use Rattle.unit_model.specs.declared.machine.Core.{Core}
use Rattle.unit_model.specs.declared.machine.Owner.{Owner}
use Rattle.unit_model.specs.declared.machine.Owner.TheVariants.{Free, Seat, Message}
use Rattle.unit_model.specs.declared.machine.Seat.{Seat as SeatLists}
use Rattle.unit_model.specs.declared.machine.Step.{Step}
use Rattle.unit_model.specs.declared.machine.Unmet.{Unmet}
use Rattle.unit_model.specs.declared.shape.Shape.{Shape}

-- ---- the numbers of a core in which a legal trace ends

abbrev pub is_free : Owner → Bool
is_free Free = true
is_free (Seat k) = false
is_free (Message queue item) = false

-- how many of the streams that a seat drew are so, by the lists of that seat
abbrev pub streams_that : (SeatLists → ℕ → Bool) → Core → ℕ
streams_that test core = weigh (λ lists. count_by (test lists) lists.drawn) core.seats

abbrev pub is_cancelled : SeatLists → ℕ → Bool
is_cancelled lists stream = has_stream stream lists.cancelled

abbrev pub is_abandoned : SeatLists → ℕ → Bool
is_abandoned lists stream = has_stream stream lists.abandoned

-- its last part was received, and it wasn't abandoned
abbrev pub is_accepted : SeatLists → ℕ → Bool
is_accepted lists stream =
    list_any (λ part. part.stream == stream && part.last) lists.received
    && not (is_abandoned lists stream)

-- it was never posted
abbrev pub is_refused : SeatLists → ℕ → Bool
is_refused lists stream = not (has_stream stream lists.posted)

-- it was posted, and is none of accepted, cancelled and abandoned
abbrev pub is_left_open : SeatLists → ℕ → Bool
is_left_open lists stream =
    has_stream stream lists.posted && not (is_accepted lists stream || (is_cancelled lists stream || is_abandoned lists stream))

abbrev pub tally_of : Core → Tally
tally_of core = record {
  free = count_by is_free core.owners;
  chunks = segment_chunks * (core.shape.out_segments + core.shape.back_segments);
  drawn = weigh (λ lists. length lists.drawn) core.seats;
  accepted = streams_that is_accepted core;
  cancelled = streams_that is_cancelled core;
  abandoned = streams_that is_abandoned core;
  refused = streams_that is_refused core;
  left_open = streams_that is_left_open core;
}

abbrev pub legal : ℕ → Tally → Verdict
legal steps t =
    Legal steps t.free t.chunks t.drawn t.accepted t.cancelled t.abandoned t.refused t.left_open

-- ---- lines

-- a line without its LF, and whether there is one
pub record Line : Type 0 where
  pub text : List ℕ
  pub is_ended : Bool

-- the byte stands in front of the first of the lines
abbrev pub before_lines : ℕ → List Line → List Line
before_lines byte [] = (record { text = byte ∷ []; is_ended = false }) ∷ []
before_lines byte (line ∷ lines) = (record line { text = byte ∷ line.text }) ∷ lines

-- the lines of an input: each ends with its LF, and bytes behind the last LF are a line that isn't ended
abbrev pub lines_of : List ℕ → List Line
lines_of [] = []
lines_of (byte ∷ bytes) =
    if byte == 10
    then (record { text = []; is_ended = true }) ∷ lines_of bytes
    else before_lines byte (lines_of bytes)

-- ---- the verdict

-- 8 items and 8 back items, one segment a side, one engine, one worker, and places from 8 on
abbrev pub plain_shape : Shape
plain_shape = record {
  items = 8;
  back_items = 8;
  out_segments = 1;
  back_segments = 1;
  engines = 1;
  workers = 1;
  start = 8;
}

abbrev pub is_from_1_to : ℕ → ℕ → Bool
is_from_1_to most n = nat_le 1 n && nat_le n most

-- a fabric can have this shape
abbrev pub is_valid : Shape → Bool
is_valid shape =
    (is_from_1_to most_items shape.items && is_from_1_to most_items shape.back_items)
    && ((is_from_1_to most_segments shape.out_segments && is_from_1_to most_segments shape.back_segments)
    && ((is_from_1_to most_seats shape.engines && is_from_1_to most_seats shape.workers)
    && (nat_le (max shape.items shape.back_items) shape.start && nat_le shape.start last_start)))

-- where a check stands once some lines have passed: the core after their steps, how many steps and lines there were, and
-- the byte where the next line begins
pub record Passed : Type 0 where
  pub core : Core
  pub steps : ℕ
  pub lines : ℕ
  pub place : ℕ

-- before the first line
abbrev pub beginning : Passed
beginning = record { core = opened_core plain_shape; steps = 0; lines = 0; place = 0 }

-- a line lets the check go on, or decides the verdict
pub data Judged : Type 0 where
  passes : Passed → Judged
  decides : Verdict → Judged

-- the line passes with this core and so many steps
abbrev pub pass : Passed → List ℕ → Core → ℕ → Judged
pass at text core steps = passes (record { core = core; steps = steps; lines = at.lines + 1; place = at.place + (length text + 1) })

-- a line that says a step, and the first of the step's conditions that isn't met
abbrev pub on_unmet : Passed → List ℕ → Step → Option Unmet → Judged
on_unmet at text step None = pass at text (after_step at.core step) (at.steps + 1)
on_unmet at text step (Some unmet) =
    decides (Illegal (at.lines + 1) unmet.rule unmet.want unmet.found)

abbrev pub on_step : Passed → List ℕ → Option Step → Judged
on_step at text None = decides (Broken at.place)
on_step at text (Some step) = on_unmet at text step (first_unmet at.core step)

-- a line that says a shape, which has to be valid and the first one
abbrev pub on_shape : Passed → List ℕ → Option Shape → Judged
on_shape at text None = on_step at text (step_of text)
on_shape at text (Some shape) =
    if at.lines == 0 && is_valid shape then pass at text (opened_core shape) at.steps else decides (Broken at.place)

-- a line without its LF, of fewer than 256 bytes
abbrev pub on_line : Passed → List ℕ → Judged
on_line at text =
    if nat_le 256 (length text) then decides (Broken at.place) else on_shape at text (shape_of text)

-- where a check stands: lines have passed and there is this much of the next one, or the verdict is decided
pub data Standing : Type 0 where
  going : Passed → List ℕ → Standing
  decided : Verdict → Standing

abbrev pub and_then : Judged → (Passed → Standing) → Standing
and_then (passes at) next = next at
and_then (decides verdict) next = decided verdict

-- a line that isn't ended waits for more, where it has fewer than 256 bytes
abbrev pub on_rest : Passed → List ℕ → Standing
on_rest at text = if nat_le 256 (length text) then decided (Broken at.place) else going at text

-- the lines in their order; the first that is broken or whose step isn't enabled decides
abbrev pub standing_after : Passed → List Line → Standing
standing_after at [] = going at []
standing_after at (line ∷ lines) =
    if line.is_ended then and_then (on_line at line.text) (λ next. standing_after next lines) else on_rest at line.text

-- where the check of an input stands
abbrev pub standing_of : List ℕ → Standing
standing_of bytes = standing_after beginning (lines_of bytes)

-- a last line without LF is broken
abbrev pub verdict_at : Standing → Verdict
verdict_at (going at []) = legal at.steps (tally_of at.core)
verdict_at (going at (byte ∷ bytes)) = Broken at.place
verdict_at (decided verdict) = verdict

-- the verdict of an input
abbrev pub verdict_of : List ℕ → Verdict
verdict_of bytes = verdict_at (standing_of bytes)

-- a line was broken or a step not enabled
abbrev pub is_decided : Standing → Bool
is_decided (going at text) = false
is_decided (decided verdict) = true
