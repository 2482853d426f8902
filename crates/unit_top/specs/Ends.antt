-- How a command ends, by its status.
use Rattle.std.specs.Prelude.{ℕ, ◌≡◌, ◌≢◌, ◌⊎◌, ◌==◌, List, [], if◌then◌else◌, Option, Some}
use Rattle.unit_types.specs.declared.message.Request.{Request}
use Rattle.unit_types.specs.declared.message.Reply.{Reply}
use Rattle.unit_io.specs.declared.stop.Stop.TheVariants.{Usage, Read, Write, Memory, Input, Illegal}
use Rattle.unit_io.specs.Causes.{Rose}
use Rattle.unit_io.specs.Status.{input_limit, line_of}
use Rattle.unit_io.specs.Told.{Adds, AddsFront}
use Rattle.unit_top.specs.Check.{check_outcome}
use Rattle.unit_top.specs.Command.{Command, Once, Exchange, Trace, Check, Load}
use Rattle.unit_top.specs.Exchange.{exchange_outcome}
use Rattle.unit_top.specs.Load.{load_of}
use Rattle.unit_top.specs.Outcome.{Outcome, Refused, Written, once_outcome, output_in}
use Rattle.unit_top.specs.Trace.{trace_outcome}

-- the statuses: all done, a faulty command line, a source that failed, a sink that failed, no memory, a faulty input, an
-- illegal trace
abbrev pub IsStatus : ℕ → Type 0
IsStatus status =
    (status ≡ 0) ⊎ ((status ≡ 2) ⊎ ((status ≡ 3) ⊎ ((status ≡ 4) ⊎ ((status ≡ 5) ⊎ ((status ≡ 6) ⊎ (status ≡ 8))))))

-- the statuses with which nothing is written
abbrev pub IsSilent : ℕ → Type 0
IsSilent status = (status ≡ 2) ⊎ ((status ≡ 3) ⊎ (status ≡ 6))

-- the bytes that a command works on: those that its source tells, and none of `load`
abbrev pub IsInput : Command → Option (List ℕ) → List ℕ → Type 0
IsInput (Once handler) left input = left ≡ Some input
IsInput Exchange left input = left ≡ Some input
IsInput Trace left input = left ≡ Some input
IsInput Check left input = left ≡ Some input
IsInput (Load requests seed) left input = input ≡ []

-- what a command makes of these bytes, where these are the names of the handlers
abbrev pub outcome_of : (List ℕ → Request → Reply) → List (List ℕ) → Command → List ℕ → Outcome
outcome_of reply_of names (Once handler) input = once_outcome reply_of handler input
outcome_of reply_of names Exchange input = exchange_outcome reply_of names input
outcome_of reply_of names Trace input = trace_outcome reply_of names input
outcome_of reply_of names Check input = check_outcome input
outcome_of reply_of names (Load requests seed) input = Written (load_of reply_of names requests seed) 0

-- the status of each outcome; in its place a fault of the source, where the outcome is written a fault of the sink, or want of
-- memory may come
abbrev pub IsEnd : Outcome → ℕ → Type 0
IsEnd (Refused place) status = (status ≡ 6) ⊎ ((status ≡ 3) ⊎ (status ≡ 5))
IsEnd (Written output end) status = (status ≡ end) ⊎ ((status ≡ 3) ⊎ ((status ≡ 4) ⊎ (status ≡ 5)))

-- the end of a command, and the part of the output that was written: all of it, or a front of it where it broke off
pub record EndsAs (outcome : Outcome) (status : ℕ) (before after : Option (List ℕ)) : Type 0 where
  pub end : IsEnd outcome status
  pub whole : (status ≡ 0) ⊎ (status ≡ 8) → Adds before after (output_in outcome)
  pub front : (status ≡ 4) ⊎ (status ≡ 5) → AddsFront before after (output_in outcome)

-- the causes of the statuses that faults bring: each comes only where the count of faults rose
pub record HasCauses (status src_before src_after out_before out_after : ℕ) : Type 0 where
  pub read : status ≡ 3 → Rose src_before src_after
  pub no_read_fault : status ≢ 3 → src_after ≡ src_before
  pub write : status ≡ 4 → Rose out_before out_after
  pub no_write_fault : status ≢ 4 → out_after ≡ out_before

-- what goes to standard error with each status; nothing where all was done. With a faulty input it tells the place
abbrev pub line_of_status : ℕ → ℕ → List ℕ
line_of_status status place =
    if status == 2 then line_of Usage
    else if status == 3 then line_of Read
    else if status == 4 then line_of Write
    else if status == 5 then line_of Memory
    else if status == 6 then line_of (Input place)
    else if status == 8 then line_of Illegal
    else []

-- the place of a faulty input is the one with which it is refused, where the source tells it; of `once` it is the limit,
-- told or not
pub record IsPlace (reply_of : List ℕ → Request → Reply) (names : List (List ℕ)) (command : Command) (left : Option (List ℕ)) (place : ℕ) : Type 0 where
  pub told : (input : List ℕ) → IsInput command left input → outcome_of reply_of names command input ≡ Refused place
  pub once : (handler : List ℕ) → command ≡ Once handler → place ≡ input_limit
