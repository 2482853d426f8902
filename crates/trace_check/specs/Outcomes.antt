-- What became of a stream, by its record.
use Rattle.std.specs.Prelude.{◌&&◌, ◌||◌, not, Bool, true}
use Rattle.trace_check.specs.declared.streams.Stream.{Stream}
use Rattle.trace_check.specs.declared.verdict.Outcome.{Outcome}
use Rattle.trace_check.specs.declared.verdict.Outcome.TheVariants.{Drawn, Accepted, Cancelled, Abandoned, Refused, LeftOpen}

abbrev pub has_outcome : Outcome → Stream → Bool
has_outcome Drawn stream = true
has_outcome Accepted stream = stream.received_last && not stream.abandoned
has_outcome Cancelled stream = stream.cancelled
has_outcome Abandoned stream = stream.abandoned
has_outcome Refused stream = not stream.posted
has_outcome LeftOpen stream =
    stream.posted && not ((stream.received_last && not stream.abandoned) || (stream.cancelled || stream.abandoned))
