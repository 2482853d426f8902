-- What a command writes of a script, frame by frame.
use Rattle.std.specs.Prelude.{ℕ, List}
use Rattle.serde_json.specs.Data.{Data}
use Rattle.unit_types.specs.declared.message.Reply.{Reply}
use Rattle.unit_types.specs.declared.message.Request.{Request}
use Rattle.plain_fabric.specs.Plains.{PlainValue}
use Rattle.script_frames.specs.Frames.{Frame}
use Rattle.script_frames.specs.Spelling.{counted}
use Rattle.trace_check.specs.Traces as lines
use Rattle.unit_model.specs.declared.machine.Step.{Step}
use Rattle.unit_top.specs.Exchange.{exchange_from, exchange_of, frame_outcome}
use Rattle.unit_top.specs.Outcome.{Outcome, script_outcome}
use Rattle.unit_top.specs.Posting.{steps_in}
use Rattle.unit_top.specs.Trace.{frame_posts, posts_from, script_trace}
use Rattle.unit_top.specs.declared.fabric.Output.{Output}
use Rattle.unit_top.specs.declared.fabric.Output.TheVariants.{Replies, Steps}

-- a reply behind its length, or the lines of steps
abbrev pub told_text : Output → List ℕ → List Step → List ℕ
told_text Replies reply steps = counted reply
told_text Steps reply steps = lines.trace_of steps

-- of a frame: its reply, or the steps that its requests make in a fabric that stands so
abbrev pub frame_text : Output → (List ℕ → Request → Reply) → List (List ℕ) → List Data → PlainValue → Frame → List ℕ
frame_text output reply_of names documents plain frame =
    told_text output (frame_outcome reply_of names documents frame).reply
    (steps_in reply_of plain (frame_posts reply_of documents frame))

-- of all frames that are left, from the documents so far
abbrev pub frames_text : Output → (List ℕ → Request → Reply) → List (List ℕ) → List Data → PlainValue → List Frame → List ℕ
frames_text Replies reply_of names documents plain frames = exchange_from reply_of names documents frames
frames_text Steps reply_of names documents plain frames =
    lines.trace_of (steps_in reply_of plain (posts_from reply_of names documents frames))

-- of the whole script
abbrev pub script_text : Output → (List ℕ → Request → Reply) → List (List ℕ) → List ℕ → List ℕ
script_text Replies reply_of names input = exchange_of reply_of names input
script_text Steps reply_of names input = script_trace reply_of names input

abbrev pub text_outcome : Output → (List ℕ → Request → Reply) → List (List ℕ) → List ℕ → Outcome
text_outcome output reply_of names input = script_outcome (script_text output reply_of names input) input
