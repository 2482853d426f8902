-- How a load is counted, frame by frame.
use Rattle.std.specs.Prelude.{ℕ, ◌+◌, ◌*◌, ◌^◌, ◌≤◌, List, length}
use Rattle.serde_json.specs.Data.{Data}
use Rattle.unit_types.specs.declared.message.Reply.{Reply}
use Rattle.unit_types.specs.declared.message.Request.{Request}
use Rattle.plain_fabric.specs.Plains.{PlainValue}
use Rattle.script_frames.specs.Frames.{Frame}
use Rattle.script_frames.specs.Spelling.{frames_text}
use Rattle.unit_top.specs.Exchange.{exchange_from}
use Rattle.unit_top.specs.Posting.{steps_in}
use Rattle.unit_top.specs.Trace.{posts_from}
use Rattle.unit_top.specs.declared.load.Summary.{Summary}

-- the counts so far and those of more frames, from the documents so far and through a fabric that stands so
abbrev pub counted_with : (List ℕ → Request → Reply) → List (List ℕ) → List Data → PlainValue → List Frame → Summary → Summary
counted_with reply_of names documents plain frames summary = record {
  frames = summary.frames + length frames;
  input = summary.input + length (frames_text frames);
  output = summary.output + length (exchange_from reply_of names documents frames);
  steps = summary.steps + length (steps_in reply_of plain (posts_from reply_of names documents frames));
}

-- a frame and what comes of it are in memory, so that each adds to a count less than 2^66
pub record IsSmall (summary : Summary) : Type 0 where
  pub input : summary.input ≤ 2 ^ 66 * summary.frames
  pub output : summary.output ≤ 2 ^ 66 * summary.frames
  pub steps : summary.steps ≤ 2 ^ 66 * summary.frames
