-- The trace of a script: the steps that its requests make on one thread, in lines.
use Rattle.std.specs.Prelude.{ℕ, List, [], ◌∷◌, ◌++◌, map, take}
use Rattle.serde_json.specs.Data.{Data}
use Rattle.unit_types.specs.declared.message.Reply.{Reply}
use Rattle.unit_types.specs.declared.message.Request.{Request}
use Rattle.conf_book.specs.Books.{first_document, newest_document}
use Rattle.conf_validate.specs.Configuration.{configuration_of}
use Rattle.conn_machine.specs.Asks.{asks_of}
use Rattle.plain_fabric.specs.Schedule.{trace_of}
use Rattle.script_frames.specs.Frames.{Frame, Control, Connection as ToListener, HungUp, frames_of}
use Rattle.trace_check.specs.Traces as lines
use Rattle.trace_check.specs.Verdicts.{plain_shape}
use Rattle.unit_model.specs.declared.machine.Step.{Step}
use Rattle.unit_top.specs.Exchange.{connection_to, frame_outcome}
use Rattle.unit_top.specs.Outcome.{Outcome, script_outcome}
use Rattle.unit_top.specs.Posting.{Asking, Post, Asked, Withdrawn, passed_from}

-- what handlers are asked on a connection to a listener, under the newest document
abbrev pub asks_on : (List ℕ → Request → Reply) → List Data → List ℕ → List ℕ → List Asking
asks_on reply_of documents listener bytes =
    asks_of (connection_to reply_of listener) (configuration_of (newest_document documents)) bytes

-- what a frame posts: all that its connection asks, in order, or the first of it where the client has hung up
abbrev pub frame_posts : (List ℕ → Request → Reply) → List Data → Frame → List Post
frame_posts reply_of documents (Control bytes) = []
frame_posts reply_of documents (ToListener listener bytes) = map Asked (asks_on reply_of documents listener bytes)
frame_posts reply_of documents (HungUp listener bytes) =
    map Withdrawn (take 1 (asks_on reply_of documents listener bytes))

-- frame by frame, from the documents so far
abbrev pub posts_from : (List ℕ → Request → Reply) → List (List ℕ) → List Data → List Frame → List Post
posts_from reply_of names documents [] = []
posts_from reply_of names documents (frame ∷ frames) =
    frame_posts reply_of documents frame
    ++ posts_from reply_of names (frame_outcome reply_of names documents frame).documents frames

-- what a script posts: its documents begin with the first one of a book
abbrev pub script_posts : (List ℕ → Request → Reply) → List (List ℕ) → List ℕ → List Post
script_posts reply_of names input = posts_from reply_of names (first_document ∷ []) (frames_of input)

-- the steps that it makes in the plain shape, from the first stream on
abbrev pub script_steps : (List ℕ → Request → Reply) → List (List ℕ) → List ℕ → List Step
script_steps reply_of names input =
    trace_of plain_shape (passed_from reply_of 1 (script_posts reply_of names input))

-- their lines
abbrev pub script_trace : (List ℕ → Request → Reply) → List (List ℕ) → List ℕ → List ℕ
script_trace reply_of names input = lines.trace_of (script_steps reply_of names input)

-- `trace`
abbrev pub trace_outcome : (List ℕ → Request → Reply) → List (List ℕ) → List ℕ → Outcome
trace_outcome reply_of names input = script_outcome (script_trace reply_of names input) input
