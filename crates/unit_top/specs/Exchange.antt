-- What each frame of a script gets, and what the script makes of the documents.
use Rattle.std.specs.Prelude.{ℕ, true, List, [], ◌∷◌, ◌++◌}
use Rattle.std.specs.Option.{unwrap_or}
use Rattle.serde_json.specs.Data.{Data}
use Rattle.unit_types.specs.declared.message.Reply.{Reply}
use Rattle.unit_types.specs.declared.message.Request.{Request}
use Rattle.conf_book.specs.Books.{first_document, newest_document}
use Rattle.conf_validate.specs.Configuration.{configuration_of}
use Rattle.conf_validate.specs.Ports.{port_of}
use Rattle.conn_machine.specs.Answers.{Connection}
use Rattle.control_api.specs.Control.{Outcome as Answered, control_reply}
use Rattle.script_frames.specs.Frames.{Frame, Control, Connection as ToListener, HungUp, frames_of}
use Rattle.script_frames.specs.Spelling.{counted}
use Rattle.unit_top.specs.Connections.{connection_at, output_of}
use Rattle.unit_top.specs.Outcome.{Outcome, script_outcome}

-- a connection from 127.0.0.1:40000 to 127.0.0.1 with the listener's port, 0 where its name has none
abbrev pub connection_to : (List ℕ → Request → Reply) → List ℕ → Connection
connection_to reply_of listener = connection_at reply_of listener (unwrap_or (port_of listener) 0)

-- what it gets for these bytes under the newest document
abbrev pub connection_bytes : (List ℕ → Request → Reply) → List Data → List ℕ → List ℕ → List ℕ
connection_bytes reply_of documents listener bytes =
    output_of (connection_to reply_of listener) (configuration_of (newest_document documents)) bytes

-- what a frame gets, and the documents behind it; a client that has hung up gets nothing
abbrev pub frame_outcome : (List ℕ → Request → Reply) → List (List ℕ) → List Data → Frame → Answered
frame_outcome reply_of names documents (Control bytes) = control_reply documents names bytes true
frame_outcome reply_of names documents (ToListener listener bytes) =
    record { reply = connection_bytes reply_of documents listener bytes; documents = documents }
frame_outcome reply_of names documents (HungUp listener bytes) = record { reply = []; documents = documents }

-- frame by frame, each reply behind its length, from the documents so far
abbrev pub exchange_from : (List ℕ → Request → Reply) → List (List ℕ) → List Data → List Frame → List ℕ
exchange_from reply_of names documents [] = []
exchange_from reply_of names documents (frame ∷ frames) =
    let outcome = frame_outcome reply_of names documents frame in
    counted outcome.reply ++ exchange_from reply_of names outcome.documents frames

-- what a script writes: its documents begin with the first one of a book
abbrev pub exchange_of : (List ℕ → Request → Reply) → List (List ℕ) → List ℕ → List ℕ
exchange_of reply_of names input = exchange_from reply_of names (first_document ∷ []) (frames_of input)

-- `exchange`
abbrev pub exchange_outcome : (List ℕ → Request → Reply) → List (List ℕ) → List ℕ → Outcome
exchange_outcome reply_of names input = script_outcome (exchange_of reply_of names input) input
