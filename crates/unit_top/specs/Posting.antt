-- Requests that a command posts through the fabric of one thread, one after another.
use Rattle.std.specs.Prelude.{ℕ, ◌+◌, ◌≡◌, false, List, [], ◌∷◌, ◌++◌, length}
use Rattle.unit_types.specs.declared.message.Reply.{Reply}
use Rattle.unit_types.specs.declared.message.Request.{Request}
use Rattle.request_context.specs.Record.{asked_with, request_record}
use Rattle.plain_fabric.specs.Laws.{AllCanPass, parts_of_all}
use Rattle.plain_fabric.specs.Plains.{PlainValue, sizes_of}
use Rattle.plain_fabric.specs.Schedule.{Passed, Answered, HungUp, trace_from}
use Rattle.trace_check.specs.Verdicts.{plain_shape}
use Rattle.unit_model.specs.declared.machine.Step.{Step}
use Rattle.unit_top.specs.declared.fabric.Output.{Output}
use Rattle.unit_top.specs.declared.fabric.Output.TheVariants.{Replies, Steps}

-- the name of a handler, and the request that it is asked
abbrev pub Asking : Type 0
Asking = List ℕ × Request

-- a request that is posted: its reply is waited for, or its client has hung up
pub data Post : Type 0 where
  Asked : (asking : Asking) → Post
  Withdrawn : (asking : Asking) → Post

-- the bytes of its record under a stream
abbrev pub record_size : ℕ → Asking → ℕ
record_size stream asking = length (request_record (asked_with stream asking.0 asking.1))

-- how it passes under a stream: by the bytes of its record and of the parts of its reply
abbrev pub passed_under : (List ℕ → Request → Reply) → ℕ → Post → Passed
passed_under reply_of stream (Asked asking) =
    Answered (record_size stream asking) (sizes_of (reply_of asking.0 asking.1))
passed_under reply_of stream (Withdrawn asking) = HungUp (record_size stream asking)

-- each under the stream behind that of the one before, the first under this one
abbrev pub passed_from : (List ℕ → Request → Reply) → ℕ → List Post → List Passed
passed_from reply_of stream [] = []
passed_from reply_of stream (post ∷ posts) =
    passed_under reply_of stream post ∷ passed_from reply_of (stream + 1) posts

-- ---- through a fabric

-- how they pass through a fabric from where it stands, and their steps there
abbrev pub passed_in : (List ℕ → Request → Reply) → PlainValue → List Post → List Passed
passed_in reply_of plain posts = passed_from reply_of (plain.drawn + 1) posts

abbrev pub steps_in : (List ℕ → Request → Reply) → PlainValue → List Post → List Step
steps_in reply_of plain posts =
    trace_from plain.shape plain.drawn plain.sent (passed_in reply_of plain posts)

-- a fabric of the plain shape, through which nothing went
pub record IsFresh (plain : PlainValue) : Type 0 where
  pub shape : plain.shape ≡ plain_shape
  pub drawn : plain.drawn ≡ 0
  pub sent : plain.sent ≡ 0
  pub trace : plain.trace ≡ []
  pub whole : plain.failed ≡ false

-- it stands behind these requests
pub record IsBehind (reply_of : List ℕ → Request → Reply) (posts : List Post) (before after : PlainValue) : Type 0 where
  pub shape : after.shape ≡ before.shape
  pub drawn : after.drawn ≡ before.drawn + length posts
  pub sent : after.sent ≡ before.sent + parts_of_all (passed_in reply_of before posts)

-- a command that writes replies forgets the steps of each request behind it
abbrev pub kept : Output → List Step → List Step
kept Replies steps = []
kept Steps steps = steps

-- these were posted, and each of them can be: their steps stand behind those so far, or are forgotten, and the fabric can be
-- asked again
pub record HasPosted (output : Output) (reply_of : List ℕ → Request → Reply) (posts : List Post) (before after : PlainValue) : Type 0 where
  pub behind : IsBehind reply_of posts before after
  pub passes : AllCanPass (passed_in reply_of before posts)
  pub trace : after.trace ≡ kept output (before.trace ++ steps_in reply_of before posts)
  pub whole : after.failed ≡ false
