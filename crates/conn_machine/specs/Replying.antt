-- The reply to the request that waits.
use Rattle.std.specs.Prelude.{◌≡◌, ℕ, List, drop, Option, Some, None, IfSome}
use Rattle.unit_types.specs.declared.message.Reply.{Reply}
use Rattle.unit_types.specs.declared.message.Request.{Request}
use Rattle.conf_validate.specs.Configuration.{Configuration}
use Rattle.route_match.specs.Target.{last_step_of}
use Rattle.header_rewrite.specs.ResponseHeaders.{fielded_of}
use Rattle.http_front.specs.Kept.{HasRead}
use Rattle.http_front.specs.Message.{Message, request_of}
use Rattle.http_front.specs.NextUnit.{request}
use Rattle.http_front.specs.Reading.{reading_of}
use Rattle.http_front.specs.Written.{error_reply}
use Rattle.conn_machine.specs.declared.pending.Pending.{Pending}
use Rattle.conn_machine.specs.declared.receipt.Kind.{Kind}
use Rattle.conn_machine.specs.declared.replying.Answer.{Answer}
use Rattle.conn_machine.specs.declared.replying.Answer.TheVariants.{Made, Given}
use Rattle.conn_machine.specs.Answers.{Connection}
use Rattle.conn_machine.specs.Calls.{Account, on_answer}
use Rattle.conn_machine.specs.Shows.{Held, Carries, IsPending, Shows}
use Rattle.conn_machine.specs.States.{Numbered, unit_under}
use Rattle.conn_machine.specs.Turns.{receipt_of}

-- the reply of an answer
abbrev pub reply_in : Answer → Reply
reply_in (Made reply) = reply
reply_in (Given reply) = reply.now

-- the request of a connection that a message is
abbrev pub request_in : Connection → Message → Request
request_in c message = request_of c.from c.to message

-- the request that waits was this one, and got this reply under a stream; all that follows is answered as far as the server
-- does it itself
pub record IsReplied (reply_of : List ℕ → Request → Reply) (c : Connection) (current : Numbered) (a : Account) (pending : Option Pending) (stream : ℕ) (kind : Kind)
    (reply_for : Connection → Configuration → Request → Reply) (m : Held) : Type 0 where
  pub bound : Numbered
  pub message : Message
  pub used : ℕ
  pub way : a.state.bound ≡ Some bound
  pub found : (unit_under bound.1 a.state).found ≡ request message used
  pub waited : IfSome pending (λ p. IsPending c bound.1 p (request_in c message))
  pub shows : Shows reply_of c
      (on_answer c current bound (receipt_of bound.0 stream kind) (request_in c message) (reply_for c bound.1 (request_in c message)) used a)
      m

-- the reply to a request that is turned away or late (503; RFC 9110, section 15.6.4)
abbrev pub unavailable : Connection → Configuration → Request → Reply
unavailable c conf r = error_reply 503

-- what a handler replied, as the step changes it; or, without its reply, that it is turned away
abbrev pub concluded_by : Configuration → Option ℕ → Request → Option Reply → Reply
concluded_by conf by r None = error_reply 503
concluded_by conf by r (Some reply) = fielded_of conf by r reply

abbrev pub concluded : Option Reply → Connection → Configuration → Request → Reply
concluded reply c conf r = concluded_by conf (last_step_of conf c.listener r) r reply

-- the request that waited, as it came, is under way, and the reader is behind it
pub record IsConcluding (reply_of : List ℕ → Request → Reply) (c : Connection) (a : Account) (bound : Numbered) (message : Message) (used : ℕ) (came : Pending) (m : Held) : Type 0 where
  pub carries : Carries reply_of c a m
  pub way : a.state.bound ≡ Some bound
  pub request_is : came.asks.1 ≡ request_in c message
  pub step : came.step ≡ last_step_of bound.1 c.listener (request_in c message)
  pub behind : HasRead (reading_of c.from c.to (drop used a.state.unused) a.state.ended) m.reader
