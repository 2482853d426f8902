-- How a configuration answers a request, and the line of a log that tells it.
use Rattle.std.specs.Prelude.{ℕ, ◌-◌, ◌==◌, nat_lt, Bool, true, false, ◌||◌, List, [], ◌∷◌, length, codes, Option, Some, None, if◌then◌else◌}
use Rattle.std.specs.Option.{unwrap_or}
use Rattle.unit_types.specs.declared.field.Field.{Field}
use Rattle.unit_types.specs.declared.message.Addr.{Addr}
use Rattle.unit_types.specs.declared.message.Reply.{Reply}
use Rattle.unit_types.specs.declared.message.Request.{Request}
use Rattle.conf_validate.specs.Configuration.{Configuration, handler_at}
use Rattle.route_match.specs.Target.{location_of, outcome_of}
use Rattle.route_match.specs.declared.target.Target.{Target}
use Rattle.route_match.specs.declared.target.Target.TheVariants.{App, Return, Status}
use Rattle.route_match.specs.declared.walk.Outcome.{Outcome}
use Rattle.http_front.specs.Message.{is_head_request, is_last_request}
use Rattle.access_log.specs.Line.{log_line}
use Rattle.header_rewrite.specs.ResponseHeaders.{fielded_of}
use Rattle.header_rewrite.specs.Rewrite.{rewritten_of}
use Rattle.http_front.specs.Written.{error_bytes, error_reply, http_bytes, written_content}

-- a connection: the name of the listener that accepted it, the client's address and the one at which it was accepted, and
-- the reply that the handler of a name gives to a request
pub record Connection : Type 0 where
  pub listener : List ℕ
  pub from : Addr
  pub to : Addr
  pub reply_of : List ℕ → Request → Reply

-- ---- replies

-- the name of the handler of an application
abbrev pub handler_of : Configuration → ℕ → List ℕ
handler_of conf app = unwrap_or (handler_at conf app) []

-- the Location field (RFC 9110, section 10.2.2) of a return that has a location
abbrev pub location_fields : Option (List ℕ) → List Field
location_fields None = []
location_fields (Some text) = record { name = codes "Location"; value = text } ∷ []

-- the reply of a return: below 400 it may have a location, and has no content; from 400 on it is the error reply
abbrev pub return_reply : Configuration → ℕ → ℕ → Request → Reply
return_reply conf step status r =
    if nat_lt status 400
    then record { status = status; fields = location_fields (location_of conf step r); body = [] }
    else error_reply status

-- the reply to a request that goes there by that step: what a handler or a step answers has its header fields changed
abbrev pub reply_by : Connection → Configuration → Request → Option ℕ → Target → Reply
reply_by c conf r by (App app timeout) =
    fielded_of conf by r (c.reply_of (handler_of conf app) (rewritten_of conf by r))
reply_by c conf r by (Return step status) = fielded_of conf by r (return_reply conf step status r)
reply_by c conf r by (Status status) = error_reply status

unfoldable pub reply_to : Connection → Configuration → Request → Reply
reply_to c conf r = let outcome = outcome_of conf c.listener r in reply_by c conf r outcome.step outcome.target

-- the reply that the server gives itself to a request that came by this outcome; None where it goes to an application
abbrev pub own_reply_by : Configuration → Option ℕ → Request → Target → Option Reply
own_reply_by conf by r (App app timeout) = None
own_reply_by conf by r (Return step status) = Some (fielded_of conf by r (return_reply conf step status r))
own_reply_by conf by r (Status status) = Some (error_reply status)

abbrev pub own_reply : Configuration → Outcome → Request → Option Reply
own_reply conf outcome r = own_reply_by conf outcome.step r outcome.target

-- ---- their bytes

-- the bytes that answer a request, given whether the connection closes behind them; the content is left out where the
-- method is HEAD
abbrev pub answer_of : Connection → Configuration → Request → Bool → List ℕ
answer_of c conf r close = http_bytes (reply_to c conf r) (is_head_request r) close

-- the same of an error reply, none of whose fields are changed
abbrev pub error_answer_of : ℕ → Request → Bool → List ℕ
error_answer_of status r close = error_bytes status (is_head_request r) close

-- whether a reply is to a HEAD request; where the bytes are refused, no request was read
abbrev pub is_to_head : Option Request → Bool
is_to_head None = false
is_to_head (Some r) = is_head_request r

-- whether the connection closes behind the answer to a request, of which so many may come with this one: it does behind
-- the last one, and where the bytes are refused
abbrev pub closes : Option Request → ℕ → Bool
closes None left = true
closes (Some r) left = is_last_request r || (left - 1) == 0

-- ---- the line of a log

abbrev pub line_in : Option (List ℕ) → Addr → Option Request → ℕ → ℕ → List ℕ
line_in None from request status body = []
line_in (Some format) from request status body = log_line format from request status body

-- the line that tells of a reply, where the configuration has a log: it has the length of the content that was written,
-- and the request that came, if the bytes weren't refused
unfoldable pub reply_line : Configuration → Addr → Option Request → Reply → List ℕ
reply_line conf from request reply =
    line_in conf.log_format from request reply.status (length (written_content reply (is_to_head request)))
