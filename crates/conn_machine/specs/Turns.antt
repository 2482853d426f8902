-- What the receipt of a request makes of it: which receipts go with what is found at the front of the bytes.
use Rattle.std.specs.Prelude.{ℕ, ◌==◌, nat_lt, nat_le, Bool, true, false, not, ◌&&◌, length, Option, Some, None}
use Rattle.std.specs.Arc.{arc_value}
use Rattle.std.specs.Option.{is_some}
use Rattle.unit_types.specs.declared.message.Reply.{Reply}
use Rattle.unit_types.specs.declared.message.Request.{Request}
use Rattle.request_context.specs.Record.{request_record}
use Rattle.request_context.specs.declared.asked.Asked.{Asked}
use Rattle.conf_validate.specs.Configuration.{Configuration}
use Rattle.route_match.specs.Target.{target_of}
use Rattle.route_match.specs.declared.target.Target.{Target}
use Rattle.http_front.specs.Message.{request_of}
use Rattle.http_front.specs.NextUnit.{Found, request, bad, cut, finished, wait}
use Rattle.http_front.specs.Written.{error_reply}
use Rattle.conn_machine.specs.declared.receipt.Kind.{Kind}
use Rattle.conn_machine.specs.declared.receipt.Kind.TheVariants as kind
use Rattle.conn_machine.specs.declared.receipt.Receipt.{Receipt}
use Rattle.conn_machine.specs.declared.receipt.Why.{Why}
use Rattle.conn_machine.specs.declared.receipt.Why.TheVariants as why
use Rattle.conn_machine.specs.Answers.{Connection, reply_to}
use Rattle.conn_machine.specs.Asking.{asked_of, is_app, is_same_asked, timeout_in}

-- a request of so many bytes, or bytes that are refused, get this reply; or nothing more is written and the connection is
-- closed; or the receipt doesn't go with what is found
pub data Turn : Type 0 where
  replies : Option Request → Reply → ℕ → Turn
  ends : Turn
  unfit : Turn

-- the turn, where the receipt has what it needs
abbrev pub when : Bool → Turn → Turn
when true turn = turn
when false turn = unfit

-- what a receipt says of why a request was turned away goes with what was asked: no run was free for its record, or under
-- its stream the reply to another request came
abbrev pub is_why : Asked → Why → Bool
is_why asked (why.NoChunks size seen) = size == length (request_record asked)
is_why asked (why.NoItem place entry) = true
is_why asked (why.Worn place) = true
is_why asked (why.Stray other) =
    nat_lt 0 asked.stream && (arc_value other).stream == asked.stream && not (is_same_asked (arc_value other) asked)

-- ---- by kind

-- a turn that only a request that was read may have
abbrev pub on_request : Connection → (Request → ℕ → Turn) → Found → Turn
on_request c turn (request m used) = turn (request_of c.from c.to m) used
on_request c turn (bad status) = unfit
on_request c turn cut = unfit
on_request c turn finished = unfit
on_request c turn wait = unfit

-- where the request goes
abbrev pub target_for : Connection → Configuration → Request → Target
target_for c conf r = target_of conf c.listener r

-- a handler answered: the request went to an application, under a stream
abbrev pub app_turn : Connection → Configuration → ℕ → Request → ℕ → Turn
app_turn c conf stream r used =
    when (is_app (target_for c conf r) && nat_lt 0 stream) (replies (Some r) (reply_to c conf r) used)

-- the server answered: the request went to no application, or the bytes are refused; no stream was drawn
abbrev pub own_turn : Connection → Configuration → ℕ → Found → Turn
own_turn c conf stream (request m used) =
    let r = request_of c.from c.to m in
    when (not (is_app (target_for c conf r)) && stream == 0) (replies (Some r) (reply_to c conf r) used)
own_turn c conf stream (bad status) = when (stream == 0) (replies None (error_reply status) 0)
own_turn c conf stream cut = unfit
own_turn c conf stream finished = unfit
own_turn c conf stream wait = unfit

-- the request went to an application and was turned away
abbrev pub busy_turn : Connection → Configuration → ℕ → Why → Request → ℕ → Turn
busy_turn c conf stream cause r used =
    when (is_app (target_for c conf r) && is_why (asked_of c conf stream r) cause) (replies (Some r) (error_reply 503) used)

-- the request went under a stream to an application that has a timeout, and was late
abbrev pub late_turn : Connection → Configuration → ℕ → ℕ → ℕ → Request → ℕ → Turn
late_turn c conf stream deadline now r used =
    when (is_some (timeout_in (target_for c conf r)) && nat_lt 0 stream && nat_le deadline now) (replies (Some r) (error_reply 503) used)

-- the input ends inside the request; no stream was drawn
abbrev pub cut_turn : ℕ → Found → Turn
cut_turn stream (request m used) = unfit
cut_turn stream (bad status) = unfit
cut_turn stream cut = when (stream == 0) ends
cut_turn stream finished = unfit
cut_turn stream wait = unfit

-- a client that hung up and want of memory go with anything
abbrev pub kind_turn : Connection → Configuration → ℕ → Kind → Found → Turn
kind_turn c conf stream kind.App found = on_request c (app_turn c conf stream) found
kind_turn c conf stream kind.Own found = own_turn c conf stream found
kind_turn c conf stream (kind.Busy cause) found = on_request c (busy_turn c conf stream cause) found
kind_turn c conf stream (kind.Late deadline now) found = on_request c (late_turn c conf stream deadline now) found
kind_turn c conf stream kind.Cut found = cut_turn stream found
kind_turn c conf stream kind.Gone found = ends
kind_turn c conf stream kind.Memory found = ends

-- what a receipt makes of what is found
unfoldable pub turn_of : Connection → Configuration → Receipt → Found → Turn
turn_of c conf receipt found = kind_turn c conf receipt.stream receipt.kind found

-- the kinds that may end a connection between two requests
abbrev pub ends_between : Kind → Bool
ends_between kind.App = false
ends_between kind.Own = false
ends_between (kind.Busy cause) = false
ends_between (kind.Late deadline now) = false
ends_between kind.Gone = true
ends_between kind.Cut = false
ends_between kind.Memory = true

-- a receipt of a kind under a configuration's number and a stream
abbrev pub receipt_of : ℕ → ℕ → Kind → Receipt
receipt_of conf stream k = record { conf = conf; stream = stream; kind = k }
