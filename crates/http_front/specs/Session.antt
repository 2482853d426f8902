-- The bytes that a whole connection writes for the bytes that it reads (RFC 9112, section 9).
use Rattle.std.specs.Prelude.{ℕ, zero, suc, ◌+◌, ◌*◌, Bool, true, false, ◌||◌, List, [], ◌++◌, drop, ◌==◌}
use Rattle.unit_types.specs.Limits.{default_content_limit}
use Rattle.unit_types.specs.declared.message.Addr.{Addr}
use Rattle.unit_types.specs.declared.message.Request.{Request}
use Rattle.unit_types.specs.declared.message.Reply.{Reply}
use Rattle.http_front.specs.Front.{head_begun}
use Rattle.http_front.specs.Message.{request_of, is_head_request, is_last_request}
use Rattle.http_front.specs.NextUnit.{Found, request, bad, cut, finished, wait, NextUnit, next_unit}
use Rattle.http_front.specs.Written.{http_bytes, error_bytes, continue_bytes}

-- a connection: its two addresses, the largest content that it takes, and the bytes that answer a request, given whether
-- the connection closes behind them
pub record Connection : Type 0 where
  pub from : Addr
  pub to : Addr
  pub limit : ℕ
  pub answer : Request → Bool → List ℕ

-- what was written, and whether the connection is closed
pub record Session : Type 0 where
  pub written : List ℕ
  pub closed : Bool

abbrev pub behind : List ℕ → Session → Session
behind bytes session = record { written = bytes ++ session.written; closed = session.closed }

-- the bytes of the answer to a request, and what follows it where the connection goes on
abbrev pub answered : Connection → Request → Bool → Session → Session
answered c r true rest = record { written = c.answer r true; closed = true }
answered c r false rest = behind (c.answer r false) rest

-- the session of a unit: a request is answered, and the rest follows; a refusal closes the connection; an input that is cut
-- inside a request closes it without an answer
abbrev pub found_session : Connection → ℕ → List ℕ → (List ℕ → Session) → Found → Session
found_session c left bytes rest (request m used) =
    let r = request_of c.from c.to m in
    answered c r (is_last_request r || left == 0) (rest (drop used bytes))
found_session c left bytes rest (bad status) = record { written = error_bytes status false true; closed = true }
found_session c left bytes rest cut = record { written = []; closed = head_begun bytes }
found_session c left bytes rest finished = record { written = []; closed = false }
found_session c left bytes rest wait = record { written = []; closed = false }

abbrev pub unit_session : Connection → ℕ → List ℕ → (List ℕ → Session) → NextUnit → Session
unit_session c left bytes rest unit = behind (continue_bytes unit.continue_due) (found_session c left bytes rest unit.found)

-- the walk over the requests of a connection, of which this many may still come
unfoldable pub session_from : Connection → Bool → ℕ → List ℕ → Session
session_from c ended zero bytes = record { written = []; closed = true }
session_from c ended (suc left) bytes =
    unit_session c left bytes (session_from c ended left) (next_unit bytes ended c.limit)

-- the most requests of a connection
abbrev pub request_limit : ℕ
request_limit = 1000

-- the session of the bytes of a connection that has one limit and one answer for all its requests, given whether the input
-- ended behind them
abbrev pub plain_session_of : Connection → Bool → List ℕ → Session
plain_session_of c ended bytes = session_from c ended request_limit bytes

-- the answer to a request by its reply
abbrev pub reply_bytes : (Request → Reply) → Request → Bool → List ℕ
reply_bytes reply r close = http_bytes (reply r) (is_head_request r) close

-- 127.0.0.1
abbrev pub loopback : ℕ
loopback = 127 * 16777216 + 1

-- the connection of one handler: each request goes to it, and the input comes from a local client
abbrev pub once_connection : (List ℕ → Request → Reply) → List ℕ → Connection
once_connection reply_of name = record {
  from = record { ip = loopback; port = 40000 };
  to = record { ip = loopback; port = 8080 };
  limit = default_content_limit;
  answer = reply_bytes (reply_of name);
}

-- what one connection to one handler writes for an input that has ended
abbrev pub once_of : (List ℕ → Request → Reply) → List ℕ → List ℕ → List ℕ
once_of reply_of name bytes = (plain_session_of (once_connection reply_of name) true bytes).written
