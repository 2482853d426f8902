-- The steps from a state of a connection to the next one.
use Rattle.std.specs.Prelude.{ℕ, ◌-◌, true, false, List, [], ◌∷◌, ◌++◌, drop, Option, Some, None}
use Rattle.unit_types.specs.declared.message.Reply.{Reply}
use Rattle.unit_types.specs.declared.message.Request.{Request}
use Rattle.http_front.specs.Session.{request_limit}
use Rattle.http_front.specs.Written.{continue_bytes, http_bytes}
use Rattle.conn_machine.specs.declared.receipt.Receipt.{Receipt}
use Rattle.conn_machine.specs.Answers.{Connection, closes, is_to_head, reply_line}
use Rattle.conn_machine.specs.States.{Given, Numbered, State, Told, is_due}

-- nothing came and nothing went
abbrev pub nothing : Told
nothing = record { bytes = []; receipts = []; written = []; given = [] }

-- one more receipt, one more configuration, more bytes, and more that was shown as written
abbrev pub with_receipt : Receipt → Told → Told
with_receipt receipt t = record t { receipts = t.receipts ++ receipt ∷ [] }

abbrev pub with_given : Given → Told → Told
with_given given t = record t { given = given ∷ t.given }

abbrev pub with_bytes : List ℕ → Told → Told
with_bytes piece t = record t { bytes = t.bytes ++ piece }

abbrev pub with_written : List ℕ → Told → Told
with_written front t = record t { written = t.written ++ front }

-- where a connection begins
abbrev pub begin : State
begin = record {
  unused = [];
  ended = false;
  bound = None;
  told = false;
  left = request_limit;
  last = 0;
  out = [];
  lines = [];
  closed = false;
  given_up = false;
}

-- more bytes
abbrev pub fed : State → List ℕ → State
fed s piece = record s { unused = s.unused ++ piece }

-- the end of the input
abbrev pub at_end : State → State
at_end s = record s { ended = true }

-- the head at the front is complete: its request is under way by that configuration
abbrev pub taken_up : Numbered → State → State
taken_up bound s = record s {
  bound = Some bound;
  told = is_due bound.1 s;
  out = s.out ++ continue_bytes (is_due bound.1 s);
}

-- the request under way gets a reply, or refused bytes do; a request has used so many bytes
abbrev pub replied : Connection → Numbered → Option Request → Reply → ℕ → State → State
replied c bound request reply used s = record {
  unused = drop used s.unused;
  ended = s.ended;
  bound = None;
  told = false;
  left = s.left - 1;
  last = bound.0;
  out = s.out ++ http_bytes reply (is_to_head request) (closes request s.left);
  lines = s.lines ++ reply_line bound.1 c.from request reply;
  closed = closes request s.left;
  given_up = s.given_up;
}

-- the connection is closed without a reply, under the configuration of this number
abbrev pub closed_by : ℕ → State → State
closed_by number s = record s { bound = None; told = false; last = number; closed = true }

-- no more bytes come
abbrev pub given_up : State → State
given_up s = record s { given_up = true }

-- of what wasn't shown yet, all but the rest is now written
abbrev pub shown : List ℕ → State → State
shown rest s = record s { out = rest }
