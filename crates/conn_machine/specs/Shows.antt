-- When a machine stands where an account says.
use Rattle.std.specs.Prelude.{◌≡◌, ℕ, ◌≤◌, nat_lt, Bool, true, false, List, [], ◌∷◌, ◌++◌, length, drop, Option, Some, None, option_map, if◌then◌else◌, ⊤}
use Rattle.std.specs.Option.{is_some}
use Rattle.unit_types.specs.declared.message.Addr.{Addr}
use Rattle.unit_types.specs.declared.message.Reply.{Reply}
use Rattle.unit_types.specs.declared.message.Request.{Request}
use Rattle.conf_validate.specs.Configuration.{Configuration}
use Rattle.route_match.specs.Target.{outcome_of, target_of}
use Rattle.route_match.specs.declared.walk.Outcome.{Outcome}
use Rattle.header_rewrite.specs.Rewrite.{rewritten_of, with_rewrite}
use Rattle.http_front.specs.Front.{head_begun}
use Rattle.http_front.specs.Kept.{Kept, HasRead}
use Rattle.http_front.specs.Message.{Message, request_of}
use Rattle.http_front.specs.NextUnit.{request, next_unit}
use Rattle.http_front.specs.Reading.{Reading, reading_of}
use Rattle.http_front.specs.Session.{request_limit}
use Rattle.conn_machine.specs.declared.pending.Pending.{Pending}
use Rattle.conn_machine.specs.declared.receipt.Kind.{Kind}
use Rattle.conn_machine.specs.declared.receipt.Need.{Need}
use Rattle.conn_machine.specs.declared.receipt.Need.TheVariants.{Read, Ask, Write, Close}
use Rattle.conn_machine.specs.declared.receipt.Receipt.{Receipt}
use Rattle.conn_machine.specs.Answers.{Connection}
use Rattle.conn_machine.specs.Asking.{handler_in, is_app, timeout_in}
use Rattle.conn_machine.specs.Calls.{Account}
use Rattle.conn_machine.specs.States.{Numbered, State, asks_by, is_ask, is_due, unit_under}
use Rattle.conn_machine.specs.Turns.{receipt_of}

-- what a machine holds: its listener and addresses; its reader; the configuration of its newest request, the one before it
-- where a call met two, and whether the newest request is under way; the request that waits for a reply; how many requests may still come, and the number of the last
-- receipt's configuration; whether the input ended, whether the connection is closed, and whether it was given up; the
-- bytes that aren't written yet, the lines, and the receipts
pub record Held : Type 0 where
  pub listener : List ℕ
  pub from : Addr
  pub to : Addr
  pub reader : Kept
  pub met : Option Numbered
  pub former : Option Numbered
  pub is_under_way : Bool
  pub pending : Option Pending
  pub left : ℕ
  pub last : ℕ
  pub ended : Bool
  pub closed : Bool
  pub given_up : Bool
  pub out : List ℕ
  pub lines : List ℕ
  pub receipts : List Receipt

-- the connection of a listener between two addresses
abbrev pub connection_of : List ℕ → Addr → Addr → (List ℕ → Request → Reply) → Connection
connection_of listener from to reply_of = record { listener = listener; from = from; to = to; reply_of = reply_of }

-- the configuration of the request under way
abbrev pub bound_in : Held → Option Numbered
bound_in m = if m.is_under_way then m.met else None

-- a configuration that may come next: its number isn't below that of the newest request's, and where the two are equal the
-- configurations are
abbrev pub IsAfter : Option Numbered → Numbered → Type 0
IsAfter met current = (m : Numbered) → met ≡ Some m → (m.0 ≤ current.0) × (m.0 ≡ current.0 → m ≡ current)

-- ---- what it needs, by what it holds

abbrev pub need_in : Held → Need
need_in m =
    if m.given_up then Close
    else if nat_lt 0 (length m.out) then Write
    else if m.closed then Close
    else if is_some (bound_in m) then (if is_some m.pending then Ask else Read)
    else if m.ended then Close
    else Read

abbrev pub asking_in : Held → Option (List ℕ × Request)
asking_in m = if is_ask (need_in m) then option_map (λ (p : Pending). p.asks) m.pending else None

abbrev pub timeout_by_pending : Option Pending → Option ℕ
timeout_by_pending None = None
timeout_by_pending (Some p) = p.timeout

abbrev pub timeout_in_held : Held → Option ℕ
timeout_in_held m = if is_ask (need_in m) then timeout_by_pending m.pending else None

-- ---- the front of the bytes

-- what the reader has read while no whole request is found
abbrev pub reading_in : Connection → State → Reading
reading_in c s = record {
  from = c.from;
  to = c.to;
  unread = s.unused;
  ended = s.ended;
  limit = option_map (λ (bound : Numbered). bound.1.max_body) s.bound;
  is_told = s.told;
}

-- what waits is a request that came by this outcome, as the step rewrites it
pub record IsPendingBy (conf : Configuration) (outcome : Outcome) (p : Pending) (r : Request) : Type 0 where
  pub name : p.asks.0 ≡ handler_in conf outcome.target
  pub asked : p.asks.1 ≡ rewritten_of conf outcome.step r
  pub came : with_rewrite p.asks.1 p.rewrite ≡ r
  pub step : p.step ≡ outcome.step
  pub timeout : p.timeout ≡ timeout_in outcome.target

-- it goes to an application
pub record IsPending (c : Connection) (conf : Configuration) (p : Pending) (r : Request) : Type 0 where
  pub goes : is_app (target_of conf c.listener r) ≡ true
  pub by : IsPendingBy conf (outcome_of conf c.listener r) p r

-- the request that waits stands at the front of the bytes, and the reader is behind it
pub record IsAsked (c : Connection) (unused : List ℕ) (ended : Bool) (way : Option Numbered) (p : Pending) (reader : Kept) : Type 0 where
  pub bound : Numbered
  pub message : Message
  pub used : ℕ
  pub bound_is : way ≡ Some bound
  pub found : (next_unit unused ended bound.1.max_body).found ≡ request message used
  pub pending : IsPending c bound.1 p (request_of c.from c.to message)
  pub behind : HasRead (reading_of c.from c.to (drop used unused) ended) reader

abbrev pub Fronts : Connection → State → Option Pending → Kept → Type 0
Fronts c s None reader = HasRead (reading_in c s) reader
Fronts c s (Some p) reader = IsAsked c s.unused s.ended s.bound p reader

-- nothing that waits is at the front but what asks an application
abbrev pub IsQuiet : Connection → State → Option Pending → Type 0
IsQuiet c s None = (bound : Numbered) → s.bound ≡ Some bound → asks_by c bound.1 (unit_under bound.1 s).found ≡ false
IsQuiet c s (Some p) = ⊤

-- ---- the whole

-- the state of what a machine holds, with the bytes that no request has used and whether `100 Continue` was told
abbrev pub state_in : Held → List ℕ → Bool → State
state_in m unused told = record {
  unused = unused;
  ended = m.ended;
  bound = bound_in m;
  told = told;
  left = m.left;
  last = m.last;
  out = m.out;
  lines = m.lines;
  closed = m.closed;
  given_up = m.given_up;
}

-- all but the front
pub record Carries (reply_of : List ℕ → Request → Reply) (c : Connection) (a : Account) (m : Held) : Type 0 where
  pub connection : c ≡ connection_of m.listener m.from m.to reply_of
  pub state : a.state ≡ state_in m a.state.unused a.state.told
  pub receipts : a.told.receipts ≡ m.receipts
  pub fresh : a.state.bound ≡ None → a.state.told ≡ false
  pub begun : (bound : Numbered) → a.state.bound ≡ Some bound → head_begun a.state.unused ≡ true
  pub idle : (bound : Numbered) → a.state.bound ≡ Some bound → is_due bound.1 a.state ≡ false

-- within a call
pub record Stands (reply_of : List ℕ → Request → Reply) (c : Connection) (a : Account) (m : Held) : Type 0 where
  pub carries : Carries reply_of c a m
  pub front : m.closed ≡ false → Fronts c a.state m.pending m.reader

-- between two calls
pub record Shows (reply_of : List ℕ → Request → Reply) (c : Connection) (a : Account) (m : Held) : Type 0 where
  pub stands : Stands reply_of c a m
  pub quiet : m.closed ≡ false → IsQuiet c a.state m.pending

-- the machine stands as before, whatever it showed
abbrev pub IsAsBefore : (List ℕ → Request → Reply) → Held → Held → Type 0
IsAsBefore reply_of old new = (c : Connection) (a : Account) → Shows reply_of c a old → Shows reply_of c a new

-- ---- begin and ends

-- a machine before its first byte, over a reader
abbrev pub opened_held : List ℕ → Addr → Addr → Kept → Held
opened_held listener from to reader = record {
  listener = listener;
  from = from;
  to = to;
  reader = reader;
  met = None;
  former = None;
  is_under_way = false;
  pending = None;
  left = request_limit;
  last = 0;
  ended = false;
  closed = false;
  given_up = false;
  out = [];
  lines = [];
  receipts = [];
}

-- the number of the configuration of the request under way, or this one where none is
abbrev pub number_or : Option Numbered → ℕ → ℕ
number_or None number = number
number_or (Some bound) number = bound.0

-- closed without a reply
abbrev pub ended_with : ℕ → ℕ → Kind → Held → Held
ended_with number stream kind m = record m {
  is_under_way = false;
  pending = None;
  last = number;
  closed = true;
  receipts = m.receipts ++ receipt_of number stream kind ∷ [];
}

abbrev pub given_up_as : ℕ → ℕ → Kind → Held → Held
given_up_as number stream kind m =
    if m.closed then record m { given_up = true }
    else record (ended_with (number_or (bound_in m) number) stream kind m) { given_up = true }
