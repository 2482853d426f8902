-- The state of a connection between two calls, and what is left to come of its session.
use Rattle.std.specs.Prelude.{◌≡◌, ℕ, ◌≤◌, nat_lt, Bool, true, false, not, ◌&&◌, ◌||◌, List, [], ◌∷◌, ◌++◌, length, Option, Some, None, slice_get, if◌then◌else◌, ◌⊎◌, ⊤}
use Rattle.std.specs.Option.{is_some}
use Rattle.conf_validate.specs.Configuration.{Configuration}
use Rattle.http_front.specs.Front.{head_begun}
use Rattle.http_front.specs.Message.{request_of}
use Rattle.http_front.specs.NextUnit.{Found, request, bad, cut, finished, wait, NextUnit, next_unit}
use Rattle.http_front.specs.Session.{Session}
use Rattle.unit_types.specs.declared.message.Request.{Request}
use Rattle.route_match.specs.Target.{target_of}
use Rattle.conn_machine.specs.declared.receipt.Kind.TheVariants.{Gone}
use Rattle.conn_machine.specs.declared.receipt.Need.{Need}
use Rattle.conn_machine.specs.declared.receipt.Need.TheVariants.{Read, Ask, Write, Close}
use Rattle.conn_machine.specs.declared.receipt.Receipt.{Receipt}
use Rattle.conn_machine.specs.Answers.{Connection}
use Rattle.conn_machine.specs.Asking.{asked_of, is_app, timeout_in}
use Rattle.conn_machine.specs.Sessions.{Course, under_way, behind, closed_course, course_from, course_of}

-- a configuration under its number
abbrev pub Numbered : Type 0
Numbered = ℕ × Configuration

-- the bytes that no request has used, and whether the input ended behind them; the configuration of the request under way,
-- and whether `100 Continue` was told of it; how many requests may still come with that one, and the number of the
-- configuration of the last receipt; the bytes that aren't shown as written yet, the lines so far, whether the connection is
-- closed, and whether it was given up, behind which no bytes come
pub record State : Type 0 where
  pub unused : List ℕ
  pub ended : Bool
  pub bound : Option Numbered
  pub told : Bool
  pub left : ℕ
  pub last : ℕ
  pub out : List ℕ
  pub lines : List ℕ
  pub closed : Bool
  pub given_up : Bool

-- what stands at the front of the bytes under a configuration
abbrev pub unit_under : Configuration → State → NextUnit
unit_under conf s = next_unit s.unused s.ended conf.max_body

-- ---- what came and went

-- a configuration that a connection was given: what its number stands for, or the number alone
abbrev pub Given : Type 0
Given = ℕ × Option Configuration

-- a list of configurations agrees with one that was given
abbrev pub has_given : List Configuration → Given → Type 0
has_given confs (number, Some conf) = slice_get confs number ≡ Some conf
has_given confs (number, None) = is_some (slice_get confs number) ≡ true

abbrev pub Agrees : List Configuration → List Given → Type 0
Agrees confs [] = ⊤
Agrees confs (given ∷ more) = has_given confs given × Agrees confs more

-- all bytes so far, the receipts of the requests so far, the bytes that were shown as written, and the configurations that
-- were given for requests and receipts
pub record Told : Type 0 where
  pub bytes : List ℕ
  pub receipts : List Receipt
  pub written : List ℕ
  pub given : List Given

-- ---- what is left to come

-- more bytes come, or, behind the end of the input and where it was given up, none
pub record GoesOn (s : State) (more : List ℕ) (ended : Bool) : Type 0 where
  pub none : (s.ended || s.given_up) ≡ true → more ≡ []
  pub same : s.ended ≡ true → ended ≡ true

-- where a request is under way, the next receipt is its own
abbrev pub Fits : Option Numbered → List Receipt → Type 0
Fits None receipts = ⊤
Fits (Some bound) [] = ⊥
Fits (Some bound) (receipt ∷ receipts) = receipt.conf ≡ bound.0

-- the course of what is left, for the receipts and the bytes that come
abbrev pub course_left : Connection → List Configuration → State → List Receipt → List ℕ → Bool → Option Course
course_left c confs s receipts more ended =
    if s.closed then closed_course receipts
    else course_from c confs ended receipts s.left s.last s.told (s.unused ++ more)

-- ---- the law

-- `100 Continue` is due and wasn't told
abbrev pub is_due : Configuration → State → Bool
is_due conf s = (unit_under conf s).continue_due && not s.told

-- a request is under way, behind these lines
abbrev pub Waits : List ℕ → Option Course → Type 0
Waits lines course = (written : List ℕ) × (course ≡ Some (record { written = written; lines = lines; mark = under_way }))

-- the state follows what came and went: what was shown, what isn't yet, and the course of what is left, put together, are the
-- course of all receipts and bytes, however they go on, by every list of configurations that agrees with those given
pub record Follows (c : Connection) (t : Told) (s : State) : Type 0 where
  pub law : (confs : List Configuration) (receipts : List Receipt) (more : List ℕ) (ended : Bool)
      → Agrees confs t.given → Fits s.bound receipts → GoesOn s more ended
      → course_of c confs (t.receipts ++ receipts) (t.bytes ++ more) ended
      ≡ behind (t.written ++ s.out) s.lines (course_left c confs s receipts more ended)
  pub begun : (bound : Numbered) → s.bound ≡ Some bound → head_begun s.unused ≡ true
  pub idle : (bound : Numbered) → s.bound ≡ Some bound → is_due bound.1 s ≡ false
  pub there : (bound : Numbered) (confs : List Configuration) → s.bound ≡ Some bound → Agrees confs t.given
      → slice_get confs bound.0 ≡ Some bound.1
  pub rises : (bound : Numbered) → s.bound ≡ Some bound → s.last ≤ bound.0
  pub under : (bound : Numbered) (confs : List Configuration) (more : List ℕ) (ended : Bool)
      → s.bound ≡ Some bound → Agrees confs t.given → GoesOn s more ended
      → Waits s.lines (course_of c confs t.receipts (t.bytes ++ more) ended)
  pub fresh : s.bound ≡ None → s.told ≡ false

-- ---- between two calls

-- the request found asks an application
abbrev pub asks_by : Connection → Configuration → Found → Bool
asks_by c conf (request m used) = is_app (target_of conf c.listener (request_of c.from c.to m))
asks_by c conf (bad status) = false
asks_by c conf cut = false
asks_by c conf finished = false
asks_by c conf wait = false

-- each request whose head is complete is under way and asks an application or needs more bytes; where the connection is
-- closed or was given up none is
pub record IsSettled (c : Connection) (s : State) : Type 0 where
  pub begun : s.closed ≡ false → s.bound ≡ None → head_begun s.unused ≡ false
  pub waits : (bound : Numbered) → s.bound ≡ Some bound
      → (asks_by c bound.1 (unit_under bound.1 s).found ≡ true) ⊎ ((unit_under bound.1 s).found ≡ wait)
  pub over : s.closed ≡ true → s.bound ≡ None
  pub quits : s.given_up ≡ true → s.closed ≡ true

-- the receipts that count: where a request is under way, one more behind those so far, as if its client had hung up
abbrev pub counted : Option Numbered → List Receipt → List Receipt
counted None receipts = receipts
counted (Some bound) receipts = receipts ++ record { conf = bound.0; stream = 0; kind = Gone } ∷ []

-- the session is closed, or open and the input ended
abbrev pub is_over : Option Session → Bool → Bool
is_over None ended = false
is_over (Some session) ended = session.closed || ended

-- ---- what a connection needs

abbrev pub need_under : Connection → State → Option Numbered → Need
need_under c s None = if s.ended then Close else Read
need_under c s (Some bound) = if asks_by c bound.1 (unit_under bound.1 s).found then Ask else Read

-- the cases in their order
abbrev pub need_of : Connection → State → Need
need_of c s =
    if s.given_up then Close
    else if nat_lt 0 (length s.out) then Write
    else if s.closed then Close
    else need_under c s s.bound

-- the name of the handler that is asked, and the request as it is asked
abbrev pub asked_by : Connection → Configuration → Found → Option (List ℕ × Request)
asked_by c conf (request m used) =
    let r = request_of c.from c.to m in
    if is_app (target_of conf c.listener r)
    then Some ((asked_of c conf 0 r).name, (asked_of c conf 0 r).request)
    else None
asked_by c conf (bad status) = None
asked_by c conf cut = None
asked_by c conf finished = None
asked_by c conf wait = None

abbrev pub timeout_by : Connection → Configuration → Found → Option ℕ
timeout_by c conf (request m used) = timeout_in (target_of conf c.listener (request_of c.from c.to m))
timeout_by c conf (bad status) = None
timeout_by c conf cut = None
timeout_by c conf finished = None
timeout_by c conf wait = None

abbrev pub by_bound : {A : Type 0} → (Configuration → Found → Option A) → State → Option Numbered → Option A
by_bound look s None = None
by_bound look s (Some bound) = look bound.1 (unit_under bound.1 s).found

abbrev pub is_ask : Need → Bool
is_ask Ask = true
is_ask Read = false
is_ask Write = false
is_ask Close = false

-- what is asked, and after how many seconds it is late; None where nothing is
abbrev pub asking_of : Connection → State → Option (List ℕ × Request)
asking_of c s = if is_ask (need_of c s) then by_bound (asked_by c) s s.bound else None

abbrev pub timeout_of : Connection → State → Option ℕ
timeout_of c s = if is_ask (need_of c s) then by_bound (timeout_by c) s s.bound else None
