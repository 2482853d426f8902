-- The calls on a connection, as steps from what was told and where it stands to what is told and where it stands then.
use Rattle.std.specs.Prelude.{◌≡◌, ℕ, zero, suc, ◌≤◌, false, List, take, drop, Option, Some, None, if◌then◌else◌}
use Rattle.unit_types.specs.declared.message.Reply.{Reply}
use Rattle.unit_types.specs.declared.message.Request.{Request}
use Rattle.route_match.specs.Target.{target_of}
use Rattle.http_front.specs.Front.{head_begun}
use Rattle.http_front.specs.Message.{request_of}
use Rattle.http_front.specs.NextUnit.{Found, request, bad, cut, finished, wait}
use Rattle.http_front.specs.Session.{request_limit}
use Rattle.http_front.specs.Written.{error_reply}
use Rattle.conn_machine.specs.declared.receipt.Kind.{Kind}
use Rattle.conn_machine.specs.declared.receipt.Kind.TheVariants.{Cut, Own}
use Rattle.conn_machine.specs.declared.receipt.Receipt.{Receipt}
use Rattle.conn_machine.specs.Answers.{Connection, reply_to}
use Rattle.conn_machine.specs.Asking.{is_app}
use Rattle.conn_machine.specs.States.{Numbered, State, Told, Follows, IsSettled, unit_under}
use Rattle.conn_machine.specs.Steps.{at_end, begin, closed_by, fed, given_up, nothing, replied, shown, taken_up, with_bytes, with_given, with_receipt, with_written}
use Rattle.conn_machine.specs.Turns.{receipt_of}

-- what came and went, and where the connection stands
pub record Account : Type 0 where
  pub told : Told
  pub state : State

abbrev pub opened : Account
opened = record { told = nothing; state = begin }

-- ---- one request

-- the request under way, or refused bytes, get a reply
abbrev pub replied_with : Connection → Numbered → Receipt → Option Request → Reply → ℕ → Account → Account
replied_with c bound receipt asked reply used a =
    record { told = with_receipt receipt a.told; state = replied c bound asked reply used a.state }

-- it ends without one
abbrev pub closed_with : Numbered → Receipt → Account → Account
closed_with bound receipt a = record { told = with_receipt receipt a.told; state = closed_by bound.0 a.state }

-- the head at the front is complete
abbrev pub taken_with : Numbered → Account → Account
taken_with bound a = record { told = with_given (bound.0, Some bound.1) a.told; state = taken_up bound a.state }

-- ---- all that the server answers itself

-- its answer to what is found, and what follows: a request to an application waits for its reply
abbrev pub own_answer : Connection → Numbered → (Account → Account) → Account → Found → Account
own_answer c bound rest a (request m used) =
    let r = request_of c.from c.to m in
    if is_app (target_of bound.1 c.listener r) then a
    else rest (replied_with c bound (receipt_of bound.0 0 Own) (Some r) (reply_to c bound.1 r) used a)
own_answer c bound rest a (bad status) = replied_with c bound (receipt_of bound.0 0 Own) None (error_reply status) 0 a
own_answer c bound rest a cut = closed_with bound (receipt_of bound.0 0 Cut) a
own_answer c bound rest a finished = a
own_answer c bound rest a wait = a

abbrev pub found_at : Numbered → Account → Found
found_at bound a = (unit_under bound.1 a.state).found

-- a request whose head is found complete is under way by the current configuration
abbrev pub front_answer : Connection → Numbered → (Account → Account) → Account → Option Numbered → Account
front_answer c current rest a (Some bound) = own_answer c bound rest a (found_at bound a)
front_answer c current rest a None =
    if head_begun a.state.unused
    then own_answer c current rest (taken_with current a) (found_at current (taken_with current a))
    else a

-- one request after the other, of at most so many, until one waits, no head is complete, or the connection is closed
unfoldable pub settled : Connection → Numbered → ℕ → Account → Account
settled c current zero a = a
settled c current (suc more) a =
    if a.state.closed then a else front_answer c current (settled c current more) a a.state.bound

-- ---- the calls

abbrev pub on_bytes : Connection → Numbered → List ℕ → Account → Account
on_bytes c current piece a =
    settled c current request_limit (record { told = with_bytes piece a.told; state = fed a.state piece })

abbrev pub on_end : Connection → Numbered → Account → Account
on_end c current a = settled c current request_limit (record { told = a.told; state = at_end a.state })

-- the reply to the request under way
abbrev pub on_answer : Connection → Numbered → Numbered → Receipt → Request → Reply → ℕ → Account → Account
on_answer c current bound receipt r reply used a =
    settled c current request_limit (replied_with c bound receipt (Some r) reply used a)

-- the connection is given up: with a receipt of this kind, unless it is closed
abbrev pub ended_at : ℕ → ℕ → Kind → Account → Option Numbered → Account
ended_at number stream kind a (Some bound) = closed_with bound (receipt_of bound.0 stream kind) a
ended_at number stream kind a None = record {
  told = with_receipt (receipt_of number stream kind) (with_given (number, None) a.told);
  state = given_up (closed_by number a.state);
}

abbrev pub given_up_with : Account → Account
given_up_with a = record { told = a.told; state = given_up a.state }

abbrev pub on_gone : ℕ → ℕ → Kind → Account → Account
on_gone number stream kind a = given_up_with (if a.state.closed then a else ended_at number stream kind a a.state.bound)

-- so many of the bytes that are shown are written
abbrev pub wrote : ℕ → Account → Account
wrote n a = record {
  told = with_written (take n a.state.out) a.told;
  state = shown (drop n a.state.out) a.state;
}

-- ---- what stays

-- the state follows what came and went, each request that can be answered is, and more may come while it is open
pub record IsSound (c : Connection) (a : Account) : Type 0 where
  pub follows : Follows c a.told a.state
  pub settled : IsSettled c a.state
  pub more : a.state.closed ≡ false → 1 ≤ a.state.left
  pub most : a.state.left ≤ request_limit

-- no configuration so far has a higher number
pub record Reaches (current : Numbered) (a : Account) : Type 0 where
  pub last : a.state.last ≤ current.0
  pub bound : (bound : Numbered) → a.state.bound ≡ Some bound → bound.0 ≤ current.0
