-- The connections of a script and of `once`: they come from a local client to a local listener, and all their bytes are there.
use Rattle.std.specs.Prelude.{◌≡◌, ℕ, ◌<◌, Bool, true, false, List, [], ◌∷◌}
use Rattle.http_front.specs.Session.{loopback, plain_session_of}
use Rattle.unit_types.specs.declared.message.Addr.{Addr}
use Rattle.unit_types.specs.declared.message.Reply.{Reply}
use Rattle.unit_types.specs.declared.message.Request.{Request}
use Rattle.conf_validate.specs.Configuration.{Configuration}
use Rattle.conn_machine.specs.Answers.{Connection}
use Rattle.conn_machine.specs.Asks.{asks_left}
use Rattle.conn_machine.specs.Calls.{Account}
use Rattle.conn_machine.specs.Laws.{plain_connection}
use Rattle.conn_machine.specs.One.{IsServedByOne}
use Rattle.conn_machine.specs.Shows.{Held, Shows, connection_of}
use Rattle.conn_machine.specs.States.{Numbered}
use Rattle.plain_fabric.specs.Plains.{PlainValue}
use Rattle.unit_top.specs.Posting.{Asked, Asking, HasPosted}
use Rattle.unit_top.specs.declared.fabric.Output.TheVariants.{Steps}

abbrev pub client_address : Addr
client_address = record { ip = loopback; port = 40000 }

abbrev pub listener_address : ℕ → Addr
listener_address port = record { ip = loopback; port = port }

-- a connection to a listener with this port
abbrev pub connection_at : (List ℕ → Request → Reply) → List ℕ → ℕ → Connection
connection_at reply_of listener port = connection_of listener client_address (listener_address port) reply_of

-- what a connection gets under one configuration, where the input ends behind these bytes and each request is answered: by the law
-- `laws_of_sessions`, what its session writes by receipts that all name this configuration and are App, Own or Cut
abbrev pub output_of : Connection → Configuration → List ℕ → List ℕ
output_of c conf bytes = (plain_session_of (plain_connection c conf) true bytes).written

-- the machine stands where some account says
abbrev pub IsShown : (List ℕ → Request → Reply) → Held → Type 0
IsShown reply_of m = (c : Connection) × (a : Account) × Shows reply_of c a m

-- the machine stands where these bytes came under this configuration, those were written, and these are still to be asked
pub record IsServing (reply_of : List ℕ → Request → Reply) (c : Connection) (current : Numbered) (bytes written : List ℕ) (asks : List Asking) (m : Held) : Type 0 where
  pub account : Account
  pub shows : Shows reply_of c account m
  pub served : IsServedByOne c current bytes written account
  pub left : asks_left c current account ≡ asks

-- the first of what is still to be asked went through the fabric, so that fewer requests may come
pub record HasServed (reply_of : List ℕ → Request → Reply) (c : Connection) (current : Numbered) (bytes written : List ℕ) (asks : List Asking) (before m : Held) (fabric plain : PlainValue) : Type 0 where
  pub asked : Asking
  pub more : List Asking
  pub first : asks ≡ asked ∷ more
  pub serving : IsServing reply_of c current bytes written more m
  pub fewer : m.left < before.left
  pub posted : HasPosted Steps reply_of (Asked asked ∷ []) fabric plain

-- one reply more; or all is written, and nothing is left to be asked
abbrev pub Serves : (List ℕ → Request → Reply) → Connection → Numbered → List ℕ → List ℕ → List Asking → Held → Held → PlainValue → PlainValue → Bool → Type 0
Serves reply_of c current bytes written asks before m fabric plain true =
    HasServed reply_of c current bytes written asks before m fabric plain
Serves reply_of c current bytes written asks before m fabric plain false =
    (written ≡ output_of c current.1 bytes) × (asks ≡ []) × (plain ≡ fabric)
