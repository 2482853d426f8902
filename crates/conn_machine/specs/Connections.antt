-- What a whole connection has written, at the end of any call.
use Rattle.std.specs.Prelude.{◌≡◌, ℕ, true, false, List, [], ◌∷◌, ◌++◌, Some, ⊤}
use Rattle.unit_types.specs.declared.message.Reply.{Reply}
use Rattle.unit_types.specs.declared.message.Request.{Request}
use Rattle.conf_validate.specs.Configuration.{Configuration}
use Rattle.http_front.specs.Session.{Session}
use Rattle.conn_machine.specs.declared.receipt.Kind.{Kind}
use Rattle.conn_machine.specs.declared.receipt.Need.TheVariants.{Close, Read}
use Rattle.conn_machine.specs.declared.receipt.Receipt.{Receipt}
use Rattle.conn_machine.specs.Answers.{Connection}
use Rattle.conn_machine.specs.Calls as calls
use Rattle.conn_machine.specs.Calls.{Account, Reaches}
use Rattle.conn_machine.specs.Sessions.{session_of}
use Rattle.conn_machine.specs.States.{Numbered, counted, need_of, unit_under}
use Rattle.conn_machine.specs.Turns.{ends_between, replies, turn_of}

-- ---- all calls on a connection

-- a call that didn't fail, with the configuration that is current: bytes came, or their end; the request under way got a
-- reply by a receipt; the connection was given up, by a receipt of this stream and kind; or so many bytes were written
pub data Call : Type 0 where
  on_bytes : Numbered → List ℕ → Call
  on_end : Numbered → Call
  on_answer : Numbered → Numbered → Receipt → Request → Reply → ℕ → Call
  on_gone : Numbered → ℕ → Kind → Call
  wrote : ℕ → Call

abbrev pub account_after : Connection → Account → Call → Account
account_after c a (on_bytes current piece) = calls.on_bytes c current piece a
account_after c a (on_end current) = calls.on_end c current a
account_after c a (on_answer current bound receipt r reply used) = calls.on_answer c current bound receipt r reply used a
account_after c a (on_gone current stream k) = calls.on_gone current.0 stream k a
account_after c a (wrote n) = calls.wrote n a

-- it may be made there: no configuration so far has a higher number, no bytes come behind the end, a receipt of the request
-- under way makes the reply, and a connection is given up by Gone or Memory
abbrev pub MayCome : Connection → Account → Call → Type 0
MayCome c a (on_bytes current piece) = Reaches current a × (a.state.ended ≡ false) × (a.state.given_up ≡ false)
MayCome c a (on_end current) = Reaches current a
MayCome c a (on_answer current bound receipt r reply used) =
    Reaches current a × (a.state.bound ≡ Some bound) × (receipt.conf ≡ bound.0)
    × (turn_of c bound.1 receipt (unit_under bound.1 a.state).found ≡ replies (Some r) reply used)
MayCome c a (on_gone current stream k) = Reaches current a × (ends_between k ≡ true)
MayCome c a (wrote n) = ⊤

abbrev pub account_behind : Connection → Account → List Call → Account
account_behind c a [] = a
account_behind c a (call ∷ more) = account_behind c (account_after c a call) more

abbrev pub MayAllCome : Connection → Account → List Call → Type 0
MayAllCome c a [] = ⊤
MayAllCome c a (call ∷ more) = MayCome c a call × MayAllCome c (account_after c a call) more

-- the bytes that were given
abbrev pub piece_of : Call → List ℕ
piece_of (on_bytes current piece) = piece
piece_of (on_end current) = []
piece_of (on_answer current bound receipt r reply used) = []
piece_of (on_gone current stream k) = []
piece_of (wrote n) = []

abbrev pub bytes_of : List Call → List ℕ
bytes_of [] = []
bytes_of (call ∷ more) = piece_of call ++ bytes_of more

-- ---- what was written

-- the first bytes are a front of the second
abbrev pub IsFront : List ℕ → List ℕ → Type 0
IsFront front whole = (rest : List ℕ) × (whole ≡ front ++ rest)

-- what was written is a front of what the session of these bytes and the receipts writes, and all of it where nothing is left
-- to show, as where more bytes are needed. A request under way counts as one whose client hung up; where the connection is to
-- be closed none is.
pub record HasWritten (c : Connection) (confs : List Configuration) (bytes : List ℕ) (a : Account) : Type 0 where
  pub session : Session
  pub is : session_of c confs (counted a.state.bound a.told.receipts) bytes a.state.ended ≡ Some session
  pub front : IsFront a.told.written session.written
  pub whole : a.state.out ≡ [] → session.written ≡ a.told.written
  pub reads : need_of c a.state ≡ Read → a.state.out ≡ []
  pub closes : need_of c a.state ≡ Close → counted a.state.bound a.told.receipts ≡ a.told.receipts
