-- A connection under one configuration whose whole input came, and whose requests are answered by handlers and by the server.
use Rattle.std.specs.Prelude.{◌≡◌, ℕ, ◌≤◌, Bool, true, false, List, [], ◌∷◌, Some, ⊤}
use Rattle.http_front.specs.Message.{Message, request_of}
use Rattle.conn_machine.specs.declared.receipt.Kind.TheVariants.{App}
use Rattle.conn_machine.specs.Answers.{Connection, reply_to}
use Rattle.conn_machine.specs.Calls.{Account, IsSound, on_answer}
use Rattle.conn_machine.specs.Laws.{ArePlain}
use Rattle.conn_machine.specs.States.{Given, Numbered}
use Rattle.conn_machine.specs.Turns.{receipt_of}

-- each configuration that was given is this one
abbrev pub AreGiven : Numbered → List Given → Type 0
AreGiven current [] = ⊤
AreGiven current (given ∷ more) = (given ≡ (current.0, Some current.1)) × AreGiven current more

-- these bytes came, and the input ended behind them or not; those were shown as written; no other configuration was given,
-- and under it each request so far was answered or cut
pub record IsUnderOne (current : Numbered) (bytes written : List ℕ) (ended : Bool) (a : Account) : Type 0 where
  pub came : a.told.bytes ≡ bytes
  pub went : a.told.written ≡ written
  pub end : a.state.ended ≡ ended
  pub stays_up : a.state.given_up ≡ false
  pub receipts : ArePlain current.0 a.told.receipts
  pub given : AreGiven current a.told.given
  pub bound : (bound : Numbered) → a.state.bound ≡ Some bound → bound ≡ current
  pub last : a.state.last ≤ current.0

-- these bytes are all that came and comes
pub record IsServedByOne (c : Connection) (current : Numbered) (bytes written : List ℕ) (a : Account) : Type 0 where
  pub sound : IsSound c a
  pub under : IsUnderOne current bytes written true a

-- the request under way was this message, and got the reply of its handler under a stream
abbrev pub after_reply : Connection → Numbered → Numbered → Account → ℕ → Message → ℕ → Account
after_reply c current bound a stream m used =
    let r = request_of c.from c.to m in
    on_answer c current bound (receipt_of bound.0 stream App) r (reply_to c bound.1 r) used a
