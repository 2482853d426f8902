-- What the seats of a fabric know, between two calls: a main seat that has the lists of its number, and the seat of a state.
use Rattle.std.specs.Prelude.{ℕ, ◌≡◌, List, [], ◌∷◌}
use Rattle.unit_model.specs.Shapes.{role_in}
use Rattle.fabric_rule.specs.Opening.{ledger_of}
use Rattle.fabric_rule.specs.Steps.{IsMain}
use Rattle.fabric_rule.specs.declared.cause.Cause.{Cause}
use Rattle.fabric_rule.specs.declared.event.FabricEvent.{FabricEvent}
use Rattle.fabric_rule.specs.declared.view.FabricView.{FabricView}
use Rattle.fabric_rule.specs.declared.view.Ledger.{Ledger}
use Rattle.fabric_rule.specs.declared.view.Work.{Work}
use Rattle.fabric_rule.specs.declared.view.Work.TheVariants as work

-- the account of a view's number: its lists, what it was refused, newest first, and how many of its states are unspent
abbrev pub account_in : FabricView → Ledger
account_in v = ledger_of v

-- what it did or saw, newest first
abbrev pub log_in : FabricView → List FabricEvent
log_in v = v.log

-- an account with one refusal more
abbrev pub refused : ℕ → Cause → Ledger → Ledger
refused stream cause c = record c {
  refusals = (record { stream = stream; cause = cause }) ∷ c.refusals;
}

-- a main seat that was refused once more
abbrev pub with_refusal : ℕ → Cause → FabricView → FabricView
with_refusal stream cause v = record v { ledgers = refused stream cause (account_in v) ∷ [] }

-- A main seat: it has the lists of its number, nothing in hand, and nothing popped.
pub record IsMainSeat (role number : ℕ) (v : FabricView) : Type 0 where
  pub lists : IsMain v (ledger_of v)
  pub number_is : v.seat ≡ number
  pub role_is : role_in v.shape v.seat ≡ role
  pub works : v.works ≡ []
  pub chunks : v.chunks ≡ []
  pub items : v.items ≡ []

-- The seat of a state: one work, and none of the lists of its number.
pub record IsStateSeat (role : ℕ) (work : Work) (v : FabricView) : Type 0 where
  pub lists : v.ledgers ≡ []
  pub works : v.works ≡ work ∷ []
  pub role_is : role_in v.shape v.seat ≡ role

-- the seat of a stream that was drawn and not posted, with nothing in hand
pub record IsDrawnSeat (stream : ℕ) (v : FabricView) : Type 0 where
  pub state : IsStateSeat 0 (work.Drawn stream) v
  pub chunks : v.chunks ≡ []
  pub items : v.items ≡ []
