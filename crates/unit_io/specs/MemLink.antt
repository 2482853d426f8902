-- A link over memory: what it holds, and what each accept answers and makes of it.
use Rattle.std.specs.Prelude.{◌≡◌, ℕ, zero, suc, ◌+◌, Bool, false, true, List, [], ◌∷◌, ◌++◌, ⊤}
use Rattle.unit_io.specs.Causes.{one_more}
use Rattle.unit_io.specs.MemConn.{ConnState}
use Rattle.unit_io.specs.declared.link.Accepted.{Accepted}
use Rattle.unit_io.specs.declared.link.Accepted.TheVariants as accepted
use Rattle.unit_io.specs.declared.mem_link.LinkEvent.{LinkEvent}
use Rattle.unit_io.specs.declared.mem_link.LinkEvent.TheVariants.{Conn, NotYet, Fail}

-- the events that are still to come, how many connections were handed out, whether End was answered, whether the last
-- accept answered NotYet, and what was counted
pub record LinkState : Type 0 where
  pub events : List LinkEvent
  pub handed : ℕ
  pub ended : Bool
  pub idle : Bool
  pub faults : ℕ
  pub waits : ℕ

-- a link that has handed out no connection yet
abbrev pub fresh : List LinkEvent → LinkState
fresh events = record {
  events = events;
  handed = 0;
  ended = false;
  idle = false;
  faults = 0;
  waits = 0;
}

-- a connection to which nothing happened yet, or none
abbrev pub IsFreshEvent : LinkEvent → Type 0
IsFreshEvent (Conn c) = (c.came ≡ []) × (c.went ≡ []) × (c.faults ≡ 0)
IsFreshEvent NotYet = ⊤
IsFreshEvent Fail = ⊤

-- 0, 1 and so on, so many
abbrev pub numbers_below : ℕ → List ℕ
numbers_below zero = []
numbers_below (suc n) = numbers_below n ++ n ∷ []

-- an accept, by the events that are still to come
abbrev pub IsAcceptOf : List LinkEvent → LinkState → Accepted ConnState → LinkState → Type 0
IsAcceptOf [] l answer after =
    (answer ≡ accepted.End) × (after ≡ record l { ended = true; idle = false })
IsAcceptOf (Conn c ∷ rest) l answer after =
    (answer ≡ accepted.Conn (record c { number = l.handed }))
    × (after ≡ record l { events = rest; handed = l.handed + 1; idle = false })
IsAcceptOf (NotYet ∷ rest) l answer after =
    (answer ≡ accepted.NotYet)
    × (after ≡ record l { events = rest; idle = true; waits = one_more l.waits })
IsAcceptOf (Fail ∷ rest) l answer after =
    (answer ≡ accepted.Failed)
    × (after ≡ record l { events = rest; idle = false; faults = one_more l.faults })

abbrev pub IsAccept : LinkState → Accepted ConnState → LinkState → Type 0
IsAccept l answer after = IsAcceptOf l.events l answer after
