-- What a connection and a link over sockets tell: what they are and what they counted, and nothing of bytes.
use Rattle.std.specs.Prelude.{ℕ, Bool, false, List}
use Rattle.unit_types.specs.declared.message.Addr.{Addr}

-- what a connection is, whether End was answered, and its counts
pub record NetConnState : Type 0 where
  pub number : ℕ
  pub listener : List ℕ
  pub from : Addr
  pub to : Addr
  pub ended : Bool
  pub faults : ℕ
  pub waits : ℕ

-- a connection of which nothing was asked yet
abbrev pub accepted_conn : ℕ → List ℕ → Addr → Addr → NetConnState
accepted_conn number listener from to = record {
  number = number;
  listener = listener;
  from = from;
  to = to;
  ended = false;
  faults = 0;
  waits = 0;
}

-- whether End was answered, whether the last accept answered NotYet, and a link's counts
pub record NetLinkState : Type 0 where
  pub ended : Bool
  pub idle : Bool
  pub faults : ℕ
  pub waits : ℕ

-- a link of which nothing was asked yet
abbrev pub opened_link : NetLinkState
opened_link = record { ended = false; idle = false; faults = 0; waits = 0 }
