-- The forms of the command line. The words are those behind the program's name.
use Rattle.std.specs.Prelude.{ℕ, nat_le, Bool, true, false, ◌&&◌, List, [], ◌∷◌, codes, bytes_eq, if◌then◌else◌, Option, Some, None}
use Rattle.std.specs.List.{list_any}
use Rattle.unit_types.specs.Numeral.{plain_decimal_within}
use Rattle.unit_top.specs.declared.command.Command.{Command as Asked}
use Rattle.unit_top.specs.declared.command.Command.TheVariants as variant

-- what the words ask for
pub data Command : Type 0 where
  -- one connection on standard input, every request of which goes to this handler
  Once : (handler : List ℕ) → Command
  -- the script on standard input
  Exchange : Command
  -- the trace of the script on standard input
  Trace : Command
  -- the check of a trace on standard input
  Check : Command
  -- a made script of so many requests, by draws from a seed
  Load : (requests seed : ℕ) → Command

-- whether a handler of this name is there
abbrev pub is_listed : List (List ℕ) → List ℕ → Bool
is_listed names name = list_any (bytes_eq name) names

-- the most requests of a load
abbrev pub load_limit : ℕ
load_limit = 10000

-- `load` with these numbers: one request at least
abbrev pub load_by : Option ℕ → Option ℕ → Option Command
load_by (Some requests) (Some seed) = if nat_le 1 requests then Some (Load requests seed) else None
load_by _ _ = None

-- `load N SEED`
unfoldable pub load_command : List ℕ → List ℕ → List ℕ → Option Command
load_command word requests seed =
    if bytes_eq word (codes "load") then load_by (plain_decimal_within load_limit requests) (plain_decimal_within 18446744073709551615 seed) else None

-- `exchange`, `trace`, `check`, `once HANDLER`, where HANDLER is the name of a handler, or `load N SEED`, where N is 1 to 10,000
-- and SEED below 2^64, without leading zeros; all other words ask for nothing
abbrev pub command_of : List (List ℕ) → List (List ℕ) → Option Command
command_of names (word ∷ []) =
    if bytes_eq word (codes "exchange") then Some Exchange
    else if bytes_eq word (codes "trace") then Some Trace
    else if bytes_eq word (codes "check") then Some Check
    else None
command_of names (word ∷ handler ∷ []) = if bytes_eq word (codes "once") && is_listed names handler then Some (Once handler) else None
command_of names (word ∷ requests ∷ seed ∷ []) = load_command word requests seed
command_of _ _ = None

-- whether a command is asked for, and reads its source; `load` doesn't
abbrev pub is_reading : Option Command → Bool
is_reading None = false
is_reading (Some (Load requests seed)) = false
is_reading (Some command) = true

-- what the code's command asks for
abbrev pub asked : Asked → Command
asked (variant.Once handler) = Once handler.now
asked variant.Exchange = Exchange
asked variant.Trace = Trace
asked variant.Check = Check
asked (variant.Load requests seed) = Load requests seed
