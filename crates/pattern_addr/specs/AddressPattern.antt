-- Address patterns, as a configuration's `source` and `destination` have them.
use Rattle.std.specs.Prelude.{ℕ, ◌+◌, ◌*◌, ◌-◌, ◌^◌, ◌%◌, Bool, true, false, not, ◌&&◌, ◌||◌, ◌==◌, nat_le, nat_eq, List, [], ◌∷◌, Option, Some, None, option_and_then, drop, if◌then◌else◌}
use Rattle.std.specs.List.{list_any, list_all, starts_with}
use Rattle.unit_types.specs.declared.message.Addr.{Addr}
use Rattle.unit_types.specs.Numeral.{decimal_within}
use Rattle.unit_types.specs.Text.{cut}
use Rattle.pattern_addr.specs.declared.grammar.Range.{Range}

-- the addresses and the ports that a pattern names, and whether it is negated
pub record AddressPattern : Type 0 where
  pub negated : Bool
  pub addresses : Range
  pub ports : Range

-- ---- what a pattern's text means; its numbers are decimal digits, one or more, leading zeros too

-- one step after another, each of which may find that the text has not the form
infixl 10 ◌>>=◌
abbrev pub ◌>>=◌ : {A B : Type 0} → Option A → (A → Option B) → Option B
o >>= f = option_and_then f o

-- an address: four numbers up to 255 with periods between them; the first one stands in the highest eight bits
unfoldable pub address_of : List ℕ → Option ℕ
address_of text = do
  first ← cut 46 text
  second ← cut 46 first.1
  third ← cut 46 second.1
  a ← decimal_within 255 first.0
  b ← decimal_within 255 second.0
  c ← decimal_within 255 third.0
  d ← decimal_within 255 third.1
  Some (((a * 256 + b) * 256 + c) * 256 + d)

-- the addresses that agree with this one in their first `length` bits
abbrev pub block_of : ℕ → ℕ → Range
block_of address length =
    let size = 2 ^ (32 - length) in
    let first = address - address % size in
    record { first = first; last = first + (size - 1) }

-- `A/len`: the block of an address, of 0 to 32 bits
unfoldable pub block_at : List ℕ × List ℕ → Option Range
block_at parts = do
  address ← address_of parts.0
  length ← decimal_within 32 parts.1
  Some (block_of address length)

-- `A-B`: from an address to an address
unfoldable pub span_at : List ℕ × List ℕ → Option Range
span_at parts = do
  first ← address_of parts.0
  last ← address_of parts.1
  Some (record { first = first; last = last })

-- `A`: one address
unfoldable pub single_at : List ℕ → Option Range
single_at text = do
  address ← address_of text
  Some (record { first = address; last = address })

-- every address
abbrev pub all_addresses : Range
all_addresses = record { first = 0; last = 2 ^ 32 - 1 }

-- the text is `*`
abbrev pub is_star : List ℕ → Bool
is_star [] = false
is_star (b ∷ []) = b == 42
is_star (b ∷ c ∷ bs) = false

abbrev pub or_else : {A B : Type 0} → Option A → (A → Option B) → Option B → Option B
or_else None f other = other
or_else (Some x) f other = f x

-- `*`, `A/len`, `A-B` or `A`
unfoldable pub addresses_of : List ℕ → Option Range
addresses_of text =
    if is_star text then Some all_addresses
    else or_else (cut 47 text) block_at (or_else (cut 45 text) span_at (single_at text))

-- a port: 1 to 65535
abbrev pub port_of : List ℕ → Option ℕ
port_of text = do
  port ← decimal_within 65535 text
  if port == 0 then None else Some port

-- `p-q`: from a port to a port
unfoldable pub port_span_at : List ℕ × List ℕ → Option Range
port_span_at parts = do
  first ← port_of parts.0
  last ← port_of parts.1
  Some (record { first = first; last = last })

-- `p`: one port
unfoldable pub single_port_at : List ℕ → Option Range
single_port_at text = do
  port ← port_of text
  Some (record { first = port; last = port })

-- `p-q` or `p`
unfoldable pub ports_of : List ℕ → Option Range
ports_of text = or_else (cut 45 text) port_span_at (single_port_at text)

-- every port, 0 too
abbrev pub all_ports : Range
all_ports = record { first = 0; last = 65535 }

-- addresses with ports behind a `:`
unfoldable pub with_ports : Bool → List ℕ × List ℕ → Option AddressPattern
with_ports negated parts = do
  addresses ← addresses_of parts.0
  ports ← ports_of parts.1
  Some (record { negated = negated; addresses = addresses; ports = ports })

-- addresses alone, at every port
unfoldable pub without_ports : Bool → List ℕ → Option AddressPattern
without_ports negated text = do
  addresses ← addresses_of text
  Some (record { negated = negated; addresses = addresses; ports = all_ports })

-- what stands behind the `!` or begins the text
unfoldable pub plain_pattern_of : Bool → List ℕ → Option AddressPattern
plain_pattern_of negated text = or_else (cut 58 text) (with_ports negated) (without_ports negated text)

-- the text begins with `!`
abbrev pub is_negated : List ℕ → Bool
is_negated text = starts_with nat_eq text (33 ∷ [])

-- what a text means as an address pattern: nothing where it has not the form of one
abbrev pub address_pattern_of : List ℕ → Option AddressPattern
address_pattern_of text =
    if is_negated text then plain_pattern_of true (drop 1 text) else plain_pattern_of false text

-- ---- what matches

abbrev pub is_within : Range → ℕ → Bool
is_within range n = nat_le range.first n && nat_le n range.last

-- address and port lie in the pattern's ranges; its `!` is left aside
abbrev pub holds_of : Addr → AddressPattern → Bool
holds_of addr pattern = is_within pattern.addresses addr.ip && is_within pattern.ports addr.port

-- some pattern without `!` matches or there is none, and no negated pattern's rest matches
abbrev pub list_matches : List AddressPattern → Addr → Bool
list_matches patterns addr =
    (list_any (λ p. not p.negated && holds_of addr p) patterns || list_all (λ p. p.negated) patterns)
    && not (list_any (λ p. p.negated && holds_of addr p) patterns)
