-- The keys that the target of a control request names.
use Rattle.std.specs.Prelude.{ℕ, ◌==◌, nat_eq, Bool, List, [], ◌∷◌, map, drop, codes, Option, Some, None, if◌then◌else◌}
use Rattle.std.specs.List.{list_all, slice_split, starts_with}
use Rattle.std.specs.Str.{is_utf8}
use Rattle.percent_encoding.specs.Percent.{percent_decode}
use Rattle.http_front.specs.Message.{ends_in, without_last}
use Rattle.http_front.specs.Target.{raw_path_of}

abbrev pub is_slash : ℕ → Bool
is_slash b = b == 47

-- one `/` at the end is no part of the path
abbrev pub without_final_slash : List ℕ → List ℕ
without_final_slash path = if ends_in 47 path then without_last path else path

-- the texts between the slashes, each decoded (RFC 3986, section 2.1)
abbrev pub decoded_pieces : List ℕ → List (List ℕ)
decoded_pieces text = map percent_decode (slice_split is_slash text)

-- the keys of what follows `/config`: none, or those behind its `/`
abbrev pub keys_behind : List ℕ → Option (List (List ℕ))
keys_behind [] = Some []
keys_behind (b ∷ rest) = if is_slash b then Some (decoded_pieces rest) else None

-- the keys of a path that is `/config` or goes on behind it; every other path has none
abbrev pub keys_in : List ℕ → Option (List (List ℕ))
keys_in path = if starts_with nat_eq path (codes "/config") then keys_behind (drop 7 path) else None

-- the keys of a target, by its path as it came; a query is no part of it
abbrev pub keys_of : List ℕ → Option (List (List ℕ))
keys_of target = keys_in (without_final_slash (raw_path_of target))

-- keys that can be names in a document (RFC 8259, section 8.1)
abbrev pub are_texts : List (List ℕ) → Bool
are_texts keys = list_all is_utf8 keys
