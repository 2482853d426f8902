-- The parts of a request target (RFC 9112, section 3.2; RFC 3986, section 3).
use Rattle.std.specs.Prelude.{ℕ, Bool, false, not, ◌&&◌, ◌||◌, List, [], ◌∷◌, take, drop, ◌==◌, nat_lt, codes, if◌then◌else◌, bytes_eq}
use Rattle.std.specs.List.{list_all, list_any, before_first, after_first, position_or_len}
use Rattle.std.specs.Char.{is_ascii_hexdigit}
use Rattle.httparse.specs.Ascii.{del}
use Rattle.percent_encoding.specs.Percent.{percent_decode}
use Rattle.unit_types.specs.Text.{lowercase}

abbrev pub is_question : ℕ → Bool
is_question b = b == 63

abbrev pub is_hash : ℕ → Bool
is_hash b = b == 35

abbrev pub begins_with_slash : List ℕ → Bool
begins_with_slash [] = false
begins_with_slash (b ∷ _) = b == 47

-- absolute-form (RFC 9112, section 3.2.2): the target begins with `http://`, in any case
abbrev pub has_scheme : List ℕ → Bool
has_scheme target = bytes_eq (lowercase (take 7 target)) (codes "http://")

-- an authority ends at the first `/`, `?` or `#` (RFC 3986, section 3.2)
abbrev pub ends_authority : ℕ → Bool
ends_authority b = b == 47 || b == 63 || b == 35

abbrev pub authority_of : List ℕ → List ℕ
authority_of target = before_first ends_authority (drop 7 target)

abbrev pub behind_authority : List ℕ → List ℕ
behind_authority target = drop (position_or_len ends_authority (drop 7 target)) (drop 7 target)

-- what stands behind the authority, or the whole target in origin-form (RFC 9112, section 3.2.1)
abbrev pub local_part : List ℕ → List ℕ
local_part target = if has_scheme target then behind_authority target else target

-- a fragment is no part of a request (RFC 9110, section 7.1): what stands before the first `#`
abbrev pub without_fragment : List ℕ → List ℕ
without_fragment text = before_first is_hash text

abbrev pub resource_of : List ℕ → List ℕ
resource_of target = without_fragment (local_part target)

-- the query: what stands behind the first `?` (RFC 3986, section 3.4)
abbrev pub query_of : List ℕ → List ℕ
query_of target = after_first is_question (resource_of target)

-- the path as it came: what stands before the first `?` (RFC 3986, section 3.3). Behind an authority it may be empty or lack
-- its `/`, which the normal path has in any case (RFC 9112, section 3.2.1).
abbrev pub raw_path_of : List ℕ → List ℕ
raw_path_of target = before_first is_question (resource_of target)

-- a byte of a target: visible ASCII
abbrev pub is_target_byte : ℕ → Bool
is_target_byte b = nat_lt 32 b && nat_lt b del

-- each `%` has two hexadecimal digits behind it (RFC 3986, section 2.1)
abbrev pub begins_with_digits : List ℕ → Bool
begins_with_digits [] = false
begins_with_digits (a ∷ []) = false
begins_with_digits (a ∷ b ∷ _) = is_ascii_hexdigit a && is_ascii_hexdigit b

abbrev pub is_broken_at : ℕ → List ℕ → Bool
is_broken_at b text = b == 37 && not (begins_with_digits text)

abbrev pub has_broken_escape : List ℕ → Bool
has_broken_escape [] = false
has_broken_escape (b ∷ text) = is_broken_at b text || has_broken_escape text

abbrev pub is_nul : ℕ → Bool
is_nul b = b == 0

-- the path decodes to a text with a NUL
abbrev pub hides_nul : List ℕ → Bool
hides_nul path = list_any is_nul (percent_decode path)

-- a target that is refused: it has another byte, is neither in origin-form nor in absolute-form, or its path has a broken
-- escape or hides a NUL
abbrev pub is_faulty_path : List ℕ → Bool
is_faulty_path path = has_broken_escape path || hides_nul path

abbrev pub has_target_bytes : List ℕ → Bool
has_target_bytes target = list_all is_target_byte target

abbrev pub is_faulty_target : List ℕ → Bool
is_faulty_target target =
    not (has_target_bytes target)
    || not (begins_with_slash target || has_scheme target)
    || is_faulty_path (raw_path_of target)
