-- The arguments of a query and the cookies of a request, each a name and a value.
use Rattle.std.specs.Prelude.{ℕ, ◌==◌, Bool, not, List, [], ◌∷◌, length, map, filter, reverse, codes, if◌then◌else◌}
use Rattle.std.specs.List.{slice_split, flat_map, before_first, after_first}
use Rattle.std.specs.Str.{bytes_eq, str_to_ascii_lowercase}
use Rattle.percent_encoding.specs.Percent.{percent_decode}
use Rattle.unit_types.specs.declared.field.Field.{Field}

-- what stands in front of the first `=`, and what stands behind it: nothing where there is none
abbrev pub name_of : List ℕ → List ℕ
name_of piece = before_first (λ b. b == 61) piece

abbrev pub value_of : List ℕ → List ℕ
value_of piece = after_first (λ b. b == 61) piece

-- a `+` is a space
abbrev pub spaced : ℕ → ℕ
spaced b = if b == 43 then 32 else b

-- a name or value of a query: each `+` is a space, then `%XX` is decoded
abbrev pub query_text : List ℕ → List ℕ
query_text text = percent_decode (map spaced text)

abbrev pub argument_of : List ℕ → Field
argument_of piece = record { name = query_text (name_of piece); value = query_text (value_of piece) }

-- the pieces of a query between `&`, the empty ones dropped
abbrev pub query_pieces : List ℕ → List (List ℕ)
query_pieces query = filter (λ piece. not (length piece == 0)) (slice_split (λ b. b == 38) query)

-- the arguments of a query
abbrev pub arguments_of : List ℕ → List Field
arguments_of query = map argument_of (query_pieces query)

-- ---- cookies

-- a text without the spaces at its front
abbrev pub without_front_spaces : List ℕ → List ℕ
without_front_spaces [] = []
without_front_spaces (b ∷ bs) = if b == 32 then without_front_spaces bs else b ∷ bs

-- a text without the spaces at its end
abbrev pub without_end_spaces : List ℕ → List ℕ
without_end_spaces text = reverse (without_front_spaces (reverse text))

-- a text without the spaces at both ends
abbrev pub without_outer_spaces : List ℕ → List ℕ
without_outer_spaces text = without_end_spaces (without_front_spaces text)

abbrev pub cookie_of : List ℕ → Field
cookie_of piece =
    let text = without_outer_spaces piece in
    record { name = name_of text; value = value_of text }

-- the pieces of a Cookie value between `;`
abbrev pub cookie_pieces : List ℕ → List (List ℕ)
cookie_pieces value = slice_split (λ b. b == 59) value

-- the field is a Cookie field; the case of a field's name doesn't count (RFC 9110, section 5.1)
abbrev pub is_cookie_field : Field → Bool
is_cookie_field field = bytes_eq (str_to_ascii_lowercase field.name) (codes "cookie")

-- the cookies of some fields
abbrev pub cookies_of : List Field → List Field
cookies_of fields = flat_map (λ field. map cookie_of (cookie_pieces field.value)) (filter is_cookie_field fields)
