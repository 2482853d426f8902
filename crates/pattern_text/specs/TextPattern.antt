-- Text patterns: literal parts with stars between them.
use Rattle.std.specs.Prelude.{ℕ, Bool, true, false, not, ◌&&◌, ◌||◌, ◌==◌, nat_eq, List, [], ◌∷◌, ◌++◌, drop, map, if◌then◌else◌, ◌≡◌}
use Rattle.std.specs.List.{list_any, list_all, starts_with, slice_split}
use Rattle.std.specs.Str.{str_to_ascii_lowercase}

-- ---- one pattern without `!`

-- the literal parts between the stars of a pattern
abbrev pub parts_of : List ℕ → List (List ℕ)
parts_of pattern = slice_split (λ b. b == 42) pattern

-- the text can be cut into these parts, in order, with any bytes, also none, between a part and the next one
abbrev pub CutsInto : List (List ℕ) → List ℕ → Type 0
CutsInto [] text = ⊥
CutsInto (part ∷ []) text = text ≡ part
CutsInto (part ∷ next ∷ more) text =
    (any rest : List ℕ) × (text ≡ part ++ (any ++ rest)) × CutsInto (next ∷ more) rest

-- a pattern matches a text that can be cut into its literal parts, with any bytes at each star
abbrev pub TextMatches : List ℕ → List ℕ → Type 0
TextMatches pattern text = CutsInto (parts_of pattern) text

-- some end of the text passes the test: the whole text, or what is left without its first bytes
abbrev pub some_end : (List ℕ → Bool) → List ℕ → Bool
some_end test [] = test []
some_end test (b ∷ bs) = test (b ∷ bs) || some_end test bs

-- the text begins with the byte, and what is left passes the test
abbrev pub begins_with : ℕ → (List ℕ → Bool) → List ℕ → Bool
begins_with byte test [] = false
begins_with byte test (b ∷ bs) = b == byte && test bs

abbrev pub is_nil : List ℕ → Bool
is_nil [] = true
is_nil (b ∷ bs) = false

-- `TextMatches` as a test: a star stands for any bytes, each other byte for itself
abbrev pub text_matches : List ℕ → List ℕ → Bool
text_matches [] text = is_nil text
text_matches (p ∷ ps) text =
    if p == 42 then some_end (text_matches ps) text else begins_with p (text_matches ps) text

-- a star stands in the pattern
abbrev pub contains_star : List ℕ → Bool
contains_star pattern = list_any (λ b. b == 42) pattern

-- ---- lists of patterns

-- the pattern begins with `!`; its rest is what stands behind that
abbrev pub is_negated : List ℕ → Bool
is_negated pattern = starts_with nat_eq pattern (33 ∷ [])

-- what stands behind the `!`, or the whole of a pattern without it
abbrev pub plain_part : List ℕ → List ℕ
plain_part pattern = if is_negated pattern then drop 1 pattern else pattern

-- some pattern without `!` matches or there is none, and no negated pattern's rest matches
abbrev pub list_matches : List (List ℕ) → List ℕ → Bool
list_matches patterns text =
    (list_any (λ p. not (is_negated p) && text_matches (plain_part p) text) patterns || list_all is_negated patterns)
    && not (list_any (λ p. is_negated p && text_matches (plain_part p) text) patterns)

-- the same of patterns and text in lower case
abbrev pub list_matches_ignoring_case : List (List ℕ) → List ℕ → Bool
list_matches_ignoring_case patterns text =
    list_matches (map str_to_ascii_lowercase patterns) (str_to_ascii_lowercase text)
