-- The normal form of a path: percent-decoded (RFC 3986, section 2.1), with its dot segments removed (RFC 3986,
-- section 5.2.4) and without empty segments.
use Rattle.std.specs.Prelude.{ℕ, ◌==◌, Bool, false, ◌||◌, List, [], ◌∷◌, ◌++◌, length, fold, Option, Some, None, if◌then◌else◌, ◌≡◌, ◌≢◌, All, ◌⊎◌}
use Rattle.std.specs.List.{slice_split, flat_map, last_or}
use Rattle.std.specs.Str.{bytes_eq}
use Rattle.percent_encoding.specs.Percent.{percent_decode}

-- the segments between the slashes of a text
abbrev pub segments_of : List ℕ → List (List ℕ)
segments_of text = slice_split (λ b. b == 47) text

-- nothing, or `.`
abbrev pub says_nothing : List ℕ → Bool
says_nothing segment = length segment == 0 || bytes_eq segment (46 ∷ [])

-- `..`
abbrev pub goes_up : List ℕ → Bool
goes_up segment = bytes_eq segment (46 ∷ 46 ∷ [])

-- the segments without the last one
abbrev pub without_last : List (List ℕ) → List (List ℕ)
without_last [] = []
without_last (s ∷ []) = []
without_last (s ∷ t ∷ more) = s ∷ without_last (t ∷ more)

-- what is left once this segment comes behind those that were left: an empty one and `.` are dropped, and `..` drops
-- itself and the nearest segment before it that was left
abbrev pub left_with : List (List ℕ) → List ℕ → List (List ℕ)
left_with left segment =
    if says_nothing segment then left
    else if goes_up segment then without_last left
    else left ++ segment ∷ []

-- the segments that are left
abbrev pub segments_left : List (List ℕ) → List (List ℕ)
segments_left segments = fold left_with [] segments

-- the segment is empty, `.` or `..`: the text ended in `/`, `/.` or `/..` where this one is its last
abbrev pub is_open : List ℕ → Bool
is_open segment = says_nothing segment || goes_up segment

-- the segment is none of these
abbrev pub IsPlainSegment : List ℕ → Type 0
IsPlainSegment segment = is_open segment ≡ false

-- the last segment is one of these
abbrev pub ends_open : Option (List ℕ) → Bool
ends_open None = false
ends_open (Some segment) = is_open segment

-- no byte is a slash
abbrev pub HasNoSlash : List ℕ → Type 0
HasNoSlash segment = All (λ b. b ≢ 47) segment

-- the last `/` is taken away with what stands behind it, or all where there is no `/`
abbrev pub LosesSegment : List ℕ → List ℕ → Type 0
LosesSegment old new = (HasNoSlash old × (new ≡ [])) ⊎ ((dropped : List ℕ) × HasNoSlash dropped × (old ≡ new ++ 47 ∷ dropped))

-- a `/` before each segment
abbrev pub joined : List (List ℕ) → List ℕ
joined segments = flat_map (λ segment. 47 ∷ segment) segments

-- the segments that are left, joined, with the final `/`; a `/` alone where none is left
abbrev pub path_with : List (List ℕ) → Bool → List ℕ
path_with [] final = 47 ∷ []
path_with (s ∷ more) final = joined (s ∷ more) ++ (if final then 47 ∷ [] else [])

-- the path that a list of segments says
abbrev pub joined_segments : List (List ℕ) → List ℕ
joined_segments segments = path_with (segments_left segments) (ends_open (last_or None segments))

-- the normal path of a raw one
abbrev pub normal_path_of : List ℕ → List ℕ
normal_path_of raw = joined_segments (segments_of (percent_decode raw))

-- the path of some segments became that of what is left with this one
abbrev pub AddsSegment : List ℕ → List ℕ → List ℕ → Type 0
AddsSegment segment old new = (left : List (List ℕ)) → All HasNoSlash left → old ≡ joined left → new ≡ joined (left_with left segment)

-- the segments' path became the whole one, with a final `/` or without
abbrev pub EndsPath : Bool → List ℕ → List ℕ → Type 0
EndsPath final old new = (left : List (List ℕ)) → old ≡ joined left → new ≡ path_with left final
