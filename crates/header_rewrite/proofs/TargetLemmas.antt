-- The raw path of a rewritten target.
use Rattle.std.proofs.Common.{◌≡◌, ℕ, ◌+◌, ◌<◌, suc, length, get_or, false, Bool, not, ltb, eqb, ◌||◌, List, [], ◌∷◌, ◌++◌, take, All, refl, ap, ◌∙◌, append-nil, arith}
use Rattle.std.specs.List.{before_first, prefix_len}
use Rattle.std.proofs.lemmas.Bool.{cond-true, cond-false, cond_both, or_parts}
use Rattle.std.proofs.lemmas.Bool.Decides.{nat_tests}
use Rattle.std.proofs.lemmas.Grind.{flat_map-append}
use Rattle.std.proofs.lemmas.List.{take_more}
use Rattle.std.proofs.lemmas.List.Elements.{All-nil, All-cons, All-head, All-tail, All-append, All-weaker}
use Rattle.percent_encoding.specs.Percent.{percent_encode_byte, percent_decode}
use Rattle.percent_encoding.proofs.PercentLemmas.{IsByte, IsEscapeByte, All-percent_encode_byte, percent_decode-nil, percent_decode-percent_encode_byte, percent_decode_not_percent}
use Rattle.http_front.specs.Target.{is_question, is_hash, has_scheme, local_part, raw_path_of}
use Rattle.path_normal.specs.Path.{normal_path_of, joined_segments, segments_of}
use Rattle.path_normal.proofs.LawLemmas.{begins_with_slash, joins}
use Rattle.header_rewrite.specs.Rewrite.{is_escaped_in_path, path_byte, path_in_target, query_in_target, target_with}

-- one more byte of a path
pub path_more : (path : List ℕ) (i : ℕ) → i < length path → path_in_target (take (i + 1) path) ≡ path_in_target (take i path) ++ path_byte (get_or path i 0)
path_more path i inside =
    ap path_in_target (take_more path i 0 inside) ∙ flat_map-append path_byte (take i path) (get_or path i 0 ∷ [])
    ∙ ap (λ t. path_in_target (take i path) ++ t) (append-nil (path_byte (get_or path i 0)))

-- ---- a path as it stands in a target has no `?` and no `#`

-- neither ends a path
abbrev IsInPath : ℕ → Type 0
IsInPath b = (is_question b ≡ false) × (is_hash b ≡ false)

escape_in_path : (b : ℕ) → IsEscapeByte b → IsInPath b
escape_in_path b escape = (grind (arith, nat_tests), grind (arith, nat_tests))

kept_in_path : (b : ℕ) → is_escaped_in_path b ≡ false → IsInPath b
kept_in_path b kept =
    let below = or_parts (ltb b 33) (ltb 126 b || (eqb b 37 || (eqb b 63 || eqb b 35))) kept in
    let above = or_parts (ltb 126 b) (eqb b 37 || (eqb b 63 || eqb b 35)) below.1 in
    let percent = or_parts (eqb b 37) (eqb b 63 || eqb b 35) above.1 in
    or_parts (eqb b 63) (eqb b 35) percent.1

byte_in_path : (b : ℕ) → All IsInPath (path_byte b)
byte_in_path b =
    cond_both (is_escaped_in_path b) (percent_encode_byte b) (b ∷ []) (All IsInPath)
    (λ _. All-weaker IsEscapeByte IsInPath escape_in_path (percent_encode_byte b) (All-percent_encode_byte b))
    (λ kept. All-cons IsInPath b [] (kept_in_path b kept) (All-nil IsInPath))

all_in_path : (path : List ℕ) → All IsInPath (path_in_target path)
all_in_path [] = All-nil IsInPath
all_in_path (b ∷ bs) = All-append IsInPath (path_byte b) (path_in_target bs) (byte_in_path b) (all_in_path bs)

-- ---- what stands before the first byte that passes a test

before_other : (p : ℕ → Bool) (b : ℕ) (bs : List ℕ) → p b ≡ false → before_first p (b ∷ bs) ≡ b ∷ before_first p bs
before_other p b bs other =
    let more : 1 + prefix_len (λ x. not (p x)) bs ≡ suc (prefix_len (λ x. not (p x)) bs) = omega arith in
    ap (λ n. take n (b ∷ bs)) (cond-true _ _ _ (ap not other) ∙ more)

before_behind : (p : ℕ → Bool) (front rest : List ℕ) → All (λ b. p b ≡ false) front → before_first p (front ++ rest) ≡ front ++ before_first p rest
before_behind p [] rest clean = refl
before_behind p (b ∷ bs) rest clean =
    before_other p b (bs ++ rest) (All-head (λ c. p c ≡ false) b bs clean) ∙ ap (λ t. b ∷ t) (before_behind p bs rest (All-tail (λ c. p c ≡ false) b bs clean))

path_before_query : (front query : List ℕ) → All IsInPath front → before_first is_question (before_first is_hash (front ++ query_in_target query)) ≡ front
path_before_query front [] clean =
    let no_hash = All-weaker IsInPath (λ b. is_hash b ≡ false) (λ b h. h.1) front clean in
    let no_question = All-weaker IsInPath (λ b. is_question b ≡ false) (λ b h. h.0) front clean in
    ap (before_first is_question) (before_behind is_hash front [] no_hash) ∙ before_behind is_question front [] no_question ∙ append-nil front
path_before_query front (b ∷ query) clean =
    let no_hash = All-weaker IsInPath (λ c. is_hash c ≡ false) (λ c h. h.1) front clean in
    let no_question = All-weaker IsInPath (λ c. is_question c ≡ false) (λ c h. h.0) front clean in
    ap (before_first is_question) (before_behind is_hash front (63 ∷ b ∷ query) no_hash ∙ ap (λ t. front ++ t) (before_other is_hash 63 (b ∷ query) refl))
    ∙ before_behind is_question front (63 ∷ before_first is_hash (b ∷ query)) no_question ∙ append-nil front

-- ---- a rewritten target

no_scheme : (rest : List ℕ) → has_scheme (47 ∷ rest) ≡ false
no_scheme rest = refl

pub raw_path : (path rest query : List ℕ) → path ≡ 47 ∷ rest → raw_path_of (target_with path query) ≡ path_in_target path
raw_path path rest query slash =
    let target = target_with path query in
    let origin : has_scheme target ≡ false = ap (λ p. has_scheme (target_with p query)) slash ∙ no_scheme (path_in_target rest ++ query_in_target query) in
    let whole : local_part target ≡ target = cond-false _ _ _ origin in
    ap (λ t. before_first is_question (before_first is_hash t)) whole ∙ path_before_query (path_in_target path) query (all_in_path path)

-- decoding undoes the escapes
pub kept_byte : (b : ℕ) → is_escaped_in_path b ≡ false → (b ≡ 37 → ⊥)
kept_byte b kept percent = grind (arith, nat_tests)

pub decoded : (path : List ℕ) → All IsByte path → percent_decode (path_in_target path) ≡ path
decoded [] small = percent_decode-nil
decoded (b ∷ bs) small =
    let rest = decoded bs (All-tail IsByte b bs small) in
    cond_both (is_escaped_in_path b) (percent_encode_byte b) (b ∷ []) (λ x. percent_decode (x ++ path_in_target bs) ≡ b ∷ bs)
    (λ _. percent_decode-percent_encode_byte b (path_in_target bs) (All-head IsByte b bs small) ∙ ap (λ t. b ∷ t) rest)
    (λ kept. percent_decode_not_percent b (path_in_target bs) (kept_byte b kept) ∙ ap (λ t. b ∷ t) rest)

pub path_again : (raw query : List ℕ) → All IsByte (normal_path_of raw) → normal_path_of (raw_path_of (target_with (normal_path_of raw) query)) ≡ normal_path_of raw
path_again raw query small =
    let path = normal_path_of raw in
    let slash = begins_with_slash raw in
    ap normal_path_of (raw_path path slash.0 query slash.1) ∙ ap (λ t. joined_segments (segments_of t)) (decoded path small) ∙ joins raw
