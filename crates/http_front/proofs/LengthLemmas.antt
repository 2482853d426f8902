-- No text that is cut out of another one is longer than it, and a normal path has at most one byte more than its raw form.
use Rattle.std.proofs.Common.{ℕ, ◌≡◌, ◌+◌, ◌-◌, ◌≤◌, refl, List, [], ◌∷◌, ◌++◌, length, drop, reverse, fold, Bool, true, false, not, ◌||◌, cond, eqb, codes, Option, Some, None, arith, length-take, length-drop, length-append}
use Rattle.std.specs.List.{before_first, after_first, position_or_len, find, last_or, onto_first}
use Rattle.std.specs.Char.{is_ascii_digit, to_ascii_lowercase}
use Rattle.std.proofs.lemmas.Bool.{cond_both}
use Rattle.std.proofs.lemmas.List.{length-map, length-reverse}
use Rattle.std.proofs.lemmas.List.Sums.{sum_by-cons, prefix_len-le-length}
use Rattle.percent_encoding.specs.Percent.{percent_decode}
use Rattle.percent_encoding.proofs.PercentLemmas.{length-percent_decode}
use Rattle.httparse.specs.Grammar.{is_ows, skip_ows, trim_ows}
use Rattle.unit_types.specs.declared.field.Field.{Field}
use Rattle.path_normal.specs.Path.{segments_of, says_nothing, goes_up, without_last, left_with, segments_left, is_open, ends_open, joined, path_with, normal_path_of}
use Rattle.http_front.specs.Bounds.{field_len, fields_len}
use Rattle.http_front.specs.Fields.{is_named, value_or_empty, value_of}
use Rattle.http_front.specs.Message as message
use Rattle.http_front.specs.Message.{ends_in, skip_digits, without_digits, without_port, without_period, host_in, host_of}
use Rattle.http_front.specs.Target.{is_question, is_hash, has_scheme, ends_authority, behind_authority, local_part, resource_of, raw_path_of, query_of}

-- ---- parts of a target

pub cut_length : (p : ℕ → Bool) (text : List ℕ) → length (before_first p text) + length (after_first p text) ≤ length text
cut_length p text =
    omega (arith, length-take (position_or_len p text) text, length-drop (position_or_len p text + 1) text, prefix_len-le-length (λ b. not (p b)) text)

local_length : (target : List ℕ) → length (local_part target) ≤ length target
local_length target =
    cond_both (has_scheme target) (behind_authority target) target (λ t. length t ≤ length target)
    (λ _. omega (arith, length-drop (position_or_len ends_authority (drop 7 target)) (drop 7 target), length-drop 7 target))
    (λ _. omega arith)

pub target_length : (target : List ℕ) → length (raw_path_of target) + length (query_of target) ≤ length target
target_length target =
    omega (arith, cut_length is_question (resource_of target), cut_length is_hash (local_part target), local_length target)

-- ---- the host

skipped : (text : List ℕ) → length (skip_digits text) ≤ length text
skipped [] = omega arith
skipped (b ∷ text) =
    cond_both (is_ascii_digit b) (skip_digits text) (b ∷ text) (λ t. length t ≤ length (b ∷ text))
    (λ _. omega (arith, skipped text))
    (λ _. omega arith)

digits_length : (text : List ℕ) → length (without_digits text) ≤ length text
digits_length text = omega (arith, length-reverse (skip_digits (reverse text)), skipped (reverse text), length-reverse text)

last_length : (text : List ℕ) → length (message.without_last text) ≤ length text
last_length text = omega (arith, length-take (length text - 1) text)

port_length : (text : List ℕ) → length (without_port text) ≤ length text
port_length text =
    cond_both (ends_in 58 (without_digits text)) (message.without_last (without_digits text)) text (λ t. length t ≤ length text)
    (λ _. omega (arith, last_length (without_digits text), digits_length text))
    (λ _. omega arith)

period_length : (text : List ℕ) → length (without_period text) ≤ length text
period_length text =
    cond_both (ends_in 46 text) (message.without_last text) text (λ t. length t ≤ length text)
    (λ _. last_length text)
    (λ _. omega arith)

value_length : (name : List ℕ) (fields : List Field) → length (value_of name fields) ≤ fields_len fields
value_length name [] = omega arith
value_length name (f ∷ fields) =
    cond_both (is_named name f) (Some f) (find (is_named name) fields) (λ o. length (value_or_empty o) ≤ fields_len (f ∷ fields))
    (λ _. omega (arith, sum_by-cons field_len f fields))
    (λ _. omega (arith, sum_by-cons field_len f fields, value_length name fields))

authority_length : (target : List ℕ) (fields : List Field) → length (host_in target fields) ≤ length target + fields_len fields
authority_length target fields =
    cond_both (has_scheme target) (before_first ends_authority (drop 7 target)) (value_of (codes "host") fields) (λ t. length t ≤ length target + fields_len fields)
    (λ _. omega (arith, cut_length ends_authority (drop 7 target), length-drop 7 target))
    (λ _. omega (arith, value_length (codes "host") fields))

pub host_length : (target : List ℕ) (fields : List Field) → length (host_of target fields) ≤ length target + fields_len fields
host_length target fields =
    let text = host_in target fields in
    let lower : length (host_of target fields) ≡ length (without_period (without_port text)) = length-map (without_period (without_port text)) to_ascii_lowercase in
    omega (arith, lower, period_length (without_port text), port_length text, authority_length target fields)

-- ---- the value of a field

skip_length : (text : List ℕ) → length (skip_ows text) ≤ length text
skip_length [] = omega arith
skip_length (b ∷ text) =
    cond_both (is_ows b) (skip_ows text) (b ∷ text) (λ t. length t ≤ length (b ∷ text))
    (λ _. omega (arith, skip_length text))
    (λ _. omega arith)

pub trim_length : (text : List ℕ) → length (trim_ows text) ≤ length text
unfolding trim_ows
trim_length text =
    omega (arith, length-reverse (skip_ows (reverse (skip_ows text))), skip_length (reverse (skip_ows text)), length-reverse (skip_ows text), skip_length text)

-- ---- a normal path

joined-cons : (s : List ℕ) (more : List (List ℕ)) → length (joined (s ∷ more)) ≡ 1 + length s + length (joined more)
joined-cons s more = omega (arith, length-append (47 ∷ s) (joined more))

joined-append : (left more : List (List ℕ)) → length (joined (left ++ more)) ≡ length (joined left) + length (joined more)
joined-append [] more = omega arith
joined-append (s ∷ left) more = omega (arith, joined-cons s (left ++ more), joined-append left more, joined-cons s left)

-- the segments, each with a slash before it, have one byte more than the text
segments_length : (text : List ℕ) → length (joined (segments_of text)) ≡ 1 + length text
segments_length [] = refl
segments_length (b ∷ bs) =
    cond_both (eqb b 47) ([] ∷ segments_of bs) (onto_first b (segments_of bs)) (λ parts. length (joined parts) ≡ 1 + length (b ∷ bs))
    (λ _. omega (arith, joined-cons [] (segments_of bs), segments_length bs))
    (λ _. onto (segments_of bs) (segments_length bs))
  where
    onto : (parts : List (List ℕ)) → length (joined parts) ≡ 1 + length bs → length (joined (onto_first b parts)) ≡ 1 + length (b ∷ bs)
    onto [] is = absurd (omega (arith, is))
    onto (s ∷ more) is = omega (arith, is, joined-cons s more, joined-cons (b ∷ s) more)

without_length : (left : List (List ℕ)) → length (joined (without_last left)) ≤ length (joined left)
without_length [] = omega arith
without_length (s ∷ []) = omega arith
without_length (s ∷ t ∷ more) = omega (arith, joined-cons s (without_last (t ∷ more)), joined-cons s (t ∷ more), without_length (t ∷ more))

-- the byte of a final slash
abbrev final_len : Bool → ℕ
final_len final = cond final 1 0

final_small : (final : Bool) → final_len final ≤ 1
final_small true = omega arith
final_small false = omega arith

abbrev StepFits : List (List ℕ) → List ℕ → List (List ℕ) → Bool → Type 0
StepFits left s now final = length (joined now) + final_len final ≤ length (joined left) + (1 + length s)

step_length : (left : List (List ℕ)) (s : List ℕ) → StepFits left s (left_with left s) (is_open s)
step_length left s = by_kind (says_nothing s) (goes_up s)
  where
    by_kind : (t u : Bool) → StepFits left s (cond t left (cond u (without_last left) (left ++ s ∷ []))) (t || u)
    by_kind true u = omega arith
    by_kind false true = omega (arith, without_length left)
    by_kind false false = omega (arith, joined-append left (s ∷ []), joined-cons s [])

fold_length : (segments left : List (List ℕ)) (before : Option (List ℕ))
    → length (joined (fold left_with left segments)) + final_len (ends_open (last_or before segments)) ≤ length (joined left) + final_len (ends_open before) + length (joined segments)
fold_length [] left before = omega arith
fold_length (s ∷ more) left before =
    let step : length (joined (left_with left s)) + final_len (is_open s) ≤ length (joined left) + (1 + length s) = step_length left s in
    let rest : length (joined (fold left_with (left_with left s) more)) + final_len (ends_open (last_or (Some s) more)) ≤ length (joined (left_with left s)) + final_len (is_open s) + length (joined more) =
    fold_length more (left_with left s) (Some s) in
    omega (arith, rest, step, joined-cons s more)

with_length : (left : List (List ℕ)) (final : Bool) → length (path_with left final) ≤ 1 + (length (joined left) + final_len final - 1)
with_length [] final = omega (arith, final_small final)
with_length (s ∷ more) true =
    let all : length (path_with (s ∷ more) true) ≡ length (joined (s ∷ more)) + 1 = length-append (joined (s ∷ more)) (47 ∷ []) in
    omega (arith, all, joined-cons s more)
with_length (s ∷ more) false =
    let all : length (path_with (s ∷ more) false) ≡ length (joined (s ∷ more)) + 0 = length-append (joined (s ∷ more)) [] in
    omega (arith, all, joined-cons s more)

-- the path of a text that is decoded to one of that length
pub decoded_normal_length : (raw : List ℕ) → length (normal_path_of raw) ≤ 1 + length (percent_decode raw)
decoded_normal_length raw =
    let segments = segments_of (percent_decode raw) in
    let final = ends_open (last_or None segments) in
    let path : length (normal_path_of raw) ≤ 1 + (length (joined (segments_left segments)) + final_len final - 1) = with_length (segments_left segments) final in
    let left : length (joined (segments_left segments)) + final_len final ≤ 0 + 0 + length (joined segments) = fold_length segments [] None in
    omega (arith, path, left, segments_length (percent_decode raw))

pub normal_length : (raw : List ℕ) → length (normal_path_of raw) ≤ 1 + length raw
normal_length raw = omega (arith, decoded_normal_length raw, (length-percent_decode raw).0)
