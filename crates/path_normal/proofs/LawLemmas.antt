-- What holds of normal paths and of expansions.
use Rattle.std.proofs.Common.{◌≡◌, ◌≢◌, ℕ, Bool, true, false, eqb, cond, ◌⊎◌, List, [], ◌∷◌, ◌++◌, All, fold, Option, Some, None, sym, refl, ap, ◌∙◌, inl, inr, append_assoc, append-nil}
use Rattle.std.specs.List.{onto_first, flat_map, last_or}
use Rattle.std.proofs.lemmas.Bool.{cond-false, cond_both, or_from, or_parts, eqb-false, ne_eqb}
use Rattle.std.proofs.lemmas.List.Elements.{All-nil, All-cons, All-head, All-tail, All-append, All-weaker}
use Rattle.std.proofs.lemmas.List.Splits.{slice_split_none, slice_split_at}
use Rattle.percent_encoding.specs.Percent.{percent_decode}
use Rattle.percent_encoding.proofs.PercentLemmas.{percent_decode-nil, percent_decode_not_percent}
use Rattle.unit_types.specs.declared.message.Request.{Request}
use Rattle.path_normal.specs.Path.{segments_of, says_nothing, goes_up, without_last, left_with, segments_left, ends_open, HasNoSlash, IsPlainSegment, joined, path_with, joined_segments, normal_path_of}
use Rattle.path_normal.specs.Variables.{piece_value, variable_value, expansion_of}
use Rattle.path_normal.proofs.PathLemmas.{without_last_all}
use Rattle.path_normal.proofs.PieceLemmas.{pieces_at_byte}

-- ---- the segments that are left are plain, and have no slash

abbrev IsKept : List ℕ → Type 0
IsKept segment = HasNoSlash segment × IsPlainSegment segment

kept_with : (left : List (List ℕ)) (segment : List ℕ) → All IsKept left → HasNoSlash segment → All IsKept (left_with left segment)
kept_with left segment kept clean =
    cond_both (says_nothing segment) left (cond (goes_up segment) (without_last left) (left ++ segment ∷ [])) (All IsKept)
    (λ _. kept)
    (λ speaks. cond_both (goes_up segment) (without_last left) (left ++ segment ∷ []) (All IsKept)
    (λ _. without_last_all IsKept left kept)
    (λ stays. All-append IsKept left (segment ∷ []) kept (All-cons IsKept segment [] (clean, or_from _ _ speaks stays) (All-nil IsKept))))

kept_along : (segments left : List (List ℕ)) → All HasNoSlash segments → All IsKept left → All IsKept (fold left_with left segments)
kept_along [] left clean kept = kept
kept_along (s ∷ more) left clean kept =
    kept_along more (left_with left s) (All-tail HasNoSlash s more clean) (kept_with left s kept (All-head HasNoSlash s more clean))

onto_first_clean : (b : ℕ) (parts : List (List ℕ)) → b ≢ 47 → All HasNoSlash parts → All HasNoSlash (onto_first b parts)
onto_first_clean b [] other clean = All-cons HasNoSlash (b ∷ []) [] (All-cons (λ c. c ≢ 47) b [] other (All-nil (λ c. c ≢ 47))) (All-nil HasNoSlash)
onto_first_clean b (p ∷ ps) other clean =
    All-cons HasNoSlash (b ∷ p) ps (All-cons (λ c. c ≢ 47) b p other (All-head HasNoSlash p ps clean)) (All-tail HasNoSlash p ps clean)

segments_clean : (text : List ℕ) → All HasNoSlash (segments_of text)
segments_clean [] = All-cons HasNoSlash [] [] (All-nil (λ c. c ≢ 47)) (All-nil HasNoSlash)
segments_clean (b ∷ bs) =
    cond_both (eqb b 47) ([] ∷ segments_of bs) (onto_first b (segments_of bs)) (All HasNoSlash)
    (λ _. All-cons HasNoSlash [] (segments_of bs) (All-nil (λ c. c ≢ 47)) (segments_clean bs))
    (λ e. onto_first_clean b (segments_of bs) (eqb-false b 47 e) (segments_clean bs))

all_kept : (text : List ℕ) → All IsKept (segments_left (segments_of text))
all_kept text = kept_along (segments_of text) [] (segments_clean text) (All-nil IsKept)

-- ---- a joined path is split into its segments

no_separator : (s : List ℕ) → HasNoSlash s → All (λ b. eqb b 47 ≡ false) s
no_separator s clean = All-weaker (λ b. b ≢ 47) (λ b. eqb b 47 ≡ false) (λ b other. ne_eqb b 47 other) s clean

split_joined : (s : List ℕ) (more : List (List ℕ)) → All HasNoSlash (s ∷ more) → segments_of (s ++ joined more) ≡ s ∷ more
split_joined s [] clean =
    ap segments_of (append-nil s) ∙ slice_split_none (λ b. eqb b 47) s (no_separator s (All-head HasNoSlash s [] clean))
split_joined s (t ∷ more) clean =
    slice_split_at (λ b. eqb b 47) s 47 (t ++ joined more) (no_separator s (All-head HasNoSlash s (t ∷ more) clean)) refl ∙ ap (λ x. s ∷ x) (split_joined t more (All-tail HasNoSlash s (t ∷ more) clean))

split_final : (s : List ℕ) (more : List (List ℕ)) → All HasNoSlash (s ∷ more) → segments_of (s ++ (joined more ++ 47 ∷ [])) ≡ s ∷ (more ++ [] ∷ [])
split_final s [] clean =
    slice_split_at (λ b. eqb b 47) s 47 [] (no_separator s (All-head HasNoSlash s [] clean)) refl
split_final s (t ∷ more) clean =
    ap (λ x. segments_of (s ++ 47 ∷ x)) (append_assoc t (joined more) (47 ∷ [])) ∙ slice_split_at (λ b. eqb b 47) s 47 (t ++ (joined more ++ 47 ∷ [])) (no_separator s (All-head HasNoSlash s (t ∷ more) clean)) refl ∙ ap (λ x. s ∷ x) (split_final t more (All-tail HasNoSlash s (t ∷ more) clean))

clean_of_kept : (left : List (List ℕ)) → All IsKept left → All HasNoSlash left
clean_of_kept left kept = All-weaker IsKept HasNoSlash (λ s k. k.0) left kept

plain_of_kept : (left : List (List ℕ)) → All IsKept left → All IsPlainSegment left
plain_of_kept left kept = All-weaker IsKept IsPlainSegment (λ s k. k.1) left kept

segments_without : (s : List ℕ) (more : List (List ℕ)) → All IsKept (s ∷ more) → segments_of (path_with (s ∷ more) false) ≡ [] ∷ s ∷ more
segments_without s more kept =
    ap segments_of (append-nil (joined (s ∷ more))) ∙ ap (λ x. [] ∷ x) (split_joined s more (clean_of_kept (s ∷ more) kept))

segments_with : (s : List ℕ) (more : List (List ℕ)) → All IsKept (s ∷ more) → segments_of (path_with (s ∷ more) true) ≡ [] ∷ (s ∷ more ++ [] ∷ [])
segments_with s more kept =
    ap (λ x. [] ∷ segments_of x) (append_assoc s (joined more) (47 ∷ [])) ∙ ap (λ x. [] ∷ x) (split_final s more (clean_of_kept (s ∷ more) kept))

-- ---- the laws of normal paths

begins : (left : List (List ℕ)) (final : Bool) → (rest : List ℕ) × (path_with left final ≡ 47 ∷ rest)
begins [] final = ([], refl)
begins (s ∷ more) final = ((s ++ joined more) ++ cond final (47 ∷ []) [], refl)

pub begins_with_slash : (raw : List ℕ) → (rest : List ℕ) × (normal_path_of raw ≡ 47 ∷ rest)
begins_with_slash raw = begins (segments_left (segments_of (percent_decode raw))) (ends_open (last_or None (segments_of (percent_decode raw))))

has_plain : (left : List (List ℕ)) (final : Bool) → All IsKept left → (plain : List (List ℕ)) × All IsPlainSegment plain × ((segments_of (path_with left final) ≡ [] ∷ plain) ⊎ (segments_of (path_with left final) ≡ [] ∷ (plain ++ [] ∷ [])))
has_plain [] final kept = ([], All-nil IsPlainSegment, inr refl)
has_plain (s ∷ more) true kept = (s ∷ more, plain_of_kept (s ∷ more) kept, inr (segments_with s more kept))
has_plain (s ∷ more) false kept = (s ∷ more, plain_of_kept (s ∷ more) kept, inl (segments_without s more kept))

pub has_plain_segments : (raw : List ℕ) → (left : List (List ℕ)) × All IsPlainSegment left × ((segments_of (normal_path_of raw) ≡ [] ∷ left) ⊎ (segments_of (normal_path_of raw) ≡ [] ∷ (left ++ [] ∷ [])))
has_plain_segments raw = has_plain (segments_left (segments_of (percent_decode raw))) (ends_open (last_or None (segments_of (percent_decode raw)))) (all_kept (percent_decode raw))

-- plain segments all stay
left_with_plain : (left : List (List ℕ)) (s : List ℕ) → IsPlainSegment s → left_with left s ≡ left ++ s ∷ []
left_with_plain left s plain = let parts = or_parts (says_nothing s) (goes_up s) plain in cond-false _ _ _ parts.0 ∙ cond-false _ _ _ parts.1

all_stay : (segments left : List (List ℕ)) → All IsPlainSegment segments → fold left_with left segments ≡ left ++ segments
all_stay [] left plain = sym (append-nil left)
all_stay (s ∷ more) left plain =
    ap (λ x. fold left_with x more) (left_with_plain left s (All-head IsPlainSegment s more plain)) ∙ all_stay more (left ++ s ∷ []) (All-tail IsPlainSegment s more plain) ∙ append_assoc left (s ∷ []) more

last_plain : (segments : List (List ℕ)) (before : Option (List ℕ)) → ends_open before ≡ false → All IsPlainSegment segments → ends_open (last_or before segments) ≡ false
last_plain [] before closed plain = closed
last_plain (s ∷ more) before closed plain = last_plain more (Some s) (All-head IsPlainSegment s more plain) (All-tail IsPlainSegment s more plain)

last_open : (segments : List (List ℕ)) (before : Option (List ℕ)) → ends_open (last_or before (segments ++ [] ∷ [])) ≡ true
last_open [] before = refl
last_open (s ∷ more) before = last_open more (Some s)

fold_final : (segments left : List (List ℕ)) → fold left_with left (segments ++ [] ∷ []) ≡ fold left_with left segments
fold_final [] left = refl
fold_final (s ∷ more) left = fold_final more (left_with left s)

path_stays : (left : List (List ℕ)) (final : Bool) → All IsKept left → joined_segments (segments_of (path_with left final)) ≡ path_with left final
path_stays [] final kept = refl
path_stays (s ∷ more) true kept =
    let plain = plain_of_kept (s ∷ more) kept in
    ap joined_segments (segments_with s more kept) ∙ (λ i. path_with ((fold_final (s ∷ more) [] ∙ all_stay (s ∷ more) [] plain) i) (last_open (s ∷ more) (Some []) i))
path_stays (s ∷ more) false kept =
    let plain = plain_of_kept (s ∷ more) kept in
    ap joined_segments (segments_without s more kept) ∙ (λ i. path_with (all_stay (s ∷ more) [] plain i) (last_plain more (Some s) (All-head IsPlainSegment s more plain) (All-tail IsPlainSegment s more plain) i))

undecoded : (text : List ℕ) → All (λ b. b ≢ 37) text → percent_decode text ≡ text
undecoded [] none = percent_decode-nil
undecoded (b ∷ bs) none =
    percent_decode_not_percent b bs (All-head (λ c. c ≢ 37) b bs none) ∙ ap (λ x. b ∷ x) (undecoded bs (All-tail (λ c. c ≢ 37) b bs none))

pub joins : (raw : List ℕ) → joined_segments (segments_of (normal_path_of raw)) ≡ normal_path_of raw
joins raw =
    path_stays (segments_left (segments_of (percent_decode raw))) (ends_open (last_or None (segments_of (percent_decode raw)))) (all_kept (percent_decode raw))

pub stays : (raw : List ℕ) → All (λ b. b ≢ 37) (normal_path_of raw) → normal_path_of (normal_path_of raw) ≡ normal_path_of raw
stays raw none =
    ap (λ x. joined_segments (segments_of x)) (undecoded (normal_path_of raw) none) ∙ joins raw

-- ---- the law of expansions

pub plain_text : (text : List ℕ) (request : Request) → All (λ b. b ≢ 36) text → expansion_of text request ≡ text
plain_text [] request none = refl
plain_text (b ∷ bs) request none =
    ap (flat_map (piece_value (variable_value request))) (pieces_at_byte b bs (All-head (λ c. c ≢ 36) b bs none)) ∙ ap (λ x. b ∷ x) (plain_text bs request (All-tail (λ c. c ≢ 36) b bs none))
