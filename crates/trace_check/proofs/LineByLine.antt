-- The check byte by byte is the check line by line.
use Rattle.std.proofs.Common.{◌≡◌, ◌≢◌, ◌∙◌, ⊎_elim, ℕ, ◌+◌, ◌<◌, ◌≤◌, ◌==◌, Bool, true, false, List, [], ◌∷◌, ◌++◌, length, refl, sym, ap, subst, arith, append_assoc, length-append}
use Rattle.std.specs.List.{list_any}
use Rattle.std.proofs.lemmas.List.{append-nil}
use Rattle.std.proofs.lemmas.Bool.{cases_eq, cases_lt, ne_eqb, le-leb, lt-leb}
use Rattle.unit_types.proofs.SpelledLemmas.{parts_false}
use Rattle.trace_check.specs.Bytes.{after_byte, after_bytes}
use Rattle.trace_check.specs.Verdicts.{Judged, Line, Passed, and_then, before_lines, beginning, decided, decides, going, lines_of, on_line, on_rest, passes, standing_after, standing_of}
use Rattle.trace_check.specs.declared.verdict.Verdict.TheVariants.{Broken}
use Rattle.trace_check.proofs.SeatNotes.{any_snoc}
use Rattle.trace_check.proofs.Stood.{after_both, decided_stays}

-- no byte of the text is LF
abbrev pub has_end : List ℕ → Bool
has_end text = list_any (λ b. b == 10) text

-- a text without LF stands in front of the first line
pub lines_ended : (text bytes : List ℕ) → has_end text ≡ false → lines_of (text ++ 10 ∷ bytes) ≡ (record { text = text; is_ended = true }) ∷ lines_of bytes
lines_ended [] bytes none = refl
lines_ended (b ∷ text) bytes none =
    let parts = parts_false (b == 10) (has_end text) none in
    rw (parts.0, lines_ended text bytes parts.1) refl

lines_unended : (b : ℕ) (text : List ℕ) → has_end (b ∷ text) ≡ false → lines_of (b ∷ text) ≡ (record { text = b ∷ text; is_ended = false }) ∷ []
lines_unended b [] none = let parts = parts_false (b == 10) false none in rw parts.0 refl
lines_unended b (x ∷ text) none =
    let parts = parts_false (b == 10) (has_end (x ∷ text)) none in
    rw (parts.0, lines_unended x text parts.1) refl

-- the first line begins with it
abbrev pub BeginsWith : List ℕ → List Line → Type 0
BeginsWith text lines = (rest : List ℕ) × (e : Bool) × (more : List Line) × (lines ≡ (record { text = text ++ rest; is_ended = e }) ∷ more)

one_before : (b : ℕ) (lines : List Line) → BeginsWith (b ∷ []) (before_lines b lines)
one_before b [] = ([], false, [], refl)
one_before b (line ∷ lines) = (line.text, line.is_ended, lines, refl)

not_end : (b : ℕ) (bytes : List ℕ) → (b == 10) ≡ false → lines_of (b ∷ bytes) ≡ before_lines b (lines_of bytes)
not_end b bytes e = rw e refl

begins : (b : ℕ) (text bytes : List ℕ) → has_end (b ∷ text) ≡ false → BeginsWith (b ∷ text) (lines_of ((b ∷ text) ++ bytes))
begins b [] bytes none =
    let parts = parts_false (b == 10) false none in
    subst (BeginsWith (b ∷ [])) (sym (not_end b bytes parts.0)) (one_before b (lines_of bytes))
begins b (x ∷ text) bytes none =
    let parts = parts_false (b == 10) (has_end (x ∷ text)) none in
    let inner = begins x text bytes parts.1 in
    let front : lines_of (b ∷ ((x ∷ text) ++ bytes)) ≡ before_lines b (lines_of ((x ∷ text) ++ bytes)) = not_end b ((x ∷ text) ++ bytes) parts.0 in
    (inner.0, inner.1, inner.2, front ∙ ap (before_lines b) inner.3)

-- a line that is too long is broken, whether it ends or not
too_long : (at : Passed) (text : List ℕ) (e : Bool) (more : List Line) → 256 ≤ length text
    → standing_after at ((record { text = text; is_ended = e }) ∷ more) ≡ decided (Broken at.place)
too_long at text true more long = rw (le-leb 256 (length text) long) refl
too_long at text false more long = rw (le-leb 256 (length text) long) refl

rest_kept : (at : Passed) (text : List ℕ) → length text < 256 → on_rest at text ≡ going at text
rest_kept at text short = rw (lt-leb 256 (length text) short) refl

rest_long : (at : Passed) (text : List ℕ) → 256 ≤ length text → on_rest at text ≡ decided (Broken at.place)
rest_long at text long = rw (le-leb 256 (length text) long) refl

-- what follows a line
next_line : (judged : Judged) (bytes : List ℕ) → ((next : Passed) → standing_after next (lines_of bytes) ≡ after_bytes (going next []) bytes)
    → and_then judged (λ next. standing_after next (lines_of bytes)) ≡ after_bytes (and_then judged (λ next. going next [])) bytes
next_line (passes next) bytes rest = rest next
next_line (decides verdict) bytes rest = sym (decided_stays verdict bytes)

one_more : (text : List ℕ) (b : ℕ) → length (text ++ b ∷ []) ≡ length text + 1
one_more text b = length-append text (b ∷ [])

still_none : (text : List ℕ) (b : ℕ) → has_end text ≡ false → (b == 10) ≡ false → has_end (text ++ b ∷ []) ≡ false
still_none text b none other = any_snoc (λ x. x == 10) text b ∙ rw (none, other) refl

cut_long : (at : Passed) (text bytes : List ℕ) → has_end text ≡ false → 256 ≤ length text → standing_after at (lines_of (text ++ bytes)) ≡ decided (Broken at.place)
cut_long at [] bytes none long = absurd (omega arith)
cut_long at (b ∷ text) bytes none long =
    let first = begins b text bytes none in
    rw first.3 (too_long at ((b ∷ text) ++ first.0) first.1 first.2 (omega (arith, length-append (b ∷ text) first.0)))

pub by_bytes : (bytes : List ℕ) (at : Passed) (text : List ℕ) → has_end text ≡ false → length text < 256
    → standing_after at (lines_of (text ++ bytes)) ≡ after_bytes (going at text) bytes
by_bytes [] at [] none short = refl
by_bytes [] at (b ∷ text) none short =
    ap (λ t. standing_after at (lines_of t)) (append-nil (b ∷ text)) ∙ ap (standing_after at) (lines_unended b text none) ∙ rest_kept at (b ∷ text) short
by_bytes (b ∷ bytes) at text none short =
    ⊎_elim
    (λ (e : b ≡ 10).
    rw (e, lines_ended text bytes none) (next_line (on_line at text) bytes (λ next. by_bytes bytes next [] refl (omega arith))))
    (λ (ne : b ≢ 10).
    let other : (b == 10) ≡ false = ne_eqb b 10 ne in
    let longer = text ++ b ∷ [] in
    let moved : text ++ b ∷ bytes ≡ longer ++ bytes = sym (append_assoc text (b ∷ []) bytes) in
    let step : after_byte (going at text) b ≡ on_rest at longer = rw other refl in
    ⊎_elim
    (λ (fits : length longer < 256).
    rw moved (by_bytes bytes at longer (still_none text b none other) fits ∙ ap (λ s. after_bytes s bytes) (sym (step ∙ rest_kept at longer fits))))
    (λ (long : 256 ≤ length longer).
    rw moved (cut_long at longer bytes (still_none text b none other) long ∙ sym (decided_stays (Broken at.place) bytes) ∙ ap (λ s. after_bytes s bytes) (sym (step ∙ rest_long at longer long))))
    (cases_lt (length longer) 256))
    (cases_eq b 10)

-- where a check stands is where it stands byte after byte
pub standing_by_bytes : (bytes : List ℕ) → standing_of bytes ≡ after_bytes (going beginning []) bytes
standing_by_bytes bytes = by_bytes bytes beginning [] refl (omega arith)

-- more bytes go on from where the check stands
pub standing_more : (bytes piece : List ℕ) → standing_of (bytes ++ piece) ≡ after_bytes (standing_of bytes) piece
standing_more bytes piece =
    standing_by_bytes (bytes ++ piece) ∙ after_both (going beginning []) bytes piece ∙ ap (λ s. after_bytes s piece) (sym (standing_by_bytes bytes))
