-- A trace that is checked in pieces, until a line decides.
use Rattle.std.proofs.Common.{ℕ, ◌+◌, ◌-◌, ◌<◌, ◌≤◌, ◌≡◌, ◌≢◌, ◌++◌, ◌∷◌, ◌&&◌, ◌⊎◌, inl, inr, ◌∙◌, ◌==◌, not, sym, ap, arith, refl, cond, List, [], Bool, true, false, length, take, drop, Option, Some, None, nat_lt, nat_le, length-append, append_assoc, subst, Result, Ok, Err, OnOk, is_err}
use Rattle.std.specs.Prelude.{⊤}
use Rattle.std.proofs.lemmas.Bool.{lt-ltb, le-ltb}
use Rattle.std.proofs.lemmas.List.{append-nil, take_all, drop_all, take-append-drop, take-take, length-take, length-drop}
use Rattle.std.proofs.Math.Seq.{take-append-add, take-append_seam}
use Rattle.trace_check.specs.Bytes.{after_bytes}
use Rattle.trace_check.specs.Lines.{shape_of, step_of}
use Rattle.trace_check.specs.Verdicts.{Judged, Line, Passed, Standing, passes, decides, going, decided, and_then, beginning, is_decided, is_valid, lines_of, on_line, on_rest, on_shape, on_step, on_unmet, pass, standing_after, standing_of, verdict_at, verdict_of}
use Rattle.trace_check.specs.declared.verdict.Verdict.{Verdict}
use Rattle.trace_check.specs.declared.verdict.Verdict.TheVariants.{Broken, Illegal, Legal}
use Rattle.unit_model.specs.Conditions.{first_unmet}
use Rattle.unit_model.specs.Opening.{opened_core}
use Rattle.unit_model.specs.declared.machine.Step.{Step}
use Rattle.unit_model.specs.declared.machine.Unmet.{Unmet}
use Rattle.unit_model.specs.declared.shape.Shape.{Shape}
use Rattle.trace_check.proofs.LineByLine.{standing_more}
use Rattle.trace_check.proofs.Stood.{decided_stays}
use Rattle.unit_io.specs.Status.{input_limit}
use Rattle.unit_io.specs.Told.{Takes}
use Rattle.unit_top.specs.Check.{IsCheckRead, check_outcome, is_too_long, verdict_outcome, verdict_status}
use Rattle.unit_top.specs.Outcome.{Refused}

-- where a line decided, more bytes change nothing
stays : (front more : List ℕ) → is_decided (standing_of front) ≡ true → standing_of (front ++ more) ≡ standing_of front
stays front more is = standing_more front more ∙ by_standing (standing_of front) is
  where
    by_standing : (s : Standing) → is_decided s ≡ true → after_bytes s more ≡ s
    by_standing (going at text) is = absurd (cc is)
    by_standing (decided v) is = decided_stays v more

pub verdict_stays : (front more : List ℕ) → is_decided (standing_of front) ≡ true → verdict_of (front ++ more) ≡ verdict_of front
verdict_stays front more is = ap verdict_at (stays front more is)

outcome_unless : (trace : List ℕ) → is_too_long trace ≡ false → check_outcome trace ≡ verdict_outcome (verdict_of trace)
outcome_unless trace is = ap (λ b. cond b (Refused input_limit) (verdict_outcome (verdict_of trace))) is

-- all was read, within the limit
pub ends_within : (trace : List ℕ) → length trace ≤ input_limit → check_outcome trace ≡ verdict_outcome (verdict_of trace)
ends_within trace low =
    outcome_unless trace (ap (λ b. b && not (is_decided (standing_of (take input_limit trace)))) (le-ltb input_limit (length trace) low))

and_false : (b : Bool) → (b && false) ≡ false
and_false true = refl
and_false false = refl

-- a front as long as the limit or shorter decided
pub decides_within : (front more : List ℕ) → length front ≤ input_limit → is_decided (standing_of front) ≡ true
    → check_outcome (front ++ more) ≡ verdict_outcome (verdict_of front)
decides_within front more low is =
    let room = input_limit - length front in
    let whole : input_limit ≡ length front + room = omega (arith, low) in
    let taken : take input_limit (front ++ more) ≡ front ++ take room more =
    ap (λ n. take n (front ++ more)) whole ∙ take-append-add front more room in
    let decides : is_decided (standing_of (take input_limit (front ++ more))) ≡ true =
    ap (λ t. is_decided (standing_of t)) taken ∙ ap is_decided (stays front (take room more) is) ∙ is in
    outcome_unless (front ++ more)
    (ap (λ b. nat_lt input_limit (length (front ++ more)) && not b) decides ∙ and_false (nat_lt input_limit (length (front ++ more))))
    ∙ ap verdict_outcome (verdict_stays front more is)

-- a front as long as the limit decided nothing, and more comes
pub passes_limit : (front more : List ℕ) → length front ≡ input_limit → 0 < length more → is_decided (standing_of front) ≡ false
    → check_outcome (front ++ more) ≡ Refused input_limit
passes_limit front more full some is =
    let taken : take input_limit (front ++ more) ≡ front = ap (λ n. take n (front ++ more)) (sym full) ∙ take-append_seam front more in
    let undecided : is_decided (standing_of (take input_limit (front ++ more))) ≡ false = ap (λ t. is_decided (standing_of t)) taken ∙ is in
    let long : nat_lt input_limit (length (front ++ more)) ≡ true =
    lt-ltb input_limit (length (front ++ more)) (omega (arith, full, some, length-append front more)) in
    ap (λ b. cond (b && not (is_decided (standing_of (take input_limit (front ++ more))))) (Refused input_limit) (verdict_outcome (verdict_of (front ++ more)))) long
    ∙ ap (λ b. cond (not b) (Refused input_limit) (verdict_outcome (verdict_of (front ++ more)))) undecided

-- ---- a line decides only that it is broken or its step not enabled

abbrev IsFaulty : Verdict → Type 0
IsFaulty v = (verdict_status v ≡ 6) ⊎ (verdict_status v ≡ 8)

abbrev DecidesFault : Judged → Type 0
DecidesFault (passes at) = ⊤
DecidesFault (decides v) = IsFaulty v

abbrev IsFaultWhereDecided : Standing → Type 0
IsFaultWhereDecided (going at text) = ⊤
IsFaultWhereDecided (decided v) = IsFaulty v

fault_of_unmet : (at : Passed) (text : List ℕ) (step : Step) (unmet : Option Unmet) → DecidesFault (on_unmet at text step unmet)
fault_of_unmet at text step None = tt
fault_of_unmet at text step (Some unmet) = inr refl

fault_of_step : (at : Passed) (text : List ℕ) (step : Option Step) → DecidesFault (on_step at text step)
fault_of_step at text None = inl refl
fault_of_step at text (Some step) = fault_of_unmet at text step (first_unmet at.core step)

fault_or_pass : (b : Bool) (judged : Judged) (place : ℕ) → DecidesFault judged → DecidesFault (cond b judged (decides (Broken place)))
fault_or_pass true judged place h = h
fault_or_pass false judged place h = inl refl

fault_of_shape : (at : Passed) (text : List ℕ) (shape : Option Shape) → DecidesFault (on_shape at text shape)
fault_of_shape at text None = fault_of_step at text (step_of text)
fault_of_shape at text (Some shape) = fault_or_pass (at.lines == 0 && is_valid shape) (pass at text (opened_core shape) at.steps) at.place tt

fault_of_long : (b : Bool) (judged : Judged) (place : ℕ) → DecidesFault judged → DecidesFault (cond b (decides (Broken place)) judged)
fault_of_long true judged place h = inl refl
fault_of_long false judged place h = h

fault_of_line : (at : Passed) (text : List ℕ) → DecidesFault (on_line at text)
fault_of_line at text = fault_of_long (nat_le 256 (length text)) (on_shape at text (shape_of text)) at.place (fault_of_shape at text (shape_of text))

fault_of_rest : (b : Bool) (at : Passed) (text : List ℕ) → IsFaultWhereDecided (cond b (decided (Broken at.place)) (going at text))
fault_of_rest true at text = inl refl
fault_of_rest false at text = tt

fault_of_next : (judged : Judged) (next : Passed → Standing) → DecidesFault judged → ((at : Passed) → IsFaultWhereDecided (next at)) → IsFaultWhereDecided (and_then judged next)
fault_of_next (passes at) next h later = later at
fault_of_next (decides v) next h later = h

fault_of_ended : (b : Bool) (at : Passed) (text : List ℕ) (lines : List Line) → ((next : Passed) → IsFaultWhereDecided (standing_after next lines))
    → IsFaultWhereDecided (cond b (and_then (on_line at text) (λ next. standing_after next lines)) (on_rest at text))
fault_of_ended true at text lines later = fault_of_next (on_line at text) (λ next. standing_after next lines) (fault_of_line at text) later
fault_of_ended false at text lines later = fault_of_rest (nat_le 256 (length text)) at text

fault_of_lines : (lines : List Line) (at : Passed) → IsFaultWhereDecided (standing_after at lines)
fault_of_lines [] at = tt
fault_of_lines (line ∷ lines) at = fault_of_ended line.is_ended at line.text lines (λ next. fault_of_lines lines next)

pub faulty : (bytes : List ℕ) → is_decided (standing_of bytes) ≡ true → (verdict_status (verdict_of bytes) ≡ 6) ⊎ (verdict_status (verdict_of bytes) ≡ 8)
faulty bytes is = by_standing (standing_of bytes) is (fault_of_lines (lines_of bytes) beginning)
  where
    by_standing : (s : Standing) → is_decided s ≡ true → IsFaultWhereDecided s → IsFaulty (verdict_at s)
    by_standing (going at text) is h = absurd (cc is)
    by_standing (decided v) is h = h

-- ---- what was read

neither : {A : Type 0} (n : ℕ) → n ≢ 0 → n ≢ 8 → (n ≡ 0) ⊎ (n ≡ 8) → A
neither n not0 not8 (inl is) = absurd (not0 is)
neither n not0 not8 (inr is) = absurd (not8 is)

-- what a source told of a trace, when the bytes and then the piece were read
pub record IsTold (trace bytes piece : List ℕ) (after : Option (List ℕ)) : Type 0 where
  pub rest : List ℕ
  pub parts : trace ≡ (bytes ++ piece) ++ rest
  pub left : after ≡ Some rest

pub told : (old now after : Option (List ℕ)) (trace bytes piece : List ℕ) → Takes old now bytes → Takes now after piece → old ≡ Some trace → IsTold trace bytes piece after
told old now after trace bytes piece first second is =
    let part = first trace is in
    let more = second part.0 part.2 in
    record {
      rest = more.0;
      parts = part.1 ∙ ap (λ (x : List ℕ). bytes ++ x) more.1 ∙ sym (append_assoc bytes piece more.0);
      left = more.2;
    }

-- first the one and then the other was read
pub takes_both : (old now after : Option (List ℕ)) (bytes piece : List ℕ) → Takes old now bytes → Takes now after piece → Takes old after (bytes ++ piece)
takes_both old now after bytes piece first second left is =
    let part = first left is in
    let more = second part.0 part.2 in
    (more.0, part.1 ∙ ap (λ (x : List ℕ). bytes ++ x) more.1 ∙ sym (append_assoc bytes piece more.0), more.2)

-- the trace, cut behind the front of the last piece
pub cut_behind : (trace bytes front more : List ℕ) (after : Option (List ℕ)) (t : IsTold trace bytes (front ++ more) after) → trace ≡ (bytes ++ front) ++ (more ++ t.rest)
cut_behind trace bytes front more after t =
    t.parts ∙ ap (λ (x : List ℕ). x ++ t.rest) (sym (append_assoc bytes front more)) ∙ append_assoc (bytes ++ front) more t.rest

-- memory was wanting, or the trace is too long
pub read_on : (status : ℕ) (trace bytes piece : List ℕ) (after : Option (List ℕ)) → (status ≡ 5) ⊎ (status ≡ 6) → IsTold trace bytes piece after
    → is_decided (standing_of bytes) ≡ false → length piece ≤ 65536 → IsCheckRead status trace after
read_on status trace bytes piece after ends told undecided short = record {
  before = bytes;
  piece = piece;
  rest = told.rest;
  parts = told.parts;
  left = told.left;
  undecided = undecided;
  short = short;
  fault = λ e. absurd (other 3 ends (λ x. omega arith) (λ x. omega arith) e);
  whole = λ e. absurd (other 0 ends (λ x. omega arith) (λ x. omega arith) e);
  verdict = neither status (other 0 ends (λ x. omega arith) (λ x. omega arith)) (other 8 ends (λ x. omega arith) (λ x. omega arith));
}
  where
    other : (n : ℕ) → (status ≡ 5) ⊎ (status ≡ 6) → n ≢ 5 → n ≢ 6 → status ≡ n → ⊥
    other n (inl five) not5 not6 e = not5 (sym e ∙ five)
    other n (inr six) not5 not6 e = not6 (sym e ∙ six)

no_fault : (v : Verdict) → verdict_status v ≢ 3
no_fault (Broken place) e = omega arith
no_fault (Illegal line rule want found) e = omega arith
no_fault (Legal steps free chunks drawn accepted cancelled abandoned refused left_open) e = omega arith

faulty_not_whole : (v : Verdict) → (verdict_status v ≡ 6) ⊎ (verdict_status v ≡ 8) → verdict_status v ≢ 0
faulty_not_whole v (inl six) e = omega arith
faulty_not_whole v (inr eight) e = omega arith

-- a front of the piece decided
pub read_decided : (trace bytes front more : List ℕ) (v : Verdict) (after : Option (List ℕ)) → IsTold trace bytes (front ++ more) after
    → is_decided (standing_of bytes) ≡ false → length (front ++ more) ≤ 65536 → is_decided (standing_of (bytes ++ front)) ≡ true → v ≡ verdict_of (bytes ++ front)
    → IsCheckRead (verdict_status v) trace after
read_decided trace bytes front more v after told undecided short is verdict =
    let piece_is : bytes ++ (front ++ more) ≡ (bytes ++ front) ++ more = sym (append_assoc bytes front more) in
    let trace_is : trace ≡ (bytes ++ front) ++ (more ++ told.rest) = cut_behind trace bytes front more after told in
    let fault = subst (λ (w : Verdict). (verdict_status w ≡ 6) ⊎ (verdict_status w ≡ 8)) (sym verdict) (faulty (bytes ++ front) is) in
    record {
      before = bytes;
      piece = front ++ more;
      rest = told.rest;
      parts = told.parts;
      left = told.left;
      undecided = undecided;
      short = short;
      fault = λ e. absurd (no_fault v e);
      whole = λ e. absurd (faulty_not_whole v fault e);
      verdict = λ e. ap verdict_of piece_is ∙ verdict_stays (bytes ++ front) more is ∙ sym (verdict_stays (bytes ++ front) (more ++ told.rest) is) ∙ ap verdict_of (sym trace_is);
    }

-- ---- what the trace comes to

pub outcome_decided : (trace bytes front more : List ℕ) (v : Verdict) (after : Option (List ℕ)) → IsTold trace bytes (front ++ more) after
    → length (bytes ++ front) ≤ input_limit → is_decided (standing_of (bytes ++ front)) ≡ true → v ≡ verdict_of (bytes ++ front)
    → check_outcome trace ≡ verdict_outcome v
outcome_decided trace bytes front more v after t low is verdict =
    ap check_outcome (cut_behind trace bytes front more after t) ∙ decides_within (bytes ++ front) (more ++ t.rest) low is ∙ ap verdict_outcome (sym verdict)

pub outcome_too_long : (trace bytes front more : List ℕ) (after : Option (List ℕ)) → IsTold trace bytes (front ++ more) after
    → length (bytes ++ front) ≡ input_limit → 0 < length more → is_decided (standing_of (bytes ++ front)) ≡ false
    → check_outcome trace ≡ Refused input_limit
outcome_too_long trace bytes front more after t full some is =
    ap check_outcome (cut_behind trace bytes front more after t)
    ∙ passes_limit (bytes ++ front) (more ++ t.rest) full (omega (arith, some, length-append more t.rest)) is

-- ---- a piece, as it stands in its buffer

-- a buffer that was filled anew
pub buffer_same : (len : ℕ) (filled items seen : List ℕ) → seen ≡ take len (filled ++ drop (length filled) items) → length filled ≡ length items → length items ≡ len → seen ≡ filled
buffer_same len filled items seen is size all =
    is
    ∙ ap (λ (x : List ℕ). take len (filled ++ x)) (drop_all (length filled) items (omega (arith, size)))
    ∙ ap (take len) (append-nil filled)
    ∙ take_all len filled (omega (arith, size, all))

-- what is taken of a piece, and the rest of it
pub cut_piece : (k n : ℕ) (seen buf : List ℕ) → seen ≡ buf → k ≤ n → take n buf ≡ take k seen ++ drop k (take n buf)
cut_piece k n seen buf same le =
    sym (take-append-drop k (take n buf)) ∙ ap (λ (x : List ℕ). x ++ drop k (take n buf)) (take-take k n buf le ∙ ap (take k) (sym same))

pub told_cut : (old now after : Option (List ℕ)) (trace bytes : List ℕ) (k n : ℕ) (seen buf : List ℕ) → seen ≡ buf → k ≤ n → Takes old now bytes → Takes now after (take n buf)
    → old ≡ Some trace → IsTold trace bytes (take k seen ++ drop k (take n buf)) after
told_cut old now after trace bytes k n seen buf same le first second is =
    told old now after trace bytes (take k seen ++ drop k (take n buf)) first (subst (Takes now after) (cut_piece k n seen buf same le) second) is

pub cut_short : (k n : ℕ) (seen buf : List ℕ) → seen ≡ buf → k ≤ n → length buf ≡ 65536 → length (take k seen ++ drop k (take n buf)) ≤ 65536
cut_short k n seen buf same le size = omega (arith, ap length (cut_piece k n seen buf same le), length-take n buf, size)

pub front_within : (bytes seen : List ℕ) (k left : ℕ) → k ≤ left → length bytes + left ≡ input_limit → length (bytes ++ take k seen) ≤ input_limit
front_within bytes seen k left le count = omega (arith, length-append bytes (take k seen), length-take k seen, le, count)

pub front_full : (bytes seen : List ℕ) (k left : ℕ) → k ≡ left → k ≤ length seen → length bytes + left ≡ input_limit → length (bytes ++ take k seen) ≡ input_limit
front_full bytes seen k left is le count = omega (arith, length-append bytes (take k seen), length-take k seen, is, le, count)

pub some_more : (k n : ℕ) (buf : List ℕ) → k < n → n ≤ length buf → 0 < length (drop k (take n buf))
some_more k n buf lt le = omega (arith, length-drop k (take n buf), length-take n buf, lt, le)

-- all that was read is the trace
pub ended_outcome : (trace bytes rest : List ℕ) (v : Verdict) → trace ≡ bytes ++ rest → rest ≡ [] → length bytes ≤ input_limit → v ≡ verdict_of bytes
    → check_outcome trace ≡ verdict_outcome v
ended_outcome trace bytes rest v parts none low verdict =
    let all : trace ≡ bytes = parts ∙ ap (λ (x : List ℕ). bytes ++ x) none ∙ append-nil bytes in
    ap check_outcome all ∙ ends_within bytes low ∙ ap verdict_outcome (sym verdict)

pub when_ok : {T E P : Type 0} (r : Result T E) → is_err r ≡ false → OnOk r P → P
when_ok (Ok x) e h = h
when_ok (Err x) e h = absurd (cc e)
