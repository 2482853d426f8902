use Rattle.std.proofs.Common.{ℕ, ◌≡◌, ◌∙◌, ◌+◌, ◌≤◌, sym, ap, subst, List, [], length, take, drop, refl, ◌∷◌, Result, Ok, Err, arith, append-nil}
use Rattle.std.proofs.lemmas.List.{length-map, length-take}
use Rattle.httparse.specs.declared.Error.{Error}
use Rattle.httparse.specs.declared.Status.{Status}
use Rattle.httparse.specs.declared.Status.TheVariants.{Partial}
use Rattle.httparse.specs.declared.spans.HeaderSpan.{HeaderSpan}
use Rattle.httparse.specs.declared.spans.RequestSpans.{RequestSpans}
use Rattle.httparse.specs.Grammar.{Field, RequestHead, print_request}
use Rattle.httparse.specs.Outcome.{IsCompleteAnd}
use Rattle.httparse.specs.Spans.{AreFieldsAt, IsRequestAt, header_bytes, name_and_value}
use Rattle.http_front.specs.Front.{blank_len}
use Rattle.http_front.specs.Head.{IsHead, lines_in}
use Rattle.http_front.proofs.HeadLemmas.{head_of-head_in, head_in-head, head_of-no_head, head_lines, no_blank}
use Rattle.http_front.proofs.head.whole_head.Goals as goal

-- a head that takes the whole block is the block
whole : (block : List ℕ) (headers : List HeaderSpan) (r : RequestSpans) (h : RequestHead) → blank_len block ≡ 0
    → IsRequestAt block headers r h → r.len ≡ length block → IsHead block h
unfolding blank_len
whole block headers r h none at all =
    let rest : drop r.len block ≡ [] = ap (λ n. drop n block) all ∙ drop_all block in
    (rw (← rest) at.reads, no_blank block h (drop r.len block) none at.reads)
  where
    drop_all : (xs : List ℕ) → drop (length xs) xs ≡ []
    drop_all [] = refl
    drop_all (x ∷ xs) = drop_all xs

-- a parse that is complete with no head, or with none, is none of a head that fits
missed : (r : Result (Status RequestSpans) Error) (P : RequestSpans → Type 0) (e : Error) → r ≡ Err e → IsCompleteAnd r P → ⊥
missed r P e is f = subst (λ (r : Result (Status RequestSpans) Error). IsCompleteAnd r P) is f

missed_partial : (r : Result (Status RequestSpans) Error) (P : RequestSpans → Type 0) → r ≡ Ok Partial → IsCompleteAnd r P → ⊥
missed_partial r P is f = subst (λ (r : Result (Status RequestSpans) Error). IsCompleteAnd r P) is f

-- the fields of a head have room in the headers that cover them
fields_fit : (block : List ℕ) (headers : List HeaderSpan) (count : ℕ) (fields : List Field) → AreFieldsAt block headers count fields → length fields ≤ length headers
fields_fit block headers count fields are =
    omega (
      arith,
      length-map fields name_and_value,
      ap length are,
      length-map (take count headers) (header_bytes block),
      length-take count headers,
    )

pub returns-then-spans-block-clause-is : goal.returns-then-spans-block-clause-is
returns-then-spans-block-clause-is c =
    let of = rw c.in-Ok-Complete.field-0-is at c.in-Ok-Complete.ensures.complete in
    head_of-head_in c.args.block.now of.0 (whole c.args.block.now c.parse_request.new.headers c.in-Ok-Complete.spans of.0 c.requires.no_empty_line of.1 c.if-spans-block.true)

pub returns-then-spans-block-clause-at : goal.returns-then-spans-block-clause-at
returns-then-spans-block-clause-at c =
    let of = rw c.in-Ok-Complete.field-0-is at c.in-Ok-Complete.ensures.complete in
    let is = whole c.args.block.now c.parse_request.new.headers c.in-Ok-Complete.spans of.0 c.requires.no_empty_line of.1 c.if-spans-block.true in
    rw (head_in-head c.args.block.now of.0 is) of.1

pub returns-then-spans-block-clause-few : goal.returns-then-spans-block-clause-few
returns-then-spans-block-clause-few c =
    let of = rw c.in-Ok-Complete.field-0-is at c.in-Ok-Complete.ensures.complete in
    let is = whole c.args.block.now c.parse_request.new.headers c.in-Ok-Complete.spans of.0 c.requires.no_empty_line of.1 c.if-spans-block.true in
    omega (arith, c.parse_request.auto.headers, head_lines c.args.block.now of.0 is, fields_fit c.args.block.now c.parse_request.new.headers c.in-Ok-Complete.spans.headers of.0.fields of.1.fields)

-- a head is read where its lines have room
found : (c : goal.Else-spans-block) → length (lines_in c.args.block.now) ≤ length c.args.headers.now + 2 → (h : RequestHead) → IsHead c.args.block.now h → IsCompleteAnd c.parse_request.result (λ spans. IsRequestAt c.args.block.now c.parse_request.new.headers spans h)
found c room h is = let lines = head_lines c.args.block.now h is in c.parse_request.ensures.found h [] is.0 (omega (arith, lines, room))

pub returns-else-spans-block-clause-none : goal.returns-else-spans-block-clause-none
returns-else-spans-block-clause-none c room = head_of-no_head c.args.block.now (λ h is.
    let at = subst (λ (r : Result (Status RequestSpans) Error). IsCompleteAnd r (λ spans. IsRequestAt c.args.block.now c.parse_request.new.headers spans h))
    (c.in-Ok-Complete.is ∙ ap Ok c.in-Ok-Complete.field-0-is) (found c room h is) in
    c.if-spans-block.false (at.len ∙ ap length (sym (is.0.1 ∙ append-nil (print_request h)))))

pub returns-in-Ok-Partial-clause-none : goal.returns-in-Ok-Partial-clause-none
returns-in-Ok-Partial-clause-none c room = head_of-no_head c.args.block.now (λ h is.
    let lines = head_lines c.args.block.now h is in
    missed_partial c.parse_request.result _ (c.in-Ok-Partial.is ∙ ap Ok c.in-Ok-Partial.field-0-is) (c.parse_request.ensures.found h [] is.0 (omega (arith, lines, room))))

pub returns-in-Err-clause-none : goal.returns-in-Err-clause-none
returns-in-Err-clause-none c room = head_of-no_head c.args.block.now (λ h is.
    let lines = head_lines c.args.block.now h is in
    missed c.parse_request.result _ c.in-Err.field-0 c.in-Err.is (c.parse_request.ensures.found h [] is.0 (omega (arith, lines, room))))
