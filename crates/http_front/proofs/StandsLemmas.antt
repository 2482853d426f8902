-- What is found in what is kept, over more bytes and over the bytes that are let go.
use Rattle.std.proofs.Common.{ℕ, ◌≡◌, ◌+◌, refl, sym, ap, ◌∙◌, List, [], ◌++◌, length, drop, Bool, arith, append_assoc, append-nil, drop-drop}
use lib.Seq.{drop-append_seam}
use Rattle.http_front.specs.NextUnit.{Found, request, bad, cut, finished, wait, NextUnit, next_unit}
use Rattle.http_front.specs.Stands.{found_past, unit_past, Stands, head_unit}
use Rattle.http_front.proofs.BlankLemmas.{AreBlank, next_past}

past_nothing : (f : Found) → f ≡ found_past 0 f
past_nothing (request m used) = ap (request m) (omega arith)
past_nothing (bad status) = refl
past_nothing cut = refl
past_nothing finished = refl
past_nothing wait = refl

past_both : (a b : ℕ) (f : Found) → found_past a (found_past b f) ≡ found_past (a + b) f
past_both a b (request m used) = ap (request m) (omega arith)
past_both a b (bad status) = refl
past_both a b cut = refl
past_both a b finished = refl
past_both a b wait = refl

unit_both : (a b : ℕ) (u : NextUnit) → unit_past a (unit_past b u) ≡ unit_past (a + b) u
unit_both a b u = ap (λ (f : Found). record { continue_due = u.continue_due; found = f }) (past_both a b u.found)

-- all bytes are kept
pub stands_whole : (bytes : List ℕ) (limit : ℕ) → Stands bytes limit (head_unit limit) bytes
stands_whole bytes limit = record {
  gone = 0;
  same = λ more ended.
      let unit = next_unit (bytes ++ more) ended limit in
      ap (λ (f : Found). record { continue_due = unit.continue_due; found = f }) (past_nothing unit.found);
  rest = λ more. refl;
}

-- more bytes
pub stands_fed : (bytes : List ℕ) (limit : ℕ) (unit : List ℕ → Bool → NextUnit) (kept piece : List ℕ) → Stands bytes limit unit kept
    → Stands (bytes ++ piece) limit unit (kept ++ piece)
stands_fed bytes limit unit kept piece is = record {
  gone = is.gone;
  same = λ more ended.
      ap (λ all. next_unit all ended limit) (append_assoc bytes piece more) ∙ is.same (piece ++ more) ended
      ∙ ap (λ all. unit_past is.gone (unit all ended)) (sym (append_assoc kept piece more));
  rest = λ more. ap (drop is.gone) (append_assoc bytes piece more) ∙ is.rest (piece ++ more) ∙ sym (append_assoc kept piece more);
}

-- so many of the bytes that are kept are let go
pub stands_step : (bytes : List ℕ) (limit n : ℕ) (unit next : List ℕ → Bool → NextUnit) (kept left : List ℕ) → Stands bytes limit unit kept
    → ((more : List ℕ) (ended : Bool) → unit (kept ++ more) ended ≡ unit_past n (next (left ++ more) ended))
    → ((more : List ℕ) → drop n (kept ++ more) ≡ left ++ more)
    → Stands bytes limit next left
stands_step bytes limit n unit next kept left is found behind = record {
  gone = is.gone + n;
  same = λ more ended. is.same more ended ∙ ap (unit_past is.gone) (found more ended) ∙ unit_both is.gone n (next (left ++ more) ended);
  rest = λ more. sym (drop-drop n is.gone (bytes ++ more)) ∙ ap (drop n) (is.rest more) ∙ behind more;
}

-- empty lines are let go
pub stands_blank : (bytes : List ℕ) (limit : ℕ) (lines left : List ℕ) → AreBlank lines → Stands bytes limit (head_unit limit) (lines ++ left)
    → Stands bytes limit (head_unit limit) left
stands_blank bytes limit lines left blank is =
    stands_step bytes limit (length lines) (head_unit limit) (head_unit limit) (lines ++ left) left is
    (λ more ended. ap (λ all. next_unit all ended limit) (append_assoc lines left more) ∙ next_past lines (left ++ more) ended limit blank)
    (λ more. ap (drop (length lines)) (append_assoc lines left more) ∙ drop-append_seam lines (left ++ more))

-- what is found now, and what a request leaves
pub stands_now : (bytes : List ℕ) (limit : ℕ) (unit : List ℕ → Bool → NextUnit) (kept : List ℕ) (ended : Bool) (is : Stands bytes limit unit kept)
    → next_unit bytes ended limit ≡ unit_past is.gone (unit kept ended)
stands_now bytes limit unit kept ended is =
    ap (λ all. next_unit all ended limit) (sym (append-nil bytes)) ∙ is.same [] ended ∙ ap (λ all. unit_past is.gone (unit all ended)) (append-nil kept)

pub stands_left : (bytes : List ℕ) (limit : ℕ) (unit : List ℕ → Bool → NextUnit) (kept : List ℕ) (used : ℕ) (is : Stands bytes limit unit kept)
    → drop (is.gone + used) bytes ≡ drop used kept
stands_left bytes limit unit kept used is =
    sym (drop-drop used is.gone bytes)
    ∙ ap (drop used) (ap (drop is.gone) (sym (append-nil bytes)) ∙ is.rest [] ∙ append-nil kept)
