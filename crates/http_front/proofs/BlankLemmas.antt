-- What is found behind empty lines is found so many bytes further back.
use Rattle.std.proofs.Common.{ℕ, ◌≡◌, ◌+◌, ◌-◌, refl, sym, ap, ◌∙◌, List, [], ◌++◌, length, take, drop, Bool, true, false, ◌==◌, Option, Some, None, arith, drop-drop}
use lib.Seq.{drop-append_seam}
use Rattle.httparse.specs.Grammar.{RequestHead}
use Rattle.http_front.specs.declared.content.Content.{Content}
use Rattle.http_front.specs.declared.content.Content.TheVariants.{Whole, Refused, Open}
use Rattle.http_front.specs.declared.search.Search.{Search}
use Rattle.http_front.specs.Head.{head_of}
use Rattle.http_front.specs.Front.{Front, unready, too_long, block, blank_len, front_of, is_ready, head_begun}
use Rattle.unit_types.specs.Limits.{head_limit}
use Rattle.http_front.specs.Message.{message_of, fields_of}
use Rattle.http_front.specs.Checks.{has_too_many_lines, refusal_of}
use Rattle.http_front.specs.Content.{content_of, is_continue_due}
use Rattle.http_front.specs.NextUnit.{Found, request, plainly, open_found, content_found, checked_unit, block_unit, end_found, unready_found, front_unit, unit_behind, next_unit}
use Rattle.http_front.specs.Progress.{IsSearched}
use Rattle.http_front.specs.Stands.{found_past, unit_past}

pub open_past : (gone : ℕ) (ended : Bool) → open_found ended ≡ found_past gone (open_found ended)
open_past gone true = refl
open_past gone false = refl

content_past : (gone used : ℕ) (h : RequestHead) (ended : Bool) (c : Content)
    → content_found h (gone + used) ended c ≡ found_past gone (content_found h used ended c)
content_past gone used h ended (Whole content len) = ap (request (message_of h content)) (omega arith)
content_past gone used h ended (Refused status) = refl
content_past gone used h ended Open = open_past gone ended

checked_past : (gone used : ℕ) (h : RequestHead) (limit : ℕ) (rest : List ℕ) (ended : Bool) (refusal : Option ℕ)
    → checked_unit h limit (gone + used) rest ended refusal ≡ unit_past gone (checked_unit h limit used rest ended refusal)
checked_past gone used h limit rest ended (Some status) = refl
checked_past gone used h limit rest ended None =
    ap (λ (f : Found). record { continue_due = is_continue_due h.minor (fields_of h); found = f })
    (content_past gone used h ended (content_of limit (fields_of h) rest))

block_past : (gone used : ℕ) (many : Bool) (limit : ℕ) (rest : List ℕ) (ended : Bool) (head : Option RequestHead)
    → block_unit many limit (gone + used) rest ended head ≡ unit_past gone (block_unit many limit used rest ended head)
block_past gone used true limit rest ended head = refl
block_past gone used false limit rest ended None = refl
block_past gone used false limit rest ended (Some h) =
    checked_past gone used h limit rest ended (refusal_of limit h.minor h.target (fields_of h))

end_past : (gone : ℕ) (empty : Bool) → end_found empty ≡ found_past gone (end_found empty)
end_past gone true = refl
end_past gone false = refl

unready_past : (gone : ℕ) (ended : Bool) (bytes : List ℕ) → unready_found ended bytes ≡ found_past gone (unready_found ended bytes)
unready_past gone false bytes = refl
unready_past gone true bytes = end_past gone (length bytes == 0)

front_past : (gone blank limit : ℕ) (bytes : List ℕ) (ended : Bool) (front : Front)
    → front_unit limit (gone + blank) bytes ended front ≡ unit_past gone (front_unit limit blank bytes ended front)
front_past gone blank limit bytes ended unready = ap plainly (unready_past gone ended bytes)
front_past gone blank limit bytes ended too_long = refl
front_past gone blank limit bytes ended (block n) =
    let same : (gone + blank) + n ≡ gone + (blank + n) = omega arith in
    ap (λ used. block_unit (has_too_many_lines (take n bytes)) limit used (drop n bytes) ended (head_of (take n bytes))) same
    ∙ block_past gone (blank + n) (has_too_many_lines (take n bytes)) limit (drop n bytes) ended (head_of (take n bytes))

-- so many bytes of empty lines stand in front of whatever follows
abbrev pub AreBlank : List ℕ → Type 0
AreBlank lines = (more : List ℕ) → blank_len (lines ++ more) ≡ length lines + blank_len more

behind_blank : (lines left : List ℕ) → AreBlank lines
    → drop (blank_len (lines ++ left)) (lines ++ left) ≡ drop (blank_len left) left
behind_blank lines left blank =
    ap (λ n. drop n (lines ++ left)) (blank left)
    ∙ sym (drop-drop (blank_len left) (length lines) (lines ++ left))
    ∙ ap (drop (blank_len left)) (drop-append_seam lines left)

pub next_past : (lines left : List ℕ) (ended : Bool) (limit : ℕ) → AreBlank lines
    → next_unit (lines ++ left) ended limit ≡ unit_past (length lines) (next_unit left ended limit)
unfolding next_unit
next_past lines left ended limit blank =
    (λ i. unit_behind (blank left i) (behind_blank lines left blank i) ended limit)
    ∙ front_past (length lines) (blank_len left) limit (drop (blank_len left) left) ended (front_of head_limit (drop (blank_len left) left))

pub begun_past : (lines left : List ℕ) → AreBlank lines → head_begun (lines ++ left) ≡ head_begun left
begun_past lines left blank = ap (λ rest. is_ready (front_of head_limit rest)) (behind_blank lines left blank)

-- ---- the empty lines that a search has passed

-- the same search behind them
abbrev pub from_blank : Search → Search
from_blank s = record { blank = 0; line = s.line - s.blank; searched = s.searched - s.blank }

pub blank_gone : (s : Search) (bytes : List ℕ) (is : IsSearched s bytes) → drop s.blank bytes ≡ is.lines ++ (is.begun ++ is.rest)
blank_gone s bytes is = (λ i. drop (is.blank_at i) (is.whole i)) ∙ drop-append_seam is.blank (is.lines ++ (is.begun ++ is.rest))

pub search_behind : (s : Search) (bytes : List ℕ) → IsSearched s bytes → IsSearched (from_blank s) (drop s.blank bytes)
unfolding blank_len
search_behind s bytes is = record {
  blank = [];
  lines = is.lines;
  begun = is.begun;
  rest = is.rest;
  whole = blank_gone s bytes is;
  blank_at = refl;
  line_at = omega (arith, is.blank_at, is.line_at);
  searched_at = omega (arith, is.blank_at, is.searched_at);
  drops = λ more. omega arith;
  starts = is.starts;
  passes = is.passes;
  lacks = is.lacks;
}
