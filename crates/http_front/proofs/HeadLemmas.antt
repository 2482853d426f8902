-- A block is a head of the grammar exactly where `head_of` says so.
use Rattle.std.proofs.Common.{ℕ, ◌≡◌, ◌≢◌, ◌<◌, ◌≤◌, ◌+◌, refl, sym, ap, ◌∙◌, subst, List, [], ◌∷◌, ◌++◌, length, zero, suc, Bool, true, false, ◌==◌, nat_le, Option, Some, None, arith, append_assoc, append-nil, length-append, IsTrue, if◌then◌else◌}
use Rattle.std.specs.Bool.{Decides}
use Rattle.std.specs.List.{All, list_all, list_any, before_first, after_first}
use Rattle.std.specs.Str.{IsUtf8, is_utf8}
use Rattle.std.proofs.lemmas.Bool.{or_parts, ne_eqb, false≢true}
use Rattle.std.proofs.lemmas.Bool.Decides.{nat_tests, Decides-and, Decides-ltb, Decides-like, Decides-by_and}
use Rattle.std.proofs.lemmas.List.Elements.{All-head, All-tail}
use Rattle.std.proofs.lemmas.List.Sums.{AllPass-from_list_all, list_all-from_AllPass}
use Rattle.std.proofs.lemmas.Slice.Eq.{bytes_eq-Decides}
use Rattle.std.proofs.lemmas.Str.{IsUtf8-from_is_utf8, is_utf8-from_IsUtf8}
use Rattle.httparse.specs.Grammar.{LineEnd, crlf, lf, print_end, print_blank, print_version, Field, IsField, AllPass, IsToken, is_token, is_token_byte, is_uri_byte, is_value_byte, print_section, RequestHead, IsRequestHead, print_request, ReadsRequest}
use Rattle.httparse.proofs.GrammarLemmas.{print_request-append}
use Rattle.httparse.proofs.PieceLemmas.{space_ends_token, colon_ends_token, token_is_no_newline}
use Rattle.http_front.specs.Front.{blank_in}
use Rattle.http_front.specs.Head.{is_line_feed, is_return, is_space, is_colon, lines_in, text_of, end_of, field_in, section_of_line, section_in, minor_in, head_in, is_field, is_request_head, is_head, head_of, IsHead}
use Rattle.http_front.proofs.Cuts.{Lacks, lacks_from, lacks_append, IsText, return_of, before_stop, after_stop, line_before, line_after, line_lines, line_text, line_end}

-- ---- classes of bytes

token_space : (b : ℕ) → IsTrue (is_token_byte b) → is_space b ≡ false
token_space b token =
    ne_eqb b 32 (λ e. false≢true (sym space_ends_token ∙ subst (λ (v : ℕ). is_token_byte v ≡ true) e token))

token_colon : (b : ℕ) → IsTrue (is_token_byte b) → is_colon b ≡ false
token_colon b token =
    ne_eqb b 58 (λ e. false≢true (sym colon_ends_token ∙ subst (λ (v : ℕ). is_token_byte v ≡ true) e token))

uri_space : (b : ℕ) → IsTrue (is_uri_byte b) → is_space b ≡ false
uri_space b uri = grind (arith, nat_tests)

uri_feed : (b : ℕ) → IsTrue (is_uri_byte b) → is_line_feed b ≡ false
uri_feed b uri = grind (arith, nat_tests)

uri_return : (b : ℕ) → IsTrue (is_uri_byte b) → is_return b ≡ false
uri_return b uri = grind (arith, nat_tests)

value_feed : (b : ℕ) → IsTrue (is_value_byte b) → is_line_feed b ≡ false
value_feed b value = grind (arith, nat_tests)

value_return : (b : ℕ) → IsTrue (is_value_byte b) → is_return b ≡ false
value_return b value = grind (arith, nat_tests)

token_feed : (b : ℕ) → IsTrue (is_token_byte b) → is_line_feed b ≡ false
token_feed b token = (or_parts _ _ (token_is_no_newline b token)).1

token_return : (b : ℕ) → IsTrue (is_token_byte b) → is_return b ≡ false
token_return b token = (or_parts _ _ (token_is_no_newline b token)).0

-- ---- texts of a head

version_minor : (minor : ℕ) → minor ≤ 1 → minor_in (print_version minor) ≡ minor
version_minor zero low = refl
version_minor (suc zero) low = refl
version_minor (suc (suc n)) low = absurd (omega arith)

lacks_computed : (p : ℕ → Bool) (w : List ℕ) → list_any p w ≡ false → Lacks p w
lacks_computed p [] none = tt
lacks_computed p (x ∷ w) none = let both = or_parts (p x) (list_any p w) none in (both.0, lacks_computed p w both.1)

version_text : (minor : ℕ) → minor ≤ 1 → IsText (print_version minor)
version_text zero low = (lacks_computed is_line_feed (print_version 0) refl, lacks_computed is_return (print_version 0) refl)
version_text (suc zero) low = (lacks_computed is_line_feed (print_version 1) refl, lacks_computed is_return (print_version 1) refl)
version_text (suc (suc n)) low = absurd (omega arith)

abbrev pub request_text : RequestHead → List ℕ
request_text h = h.method ++ 32 ∷ (h.target ++ 32 ∷ print_version h.minor)

token_text : (w : List ℕ) → IsToken w → IsText w
token_text w token = (lacks_from is_line_feed _ token_feed w token.1, lacks_from is_return _ token_return w token.1)

uri_text : (w : List ℕ) → AllPass is_uri_byte w → IsText w
uri_text w uri = (lacks_from is_line_feed _ uri_feed w uri, lacks_from is_return _ uri_return w uri)

value_text : (w : List ℕ) → AllPass is_value_byte w → IsText w
value_text w value = (lacks_from is_line_feed _ value_feed w value, lacks_from is_return _ value_return w value)

joined_text : (v w : List ℕ) (b : ℕ) → IsText v → is_line_feed b ≡ false → is_return b ≡ false → IsText w → IsText (v ++ b ∷ w)
joined_text v w b tv feed return tw =
    (lacks_append is_line_feed v (b ∷ w) tv.0 (feed, tw.0), lacks_append is_return v (b ∷ w) tv.1 (return, tw.1))

request_is_text : (h : RequestHead) → IsRequestHead h → IsText (request_text h)
request_is_text h ok =
    joined_text h.method (h.target ++ 32 ∷ print_version h.minor) 32 (token_text h.method ok.method) refl refl
    (joined_text h.target (print_version h.minor) 32 (uri_text h.target ok.target.1) refl refl (version_text h.minor ok.minor))

-- ---- a field line is read back

abbrev field_text : Field → List ℕ
field_text f = f.name ++ 58 ∷ f.raw

field_is_text : (f : Field) → IsField f → IsText (field_text f)
field_is_text f ok = joined_text f.name f.raw 58 (token_text f.name ok.name) refl refl (value_text f.raw ok.raw)

field_back : (f : Field) → IsField f → field_in (field_text f ++ return_of f.end) ≡ f
field_back f ok =
    let text = line_text (field_text f) f.end (field_is_text f ok) in
    let end = line_end (field_text f) f.end (field_is_text f ok) in
    let lacks : Lacks is_colon f.name = lacks_from is_colon _ token_colon f.name ok.name.1 in
    let name = before_stop is_colon f.name 58 f.raw lacks refl in
    let raw = after_stop is_colon f.name 58 f.raw lacks refl in
    same_field _ _ (ap (before_first is_colon) text ∙ name) (ap (after_first is_colon) text ∙ raw) end
  where
    same_field : (f g : Field) → f.name ≡ g.name → f.raw ≡ g.raw → f.end ≡ g.end → f ≡ g
    same_field f g n r e = λ i. record { name = n i; raw = r i; end = e i }

field_shape : (f : Field) (fs : List Field) (last : LineEnd) → print_section (f ∷ fs) last ≡ field_text f ++ (print_end f.end ++ print_section fs last)
field_shape f fs last = simp append_assoc

abbrev with_line : List ℕ → List Field × LineEnd → List Field × LineEnd
with_line line rest = (field_in line ∷ rest.0, rest.1)

abbrev with_end : List ℕ → List Field × LineEnd
with_end line = ([], end_of line)

section_line : (line w : List ℕ) (rest : List Field × LineEnd) → text_of line ≡ w → 0 < length w → section_of_line line rest ≡ with_line line rest
section_line line w rest text some =
    let full : (length w == 0) ≡ false = ne_eqb (length w) 0 (λ e. absurd (omega arith)) in
    rw (text, full) refl

section_back : (fs : List Field) (last : LineEnd) → All IsField fs → section_in (lines_in (print_section fs last)) ≡ (fs, last)
section_back [] crlf all = refl
section_back [] lf all = refl
section_back (f ∷ fs) last all =
    let ok : IsField f = All-head IsField f fs all in
    let rest = section_back fs last (All-tail IsField f fs all) in
    let some : 0 < length (field_text f) = simp length-append (omega arith) in
    let lines = line_lines (field_text f) f.end (print_section fs last) (field_is_text f ok) in
    rw (field_shape f fs last, lines, section_line _ (field_text f) (section_in (lines_in (print_section fs last))) (line_text (field_text f) f.end (field_is_text f ok)) some, rest, field_back f ok) refl

-- ---- a head is read back

pub head_shape : (h : RequestHead) → h.blank ≡ [] → print_request h ++ [] ≡ request_text h ++ (print_end h.line_end ++ print_section h.fields h.last)
head_shape h none = rw (print_request-append h [], none) (simp (append_assoc, append-nil))

same_head : (g h : RequestHead) → g.blank ≡ h.blank → g.method ≡ h.method → g.target ≡ h.target → g.minor ≡ h.minor → g.line_end ≡ h.line_end → g.fields ≡ h.fields → g.last ≡ h.last → g ≡ h
same_head g h b m t v e f l = λ i. record { blank = b i; method = m i; target = t i; minor = v i; line_end = e i; fields = f i; last = l i }

head_back : (block : List ℕ) (h : RequestHead) → IsHead block h → head_in block ≡ h
unfolding head_in
head_back block h is =
    let ok = is.0.0 in
    let shape : block ≡ request_text h ++ (print_end h.line_end ++ print_section h.fields h.last) = is.0.1 ∙ head_shape h is.1 in
    let text = request_is_text h ok in
    let line : before_first is_line_feed block ≡ request_text h ++ return_of h.line_end =
    ap (before_first is_line_feed) shape ∙ line_before (request_text h) h.line_end _ text in
    let rest : after_first is_line_feed block ≡ print_section h.fields h.last =
    ap (after_first is_line_feed) shape ∙ line_after (request_text h) h.line_end _ text in
    let words : text_of (before_first is_line_feed block) ≡ request_text h = ap text_of line ∙ line_text (request_text h) h.line_end text in
    let end : end_of (before_first is_line_feed block) ≡ h.line_end = ap end_of line ∙ line_end (request_text h) h.line_end text in
    let fields : section_in (lines_in (after_first is_line_feed block)) ≡ (h.fields, h.last) =
    ap (λ bytes. section_in (lines_in bytes)) rest ∙ section_back h.fields h.last ok.fields in
    let method_lacks : Lacks is_space h.method = lacks_from is_space _ token_space h.method ok.method.1 in
    let target_lacks : Lacks is_space h.target = lacks_from is_space _ uri_space h.target ok.target.1 in
    let method = before_stop is_space h.method 32 (h.target ++ 32 ∷ print_version h.minor) method_lacks refl in
    let behind = after_stop is_space h.method 32 (h.target ++ 32 ∷ print_version h.minor) method_lacks refl in
    let target = before_stop is_space h.target 32 (print_version h.minor) target_lacks refl in
    let version = after_stop is_space h.target 32 (print_version h.minor) target_lacks refl in
    let tail : after_first is_space (text_of (before_first is_line_feed block)) ≡ h.target ++ 32 ∷ print_version h.minor =
    ap (after_first is_space) words ∙ behind in
    same_head _ h (sym is.1)
    (ap (before_first is_space) words ∙ method)
    (ap (before_first is_space) tail ∙ target)
    (ap minor_in (ap (after_first is_space) tail ∙ version) ∙ version_minor h.minor ok.minor)
    end
    (ap (λ s. s.0) fields)
    (ap (λ s. s.1) fields)

-- ---- tests decide facts

decides_all : (p : ℕ → Bool) (w : List ℕ) → Decides (list_all p w) (AllPass p w)
decides_all p w = (AllPass-from_list_all p w, list_all-from_AllPass p w)

decides_token : (w : List ℕ) → Decides (is_token w) (IsToken w)
decides_token w = Decides-and _ _ (Decides-ltb 0 (length w)) (decides_all is_token_byte w)

decides_field : (f : Field) → Decides (is_field f) (IsField f)
decides_field f = Decides-like _ (λ p. record { name = p.0; raw = p.1 }) (λ ok. (ok.name, ok.raw))
    (Decides-and _ _ (decides_token f.name) (decides_all is_value_byte f.raw))

decides_fields : (fs : List Field) → Decides (list_all is_field fs) (All IsField fs)
decides_fields fs = Decides-by_and is_field IsField (list_all is_field) decides_field refl (λ _ _. refl) fs

decides_utf8 : (w : List ℕ) → Decides (is_utf8 w) (IsUtf8 w)
decides_utf8 w = (IsUtf8-from_is_utf8 w, is_utf8-from_IsUtf8 w)

abbrev Parts : RequestHead → Type 0
Parts h = (((IsToken h.method × ((0 < length h.target) × AllPass is_uri_byte h.target)) × IsUtf8 h.target) × (h.minor ≤ 1)) × All IsField h.fields

decides_minor : (n : ℕ) → Decides (nat_le n 1) (n ≤ 1)
decides_minor n = grind (arith, nat_tests)

decides_parts : (h : RequestHead) → Decides (is_request_head h) (Parts h)
decides_parts h =
    Decides-and _ _ (Decides-and _ _ (Decides-and _ _
    (Decides-and _ _ (decides_token h.method) (Decides-and _ _ (Decides-ltb 0 (length h.target)) (decides_all is_uri_byte h.target)))
    (decides_utf8 h.target))
    (decides_minor h.minor))
    (decides_fields h.fields)

from_parts : (h : RequestHead) → Parts h → IsRequestHead h
from_parts h p = record {
  method = p.0.0.0.0;
  target = p.0.0.0.1;
  target_text = p.0.0.1;
  minor = p.0.1;
  fields = p.1;
}

to_parts : (h : RequestHead) → IsRequestHead h → Parts h
to_parts h ok = ((((ok.method, ok.target), ok.target_text), ok.minor), ok.fields)

decides_head : (h : RequestHead) → Decides (is_request_head h) (IsRequestHead h)
decides_head h = Decides-like (is_request_head h) (from_parts h) (to_parts h) (decides_parts h)

decides_is_head : (block : List ℕ) (h : RequestHead) → Decides (is_head block h) (IsRequestHead h × (print_request h ≡ block))
decides_is_head block h = Decides-and _ _ (decides_head h) (bytes_eq-Decides (print_request h) block)

-- ---- the law

some_if : (t : Bool) (g h : RequestHead) → (if t then Some g else None) ≡ Some h → (t ≡ true) × (g ≡ h)
some_if true g h e = (refl, cc)
some_if false g h e = cc

none_if : (t : Bool) (g : RequestHead) → (if t then Some g else None) ≡ None → t ≡ false
none_if true g e = cc
none_if false g e = refl

blank-head_in : (block : List ℕ) → (head_in block).blank ≡ []
unfolding head_in
blank-head_in block = refl

pub head_of-sound : (block : List ℕ) (h : RequestHead) → head_of block ≡ Some h → IsHead block h
unfolding head_of
head_of-sound block h found =
    let some = some_if (is_head block (head_in block)) (head_in block) h found in
    let is = (decides_is_head block (head_in block)).0 some.0 in
    subst (IsHead block) some.1 ((is.0, sym is.1 ∙ sym (append-nil (print_request (head_in block)))), blank-head_in block)

pub head_of-complete : (block : List ℕ) (h : RequestHead) → IsHead block h → head_of block ≡ Some h
unfolding head_of
head_of-complete block h is =
    let back = head_back block h is in
    let test : is_head block h ≡ true = (decides_is_head block h).1 (is.0.0, sym (is.0.1 ∙ append-nil (print_request h))) in
    rw (back, test) refl

pub head_of-none : (block : List ℕ) → head_of block ≡ None → (h : RequestHead) → ¬ (IsHead block h)
head_of-none block none h is = let e : None ≡ Some h = sym none ∙ head_of-complete block h is in cc

pub head_of-no_head : (block : List ℕ) → ((h : RequestHead) → ¬ (IsHead block h)) → head_of block ≡ None
head_of-no_head block never = by_answer (head_of block) refl
  where
    by_answer : (answer : Option RequestHead) → head_of block ≡ answer → answer ≡ None
    by_answer None is = refl
    by_answer (Some h) is = absurd (never h (head_of-sound block h is))

-- ---- the head of a block that the parser reads

-- a block that is a head is the head that it can be
pub head_of-head_in : (block : List ℕ) (h : RequestHead) → IsHead block h → head_of block ≡ Some (head_in block)
head_of-head_in block h is = head_of-complete block h is ∙ ap Some (sym (head_back block h is))

pub head_in-head : (block : List ℕ) (h : RequestHead) → IsHead block h → head_in block ≡ h
head_in-head block h is = head_back block h is

-- a head has a line for each field, one for the request and the empty one
section_lines : (fs : List Field) (last : LineEnd) → All IsField fs → length (lines_in (print_section fs last)) ≡ length fs + 1
section_lines [] crlf all = refl
section_lines [] lf all = refl
section_lines (f ∷ fs) last all =
    let ok : IsField f = All-head IsField f fs all in
    let rest = section_lines fs last (All-tail IsField f fs all) in
    let lines = line_lines (field_text f) f.end (print_section fs last) (field_is_text f ok) in
    rw (field_shape f fs last, lines) (omega (arith, rest))

pub head_lines : (block : List ℕ) (h : RequestHead) → IsHead block h → length (lines_in block) ≡ length h.fields + 2
head_lines block h is =
    let shape : block ≡ request_text h ++ (print_end h.line_end ++ print_section h.fields h.last) = is.0.1 ∙ head_shape h is.1 in
    let lines = line_lines (request_text h) h.line_end (print_section h.fields h.last) (request_is_text h is.0.0) in
    let section = section_lines h.fields h.last is.0.0.fields in
    rw (shape, lines) (omega (arith, section))

-- bytes that begin with no empty line are read without one
end_blank : (e : LineEnd) (r : List ℕ) → blank_in (lines_in (print_end e ++ r)) ≢ 0
end_blank crlf r e = absurd (omega arith)
end_blank lf r e = absurd (omega arith)

pub no_blank : (block : List ℕ) (h : RequestHead) (rest : List ℕ) → blank_in (lines_in block) ≡ 0 → ReadsRequest block h rest → h.blank ≡ []
no_blank block h rest none reads = by_blank h.blank refl
  where
    by_blank : (blank : List LineEnd) → h.blank ≡ blank → blank ≡ []
    by_blank [] is = refl
    by_blank (e ∷ es) is =
        let tail = h.method ++ 32 ∷ (h.target ++ 32 ∷ (print_version h.minor ++ (print_end h.line_end ++ (print_section h.fields h.last ++ rest)))) in
        let shape : block ≡ print_end e ++ (print_blank es ++ tail) =
        reads.1 ∙ print_request-append h rest ∙ ap (λ blank. print_blank blank ++ tail) is ∙ append_assoc (print_end e) (print_blank es) tail in
        absurd (end_blank e (print_blank es ++ tail) (ap (λ bytes. blank_in (lines_in bytes)) (sym shape) ∙ none))
