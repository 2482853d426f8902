-- A line is a chunk's size line of the grammar exactly where `chunk_size_of` says so.
use Rattle.std.proofs.Common.{ℕ, ◌≡◌, ◌<◌, ◌≤◌, refl, sym, ap, ◌∙◌, List, [], ◌∷◌, ◌++◌, length, drop, Bool, true, false, ◌||◌, nat_le, Option, Some, None, arith, append-nil, IsTrue, if◌then◌else◌}
use Rattle.std.specs.Bool.{Decides}
use Rattle.std.specs.List.{list_all, list_any, before_first}
use Rattle.std.specs.Char.{is_ascii_hexdigit}
use Rattle.std.proofs.lemmas.Bool.Decides.{nat_tests, Decides-and, Decides-ltb, Decides-like}
use Rattle.std.proofs.lemmas.List.Elements.{All-head}
use Rattle.std.proofs.lemmas.List.Sums.{AllPass-from_list_all, list_all-from_AllPass}
use Rattle.std.proofs.lemmas.Slice.Eq.{bytes_eq-Decides}
use Rattle.httparse.specs.Grammar.{AllPass, is_ows, ChunkLine, print_extension, is_extension_byte, IsExtension, chunk_size, print_chunk_line, IsChunkLine, ReadsChunkLine, HasNoChunkLine, NeverHasChunkLine}
use Rattle.httparse.specs.Spans.{IsChunkLineAt}
use Rattle.httparse.proofs.ChunkLemmas.{chunk_line_unique}
use Rattle.http_front.specs.Head.{is_return, text_of}
use Rattle.http_front.specs.ChunkLine.{is_semicolon, extension_in, chunk_line_from, chunk_line_in, is_extension, is_chunk_line, is_line, chunk_size_of}
use Rattle.http_front.proofs.Cuts.{Lacks, lacks_from, lacks_append, before_stop, after_stop, before_none, any_none}

-- ---- classes of bytes

digit_ows : (b : ℕ) → IsTrue (is_ascii_hexdigit b) → is_ows b ≡ false
digit_ows b digit = grind (arith, nat_tests)

digit_semicolon : (b : ℕ) → IsTrue (is_ascii_hexdigit b) → is_semicolon b ≡ false
digit_semicolon b digit = grind (arith, nat_tests)

digit_return : (b : ℕ) → IsTrue (is_ascii_hexdigit b) → is_return b ≡ false
digit_return b digit = grind (arith, nat_tests)

ows_semicolon : (b : ℕ) → IsTrue (is_ows b) → is_semicolon b ≡ false
ows_semicolon b ows = grind (arith, nat_tests)

ows_return : (b : ℕ) → IsTrue (is_ows b) → is_return b ≡ false
ows_return b ows = grind (arith, nat_tests)

extension_return : (b : ℕ) → IsTrue (is_extension_byte b) → is_return b ≡ false
extension_return b extension = grind (arith, nat_tests)

-- ---- a line is read back

any_stop : (p : ℕ → Bool) (w : List ℕ) (x : ℕ) (r : List ℕ) → p x ≡ true → list_any p (w ++ x ∷ r) ≡ true
any_stop p [] x r stop = rw stop refl
any_stop p (y ∷ w) x r stop = rw (any_stop p w x r stop) (or_true (p y))
  where
    or_true : (b : Bool) → (b || true) ≡ true
    or_true true = refl
    or_true false = refl

drop_seam : (w ys : List ℕ) → drop (length w) (w ++ ys) ≡ ys
drop_seam [] ys = refl
drop_seam (x ∷ w) ys = drop_seam w ys

-- the digits before the white space
digits_before : (digits pad : List ℕ) → Lacks is_ows digits → AllPass is_ows pad → before_first is_ows (digits ++ pad) ≡ digits
digits_before digits [] none all = ap (before_first is_ows) (append-nil digits) ∙ before_none is_ows digits none
digits_before digits (p ∷ pad) none all = before_stop is_ows digits p pad none (All-head (λ b. IsTrue (is_ows b)) p pad all)

same_line : (g l : ChunkLine) → g.digits ≡ l.digits → g.pad ≡ l.pad → g.extension ≡ l.extension → g ≡ l
same_line g l d p e = λ i. record { digits = d i; pad = p i; extension = e i }

line_from : (l : ChunkLine) → Lacks is_ows l.digits → AllPass is_ows l.pad → chunk_line_from (l.digits ++ l.pad) l.extension ≡ l
line_from l none all =
    let digits = digits_before l.digits l.pad none all in
    same_line (chunk_line_from (l.digits ++ l.pad) l.extension) l digits
    (ap (λ w. drop (length w) (l.digits ++ l.pad)) digits ∙ drop_seam l.digits l.pad)
    refl

-- the size's text and the extension behind it
before_extension : (w : List ℕ) (e : Option (List ℕ)) → Lacks is_semicolon w → before_first is_semicolon (w ++ print_extension e) ≡ w
before_extension w None none = ap (before_first is_semicolon) (append-nil w) ∙ before_none is_semicolon w none
before_extension w (Some text) none = before_stop is_semicolon w 59 text none refl

extension_back : (w : List ℕ) (e : Option (List ℕ)) → Lacks is_semicolon w → extension_in (w ++ print_extension e) ≡ e
extension_back w None none =
    let no : list_any is_semicolon (w ++ []) ≡ false = ap (list_any is_semicolon) (append-nil w) ∙ any_none is_semicolon w none in
    rw no refl
extension_back w (Some text) none = rw (any_stop is_semicolon w 59 text refl) (ap Some (after_stop is_semicolon w 59 text none refl))

extension_lacks : (e : Option (List ℕ)) → IsExtension e → Lacks is_return (print_extension e)
extension_lacks None all = tt
extension_lacks (Some text) all = (refl, lacks_from is_return _ extension_return text all)

line_back : (line : List ℕ) (l : ChunkLine) → ReadsChunkLine line l [] → chunk_line_in line ≡ l
unfolding chunk_line_in print_chunk_line
line_back line l reads =
    let ok = reads.0 in
    let w = l.digits ++ l.pad in
    let no_semicolon = lacks_append is_semicolon l.digits l.pad (lacks_from is_semicolon _ digit_semicolon l.digits ok.digits.2) (lacks_from is_semicolon _ ows_semicolon l.pad ok.pad) in
    let no_return = lacks_append is_return w (print_extension l.extension)
    (lacks_append is_return l.digits l.pad (lacks_from is_return _ digit_return l.digits ok.digits.2) (lacks_from is_return _ ows_return l.pad ok.pad))
    (extension_lacks l.extension ok.extension) in
    let shape : line ≡ (w ++ print_extension l.extension) ++ 13 ∷ 10 ∷ [] = reads.1 ∙ append-nil _ in
    let text : text_of line ≡ w ++ print_extension l.extension =
    ap text_of shape ∙ before_stop is_return (w ++ print_extension l.extension) 13 (10 ∷ []) no_return refl in
    let size : before_first is_semicolon (text_of line) ≡ w = ap (before_first is_semicolon) text ∙ before_extension w l.extension no_semicolon in
    let extension : extension_in (text_of line) ≡ l.extension = ap extension_in text ∙ extension_back w l.extension no_semicolon in
    (λ i. chunk_line_from (size i) (extension i)) ∙ line_from l (lacks_from is_ows _ digit_ows l.digits ok.digits.2) ok.pad

-- ---- tests decide facts

decides_all : (p : ℕ → Bool) (w : List ℕ) → Decides (list_all p w) (AllPass p w)
decides_all p w = (AllPass-from_list_all p w, list_all-from_AllPass p w)

decides_extension : (e : Option (List ℕ)) → Decides (is_extension e) (IsExtension e)
decides_extension None = (λ _. tt, λ _. refl)
decides_extension (Some text) = decides_all is_extension_byte text

decides_few : (n : ℕ) → Decides (nat_le n 16) (n ≤ 16)
decides_few n = grind (arith, nat_tests)

abbrev Parts : ChunkLine → Type 0
Parts l = (((0 < length l.digits) × ((length l.digits ≤ 16) × AllPass is_ascii_hexdigit l.digits)) × AllPass is_ows l.pad) × IsExtension l.extension

decides_parts : (l : ChunkLine) → Decides (is_chunk_line l) (Parts l)
decides_parts l =
    Decides-and _ _ (Decides-and _ _
    (Decides-and _ _ (Decides-ltb 0 (length l.digits)) (Decides-and _ _ (decides_few (length l.digits)) (decides_all is_ascii_hexdigit l.digits)))
    (decides_all is_ows l.pad))
    (decides_extension l.extension)

decides_line : (line : List ℕ) (l : ChunkLine) → Decides (is_line line l) (IsChunkLine l × (print_chunk_line l ≡ line))
decides_line line l =
    Decides-and _ _
    (Decides-like (is_chunk_line l) (λ p. record { digits = (p.0.0.0, p.0.0.1.0, p.0.0.1.1); pad = p.0.1; extension = p.1 }) (λ ok. (((ok.digits.0, (ok.digits.1, ok.digits.2)), ok.pad), ok.extension)) (decides_parts l))
    (bytes_eq-Decides (print_chunk_line l) line)

-- ---- the law

pub chunk_size-reads : (line : List ℕ) (l : ChunkLine) → ReadsChunkLine line l [] → chunk_size_of line ≡ Some (chunk_size l)
unfolding chunk_size_of
chunk_size-reads line l reads =
    let back = line_back line l reads in
    let test : is_line line l ≡ true = (decides_line line l).1 (reads.0, sym (reads.1 ∙ append-nil (print_chunk_line l))) in
    rw (back, test) refl

pub chunk_size-found : (line : List ℕ) (size : ℕ) → chunk_size_of line ≡ Some size → (l : ChunkLine) × ReadsChunkLine line l [] × (chunk_size l ≡ size)
unfolding chunk_size_of
chunk_size-found line size found = by_test (is_line line (chunk_line_in line)) refl found
  where
    by_test : (t : Bool) → is_line line (chunk_line_in line) ≡ t → (if t then Some (chunk_size (chunk_line_in line)) else None) ≡ Some size
        → (l : ChunkLine) × ReadsChunkLine line l [] × (chunk_size l ≡ size)
    by_test true test same =
        let is = (decides_line line (chunk_line_in line)).0 test in
        (chunk_line_in line, (is.0, sym is.1 ∙ sym (append-nil (print_chunk_line (chunk_line_in line)))), cc)
    by_test false test same = absurd (cc)

pub chunk_size-none : (line : List ℕ) → ((l : ChunkLine) → ¬ (ReadsChunkLine line l [])) → chunk_size_of line ≡ None
chunk_size-none line never = by_answer (chunk_size_of line) refl
  where
    by_answer : (answer : Option ℕ) → chunk_size_of line ≡ answer → answer ≡ None
    by_answer None is = refl
    by_answer (Some size) is = let found = chunk_size-found line size is in absurd (never found.0 found.1)

-- ---- the line that the parser reads

-- a line that takes all bytes
pub size_whole : (line : List ℕ) (len size : ℕ) (l : ChunkLine) → IsChunkLineAt line len size l → len ≡ length line → Some size ≡ chunk_size_of line
size_whole line len size l at all =
    let rest : drop len line ≡ [] = ap (λ n. drop n line) all ∙ drop_all line in
    ap Some at.size_is ∙ sym (chunk_size-reads line l (rw (← rest) at.reads))
  where
    drop_all : (xs : List ℕ) → drop (length xs) xs ≡ []
    drop_all [] = refl
    drop_all (x ∷ xs) = drop_all xs

-- a line that leaves some
pub size_part : (line : List ℕ) (len size : ℕ) (l : ChunkLine) → IsChunkLineAt line len size l → (len ≡ length line → ⊥) → None ≡ chunk_size_of line
size_part line len size l at part = sym (chunk_size-none line (λ k reads.
    let same : l ≡ k = (chunk_line_unique line l k (drop len line) [] at.reads reads).0 in
    part (at.len_is ∙ ap (λ m. length (print_chunk_line m)) same ∙ ap length (sym (reads.1 ∙ append-nil (print_chunk_line k))))))

-- none that begins the bytes, nor what they begin
pub size_open : (line : List ℕ) → HasNoChunkLine line → None ≡ chunk_size_of line
size_open line never = sym (chunk_size-none line (λ k reads. never k [] reads))

pub size_never : (line : List ℕ) → NeverHasChunkLine line → None ≡ chunk_size_of line
size_never line never = sym (chunk_size-none line (λ k reads. never [] k [] (reads.0, append-nil line ∙ reads.1)))
