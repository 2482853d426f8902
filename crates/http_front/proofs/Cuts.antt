-- A list cut at the first byte that passes a test, and bytes cut into lines.
use Rattle.std.proofs.Common.{ℕ, ◌≡◌, ◌+◌, suc, refl, sym, ap, List, [], ◌∷◌, ◌++◌, length, take, drop, Bool, true, false, ◌||◌, ◌<◌, ◌≤◌, zero, nat_lt, cond, Some, None, ltb-true, ltb-false, arith, append_assoc, append-nil}
use Rattle.std.specs.List.{All, AllByRecursion, list_any, before_first, after_first, position, position_or_len}
use Rattle.std.proofs.lemmas.List.Elements.{recursion_from_All, All-weaker}
use Rattle.httparse.specs.Grammar.{LineEnd, crlf, lf, print_end}
use Rattle.http_front.specs.Head.{is_line_feed, is_return, lines_in, text_of, end_of}

-- no byte of the list passes the test
abbrev pub Lacks : (ℕ → Bool) → List ℕ → Type 0
Lacks p w = AllByRecursion (λ b. p b ≡ false) w

pub lacks_from : (p : ℕ → Bool) (P : ℕ → Type 0) → ((b : ℕ) → P b → p b ≡ false) → (w : List ℕ) → All P w → Lacks p w
lacks_from p P fails w all = recursion_from_All _ w (All-weaker P (λ b. p b ≡ false) fails w all)

pub lacks_append : (p : ℕ → Bool) (v w : List ℕ) → Lacks p v → Lacks p w → Lacks p (v ++ w)
lacks_append p [] w a b = b
lacks_append p (x ∷ v) w a b = (a.0, lacks_append p v w a.1 b)

position_stop : (p : ℕ → Bool) (w : List ℕ) (x : ℕ) (r : List ℕ) → Lacks p w → p x ≡ true → position_or_len p (w ++ x ∷ r) ≡ length w
position_stop p [] x r none stop = rw stop refl
position_stop p (y ∷ w) x r none stop = let e = position_stop p w x r none.1 stop in rw none.0 (omega (arith, e))

position_none : (p : ℕ → Bool) (w : List ℕ) → Lacks p w → position_or_len p w ≡ length w
position_none p [] none = refl
position_none p (y ∷ w) none = let e = position_none p w none.1 in rw none.0 (omega (arith, e))

take_all : (w : List ℕ) → take (length w) w ≡ w
take_all [] = refl
take_all (x ∷ w) = ap (λ v. x ∷ v) (take_all w)

pub take_seam : (w ys : List ℕ) → take (length w) (w ++ ys) ≡ w
take_seam [] ys = refl
take_seam (x ∷ w) ys = ap (λ v. x ∷ v) (take_seam w ys)

drop_behind : (w : List ℕ) (x : ℕ) (r : List ℕ) → drop (length w + 1) (w ++ x ∷ r) ≡ r
drop_behind [] x r = refl
drop_behind (y ∷ w) x r = let e : suc (length w) + 1 ≡ suc (length w + 1) = omega arith in rw e (drop_behind w x r)

pub before_stop : (p : ℕ → Bool) (w : List ℕ) (x : ℕ) (r : List ℕ) → Lacks p w → p x ≡ true → before_first p (w ++ x ∷ r) ≡ w
before_stop p w x r none stop = rw (position_stop p w x r none stop) (take_seam w (x ∷ r))

pub after_stop : (p : ℕ → Bool) (w : List ℕ) (x : ℕ) (r : List ℕ) → Lacks p w → p x ≡ true → after_first p (w ++ x ∷ r) ≡ r
after_stop p w x r none stop = rw (position_stop p w x r none stop) (drop_behind w x r)

pub before_none : (p : ℕ → Bool) (w : List ℕ) → Lacks p w → before_first p w ≡ w
before_none p w none = rw (position_none p w none) (take_all w)

pub any_none : (p : ℕ → Bool) (w : List ℕ) → Lacks p w → list_any p w ≡ false
any_none p [] none = refl
any_none p (x ∷ w) none = rw none.0 (any_none p w none.1)

any_last : (p : ℕ → Bool) (w : List ℕ) (x : ℕ) → p x ≡ true → list_any p (w ++ x ∷ []) ≡ true
any_last p [] x stop = rw stop refl
any_last p (y ∷ w) x stop = rw (any_last p w x stop) (or_true (p y))
  where
    or_true : (b : Bool) → (b || true) ≡ true
    or_true true = refl
    or_true false = refl

-- a line's text, and what stands behind its LF
pub lines_at : (w r : List ℕ) → Lacks is_line_feed w → lines_in (w ++ 10 ∷ r) ≡ w ∷ lines_in r
lines_at [] r none = refl
lines_at (x ∷ w) r none = rw (none.0, lines_at w r none.1) refl

pub lines_none : (w : List ℕ) → Lacks is_line_feed w → lines_in w ≡ []
lines_none [] none = refl
lines_none (x ∷ w) none = rw (none.0, lines_none w none.1) refl

-- the CR of a line end, if it has one
abbrev pub return_of : LineEnd → List ℕ
return_of crlf = 13 ∷ []
return_of lf = []

-- a text without CR and LF
abbrev pub IsText : List ℕ → Type 0
IsText w = Lacks is_line_feed w × Lacks is_return w

pub line_shape : (w : List ℕ) (e : LineEnd) (r : List ℕ) → w ++ (print_end e ++ r) ≡ (w ++ return_of e) ++ 10 ∷ r
line_shape w crlf r = sym (append_assoc w (13 ∷ []) (10 ∷ r))
line_shape w lf r = rw append-nil refl

line_lacks : (w : List ℕ) (e : LineEnd) → IsText w → Lacks is_line_feed (w ++ return_of e)
line_lacks w crlf t = lacks_append is_line_feed w (13 ∷ []) t.0 (refl, tt)
line_lacks w lf t = lacks_append is_line_feed w [] t.0 tt

pub line_before : (w : List ℕ) (e : LineEnd) (r : List ℕ) → IsText w → before_first is_line_feed (w ++ (print_end e ++ r)) ≡ w ++ return_of e
line_before w e r t = rw (line_shape w e r) (before_stop is_line_feed (w ++ return_of e) 10 r (line_lacks w e t) refl)

pub line_after : (w : List ℕ) (e : LineEnd) (r : List ℕ) → IsText w → after_first is_line_feed (w ++ (print_end e ++ r)) ≡ r
line_after w e r t = rw (line_shape w e r) (after_stop is_line_feed (w ++ return_of e) 10 r (line_lacks w e t) refl)

pub line_lines : (w : List ℕ) (e : LineEnd) (r : List ℕ) → IsText w → lines_in (w ++ (print_end e ++ r)) ≡ (w ++ return_of e) ∷ lines_in r
line_lines w e r t = rw (line_shape w e r) (lines_at (w ++ return_of e) r (line_lacks w e t))

pub line_text : (w : List ℕ) (e : LineEnd) → IsText w → text_of (w ++ return_of e) ≡ w
line_text w crlf t = before_stop is_return w 13 [] t.1 refl
line_text w lf t = rw append-nil (before_none is_return w t.1)

pub line_end : (w : List ℕ) (e : LineEnd) → IsText w → end_of (w ++ return_of e) ≡ e
line_end w crlf t = rw (any_last is_return w 13 refl) refl
line_end w lf t = rw (append-nil, any_none is_return w t.1) refl

-- the place of the first byte that passes a test, if there is one
some_if : (t : Bool) (k n : ℕ) → Some n ≡ cond t (Some k) None → (n ≡ k) × (t ≡ true)
some_if true k n place = (cc, refl)
some_if false k n place = absurd (cc)

none_if : (t : Bool) (k : ℕ) → None ≡ cond t (Some k) None → t ≡ false
none_if true k place = cc
none_if false k place = refl

pub place_some : (p : ℕ → Bool) (xs : List ℕ) (n : ℕ) → Some n ≡ position p xs → n ≡ position_or_len p xs
place_some p xs n place = (some_if (nat_lt (position_or_len p xs) (length xs)) (position_or_len p xs) n place).0

pub place_inside : (p : ℕ → Bool) (xs : List ℕ) (n : ℕ) → Some n ≡ position p xs → position_or_len p xs < length xs
place_inside p xs n place = ltb-true _ _ (some_if (nat_lt (position_or_len p xs) (length xs)) (position_or_len p xs) n place).1

pub place_none : (p : ℕ → Bool) (xs : List ℕ) → None ≡ position p xs → length xs ≤ position_or_len p xs
place_none p xs place = ltb-false _ _ (none_if (nat_lt (position_or_len p xs) (length xs)) (position_or_len p xs) place)

pub drop_past : (n : ℕ) (xs : List ℕ) → length xs ≤ n → drop n xs ≡ []
drop_past zero [] past = refl
drop_past (suc n) [] past = refl
drop_past zero (x ∷ xs) past = absurd (omega arith)
drop_past (suc n) (x ∷ xs) past = drop_past n xs (omega arith)
