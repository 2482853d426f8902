-- Empty lines, lines and the head block at the front of bytes.
use Rattle.std.proofs.Common.{ℕ, ◌≡◌, ◌≢◌, ◌+◌, ◌<◌, ◌≤◌, suc, refl, sym, ap, ◌∙◌, List, [], ◌∷◌, ◌++◌, length, take, drop, Bool, true, false, ◌==◌, Option, Some, None, IfSome, IfNone, cond, arith, nat_eq, drop-drop, take-append-drop}
use Rattle.std.specs.Option.{option_map}
use Rattle.std.specs.List.{starts_with, count_by, position_or_len, position}
use Rattle.std.proofs.lemmas.List.Recursion.{is_count_by}
use Rattle.std.proofs.lemmas.Bool.{ne_eqb, eqb-true, and_parts, false≢true}
use Rattle.http_front.proofs.Cuts.{place_some, place_inside, place_none, drop_past}
use Rattle.http_front.specs.Head.{is_line_feed, onto_line, line_step, lines_in}
use Rattle.http_front.specs.Chunks.{first_len}
use Rattle.http_front.specs.Front.{is_empty_line, blank_step, blank_in, block_in, block_step}

-- ---- empty lines

pub blank_feed : (r : List ℕ) → blank_in (lines_in (10 ∷ r)) ≡ 1 + blank_in (lines_in r)
blank_feed r = omega arith

pub blank_return : (r : List ℕ) → blank_in (lines_in (13 ∷ 10 ∷ r)) ≡ 2 + blank_in (lines_in r)
blank_return r = omega arith

pub blank_other : (b : ℕ) (r : List ℕ) → b ≢ 10 → b ≢ 13 → blank_in (lines_in (b ∷ r)) ≡ 0
blank_other b r feed return = rw (ne_eqb b 10 feed) (by_lines (lines_in r))
  where
    by_lines : (lines : List (List ℕ)) → blank_in (onto_line b lines) ≡ 0
    by_lines [] = refl
    by_lines (line ∷ lines) =
        let full : (length (b ∷ line) == 0) ≡ false = ne_eqb (length (b ∷ line)) 0 (λ e. absurd (omega arith)) in
        rw (full, ne_eqb b 13 return) refl

pub blank_lone : (c : ℕ) (r : List ℕ) → c ≢ 10 → blank_in (lines_in (13 ∷ c ∷ r)) ≡ 0
blank_lone c r feed = rw (ne_eqb c 10 feed) (by_lines (lines_in r))
  where
    by_lines : (lines : List (List ℕ)) → blank_in (onto_line 13 (onto_line c lines)) ≡ 0
    by_lines [] = refl
    by_lines (line ∷ lines) =
        let full : (length (13 ∷ c ∷ line) == 0) ≡ false = ne_eqb (length (13 ∷ c ∷ line)) 0 (λ e. absurd (omega arith)) in
        rw full refl

-- the same by what the bytes start with
pub blank_feed_yes : (xs : List ℕ) → starts_with nat_eq xs (10 ∷ []) ≡ true → blank_in (lines_in xs) ≡ 1 + blank_in (lines_in (drop 1 xs))
blank_feed_yes [] starts = cc
blank_feed_yes (x ∷ xs) starts =
    let same : 10 ≡ x = eqb-true 10 x (and_parts (10 == x) true starts).0 in
    rw (← same) (blank_feed xs)

pub blank_return_yes : (xs : List ℕ) → starts_with nat_eq xs (13 ∷ 10 ∷ []) ≡ true → blank_in (lines_in xs) ≡ 2 + blank_in (lines_in (drop 2 xs))
blank_return_yes [] starts = cc
blank_return_yes (x ∷ []) starts = let both = and_parts (13 == x) false starts in absurd (false≢true both.1)
blank_return_yes (x ∷ y ∷ xs) starts =
    let both = and_parts (13 == x) _ starts in
    let first : 13 ≡ x = eqb-true 13 x both.0 in
    let second : 10 ≡ y = eqb-true 10 y (and_parts (10 == y) true both.1).0 in
    rw (← first, ← second) (blank_return xs)

not_feed : (x : ℕ) (xs : List ℕ) → starts_with nat_eq (x ∷ xs) (10 ∷ []) ≡ false → x ≢ 10
not_feed x xs other e = let wrong : true ≡ false = rw e at other in cc

not_return : (y : ℕ) (xs : List ℕ) → starts_with nat_eq (13 ∷ y ∷ xs) (13 ∷ 10 ∷ []) ≡ false → y ≢ 10
not_return y xs other e = let wrong : true ≡ false = rw e at other in cc

pub blank_neither : (xs : List ℕ) → starts_with nat_eq xs (10 ∷ []) ≡ false → starts_with nat_eq xs (13 ∷ 10 ∷ []) ≡ false → blank_in (lines_in xs) ≡ 0
blank_neither [] feed return = refl
blank_neither (x ∷ []) feed return = rw (ne_eqb x 10 (not_feed x [] feed)) refl
blank_neither (x ∷ y ∷ xs) feed return = by_return (x == 13) refl
  where
    by_return : (t : Bool) → (x == 13) ≡ t → blank_in (lines_in (x ∷ y ∷ xs)) ≡ 0
    by_return true is = let same = eqb-true x 13 is in rw same (blank_lone y xs (not_return y xs (rw same at return)))
    by_return false is = blank_other x (y ∷ xs) (not_feed x (y ∷ xs) feed) (λ e. false≢true (sym is ∙ ap (λ v. v == 13) e))

pub blank_past : (n : ℕ) (xs : List ℕ) → length xs ≤ n → blank_in (lines_in (drop n xs)) ≡ 0
blank_past n xs past = ap (λ ys. blank_in (lines_in ys)) (drop_past n xs past)

-- ---- lines

pub lines_first : (xs : List ℕ) → position_or_len is_line_feed xs < length xs
    → lines_in xs ≡ take (position_or_len is_line_feed xs) xs ∷ lines_in (drop (position_or_len is_line_feed xs + 1) xs)
lines_first [] low = absurd (omega arith)
lines_first (x ∷ xs) low = by_byte (is_line_feed x) refl (lines_first xs)
  where
    by_byte : (t : Bool) → is_line_feed x ≡ t
        → (position_or_len is_line_feed xs < length xs → lines_in xs ≡ take (position_or_len is_line_feed xs) xs ∷ lines_in (drop (position_or_len is_line_feed xs + 1) xs))
        → lines_in (x ∷ xs) ≡ take (position_or_len is_line_feed (x ∷ xs)) (x ∷ xs) ∷ lines_in (drop (position_or_len is_line_feed (x ∷ xs) + 1) (x ∷ xs))
    by_byte true is later = rw is refl
    by_byte false is later =
        let one : 1 + position_or_len is_line_feed xs ≡ suc (position_or_len is_line_feed xs) = omega arith in
        let two : suc (position_or_len is_line_feed xs) + 1 ≡ suc (position_or_len is_line_feed xs + 1) = omega arith in
        let place : position_or_len is_line_feed (x ∷ xs) ≡ suc (position_or_len is_line_feed xs) = rw is one in
        let inside : position_or_len is_line_feed xs < length xs = omega (arith, place) in
        rw (place, two, is, later inside) refl

pub lines_none : (xs : List ℕ) → length xs ≤ position_or_len is_line_feed xs → lines_in xs ≡ []
lines_none [] low = refl
lines_none (x ∷ xs) low = by_byte (is_line_feed x) refl (lines_none xs)
  where
    by_byte : (t : Bool) → is_line_feed x ≡ t → (length xs ≤ position_or_len is_line_feed xs → lines_in xs ≡ []) → lines_in (x ∷ xs) ≡ []
    by_byte true is later =
        let place : position_or_len is_line_feed (x ∷ xs) ≡ 0 = rw is refl in
        absurd (omega (arith, place))
    by_byte false is later =
        let place : position_or_len is_line_feed (x ∷ xs) ≡ 1 + position_or_len is_line_feed xs = rw is refl in
        let inside : length xs ≤ position_or_len is_line_feed xs = omega (arith, place) in
        rw (is, later inside) refl

-- the place of the first LF, if there is one
pub place_within : (xs : List ℕ) (o : Option ℕ) → o ≡ position is_line_feed xs → IfSome o (λ n. n < length xs)
place_within xs None place = tt
place_within xs (Some n) place = rw (place_some is_line_feed xs n place) (place_inside is_line_feed xs n place)

pub place_first : (xs : List ℕ) (o : Option ℕ) → o ≡ position is_line_feed xs → IfSome o (λ n. lines_in xs ≡ take n xs ∷ lines_in (drop (n + 1) xs))
place_first xs None place = tt
place_first xs (Some n) place = rw (place_some is_line_feed xs n place) (lines_first xs (place_inside is_line_feed xs n place))

pub place_last : (xs : List ℕ) (o : Option ℕ) → o ≡ position is_line_feed xs → IfNone o (lines_in xs ≡ [])
place_last xs None place = lines_none xs (place_none is_line_feed xs place)
place_last xs (Some n) place = tt

-- as many lines as LFs
onto_length : (b : ℕ) (lines : List (List ℕ)) → length (onto_line b lines) ≡ length lines
onto_length b [] = refl
onto_length b (line ∷ lines) = refl

step_length : (t : Bool) (b : ℕ) (lines : List (List ℕ)) → length (line_step t b lines) ≡ cond t (1 + length lines) (length lines)
step_length true b lines = omega arith
step_length false b lines = onto_length b lines

pub count_lines : (xs : List ℕ) → length (lines_in xs) ≡ count_by is_line_feed xs
count_lines xs = is_count_by (λ ys. length (lines_in ys)) is_line_feed refl (λ x ys. step_length (is_line_feed x) x (lines_in ys)) xs

-- ---- blocks

pub map_twice : (a b c : ℕ) (o : Option ℕ) → a + b ≡ c → option_map (λ n. a + n) (option_map (λ n. b + n) o) ≡ option_map (λ n. c + n) o
map_twice a b c None e = refl
map_twice a b c (Some n) e = ap Some (omega arith)

-- one line further
pub block_line : (at n len : ℕ) (bytes : List ℕ) (line : List ℕ) → lines_in (drop at bytes) ≡ line ∷ lines_in (drop n (drop at bytes))
    → length line ≡ len → len + 1 ≡ n
    → block_in (lines_in bytes) ≡ option_map (λ k. at + k) (block_in (lines_in (drop at bytes)))
    → (is_empty_line line ≡ true → block_in (lines_in bytes) ≡ Some (at + n))
    × (is_empty_line line ≡ false → block_in (lines_in bytes) ≡ option_map (λ k. (at + n) + k) (block_in (lines_in (drop (at + n) bytes))))
block_line at n len bytes line first long whole passed = (
  λ empty. passed ∙ rw (first, empty) (ap Some (omega arith)),
  λ full. passed ∙ rw (first, full) (map_twice at (length line + 1) (at + n) (block_in (lines_in (drop n (drop at bytes)))) (omega arith)
      ∙ ap (λ ys. option_map (λ k. (at + n) + k) (block_in (lines_in ys))) (drop-drop n at bytes)),
)

-- ---- bytes in part

-- more bytes leave the whole lines that are there
pub lines_more : (a b : List ℕ) → (t : List (List ℕ)) × (lines_in (a ++ b) ≡ lines_in a ++ t)
lines_more [] b = (lines_in b, refl)
lines_more (x ∷ a) b = let rest = lines_more a b in by_byte (is_line_feed x) rest.0 rest.1
  where
    by_byte : (t : Bool) (more : List (List ℕ)) → lines_in (a ++ b) ≡ lines_in a ++ more
        → (s : List (List ℕ)) × (line_step t x (lines_in (a ++ b)) ≡ line_step t x (lines_in a) ++ s)
    by_byte true more is = (more, ap (λ ls. [] ∷ ls) is)
    by_byte false more is = by_lines (lines_in a) (ap (onto_line x) is)
      where
        by_lines : (ls : List (List ℕ)) → onto_line x (lines_in (a ++ b)) ≡ onto_line x (ls ++ more)
            → (s : List (List ℕ)) × (onto_line x (lines_in (a ++ b)) ≡ onto_line x ls ++ s)
        by_lines [] same = (onto_line x more, same)
        by_lines (l ∷ ls) same = (more, same)

blank_front : (ls more : List (List ℕ)) → blank_in (ls ++ more) ≡ 0 → blank_in ls ≡ 0
blank_front [] more none = refl
blank_front (l ∷ ls) more none = by_line (is_empty_line l) none
  where
    by_line : (t : Bool) → blank_step t (length l) (blank_in (ls ++ more)) ≡ 0 → blank_step t (length l) (blank_in ls) ≡ 0
    by_line true none = absurd (omega arith)
    by_line false none = refl

pub blank_taken : (n : ℕ) (xs : List ℕ) → blank_in (lines_in xs) ≡ 0 → blank_in (lines_in (take n xs)) ≡ 0
blank_taken n xs none =
    let more = lines_more (take n xs) (drop n xs) in
    let whole : xs ≡ take n xs ++ drop n xs = sym (take-append-drop n xs) in
    blank_front (lines_in (take n xs)) more.0 (sym (ap blank_in (ap lines_in whole ∙ more.1)) ∙ none)

-- behind the empty lines there is none
abbrev IsPassed : List ℕ → Type 0
IsPassed xs = blank_in (lines_in (drop (blank_in (lines_in xs)) xs)) ≡ 0

passed_step : (xs : List ℕ) (t u : Bool) → starts_with nat_eq xs (10 ∷ []) ≡ t → starts_with nat_eq xs (13 ∷ 10 ∷ []) ≡ u
    → IsPassed (drop 1 xs) → IsPassed (drop 2 xs) → IsPassed xs
passed_step xs true u feed return one two =
    let n = blank_in (lines_in (drop 1 xs)) in
    let whole : drop (blank_in (lines_in xs)) xs ≡ drop n (drop 1 xs) =
    ap (λ k. drop k xs) (blank_feed_yes xs feed) ∙ sym (drop-drop n 1 xs) in
    ap (λ ys. blank_in (lines_in ys)) whole ∙ one
passed_step xs false true feed return one two =
    let n = blank_in (lines_in (drop 2 xs)) in
    let whole : drop (blank_in (lines_in xs)) xs ≡ drop n (drop 2 xs) =
    ap (λ k. drop k xs) (blank_return_yes xs return) ∙ sym (drop-drop n 2 xs) in
    ap (λ ys. blank_in (lines_in ys)) whole ∙ two
passed_step xs false false feed return one two =
    let none = blank_neither xs feed return in ap (λ k. blank_in (lines_in (drop k xs))) none ∙ none

pub blank_dropped : (xs : List ℕ) → blank_in (lines_in (drop (blank_in (lines_in xs)) xs)) ≡ 0
blank_dropped [] = refl
blank_dropped (x ∷ []) = passed_step (x ∷ []) _ _ refl refl refl refl
blank_dropped (x ∷ y ∷ ys) = passed_step (x ∷ y ∷ ys) _ _ refl refl (blank_dropped (y ∷ ys)) (blank_dropped ys)

-- the empty lines at the front stand there before whatever follows
abbrev ArePassed : List ℕ → Type 0
ArePassed xs = (more : List ℕ)
    → blank_in (lines_in (take (blank_in (lines_in xs)) xs ++ more)) ≡ blank_in (lines_in xs) + blank_in (lines_in more)

taken_step : (xs : List ℕ) (t u : Bool) → starts_with nat_eq xs (10 ∷ []) ≡ t → starts_with nat_eq xs (13 ∷ 10 ∷ []) ≡ u
    → ArePassed (drop 1 xs) → ArePassed (drop 2 xs) → ArePassed xs
taken_step [] true u feed return one two more = cc
taken_step (x ∷ xs) true u feed return one two more =
    let n = blank_in (lines_in xs) in
    let same : 10 ≡ x = eqb-true 10 x (and_parts (10 == x) true feed).0 in
    let all : blank_in (lines_in (x ∷ xs)) ≡ suc n = blank_feed_yes (x ∷ xs) feed ∙ omega arith in
    let rest : blank_in (lines_in (take n xs ++ more)) ≡ n + blank_in (lines_in more) = one more in
    rw (all, ← same) (blank_feed (take n xs ++ more) ∙ omega (arith, rest))
taken_step [] false true feed return one two more = cc
taken_step (x ∷ []) false true feed return one two more = let both = and_parts (13 == x) false return in absurd (false≢true both.1)
taken_step (x ∷ y ∷ xs) false true feed return one two more =
    let n = blank_in (lines_in xs) in
    let both = and_parts (13 == x) _ return in
    let first : 13 ≡ x = eqb-true 13 x both.0 in
    let second : 10 ≡ y = eqb-true 10 y (and_parts (10 == y) true both.1).0 in
    let all : blank_in (lines_in (x ∷ y ∷ xs)) ≡ suc (suc n) = blank_return_yes (x ∷ y ∷ xs) return ∙ omega arith in
    let rest : blank_in (lines_in (take n xs ++ more)) ≡ n + blank_in (lines_in more) = two more in
    rw (all, ← first, ← second) (blank_return (take n xs ++ more) ∙ omega (arith, rest))
taken_step xs false false feed return one two more =
    let none = blank_neither xs feed return in
    rw none (omega arith)

pub blank_passed : (xs : List ℕ) → ArePassed xs
blank_passed [] = λ more. omega arith
blank_passed (x ∷ []) = taken_step (x ∷ []) _ _ refl refl (λ more. omega arith) (λ more. omega arith)
blank_passed (x ∷ y ∷ ys) = taken_step (x ∷ y ∷ ys) _ _ refl refl (blank_passed (y ∷ ys)) (blank_passed ys)

-- ---- a block lies in its bytes

abbrev total : List (List ℕ) → ℕ
total [] = 0
total (line ∷ lines) = length line + 1 + total lines

total_fits : (xs : List ℕ) → total (lines_in xs) ≤ length xs
total_fits [] = omega arith
total_fits (x ∷ xs) = by_byte (is_line_feed x) (lines_in xs) (total_fits xs)
  where
    by_byte : (t : Bool) (lines : List (List ℕ)) → total lines ≤ length xs → total (line_step t x lines) ≤ length (x ∷ xs)
    by_byte true lines low = omega arith
    by_byte false [] low = omega arith
    by_byte false (line ∷ lines) low = omega arith

block_total : (lines : List (List ℕ)) → IfSome (block_in lines) (λ n. n ≤ total lines)
block_total [] = tt
block_total (line ∷ lines) = by_line (is_empty_line line) (block_in lines) (block_total lines)
  where
    by_line : (t : Bool) (o : Option ℕ) → IfSome o (λ n. n ≤ total lines) → IfSome (block_step t (length line) o) (λ n. n ≤ length line + 1 + total lines)
    by_line true o low = omega arith
    by_line false None low = tt
    by_line false (Some n) low = omega arith

pub block_within : (xs : List ℕ) (n : ℕ) → block_in (lines_in xs) ≡ Some n → n ≤ length xs
block_within xs n is =
    let low : n ≤ total (lines_in xs) = rw is at (block_total (lines_in xs)) in
    let fits = total_fits xs in
    omega (arith, low, fits)

-- so do the empty lines
blank_total : (lines : List (List ℕ)) → blank_in lines ≤ total lines
blank_total [] = omega arith
blank_total (line ∷ lines) = by_line (is_empty_line line) (blank_total lines)
  where
    by_line : (t : Bool) → blank_in lines ≤ total lines → blank_step t (length line) (blank_in lines) ≤ length line + 1 + total lines
    by_line true low = omega arith
    by_line false low = omega arith

pub blank_within : (xs : List ℕ) → blank_in (lines_in xs) ≤ length xs
blank_within xs = let low = blank_total (lines_in xs) in let fits = total_fits xs in omega (arith, low, fits)

-- and so does the first line
pub line_within : (xs : List ℕ) (n : ℕ) → first_len (lines_in xs) ≡ Some n → n ≤ length xs
line_within xs n is = by_lines (lines_in xs) (total_fits xs) is
  where
    by_lines : (lines : List (List ℕ)) → total lines ≤ length xs → first_len lines ≡ Some n → n ≤ length xs
    by_lines [] low is = absurd (cc)
    by_lines (line ∷ lines) low is = let same : length line + 1 ≡ n = cc in omega (arith, low, same)
