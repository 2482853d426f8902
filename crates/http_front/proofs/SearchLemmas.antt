-- The search for the end of a head, and what it means for the unit.
use Rattle.std.proofs.Common.{ℕ, ◌≡◌, ◌≢◌, ◌+◌, ◌-◌, ◌<◌, ◌≤◌, zero, suc, refl, sym, ap, ◌∙◌, List, [], ◌∷◌, ◌++◌, length, take, drop, Bool, true, false, nat_lt, Option, Some, None, arith, append_assoc, append-nil, length-append, length-take-le, take-append-drop}
use lib.Seq.{drop-append_seam, take-append_seam}
use Rattle.std.specs.Prelude.{slice_index}
use Rattle.std.specs.Option.{option_map}
use Rattle.std.specs.List.{position, position_or_len}
use Rattle.std.proofs.lemmas.Bool.{eqb-true}
use Rattle.std.proofs.lemmas.Bool.Decides.{nat_tests}
use Rattle.memchr.specs.Find.{Nowhere, NoneBefore, Passes, IsFirstByte, is_byte}
use Rattle.http_front.specs.declared.search.Search.{Search}
use Rattle.http_front.specs.Head.{is_line_feed, lines_in}
use Rattle.http_front.specs.Front.{unready, is_empty_line, blank_step, blank_in, block_step, block_in, blank_len, block_len, front_found, front_of, is_ready, head_begun}
use Rattle.unit_types.specs.Limits.{head_limit}
use Rattle.http_front.specs.NextUnit.{wait, plainly, front_unit, next_unit}
use Rattle.http_front.specs.Progress.{IsSearched}
use Rattle.http_front.proofs.Cuts.{Lacks, lacks_append, lines_at, lines_none, place_some, place_inside, place_none}
use Rattle.http_front.proofs.BlockLemmas.{lines_more, map_twice, blank_passed, blank_within}
use Rattle.http_front.proofs.FrontStays.{block_more}
use Rattle.http_front.proofs.FoundLemmas.{found_short}

-- ---- the place of the first LF

place_all : (p : ℕ → Bool) (xs : List ℕ) → Nowhere (Passes p xs) 0 (length xs) → position_or_len p xs ≡ length xs
place_all p [] none = refl
place_all p (x ∷ xs) none = by_test (p x) refl (place_all p xs (λ k low high passes. none (suc k) (omega arith) (omega (arith, high)) passes))
  where
    by_test : (t : Bool) → p x ≡ t → position_or_len p xs ≡ length xs → position_or_len p (x ∷ xs) ≡ length (x ∷ xs)
    by_test true is later = absurd (none 0 (omega arith) (omega arith) is)
    by_test false is later = rw is (omega (arith, later))

place_at : (p : ℕ → Bool) (xs : List ℕ) (k : ℕ) → NoneBefore (Passes p xs) 0 (length xs) k → p (slice_index xs k) ≡ true → position_or_len p xs ≡ k
place_at p [] k before is = absurd (omega (arith, before.high))
place_at p (x ∷ xs) zero before is = rw is refl
place_at p (x ∷ xs) (suc k) before is =
    by_test (p x) refl (place_at p xs k (record {
      low = omega arith;
      high = omega (arith, before.high);
      before = λ j low high passes. before.before (suc j) (omega arith) (omega (arith, high)) passes;
    }) is)
  where
    by_test : (t : Bool) → p x ≡ t → position_or_len p xs ≡ k → position_or_len p (x ∷ xs) ≡ suc k
    by_test true first later = absurd (before.before 0 (omega arith) (omega arith) first)
    by_test false first later = rw first (omega (arith, later))

pub first_feed : (bytes : List ℕ) (o : Option ℕ) → IsFirstByte (is_byte 10) bytes o → o ≡ position is_line_feed bytes
first_feed bytes None none =
    let place = place_all is_line_feed bytes none in
    let test : nat_lt (length bytes) (length bytes) ≡ false = grind (arith, nat_tests) in
    rw (place, test) refl
first_feed bytes (Some k) first =
    let place = place_at is_line_feed bytes k first.0 first.1 in
    let test : nat_lt k (length bytes) ≡ true = grind (arith, nat_tests, first.0.high) in
    rw (place, test) refl

-- bytes with an LF: what stands before the first one lacks it
feed_split : (xs : List ℕ) → position_or_len is_line_feed xs < length xs
    → (w : List ℕ) × (r : List ℕ) × (xs ≡ w ++ 10 ∷ r) × (position_or_len is_line_feed xs ≡ length w) × Lacks is_line_feed w
feed_split [] low = absurd (omega arith)
feed_split (x ∷ xs) low = by_byte (is_line_feed x) refl (feed_split xs)
  where
    by_byte : (t : Bool) → is_line_feed x ≡ t
        → (position_or_len is_line_feed xs < length xs
        → (w : List ℕ) × (r : List ℕ) × (xs ≡ w ++ 10 ∷ r) × (position_or_len is_line_feed xs ≡ length w) × Lacks is_line_feed w)
        → (w : List ℕ) × (r : List ℕ) × (x ∷ xs ≡ w ++ 10 ∷ r) × (position_or_len is_line_feed (x ∷ xs) ≡ length w) × Lacks is_line_feed w
    by_byte true is later = ([], xs, ap (λ b. b ∷ xs) (eqb-true x 10 is), rw is refl, tt)
    by_byte false is later =
        let place : position_or_len is_line_feed (x ∷ xs) ≡ 1 + position_or_len is_line_feed xs = rw is refl in
        let rest = later (omega (arith, place, low)) in
        (x ∷ rest.0, rest.1, ap (λ ys. x ∷ ys) rest.2, omega (arith, place, rest.3), (is, rest.4))

feed_none : (xs : List ℕ) → length xs ≤ position_or_len is_line_feed xs → Lacks is_line_feed xs
feed_none [] past = tt
feed_none (x ∷ xs) past = by_byte (is_line_feed x) refl (feed_none xs)
  where
    by_byte : (t : Bool) → is_line_feed x ≡ t → (length xs ≤ position_or_len is_line_feed xs → Lacks is_line_feed xs) → Lacks is_line_feed (x ∷ xs)
    by_byte true is later =
        let place : position_or_len is_line_feed (x ∷ xs) ≡ 0 = rw is refl in
        absurd (omega (arith, place, past))
    by_byte false is later =
        let place : position_or_len is_line_feed (x ∷ xs) ≡ 1 + position_or_len is_line_feed xs = rw is refl in
        (is, later (omega (arith, place, past)))

-- ---- the parts of what was searched

empty_is : (xs : List ℕ) → length xs ≡ 0 → xs ≡ []
empty_is [] none = refl
empty_is (x ∷ xs) none = absurd (omega (arith, none))

map_nothing : (o : Option ℕ) → o ≡ option_map (λ n. 0 + n) o
map_nothing None = refl
map_nothing (Some n) = ap Some (omega arith)

behind_all : (a b c r : List ℕ) → drop (length a + length b + length c) (a ++ (b ++ (c ++ r))) ≡ r
behind_all a b c r =
    let size : length a + length b + length c ≡ length ((a ++ b) ++ c) = simp length-append refl in
    let whole : a ++ (b ++ (c ++ r)) ≡ ((a ++ b) ++ c) ++ r = simp append_assoc refl in
    rw (size, whole) (drop-append_seam ((a ++ b) ++ c) r)

behind_two : (a b r : List ℕ) → drop (length a + length b) (a ++ (b ++ r)) ≡ r
behind_two a b r =
    let size : length a + length b ≡ length (a ++ b) = simp length-append refl in
    let whole : a ++ (b ++ r) ≡ (a ++ b) ++ r = simp append_assoc refl in
    rw (size, whole) (drop-append_seam (a ++ b) r)

-- what was not looked at
unsearched : (s : Search) (bytes : List ℕ) (is : IsSearched s bytes) → drop s.searched bytes ≡ is.rest
unsearched s bytes is = (λ i. drop (is.searched_at i) (is.whole i)) ∙ behind_all is.blank is.lines is.begun is.rest

pub within_searched : (s : Search) (bytes : List ℕ) → IsSearched s bytes → (s.blank ≤ s.line) × (s.line ≤ s.searched) × (s.searched ≤ length bytes)
within_searched s bytes is =
    let size : length bytes ≡ length is.blank + (length is.lines + (length is.begun + length is.rest)) = ap length is.whole ∙ simp length-append refl in
    (omega (arith, is.blank_at, is.line_at), omega (arith, is.line_at, is.searched_at), omega (arith, size, is.searched_at))

-- the line that ends at the first LF that was not looked at
pub record Line (s : Search) (bytes : List ℕ) (len : ℕ) (is : IsSearched s bytes) : Type 0 where
  pub text : List ℕ
  pub rest : List ℕ
  pub whole : bytes ≡ is.blank ++ (is.lines ++ (text ++ 10 ∷ rest))
  pub size : length text ≡ length is.begun + len
  pub lacks : Lacks is_line_feed text
  pub slice : take (s.searched + len - s.line) (drop s.line bytes) ≡ text

pub line_of : (s : Search) (bytes : List ℕ) (len : ℕ) (is : IsSearched s bytes) → Some len ≡ position is_line_feed (drop s.searched bytes) → Line s bytes len is
line_of s bytes len is place =
    let found : Some len ≡ position is_line_feed is.rest = place ∙ ap (position is_line_feed) (unsearched s bytes is) in
    let split = feed_split is.rest (place_inside is_line_feed is.rest len found) in
    let at = place_some is_line_feed is.rest len found in
    let text = is.begun ++ split.0 in
    let size : length text ≡ length is.begun + len = simp length-append (omega (arith, at, split.3)) in
    let whole : bytes ≡ is.blank ++ (is.lines ++ (text ++ 10 ∷ split.1)) =
    is.whole ∙ ap (λ r. is.blank ++ (is.lines ++ (is.begun ++ r))) split.2 ∙ ap (λ r. is.blank ++ (is.lines ++ r)) (sym (append_assoc is.begun split.0 (10 ∷ split.1))) in
    let behind : drop s.line bytes ≡ text ++ 10 ∷ split.1 = (λ i. drop (is.line_at i) (whole i)) ∙ behind_two is.blank is.lines (text ++ 10 ∷ split.1) in
    let many : s.searched + len - s.line ≡ length text = omega (arith, size, is.line_at, is.searched_at) in
    record {
      text = text;
      rest = split.1;
      whole = whole;
      size = size;
      lacks = lacks_append is_line_feed is.begun split.0 is.lacks split.4;
      slice = (λ i. take (many i) (behind i)) ∙ take-append_seam text (10 ∷ split.1);
    }

-- ---- one line further

-- an empty line behind empty lines
pub search_blank : (s : Search) (bytes : List ℕ) (len : ℕ) (is : IsSearched s bytes) (line : Line s bytes len is) → is_empty_line line.text ≡ true → s.line ≡ s.blank
    → IsSearched (record { blank = s.searched + len + 1; line = s.searched + len + 1; searched = s.searched + len + 1 }) bytes
unfolding blank_len block_len
search_blank s bytes len is line empty first =
    let none : is.lines ≡ [] = empty_is is.lines (omega (arith, first, is.line_at, is.blank_at)) in
    let none_long : length is.lines ≡ 0 = ap length none in
    let size : length (is.blank ++ (line.text ++ 10 ∷ [])) ≡ length is.blank + (length line.text + 1) = simp length-append refl in
    let end : s.searched + len + 1 ≡ length (is.blank ++ (line.text ++ 10 ∷ [])) = omega (arith, size, line.size, is.searched_at, none_long) in
    let feed : (more : List ℕ) → (is.blank ++ (line.text ++ 10 ∷ [])) ++ more ≡ is.blank ++ (line.text ++ 10 ∷ more) = λ more. simp append_assoc refl in
    record {
      blank = is.blank ++ (line.text ++ 10 ∷ []);
      lines = [];
      begun = [];
      rest = line.rest;
      whole = line.whole ∙ ap (λ ls. is.blank ++ (ls ++ (line.text ++ 10 ∷ line.rest))) none ∙ sym (feed line.rest);
      blank_at = end;
      line_at = omega (arith, end);
      searched_at = omega (arith, end);
      drops = λ more.
          let step : blank_in (lines_in (line.text ++ 10 ∷ more)) ≡ length line.text + 1 + blank_in (lines_in more) =
          ap blank_in (lines_at line.text more line.lacks) ∙ ap (λ t. blank_step t (length line.text) (blank_in (lines_in more))) empty in
          let front = ap (λ ys. blank_in (lines_in ys)) (feed more) in
          let before = is.drops (line.text ++ 10 ∷ more) in
          omega (arith, step, front, before, size);
      starts = λ some more. absurd (some refl);
      passes = λ more. map_nothing (block_in (lines_in more));
      lacks = tt;
    }

-- all empty lines that stand where the next one would
pub search_blanks : (s : Search) (bytes : List ℕ) → IsSearched s bytes → s.line ≡ s.blank → blank_len (drop s.line bytes) ≢ 0
    → let end = s.line + blank_len (drop s.line bytes) in IsSearched (record { blank = end; line = end; searched = end }) bytes
unfolding blank_len block_len
search_blanks s bytes is first some =
    let none : is.lines ≡ [] = empty_is is.lines (omega (arith, first, is.line_at, is.blank_at)) in
    let ahead = drop s.line bytes in
    let behind : ahead ≡ is.begun ++ is.rest =
    (λ i. drop ((first ∙ is.blank_at) i) (is.whole i)) ∙ drop-append_seam is.blank (is.lines ++ (is.begun ++ is.rest)) ∙ ap (λ ls. ls ++ (is.begun ++ is.rest)) none in
    let n = blank_in (lines_in ahead) in
    let passed = take n ahead in
    let size : length (is.blank ++ passed) ≡ length is.blank + n = length-append is.blank passed ∙ ap (λ k. length is.blank + k) (length-take-le n ahead (blank_within ahead)) in
    let end : s.line + n ≡ length (is.blank ++ passed) = omega (arith, size, first, is.blank_at) in
    record {
      blank = is.blank ++ passed;
      lines = [];
      begun = [];
      rest = drop n ahead;
      whole = is.whole ∙ ap (λ ls. is.blank ++ (ls ++ (is.begun ++ is.rest))) none ∙ ap (λ ys. is.blank ++ ys) (sym behind ∙ sym (take-append-drop n ahead))
          ∙ sym (append_assoc is.blank passed (drop n ahead));
      blank_at = end;
      line_at = omega (arith, end);
      searched_at = omega (arith, end);
      drops = λ more.
          let shape = ap (λ ys. blank_in (lines_in ys)) (append_assoc is.blank passed more) in
          let before = is.drops (passed ++ more) in
          let step = blank_passed ahead more in
          omega (arith, shape, before, step, size);
      starts = λ some more. absurd (some refl);
      passes = λ more. map_nothing (block_in (lines_in more));
      lacks = tt;
    }

-- another line
pub search_line : (s : Search) (bytes : List ℕ) (len : ℕ) (is : IsSearched s bytes) (line : Line s bytes len is) → is_empty_line line.text ≡ false
    → IsSearched (record { blank = s.blank; line = s.searched + len + 1; searched = s.searched + len + 1 }) bytes
unfolding blank_len block_len
search_line s bytes len is line full =
    let size : length (is.lines ++ (line.text ++ 10 ∷ [])) ≡ length is.lines + (length line.text + 1) = simp length-append refl in
    let end : s.searched + len + 1 ≡ length is.blank + length (is.lines ++ (line.text ++ 10 ∷ [])) = omega (arith, size, line.size, is.searched_at) in
    let feed : (more : List ℕ) → (is.lines ++ (line.text ++ 10 ∷ [])) ++ more ≡ is.lines ++ (line.text ++ 10 ∷ more) = λ more. simp append_assoc refl in
    let ahead : (more : List ℕ) → lines_in (line.text ++ 10 ∷ more) ≡ line.text ∷ lines_in more = λ more. lines_at line.text more line.lacks in
    let unblank : (more : List ℕ) → blank_in (lines_in (line.text ++ 10 ∷ more)) ≡ 0 = λ more. ap blank_in (ahead more) ∙ ap (λ t. blank_step t (length line.text) (blank_in (lines_in more))) full in
    record {
      blank = is.blank;
      lines = is.lines ++ (line.text ++ 10 ∷ []);
      begun = [];
      rest = line.rest;
      whole = line.whole ∙ ap (λ r. is.blank ++ r) (sym (feed line.rest));
      blank_at = is.blank_at;
      line_at = end;
      searched_at = omega (arith, end);
      drops = is.drops;
      starts = λ some more. ap (λ ys. blank_in (lines_in ys)) (feed more) ∙ by_lines is.lines is.starts (line.text ++ 10 ∷ more) (unblank more);
      passes = λ more. ap (λ ys. block_in (lines_in ys)) (feed more) ∙ is.passes (line.text ++ 10 ∷ more)
          ∙ ap (λ ls. option_map (λ n. length is.lines + n) (block_in ls)) (ahead more)
          ∙ ap (λ t. option_map (λ n. length is.lines + n) (block_step t (length line.text) (block_in (lines_in more)))) full
          ∙ map_twice (length is.lines) (length line.text + 1) (length (is.lines ++ (line.text ++ 10 ∷ []))) (block_in (lines_in more)) (omega (arith, size));
      lacks = tt;
    }
  where
    by_lines : (ls : List ℕ) → (length ls ≢ 0 → (more : List ℕ) → blank_in (lines_in (ls ++ more)) ≡ 0) → (more : List ℕ) → blank_in (lines_in more) ≡ 0 → blank_in (lines_in (ls ++ more)) ≡ 0
    by_lines [] starts more none = none
    by_lines (x ∷ ls) starts more none = starts (λ e. absurd (omega (arith, e))) more

-- ---- the begin, more bytes, and the end

pub search_start : (bytes : List ℕ) → IsSearched (record { blank = 0; line = 0; searched = 0 }) bytes
unfolding blank_len block_len
search_start bytes = record {
  blank = [];
  lines = [];
  begun = [];
  rest = bytes;
  whole = refl;
  blank_at = refl;
  line_at = refl;
  searched_at = refl;
  drops = λ more. omega arith;
  starts = λ some more. absurd (some refl);
  passes = λ more. map_nothing (block_in (lines_in more));
  lacks = tt;
}

pub search_more : (s : Search) (bytes more : List ℕ) → IsSearched s bytes → IsSearched s (bytes ++ more)
search_more s bytes more is = record {
  blank = is.blank;
  lines = is.lines;
  begun = is.begun;
  rest = is.rest ++ more;
  whole = ap (λ ys. ys ++ more) is.whole ∙ simp append_assoc refl;
  blank_at = is.blank_at;
  line_at = is.line_at;
  searched_at = is.searched_at;
  drops = is.drops;
  starts = is.starts;
  passes = is.passes;
  lacks = is.lacks;
}

pub search_all : (s : Search) (bytes : List ℕ) → IsSearched s bytes → None ≡ position is_line_feed (drop s.searched bytes)
    → IsSearched (record { blank = s.blank; line = s.line; searched = length bytes }) bytes
search_all s bytes is place =
    let none = feed_none is.rest (place_none is_line_feed is.rest (place ∙ ap (position is_line_feed) (unsearched s bytes is))) in
    let size : length bytes ≡ length is.blank + (length is.lines + (length is.begun + length is.rest)) = ap length is.whole ∙ simp length-append refl in
    let long : length (is.begun ++ is.rest) ≡ length is.begun + length is.rest = length-append is.begun is.rest in
    record {
      blank = is.blank;
      lines = is.lines;
      begun = is.begun ++ is.rest;
      rest = [];
      whole = is.whole ∙ ap (λ r. is.blank ++ (is.lines ++ r)) (sym (append-nil (is.begun ++ is.rest)));
      blank_at = is.blank_at;
      line_at = is.line_at;
      searched_at = omega (arith, size, long);
      drops = is.drops;
      starts = is.starts;
      passes = is.passes;
      lacks = lacks_append is_line_feed is.begun is.rest is.lacks none;
    }

-- ---- what it means

block_taken : (n : ℕ) (xs : List ℕ) → block_len xs ≡ None → block_len (take n xs) ≡ None
unfolding block_len
block_taken n xs none =
    let more = lines_more (take n xs) (drop n xs) in
    let whole : block_in (lines_in (take n xs) ++ more.0) ≡ None = ap block_in (sym more.1) ∙ ap (λ ys. block_in (lines_in ys)) (take-append-drop n xs) ∙ none in
    by_block (block_in (lines_in (take n xs))) refl whole
  where
    by_block : (o : Option ℕ) → block_in (lines_in (take n xs)) ≡ o → block_in (lines_in (take n xs) ++ (lines_more (take n xs) (drop n xs)).0) ≡ None → block_in (lines_in (take n xs)) ≡ None
    by_block None is none = is
    by_block (Some k) is none = absurd (cc (block_more (lines_in (take n xs)) (lines_more (take n xs) (drop n xs)).0 k is))

block_nothing : (r : List ℕ) → lines_in r ≡ [] → block_len r ≡ None
unfolding block_len
block_nothing r lines = ap block_in lines

-- the head is not complete, and its unit waits
pub search_waits : (s : Search) (bytes : List ℕ) → IsSearched s bytes → s.searched ≡ length bytes → length bytes < s.blank + 16384
    → (head_begun bytes ≡ false) × ((limit : ℕ) → next_unit bytes false limit ≡ plainly wait)
unfolding next_unit blank_len front_of
search_waits s bytes is all short =
    let size : length bytes ≡ length is.blank + (length is.lines + (length is.begun + length is.rest)) = ap length is.whole ∙ simp length-append refl in
    let none : is.rest ≡ [] = empty_is is.rest (omega (arith, all, size, is.searched_at)) in
    let whole : bytes ≡ is.blank ++ (is.lines ++ is.begun) = is.whole ∙ ap (λ r. is.blank ++ (is.lines ++ (is.begun ++ r))) none ∙ ap (λ r. is.blank ++ (is.lines ++ r)) (append-nil is.begun) in
    let lines : lines_in is.begun ≡ [] = lines_none is.begun is.lacks in
    let unblank : blank_len (is.lines ++ is.begun) ≡ 0 = by_lines is.lines is.starts is.begun (ap blank_in lines) in
    let before : blank_len (is.blank ++ (is.lines ++ is.begun)) ≡ length is.blank = omega (arith, is.drops (is.lines ++ is.begun), unblank) in
    let passed : blank_len bytes ≡ length is.blank = ap blank_len whole ∙ before in
    let behind : drop (blank_len bytes) bytes ≡ is.lines ++ is.begun = (λ i. drop (passed i) (whole i)) ∙ drop-append_seam is.blank (is.lines ++ is.begun) in
    let unended : block_len (is.lines ++ is.begun) ≡ None = is.passes is.begun ∙ ap (option_map (λ n. length is.lines + n)) (block_nothing is.begun lines) in
    let long : length (is.lines ++ is.begun) < 16384 = simp length-append (omega (arith, short, size, is.blank_at)) in
    let front : front_of head_limit (is.lines ++ is.begun) ≡ unready = ap (front_found 16384 (is.lines ++ is.begun)) (block_taken 16384 (is.lines ++ is.begun) unended) ∙ found_short 16384 (is.lines ++ is.begun) long in
    let ahead : front_of head_limit (drop (blank_len bytes) bytes) ≡ unready = ap (front_of head_limit) behind ∙ front in
    (ap is_ready ahead, λ limit. ap (front_unit limit (blank_len bytes) (drop (blank_len bytes) bytes) false) ahead)
  where
    by_lines : (ls : List ℕ) → (length ls ≢ 0 → (more : List ℕ) → blank_len (ls ++ more) ≡ 0) → (more : List ℕ) → blank_len more ≡ 0 → blank_len (ls ++ more) ≡ 0
    by_lines [] starts more none = none
    by_lines (x ∷ ls) starts more none = starts (λ e. absurd (omega (arith, e))) more
