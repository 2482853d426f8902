-- What is found within a limit stays as it is, however the input goes on.
use Rattle.std.proofs.Common.{ℕ, ◌≡◌, ◌+◌, ◌-◌, ◌≤◌, ◌<◌, zero, suc, refl, ap, ◌∙◌, List, [], ◌∷◌, ◌++◌, length, take, Bool, true, false, nat_le, if◌then◌else◌, Option, Some, None, arith, length-take, length-append}
use Rattle.std.proofs.lemmas.List.{take-append-le}
use Rattle.std.proofs.lemmas.Bool.{leb-true, le-leb}
use Rattle.http_front.specs.Head.{lines_in}
use Rattle.http_front.specs.Front.{Front, unready, too_long, block, is_empty_line, block_step, block_in, block_len, front_found, front_of, is_ready}
use Rattle.http_front.specs.Chunks.{first_len, line_front}
use Rattle.http_front.proofs.BlockLemmas.{lines_more, block_within, line_within}

pub take_over : (n : ℕ) (xs ys : List ℕ) → take n (xs ++ ys) ≡ take n xs ++ take (n - length xs) ys
take_over zero xs ys = let none : 0 - length xs ≡ 0 = omega arith in rw none refl
take_over (suc n) [] ys = let all : suc n - 0 ≡ suc n = omega arith in rw all refl
take_over (suc n) (x ∷ xs) ys =
    let less : suc n - suc (length xs) ≡ n - length xs = omega arith in
    rw less (ap (λ zs. x ∷ zs) (take_over n xs ys))

pub ready_long : (limit : ℕ) (bytes : List ℕ) → is_ready (front_found limit bytes None) ≡ true → limit ≤ length bytes
ready_long limit bytes ready = by_length (nat_le limit (length bytes)) refl ready
  where
    by_length : (t : Bool) → nat_le limit (length bytes) ≡ t → is_ready (if t then too_long else unready) ≡ true → limit ≤ length bytes
    by_length true is ready = leb-true limit (length bytes) is
    by_length false is ready = cc

-- how many bytes some lines take, if they are there: more lines leave it
abbrev pub Remains : (List (List ℕ) → Option ℕ) → Type 0
Remains len = (ls more : List (List ℕ)) (n : ℕ) → len ls ≡ Some n → len (ls ++ more) ≡ Some n

abbrev pub found_by : (List (List ℕ) → Option ℕ) → ℕ → List ℕ → Front
found_by len limit bytes = front_found limit bytes (len (lines_in (take limit bytes)))

found_stays : (len : List (List ℕ) → Option ℕ) → Remains len → (limit : ℕ) (bytes more : List ℕ) → is_ready (found_by len limit bytes) ≡ true
    → found_by len limit (bytes ++ more) ≡ found_by len limit bytes
found_stays len remains limit bytes more ready = by_len (len (lines_in (take limit bytes))) refl
  where
    by_len : (o : Option ℕ) → len (lines_in (take limit bytes)) ≡ o
        → front_found limit (bytes ++ more) (len (lines_in (take limit (bytes ++ more)))) ≡ front_found limit bytes (len (lines_in (take limit bytes)))
    by_len (Some n) is =
        let longer = lines_more (take limit bytes) (take (limit - length bytes) more) in
        let window : take limit (bytes ++ more) ≡ take limit bytes ++ take (limit - length bytes) more = take_over limit bytes more in
        let same : len (lines_in (take limit (bytes ++ more))) ≡ Some n =
        ap (λ ys. len (lines_in ys)) window ∙ ap len longer.1 ∙ remains (lines_in (take limit bytes)) longer.0 n is in
        rw (same, is) refl
    by_len None is =
        let long : limit ≤ length bytes = ready_long limit bytes (rw is at ready) in
        let window : take limit (bytes ++ more) ≡ take limit bytes = take-append-le limit bytes more long in
        let longer : nat_le limit (length (bytes ++ more)) ≡ true = simp length-append (le-leb limit (length bytes + length more) (omega arith)) in
        rw (window, is, longer, le-leb limit (length bytes) long) refl

found_fits : (len : List (List ℕ) → Option ℕ) → ((xs : List ℕ) (n : ℕ) → len (lines_in xs) ≡ Some n → n ≤ length xs)
    → (limit : ℕ) (bytes : List ℕ) (n : ℕ) → found_by len limit bytes ≡ block n → n ≤ length bytes
found_fits len within limit bytes n is = by_len (len (lines_in (take limit bytes))) refl is
  where
    by_length : (t : Bool) → (if t then too_long else unready) ≡ block n → n ≤ length bytes
    by_length true is = absurd (cc)
    by_length false is = absurd (cc)

    by_len : (o : Option ℕ) → len (lines_in (take limit bytes)) ≡ o → front_found limit bytes o ≡ block n → n ≤ length bytes
    by_len (Some k) is same =
        let low = within (take limit bytes) k is in
        let e : k ≡ n = cc in
        omega (arith, low, e, length-take limit bytes)
    by_len None is same = by_length (nat_le limit (length bytes)) same

-- ---- head blocks

pub some_injective : (m n : ℕ) → Some m ≡ Some n → m ≡ n
some_injective m n e = cc

pub block_more : (ls more : List (List ℕ)) (n : ℕ) → block_in ls ≡ Some n → block_in (ls ++ more) ≡ Some n
block_more [] more n is = absurd (cc)
block_more (l ∷ ls) more n is = by_line (is_empty_line l) (block_in ls) (block_more ls more) refl is
  where
    by_line : (t : Bool) (o : Option ℕ) → ((k : ℕ) → block_in ls ≡ Some k → block_in (ls ++ more) ≡ Some k) → block_in ls ≡ o
        → block_step t (length l) o ≡ Some n → block_step t (length l) (block_in (ls ++ more)) ≡ Some n
    by_line true o later same is = is
    by_line false None later same is = absurd (cc)
    by_line false (Some k) later same is = rw (later k same) is

pub front_stays : (limit : ℕ) (bytes more : List ℕ) → is_ready (front_of limit bytes) ≡ true → front_of limit (bytes ++ more) ≡ front_of limit bytes
unfolding front_of block_len
front_stays limit bytes more ready = found_stays block_in block_more limit bytes more ready

pub front_fits : (limit : ℕ) (bytes : List ℕ) (n : ℕ) → front_of limit bytes ≡ block n → n ≤ length bytes
unfolding front_of block_len
front_fits limit bytes n is = found_fits block_in block_within limit bytes n is

-- a block has a byte at least
block_some : (ls : List (List ℕ)) (n : ℕ) → block_in ls ≡ Some n → 0 < n
block_some [] n is = absurd (cc)
block_some (l ∷ ls) n is = by_line (is_empty_line l) (block_in ls) is
  where
    by_line : (t : Bool) (o : Option ℕ) → block_step t (length l) o ≡ Some n → 0 < n
    by_line true o is = let same : length l + 1 ≡ n = some_injective (length l + 1) n is in omega (arith, same)
    by_line false None is = absurd (cc)
    by_line false (Some k) is = let same : length l + 1 + k ≡ n = some_injective (length l + 1 + k) n is in omega (arith, same)

pub front_some : (limit : ℕ) (bytes : List ℕ) (n : ℕ) → front_of limit bytes ≡ block n → 0 < n
unfolding front_of block_len
front_some limit bytes n is = by_block (block_in (lines_in (take limit bytes))) refl is
  where
    by_length : (t : Bool) → (if t then too_long else unready) ≡ block n → 0 < n
    by_length true is = absurd (cc)
    by_length false is = absurd (cc)

    by_block : (o : Option ℕ) → block_in (lines_in (take limit bytes)) ≡ o → front_found limit bytes o ≡ block n → 0 < n
    by_block (Some k) is same =
        let e : k ≡ n = cc in
        let some = block_some (lines_in (take limit bytes)) k is in
        omega (arith, e, some)
    by_block None is same = by_length (nat_le limit (length bytes)) same

-- ---- lines

line_more : (ls more : List (List ℕ)) (n : ℕ) → first_len ls ≡ Some n → first_len (ls ++ more) ≡ Some n
line_more [] more n is = absurd (cc)
line_more (l ∷ ls) more n is = is

pub line_stays : (bytes more : List ℕ) → is_ready (line_front bytes) ≡ true → line_front (bytes ++ more) ≡ line_front bytes
unfolding line_front
line_stays bytes more ready = found_stays first_len line_more 1024 bytes more ready

pub line_fits : (bytes : List ℕ) (n : ℕ) → line_front bytes ≡ block n → n ≤ length bytes
unfolding line_front
line_fits bytes n is = found_fits first_len line_within 1024 bytes n is
