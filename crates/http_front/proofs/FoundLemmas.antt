-- What is found within a limit.
use Rattle.std.proofs.Common.{ℕ, ◌≡◌, ◌+◌, ◌<◌, ◌≤◌, refl, sym, ap, ◌∙◌, List, [], ◌∷◌, length, take, true, false, nat_le, Option, Some, None, arith, length-take-le}
use Rattle.std.proofs.lemmas.Bool.Decides.{nat_tests}
use Rattle.http_front.specs.Head.{lines_in}
use Rattle.http_front.specs.Front.{unready, too_long, block, block_len, front_found, front_of}
use Rattle.unit_types.specs.Limits.{head_limit}
use Rattle.http_front.specs.Chunks.{first_len, line_front}

pub found_long : (limit : ℕ) (bytes : List ℕ) → limit ≤ length bytes → front_found limit bytes None ≡ too_long
found_long limit bytes long =
    let test : nat_le limit (length bytes) ≡ true = grind (arith, nat_tests) in
    rw test refl

pub found_short : (limit : ℕ) (bytes : List ℕ) → length bytes < limit → front_found limit bytes None ≡ unready
found_short limit bytes short =
    let test : nat_le limit (length bytes) ≡ false = grind (arith, nat_tests) in
    rw test refl

-- the front as it is found by steps
pub front_is : (bytes window : List ℕ) (found : Option ℕ) → window ≡ take 16384 bytes → found ≡ block_len window
    → front_found 16384 bytes found ≡ front_of head_limit bytes
unfolding front_of
front_is bytes window found behind is = rw (is, behind) refl

pub line_front-some : (bytes window : List ℕ) (n : ℕ) (rest : List (List ℕ)) → window ≡ take 1024 bytes → lines_in window ≡ take n window ∷ rest → n < length window
    → block (n + 1) ≡ line_front bytes
unfolding line_front
line_front-some bytes window n rest is first within =
    let long : length (take n window) ≡ n = length-take-le n window (omega arith) in
    let found : first_len (lines_in (take 1024 bytes)) ≡ Some (n + 1) = ap (λ w. first_len (lines_in w)) (sym is) ∙ ap first_len first ∙ ap (λ k. Some (k + 1)) long in
    rw found refl

pub line_front-none : (bytes window : List ℕ) → window ≡ take 1024 bytes → lines_in window ≡ [] → front_found 1024 bytes None ≡ line_front bytes
unfolding line_front
line_front-none bytes window is none =
    let found : first_len (lines_in (take 1024 bytes)) ≡ None = ap (λ w. first_len (lines_in w)) (sym is) ∙ ap first_len none in
    rw found refl
