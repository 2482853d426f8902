-- What is written behind what was written before.
use Rattle.std.proofs.Common.{◌≡◌, ℕ, ◌+◌, ◌<◌, ◌≤◌, zero, suc, List, [], ◌∷◌, ◌++◌, length, take, refl, ap, ◌∙◌, sym, append_assoc, append-nil, arith}
use Rattle.std.proofs.Math.ListN.{set}
use Rattle.std.proofs.lemmas.List.{length-append, length-take, take_all, take-append-le, take_more_set}
use Rattle.access_log.specs.declared.buffer.LineBuffer.{LineBuffer}
use Rattle.access_log.specs.Buffer.{Appends, written}
use Rattle.access_log.specs.Line.{line_limit}

-- what was cut before is cut no further
take_front : (n : ℕ) (a b : List ℕ) → take n (take n a ++ b) ≡ take n (a ++ b)
take_front zero a b = refl
take_front (suc n) [] b = refl
take_front (suc n) (x ∷ a) b = ap (λ t. x ∷ t) (take_front n a b)

-- one part, and then the others
pub appends_part : (old part rest new : List ℕ) → new ≡ take line_limit (old ++ part) → take line_limit (new ++ rest) ≡ take line_limit (old ++ (part ++ rest))
appends_part old part rest new e =
    ap (λ t. take line_limit (t ++ rest)) e ∙ take_front line_limit (old ++ part) rest ∙ ap (take line_limit) (append_assoc old part rest)

-- two texts, one behind the other
pub appends_both : (a b : List ℕ) (x y z : LineBuffer) → Appends a x y → Appends b y z → Appends (a ++ b) x z
appends_both a b x y z first second = second ∙ appends_part (written x) a b (written y) first

-- the same text in other words
pub appends_same : (a b : List ℕ) (x y : LineBuffer) → a ≡ b → Appends a x y → Appends b x y
appends_same a b x y same appends = appends ∙ ap (λ t. take line_limit (written x ++ t)) same

-- what has room stays whole
whole : (text : List ℕ) → length text ≤ 1023 → text ≡ take line_limit text
unfolding line_limit
whole text short = sym (take_all 1023 text short)

-- nothing was put behind
pub appends_nothing : (x : LineBuffer) → written x ≡ take line_limit (written x ++ [])
appends_nothing x =
    let short : length (written x) ≤ 1023 = omega (arith, length-take x.end x.bytes, x.within) in
    whole (written x) short ∙ ap (take line_limit) (sym (append-nil (written x)))

-- a byte that has room
pub pushed : (bytes : List ℕ) (end byte : ℕ) → end < length bytes → end < 1023 → take (end + 1) (set bytes end byte) ≡ take line_limit (take end bytes ++ byte ∷ [])
pushed bytes end byte inside room =
    take_more_set bytes end byte inside
    ∙ whole (take end bytes ++ byte ∷ []) (omega (arith, length-append (take end bytes) (byte ∷ []), length-take end bytes))

-- a line that is full takes no more
pub full : (text more : List ℕ) → length text ≡ 1023 → text ≡ take line_limit (text ++ more)
unfolding line_limit
full text more e =
    let most : 1023 ≤ length text = omega (arith, e) in
    let least : length text ≤ 1023 = omega (arith, e) in
    sym (take-append-le 1023 text more most ∙ take_all 1023 text least)
