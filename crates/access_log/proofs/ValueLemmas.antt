-- How values are written.
use Rattle.std.proofs.Common.{◌≡◌, ℕ, ◌+◌, ◌/◌, ◌%◌, ◌<◌, true, ltb, List, [], ◌∷◌, ◌++◌, length, All, refl, ap, ◌∙◌, arith}
use Rattle.std.proofs.lemmas.Bool.{cond-true, cond_both}
use Rattle.std.proofs.lemmas.Bool.Decides.{nat_tests}
use Rattle.std.proofs.lemmas.Grind.{flat_map-append}
use Rattle.std.proofs.lemmas.List.{length-append}
use Rattle.std.proofs.lemmas.List.Elements.{All-nil, All-cons, All-head, All-tail, All-append}
use Rattle.path_normal.specs.Variables.{decimal, dotted}
use Rattle.access_log.specs.Line.{is_plain, logged, logged_byte, logged_bytes}

-- a value that isn't empty
pub logged_whole : (text : List ℕ) → 0 < length text → logged text ≡ logged_bytes text
logged_whole [] some = absurd (omega arith)
logged_whole (b ∷ bs) some = refl

-- one part of a value, and then the others
pub logged_parts : (a b : List ℕ) → logged_bytes (a ++ b) ≡ logged_bytes a ++ logged_bytes b
logged_parts a b = flat_map-append logged_byte a b

abbrev IsPlain : ℕ → Type 0
IsPlain b = is_plain b ≡ true

plain_stays : (text : List ℕ) → All IsPlain text → logged_bytes text ≡ text
plain_stays [] plain = refl
plain_stays (b ∷ bs) plain =
    ap (λ t. t ++ logged_bytes bs) (cond-true _ _ _ (All-head IsPlain b bs plain)) ∙ ap (λ t. b ∷ t) (plain_stays bs (All-tail IsPlain b bs plain))

digit_plain : (d : ℕ) → d < 10 → IsPlain (48 + d)
digit_plain d small = grind (arith, nat_tests)

decimal_plain : (n : ℕ) → n < 256 → All IsPlain (decimal n)
decimal_plain n small =
    let last = All-cons IsPlain (48 + n % 10) [] (digit_plain (n % 10) (omega arith)) (All-nil IsPlain) in
    let tens : n / 10 % 10 < 10 = omega arith in
    let hundreds : n / 100 < 10 = omega arith in
    cond_both (ltb n 10) ((48 + n) ∷ []) _ (All IsPlain)
    (λ below. All-cons IsPlain (48 + n) [] (digit_plain n (grind (arith, nat_tests))) (All-nil IsPlain))
    (λ _. cond_both (ltb n 100) ((48 + n / 10) ∷ (48 + n % 10) ∷ []) _ (All IsPlain)
    (λ below. All-cons IsPlain (48 + n / 10) ((48 + n % 10) ∷ []) (digit_plain (n / 10) (grind (arith, nat_tests))) last)
    (λ _. All-cons IsPlain (48 + n / 100) ((48 + n / 10 % 10) ∷ (48 + n % 10) ∷ []) (digit_plain (n / 100) hundreds) (All-cons IsPlain (48 + n / 10 % 10) ((48 + n % 10) ∷ []) (digit_plain (n / 10 % 10) tens) last)))

-- a period and a number behind it
pub with_period : (text : List ℕ) (n : ℕ) → All IsPlain text → n < 256 → All IsPlain (text ++ 46 ∷ decimal n)
with_period text n plain small =
    All-append IsPlain text (46 ∷ decimal n) plain (All-cons IsPlain 46 (decimal n) refl (decimal_plain n small))

logged_with_period : (text : List ℕ) (n : ℕ) → All IsPlain (text ++ 46 ∷ decimal n) → logged (text ++ 46 ∷ decimal n) ≡ text ++ 46 ∷ decimal n
logged_with_period text n plain =
    logged_whole (text ++ 46 ∷ decimal n) (omega (arith, length-append text (46 ∷ decimal n))) ∙ plain_stays (text ++ 46 ∷ decimal n) plain

four : (a b c d : ℕ) → a < 256 → b < 256 → c < 256 → d < 256 → logged (decimal a ++ 46 ∷ decimal b ++ 46 ∷ decimal c ++ 46 ∷ decimal d) ≡ decimal a ++ 46 ∷ decimal b ++ 46 ∷ decimal c ++ 46 ∷ decimal d
four a b c d small_a small_b small_c small_d =
    logged_with_period (decimal a ++ 46 ∷ decimal b ++ 46 ∷ decimal c) d
    (with_period (decimal a ++ 46 ∷ decimal b ++ 46 ∷ decimal c) d
    (with_period (decimal a ++ 46 ∷ decimal b) c (with_period (decimal a) b (decimal_plain a small_a) small_b) small_c) small_d)

-- an address has digits and periods alone
pub logged_dotted : (ip : ℕ) → logged (dotted ip) ≡ dotted ip
logged_dotted ip =
    four (ip / 16777216 % 256) (ip / 65536 % 256) (ip / 256 % 256) (ip % 256) (omega arith) (omega arith) (omega arith) (omega arith)

-- a request line isn't empty, and its spaces stay
pub logged_line : (method target protocol : List ℕ) → logged (method ++ (32 ∷ (target ++ (32 ∷ protocol)))) ≡ logged_bytes method ++ (32 ∷ (logged_bytes target ++ (32 ∷ logged_bytes protocol)))
logged_line method target protocol =
    logged_whole (method ++ (32 ∷ (target ++ (32 ∷ protocol)))) (omega (arith, length-append method (32 ∷ (target ++ (32 ∷ protocol)))))
    ∙ logged_parts method (32 ∷ (target ++ (32 ∷ protocol)))
    ∙ ap (λ t. logged_bytes method ++ (32 ∷ t)) (logged_parts target (32 ∷ protocol))
