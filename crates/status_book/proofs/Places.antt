-- Where counts stand.
use Rattle.std.proofs.Common.{ℕ, ◌≡◌, ◌≢◌, ◌+◌, ◌*◌, ◌/◌, ◌%◌, ◌<◌, ap, sym, ◌∙◌, arith}
use Rattle.std.proofs.Math.Nat.{div-add-mod, mod-lt}
use Rattle.std.proofs.lemmas.Nat.{div-mul-add, mod-mul-add}
use Rattle.status_book.specs.Words.{kinds, place_of, word_of, word_at}

same_place : (a r b s : ℕ) → r < 8 → s < 8 → 16 * a + r ≡ 16 * b + s → 8 * a + r ≡ 8 * b + s
same_place a r b s r_lt s_lt same = omega arith

-- two counts don't share a word
pub words_apart : (p q : ℕ) → p ≢ q → word_at p ≢ word_at q
words_apart p q ne same =
    ne (sym (div-add-mod p 8) ∙ same_place (p / 8) (p % 8) (q / 8) (q % 8) (mod-lt p (omega arith)) (mod-lt q (omega arith)) same ∙ div-add-mod q 8)

pub word_of_place : (engine kind : ℕ) → kind < kinds → word_at (place_of engine kind) ≡ word_of engine kind
word_of_place engine kind lt =
    let turned : place_of engine kind ≡ engine * 8 + kind = omega arith in
    let quotient : place_of engine kind / 8 ≡ engine = ap (λ (p : ℕ). p / 8) turned ∙ div-mul-add engine 8 kind lt in
    let remainder : place_of engine kind % 8 ≡ kind = ap (λ (p : ℕ). p % 8) turned ∙ mod-mul-add engine 8 kind lt in
    ap (λ (q : ℕ). word_of q (place_of engine kind % 8)) quotient ∙ ap (word_of engine) remainder

below_words : (a r n : ℕ) → r < 8 → 8 * a + r < 8 * n → 16 * a + r < 16 * n
below_words a r n r_lt lt = omega arith

pub word_within : (place engines : ℕ) → place < 8 * engines → word_at place < 16 * engines
word_within place engines lt =
    let whole : 8 * (place / 8) + place % 8 < 8 * engines = omega (arith, div-add-mod place 8, lt) in
    below_words (place / 8) (place % 8) engines (mod-lt place (omega arith)) whole
