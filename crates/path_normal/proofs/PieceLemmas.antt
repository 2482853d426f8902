-- Lemmas on the pieces of a text.
use Rattle.std.proofs.Common.{◌≡◌, ℕ, ◌+◌, ◌≤◌, zero, suc, true, false, eqb, List, [], ◌∷◌, length, drop, Option, Some, None, option_map, refl, ap, ◌∙◌, arith}
use Rattle.std.proofs.lemmas.Bool.{cond-true, cond-false, cond_both, eq-eqb, ne_eqb}
use Rattle.path_normal.specs.Variables.{PieceText, byte, variable, pieces_past, pieces_of, behind_dollar, known_among, is_known}

-- bytes that are passed over are dropped
pub pieces_past-drop : (n : ℕ) (text : List ℕ) → pieces_past n text ≡ pieces_of (drop n text)
pieces_past-drop zero text = refl
pieces_past-drop (suc n) [] = refl
pieces_past-drop (suc n) (b ∷ bs) = pieces_past-drop n bs

pub pieces_at_byte : (b : ℕ) (bs : List ℕ) → (b ≡ 36 → ⊥) → pieces_of (b ∷ bs) ≡ byte b ∷ pieces_of bs
pieces_at_byte b bs other = cond-false _ _ _ (ne_eqb b 36 other)

pub pieces_at_dollar : (b : ℕ) (bs : List ℕ) → b ≡ 36 → pieces_of (b ∷ bs) ≡ (behind_dollar bs).0 ∷ pieces_of (drop (behind_dollar bs).1 bs)
pieces_at_dollar b bs e =
    cond-true _ _ _ (eq-eqb b 36 e) ∙ ap (λ x. (behind_dollar bs).0 ∷ x) (pieces_past-drop (behind_dollar bs).1 bs)

-- there are no more pieces than bytes
pieces_past_fit : (n : ℕ) (text : List ℕ) → length (pieces_past n text) ≤ length text
pieces_past_fit n [] = omega arith
pieces_past_fit zero (b ∷ bs) =
    cond_both (eqb b 36) ((behind_dollar bs).0 ∷ pieces_past (behind_dollar bs).1 bs) (byte b ∷ pieces_past 0 bs) (λ x. length x ≤ length (b ∷ bs))
    (λ _. omega (arith, pieces_past_fit (behind_dollar bs).1 bs))
    (λ _. omega (arith, pieces_past_fit 0 bs))
pieces_past_fit (suc n) (b ∷ bs) = omega (arith, pieces_past_fit n bs)

pub pieces_fit : (text : List ℕ) → length (pieces_of text) ≤ length text
pieces_fit text = pieces_past_fit 0 text

-- one more is counted
pub counts_one : (further : List (List ℕ)) (count : ℕ) (name : List ℕ) (pieces : List PieceText) → is_known further name ≡ true → option_map (λ n. n + count) (known_among further (variable name ∷ pieces)) ≡ option_map (λ n. n + (count + 1)) (known_among further pieces)
counts_one further count name pieces known =
    ap (option_map (λ n. n + count)) (cond-true _ _ _ known) ∙ twice (known_among further pieces)
  where
    twice : (o : Option ℕ) → option_map (λ n. n + count) (option_map (λ n. n + 1) o) ≡ option_map (λ n. n + (count + 1)) o
    twice None = refl
    twice (Some n) = let sum : n + 1 + count ≡ n + (count + 1) = omega arith in ap Some sum

pub counts_none : (further : List (List ℕ)) (count : ℕ) (name : List ℕ) (pieces : List PieceText) → is_known further name ≡ false → option_map (λ n. n + count) (known_among further (variable name ∷ pieces)) ≡ None
counts_none further count name pieces unknown = ap (option_map (λ n. n + count)) (cond-false _ _ _ unknown)

pub counts_from_zero : (o : Option ℕ) → option_map (λ n. n + 0) o ≡ o
counts_from_zero None = refl
counts_from_zero (Some n) = let sum : n + 0 ≡ n = omega arith in ap Some sum
