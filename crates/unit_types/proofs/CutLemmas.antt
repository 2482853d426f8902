-- What a cut at the first separator gives, in the words of std.
use Rattle.std.proofs.Common.{◌≡◌, ◌≢◌, ℕ, ◌+◌, ◌<◌, ◌≤◌, Bool, true, false, eqb, ltb, cond, List, [], ◌∷◌, length, take, drop, get_or, All, Some, None, option_map, sym, refl, ap, ◌∙◌, subst, arith}
use Rattle.std.specs.List.{slice_split, before_first, after_first, position_or_len}
use Rattle.std.proofs.lemmas.Bool.{eqb-false, ltb-true, ltb-false, ne_eqb}
use Rattle.std.proofs.lemmas.List.{take_all, drop_all, get_or-take, length-take, length-drop}
use Rattle.std.proofs.lemmas.List.Elements.{All-from_get_or, All-weaker}
use Rattle.std.proofs.lemmas.List.Splits.{slice_split_none, slice_split_first}
use Rattle.std.proofs.lemmas.List.Sums.{fails_before_first}
use Rattle.unit_types.specs.Text.{cut}

-- the test that finds the separator
abbrev pub is_at : ℕ → ℕ → Bool
is_at separator = λ b. eqb b separator

-- a text that was cut
pub record IsCut (separator : ℕ) (text front behind : List ℕ) : Type 0 where
  pub parts : slice_split (is_at separator) text ≡ front ∷ slice_split (is_at separator) behind
  pub front_is : front ≡ before_first (is_at separator) text
  pub behind_is : behind ≡ after_first (is_at separator) text
  pub clean : All (λ b. b ≢ separator) front
  pub shorter : length behind < length text

-- a text without a separator
pub record IsWhole (separator : ℕ) (text : List ℕ) : Type 0 where
  pub parts : slice_split (is_at separator) text ≡ text ∷ []
  pub front_is : text ≡ before_first (is_at separator) text
  pub behind_is : [] ≡ after_first (is_at separator) text
  pub clean : All (λ b. b ≢ separator) text

abbrev place : ℕ → List ℕ → ℕ
place separator text = position_or_len (is_at separator) text

clean_front : (separator : ℕ) (text : List ℕ) → All (λ b. b ≢ separator) (before_first (is_at separator) text)
clean_front separator text = All-from_get_or (λ b. b ≢ separator) (before_first (is_at separator) text) 0 at_each
  where
    at_each : (i : ℕ) → i < length (before_first (is_at separator) text) → get_or (before_first (is_at separator) text) i 0 ≢ separator
    at_each i within =
        let below : i < place separator text = omega (arith, length-take (place separator text) text) in
        let fails : eqb (get_or text i 0) separator ≡ false = fails_before_first (is_at separator) text i 0 below in
        rw (get_or-take (place separator text) text i 0 below) (eqb-false (get_or text i 0) separator fails)

abbrev halves : List ℕ → ℕ → List ℕ × List ℕ
halves text at = (take at text, drop (at + 1) text)

-- both parts, from whether the separator stands in the text
halves_are : (b : Bool) (text front behind : List ℕ) (at : ℕ) → option_map (halves text) (cond b (Some at) None) ≡ Some (front, behind) → (b ≡ true) × (front ≡ take at text) × (behind ≡ drop (at + 1) text)
halves_are true text front behind at is =
    let pair : ◌≡◌ {A = List ℕ × List ℕ} (front, behind) (halves text at) = cc (is) in
    (refl, ap (λ (p : List ℕ × List ℕ). p.0) pair, ap (λ (p : List ℕ × List ℕ). p.1) pair)
halves_are false text front behind at is = absurd (cc (is))

pub is_cut : (separator : ℕ) (text front behind : List ℕ) → cut separator text ≡ Some (front, behind) → IsCut separator text front behind
is_cut separator text front behind is =
    let at = place separator text in
    let both = halves_are (ltb at (length text)) text front behind at is in
    let within : at < length text = ltb-true at (length text) both.0 in
    record {
      parts = slice_split_first (is_at separator) text 0 within ∙ ap (λ x. x ∷ slice_split (is_at separator) (drop (at + 1) text)) (sym both.1) ∙ ap (λ x. front ∷ slice_split (is_at separator) x) (sym both.2);
      front_is = both.1;
      behind_is = both.2;
      clean = subst (All (λ b. b ≢ separator)) (sym both.1) (clean_front separator text);
      shorter = omega (arith, within, ap length both.2, length-drop (at + 1) text);
    }

no_half : (b : Bool) (text : List ℕ) (at : ℕ) → option_map (halves text) (cond b (Some at) None) ≡ None → b ≡ false
no_half true text at is = absurd (cc (is))
no_half false text at is = refl

pub is_whole : (separator : ℕ) (text : List ℕ) → cut separator text ≡ None → IsWhole separator text
is_whole separator text is =
    let past : length text ≤ place separator text = ltb-false (place separator text) (length text) (no_half (ltb (place separator text) (length text)) text (place separator text) is) in
    let whole : before_first (is_at separator) text ≡ text = take_all (place separator text) text past in
    let clean : All (λ b. b ≢ separator) text = subst (All (λ b. b ≢ separator)) whole (clean_front separator text) in
    record {
      parts = slice_split_none (is_at separator) text (All-weaker (λ b. b ≢ separator) (λ b. is_at separator b ≡ false) (λ b other. ne_eqb b separator other) text clean);
      front_is = sym whole;
      behind_is = sym (drop_all (place separator text + 1) text (omega (arith, past)));
      clean = clean;
    }
