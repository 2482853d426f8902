-- Keys: texts cut at slashes, and keys that are texts.
use Rattle.std.proofs.Common.{◌≡◌, ℕ, List, [], ◌∷◌, ◌++◌, length, Bool, true, false, map, All, IsUtf8, Result, Ok, Err, MatchResult, is_ok, refl, ap, sym, Some, None, arith, append_assoc}
use Rattle.std.proofs.lemmas.Bool.{and_parts}
use Rattle.std.proofs.lemmas.List.Elements.{All-cons, All-nil}
use Rattle.std.proofs.lemmas.Str.{IsUtf8-from_is_utf8, is_utf8-from_IsUtf8}
use Rattle.std.specs.Str.{is_utf8}
use Rattle.serde_json.specs.Data.{Data, object, no_members}
use Rattle.conf_tree.specs.Paths.{changed, remove}
use Rattle.percent_encoding.specs.Percent.{percent_decode}
use Rattle.unit_types.specs.Text.{cut}
use Rattle.unit_types.proofs.CutLemmas.{is_cut, is_whole}
use Rattle.control_api.specs.Control.{change_at}
use Rattle.control_api.specs.Keys.{are_texts, decoded_pieces}

-- the first piece, and those behind its slash
pub pieces_cut : (text front behind : List ℕ) → cut 47 text ≡ Some (front, behind) → decoded_pieces text ≡ percent_decode front ∷ decoded_pieces behind
pieces_cut text front behind is = ap (map percent_decode) (is_cut 47 text front behind is).parts

pub pieces_whole : (text : List ℕ) → cut 47 text ≡ None → decoded_pieces text ≡ percent_decode text ∷ []
pieces_whole text is = ap (map percent_decode) (is_whole 47 text is).parts

-- one more piece behind those so far
pub piece_pushed : (pieces keys pushed more : List (List ℕ)) (key piece : List ℕ) → pieces ≡ keys ++ piece ∷ more → key ≡ piece → pushed ≡ keys ++ key ∷ [] → pieces ≡ pushed ++ more
piece_pushed pieces keys pushed more key piece e k p = rw (p, k, append_assoc) e

-- ---- UTF-8 as a test

not_text : (bytes : List ℕ) (test : Bool) → is_utf8 bytes ≡ test → (IsUtf8 bytes → ⊥) → false ≡ is_utf8 bytes
not_text bytes true e refuted = absurd (refuted (IsUtf8-from_is_utf8 bytes e))
not_text bytes false e refuted = sym e

pub text_test : {T E : Type 0} (r : Result T E) (bytes : List ℕ) (P : T → Type 0) (Q : E → Type 0) → MatchResult r (λ s. P s × IsUtf8 bytes) (λ e. (IsUtf8 bytes → ⊥) × Q e) → is_ok r ≡ is_utf8 bytes
text_test (Ok s) bytes P Q h = sym (is_utf8-from_IsUtf8 bytes h.1)
text_test (Err e) bytes P Q h = not_text bytes (is_utf8 bytes) refl h.0

pub all_texts : (keys : List (List ℕ)) → are_texts keys ≡ true → All IsUtf8 keys
all_texts [] e = All-nil IsUtf8
all_texts (k ∷ ks) e =
    let p = and_parts (is_utf8 k) (are_texts ks) e in
    All-cons IsUtf8 k ks (IsUtf8-from_is_utf8 k p.0) (all_texts ks p.1)

-- ---- changes of the whole

pub whole_removed : (keys : List (List ℕ)) (d : Data) → length keys ≡ 0 → change_at keys (remove keys d) ≡ changed (object no_members)
whole_removed [] d e = refl
whole_removed (k ∷ ks) d e = absurd (omega arith)
