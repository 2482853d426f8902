-- What a set of lower-case names knows.
use Rattle.std.proofs.Common.{◌≡◌, ℕ, Bool, true, false, cond, ◌||◌, List, [], ◌∷◌, ◌++◌, Option, Some, is_eq, refl, sym, ap, ◌∙◌}
use Rattle.std.proofs.lemmas.List.Folds.{list_any-append}
use Rattle.std.proofs.lemmas.Map.Text.{is_eq-slice_cmp}
use Rattle.std.specs.Cmp.Lexicographic.{slice_cmp}
use Rattle.std.specs.List.{list_any}
use Rattle.std.specs.Option.{is_some}
use Rattle.std.specs.Ordering.{nat_cmp}
use Rattle.std.specs.Str.{bytes_eq, str_to_ascii_lowercase}

or_true : (b : Bool) → (b || true) ≡ true
or_true true = refl
or_true false = refl

or_false : (b : Bool) → (b || false) ≡ b
or_false true = refl
or_false false = refl

either : {A : Type 0} (b : Bool) (v : A) (o : Option A) → is_some (cond b (Some v) o) ≡ (is_some o || b)
either true v o = sym (or_true (is_some o))
either false v o = sym (or_false (is_some o))

-- one name more
pub known_more : {A : Type 0} (earlier : List (List ℕ)) (name lower q : List ℕ) (v : A) (o : Option A) → lower ≡ str_to_ascii_lowercase name → is_some o ≡ list_any (λ e. bytes_eq (str_to_ascii_lowercase e) q) earlier → is_some (cond (is_eq (slice_cmp nat_cmp lower q)) (Some v) o) ≡ list_any (λ e. bytes_eq (str_to_ascii_lowercase e) q) (earlier ++ name ∷ [])
known_more earlier name lower q v o e h =
    let here : is_eq (slice_cmp nat_cmp lower q) ≡ bytes_eq (str_to_ascii_lowercase name) q = is_eq-slice_cmp lower q ∙ ap (λ l. bytes_eq l q) e in
    either (is_eq (slice_cmp nat_cmp lower q)) v o
    ∙ ap (λ b. b || is_eq (slice_cmp nat_cmp lower q)) h
    ∙ ap (λ b. list_any (λ e. bytes_eq (str_to_ascii_lowercase e) q) earlier || b) (here ∙ sym (or_false _))
    ∙ sym (list_any-append (λ e. bytes_eq (str_to_ascii_lowercase e) q) earlier (name ∷ []))
