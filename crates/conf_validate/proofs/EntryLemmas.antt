-- Members of the table one by one.
use Rattle.std.proofs.Common.{◌≡◌, ◌∙◌, ℕ, ◌+◌, ◌<◌, Bool, true, false, not, ◌||◌, ◌&&◌, List, ◌∷◌, length, map, drop, get_or, Bor, Some, if◌then◌else◌, ap}
use Rattle.std.proofs.lemmas.List.{drop_more}
use Rattle.std.specs.Str.{bytes_eq}
use Rattle.serde_json.specs.Data.{Members}
use Rattle.conf_validate.specs.Choices.{has}
use Rattle.conf_validate.specs.Entries.{entry_of}
use Rattle.conf_validate.specs.Table.{place_among}
use Rattle.conf_validate.specs.Valid.{has_required}
use Rattle.conf_validate.specs.declared.place.Place.{Place}

abbrev pub Known : Type 0
Known = Bor (List ℕ) × Place × Bool

pub place_here : (name : List ℕ) (es : List Known) (i : ℕ) (d : Known) → i < length es → bytes_eq name (get_or es i d).0.now ≡ true → place_among name (map entry_of (drop i es)) ≡ Some (get_or es i d).1
place_here name es i d lt e =
    ap (λ (xs : List Known). place_among name (map entry_of xs)) (drop_more es i d lt)
    ∙ ap (λ b. if b then Some (get_or es i d).1 else place_among name (map entry_of (drop (i + 1) es))) e

pub place_later : (name : List ℕ) (es : List Known) (i : ℕ) (d : Known) → i < length es → bytes_eq name (get_or es i d).0.now ≡ false → place_among name (map entry_of (drop i es)) ≡ place_among name (map entry_of (drop (i + 1) es))
place_later name es i d lt e =
    ap (λ (xs : List Known). place_among name (map entry_of xs)) (drop_more es i d lt)
    ∙ ap (λ b. if b then Some (get_or es i d).1 else place_among name (map entry_of (drop (i + 1) es))) e

-- the first of these members is there if it has to be, or it isn't
pub first_met : (es : List Known) (i : ℕ) (d : Known) (ms : Members) (b : Bool) → i < length es → (not (get_or es i d).2 || has (get_or es i d).0.now ms) ≡ b → has_required (map entry_of (drop i es)) ms ≡ (b && has_required (map entry_of (drop (i + 1) es)) ms)
first_met es i d ms b lt e =
    ap (λ (xs : List Known). has_required (map entry_of xs) ms) (drop_more es i d lt)
    ∙ ap (λ x. x && has_required (map entry_of (drop (i + 1) es)) ms) e
