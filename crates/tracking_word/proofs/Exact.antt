-- What the kinds of step do to words that only the holder of an item sets, so that its view says them exactly. Views are of any
-- type: what of the stepping seat's view has changed is a premise.
use Rattle.std.proofs.Common.{ℕ, ◌≡◌, ◌≢◌, ◌<◌, ◌⊎◌, ⊎_elim, List, [], ◌∷◌, ◌++◌, set, sym, ap, ◌∙◌, subst}
use Rattle.std.proofs.lemmas.Bool.{cases_eq}
use Rattle.atomic_table.proofs.Lists.{at_set, at_snoc}
use mathlib.Core.Option.{some}
use lib.ListN.{get_elem?}
use Rattle.unit_model.specs.Sharing.{Owned, Holds}
use Rattle.unit_model.proofs.Sharing.{owned_once}
use Rattle.tracking_word.specs.Words.{Sets, Stays}
use Rattle.tracking_word.specs.Parts.{KnownExactly}

-- the stepping seat's view, and all others
exact_step : {V : Type 0} (held : (ℕ → ℕ) → V → ℕ) (says : V → ℕ → ℕ → Type 0) (n : ℕ) (word' : ℕ → ℕ) (views : List V) (k : ℕ) (u : V)
    → ((i : ℕ) → i < n → Holds held i u → (x : ℕ) → says u i x → word' i ≡ x)
    → ((j : ℕ) (w : V) → j ≢ k → get_elem? views j ≡ some w → (i : ℕ) → i < n → Holds held i w → (x : ℕ) → says w i x → word' i ≡ x)
    → KnownExactly held says n word' (set views k u)
exact_step {V} held says n word' views k u own others j w there =
    ⊎_elim
    (λ t. subst (λ (y : V). (i : ℕ) → i < n → Holds held i y → (x : ℕ) → says y i x → word' i ≡ x) t.1 own)
    (λ t. others j w t.0 t.1)
    (at_set views k j u w there)

-- No word changes, and the seat holds no item that it didn't hold: the frame, and an item that goes.
pub exact_loses : {V : Type 0} (held : (ℕ → ℕ) → V → ℕ) (says : V → ℕ → ℕ → Type 0) (n : ℕ) (word word' : ℕ → ℕ) (views : List V) (k : ℕ) (v u : V) → get_elem? views k ≡ some v
    → Stays n word word' → ((i : ℕ) → Holds held i u → Holds held i v × ((x : ℕ) → says u i x → (word i ≡ x) ⊎ says v i x))
    → KnownExactly held says n word views → KnownExactly held says n word' (set views k u)
exact_loses {V} held says n word word' views k v u at stays fewer old =
    exact_step held says n word' views k u
    (λ i lt holds x says_x. stays i lt ∙ ⊎_elim (λ is. is) (λ before. old k v at i lt (fewer i holds).0 x before) ((fewer i holds).1 x says_x))
    (λ j w ne there i lt holds x says_x. stays i lt ∙ old j w there i lt holds x says_x)

-- The seat holds one more item, of whose word it says what is so, or nothing.
pub exact_gains : {V : Type 0} (held : (ℕ → ℕ) → V → ℕ) (says : V → ℕ → ℕ → Type 0) (n : ℕ) (word word' : ℕ → ℕ) (views : List V) (k : ℕ) (v u : V) → get_elem? views k ≡ some v
    → Stays n word word' → (item : ℕ) → ((i : ℕ) → i ≢ item → Holds held i u → Holds held i v)
    → ((x : ℕ) → says u item x → word item ≡ x) → ((i x : ℕ) → i ≢ item → says u i x → says v i x)
    → KnownExactly held says n word views → KnownExactly held says n word' (set views k u)
exact_gains {V} held says n word word' views k v u at stays item others_held told others_told old =
    exact_step held says n word' views k u
    (λ i lt holds x says_x. stays i lt ∙ ⊎_elim
    (λ is. ap word is ∙ told x (subst (λ (j : ℕ). says u j x) is says_x))
    (λ ne. old k v at i lt (others_held i ne holds) x (others_told i x ne says_x))
    (cases_eq i item))
    (λ j w ne there i lt holds x says_x. stays i lt ∙ old j w there i lt holds x says_x)

-- the holder sets the word of an item
pub exact_sets : {V : Type 0} (held : (ℕ → ℕ) → V → ℕ) (elsewhere : (ℕ → ℕ) → ℕ) (says : V → ℕ → ℕ → Type 0) (n : ℕ) (word word' : ℕ → ℕ) (views : List V) (k : ℕ) (v u : V) → get_elem? views k ≡ some v
    → (item x : ℕ) → item < n → Sets n word word' item x → Holds held item v → ((i : ℕ) → Holds held i u → Holds held i v)
    → ((i y : ℕ) → says u i y → ((i ≡ item) × (y ≡ x)) ⊎ ((i ≢ item) × says v i y))
    → Owned held elsewhere n views → KnownExactly held says n word views → KnownExactly held says n word' (set views k u)
exact_sets {V} held elsewhere says n word word' views k v u at item x lt sets mine same told owned old =
    exact_step held says n word' views k u
    (λ i below_n holds y says_y. ⊎_elim
    (λ t. ap word' t.0 ∙ sets.here ∙ sym t.1)
    (λ t. sets.others i below_n t.0 ∙ old k v at i below_n (same i holds) y t.1)
    (told i y says_y))
    (λ j w ne there i below_n holds y says_y. ⊎_elim
    (λ is. absurd (owned_once held elsewhere n views k j v w (λ e. ne (sym e)) at there item lt mine owned (subst (λ (m : ℕ). Holds held m w) is holds)))
    (λ other. sets.others i below_n other ∙ old j w there i below_n holds y says_y)
    (cases_eq i item))

-- an item that is cut off is cut off with what is known of its word
pub exact_split : {V : Type 0} (held : (ℕ → ℕ) → V → ℕ) (says : V → ℕ → ℕ → Type 0) (n : ℕ) (word : ℕ → ℕ) (views : List V) (k : ℕ) (v left right : V) → get_elem? views k ≡ some v
    → ((i : ℕ) → Holds held i left → Holds held i v × ((x : ℕ) → says left i x → says v i x)) → ((i : ℕ) → Holds held i right → Holds held i v × ((x : ℕ) → says right i x → says v i x))
    → KnownExactly held says n word views → KnownExactly held says n word (set views k left ++ right ∷ [])
exact_split {V} held says n word views k v left right at in_left in_right old j w there =
    ⊎_elim
    (λ before. exact_step held says n word views k left
    (λ i lt holds x says_x. old k v at i lt (in_left i holds).0 x ((in_left i holds).1 x says_x))
    (λ j' w' ne there'. old j' w' there')
    j w before)
    (λ is. subst (λ (y : V). (i : ℕ) → i < n → Holds held i y → (x : ℕ) → says y i x → word i ≡ x) is (λ i lt holds x says_x. old k v at i lt (in_right i holds).0 x ((in_right i holds).1 x says_x)))
    (at_snoc (set views k left) right w j there)

pub exact_join : {V : Type 0} (held : (ℕ → ℕ) → V → ℕ) (says : V → ℕ → ℕ → Type 0) (n : ℕ) (word : ℕ → ℕ) (views : List V) (k other : ℕ) (v w both spent : V) → get_elem? views k ≡ some v → get_elem? views other ≡ some w
    → ((i x : ℕ) → Holds held i both → says both i x → (Holds held i v × says v i x) ⊎ (Holds held i w × says w i x)) → ((i : ℕ) → ¬ (Holds held i spent))
    → KnownExactly held says n word views → KnownExactly held says n word (set (set views k both) other spent)
exact_join {V} held says n word views k other v w both spent at there from nothing old =
    exact_step held says n word (set views k both) other spent
    (λ i lt holds x says_x. absurd (nothing i holds))
    (λ j y ne in_both. exact_step held says n word views k both
    (λ i lt holds x says_x. ⊎_elim (λ t. old k v at i lt t.0 x t.1) (λ t. old other w there i lt t.0 x t.1) (from i x holds says_x))
    (λ j' y' ne' there'. old j' y' there')
    j y in_both)
