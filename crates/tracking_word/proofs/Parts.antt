-- What the kinds of step do to the parts of a rule of tags. Views are of any type: what of the stepping seat's view has
-- changed is a premise.
use Rattle.std.proofs.Common.{ℕ, ◌≡◌, ◌≢◌, ◌+◌, ◌<◌, ◌==◌, ◌⊎◌, inl, inr, ⊎_elim, List, [], ◌∷◌, ◌++◌, set, sym, ap, ◌∙◌, subst, arith}
use Rattle.std.proofs.lemmas.Bool.{cases_eq}
use Rattle.atomic_table.proofs.Lists.{at_set, at_snoc}
use mathlib.Core.Option.{some}
use lib.ListN.{get_elem?}
use Rattle.unit_model.specs.Weights.{weigh, is_number, one_if}
use Rattle.tracking_word.specs.Words.{Sets, Stays, is_pair}
use Rattle.unit_model.specs.Sharing.{Owned, Holds}
use Rattle.unit_model.proofs.Sharing.{owned_once}
use Rattle.unit_model.proofs.Views.{sum_set, sum_split, sum_join}
use Rattle.tracking_word.specs.Parts.{Counted, Known}
use Rattle.tracking_word.proofs.Words.{standing_stays, standing_armed, standing_settled, standing_pair}

-- ---- as many wins as arms, or one fewer

pub counted_stays : {V : Type 0} (arms wins : (ℕ → ℕ → ℕ) → V → ℕ) (n : ℕ) (tag tag' : ℕ → ℕ) (views : List V) (k : ℕ) (v u : V) → get_elem? views k ≡ some v
    → Stays n tag tag' → ((f : ℕ → ℕ → ℕ) → arms f u ≡ arms f v) → ((f : ℕ → ℕ → ℕ) → wins f u ≡ wins f v)
    → Counted arms wins n tag views → Counted arms wins n tag' (set views k u)
counted_stays arms wins n tag tag' views k v u at stays armed won old f =
    omega (arith, old f, sum_set (arms f) views k v u at, sum_set (wins f) views k v u at, armed f, won f, standing_stays f n tag tag' stays)

pub counted_arm : {V : Type 0} (arms wins : (ℕ → ℕ → ℕ) → V → ℕ) (n : ℕ) (tag tag' : ℕ → ℕ) (views : List V) (k : ℕ) (v u : V) → get_elem? views k ≡ some v
    → (item x : ℕ) → item < n → Sets n tag tag' item x → tag item ≡ 0 → 0 < x
    → ((f : ℕ → ℕ → ℕ) → arms f u ≡ f item x + arms f v) → ((f : ℕ → ℕ → ℕ) → wins f u ≡ wins f v)
    → Counted arms wins n tag views → Counted arms wins n tag' (set views k u)
counted_arm arms wins n tag tag' views k v u at item x lt sets was pos armed won old f =
    omega (arith, old f, sum_set (arms f) views k v u at, sum_set (wins f) views k v u at, armed f, won f, standing_armed f n tag tag' item x lt sets was pos)

pub counted_win : {V : Type 0} (arms wins : (ℕ → ℕ → ℕ) → V → ℕ) (n : ℕ) (tag tag' : ℕ → ℕ) (views : List V) (k : ℕ) (v u : V) → get_elem? views k ≡ some v
    → (item x : ℕ) → item < n → Sets n tag tag' item 0 → tag item ≡ x → 0 < x
    → ((f : ℕ → ℕ → ℕ) → arms f u ≡ arms f v) → ((f : ℕ → ℕ → ℕ) → wins f u ≡ f item x + wins f v)
    → Counted arms wins n tag views → Counted arms wins n tag' (set views k u)
counted_win arms wins n tag tag' views k v u at item x lt sets is pos armed won old f =
    omega (arith, old f, sum_set (arms f) views k v u at, sum_set (wins f) views k v u at, armed f, won f, standing_settled f n tag tag' item x lt sets is pos)

pub counted_split : {V : Type 0} (arms wins : (ℕ → ℕ → ℕ) → V → ℕ) (n : ℕ) (tag : ℕ → ℕ) (views : List V) (k : ℕ) (v left right : V) → get_elem? views k ≡ some v
    → ((f : ℕ → ℕ → ℕ) → arms f left + arms f right ≡ arms f v) → ((f : ℕ → ℕ → ℕ) → wins f left + wins f right ≡ wins f v)
    → Counted arms wins n tag views → Counted arms wins n tag (set views k left ++ right ∷ [])
counted_split arms wins n tag views k v left right at armed won old f =
    sum_split (arms f) views k v left right at (armed f) ∙ omega (arith, old f, sum_split (wins f) views k v left right at (won f))

pub counted_join : {V : Type 0} (arms wins : (ℕ → ℕ → ℕ) → V → ℕ) (n : ℕ) (tag : ℕ → ℕ) (views : List V) (k other : ℕ) (v w both spent : V) → get_elem? views k ≡ some v → get_elem? (set views k both) other ≡ some w
    → ((f : ℕ → ℕ → ℕ) → arms f both + arms f spent ≡ arms f v + arms f w) → ((f : ℕ → ℕ → ℕ) → wins f both + wins f spent ≡ wins f v + wins f w)
    → Counted arms wins n tag views → Counted arms wins n tag (set (set views k both) other spent)
counted_join arms wins n tag views k other v w both spent at there armed won old f =
    sum_join (arms f) views k other v w both spent at there (armed f) ∙ omega (arith, old f, sum_join (wins f) views k other v w both spent at there (won f))

-- of one item with one stream
pub counted_pair : {V : Type 0} (arms wins : (ℕ → ℕ → ℕ) → V → ℕ) (n : ℕ) (tag : ℕ → ℕ) (views : List V) → Counted arms wins n tag views
    → (item stream : ℕ) → item < n → 0 < stream → weigh (arms (is_pair item stream)) views ≡ weigh (wins (is_pair item stream)) views + one_if (tag item == stream)
counted_pair arms wins n tag views counted item stream lt pos = omega (arith, counted (is_pair item stream), standing_pair n tag item stream lt pos)

-- ---- what the holder of an item knows of its tag

-- the stepping seat's view, and all others
known_step : {V : Type 0} (held : (ℕ → ℕ) → V → ℕ) (says : V → ℕ → ℕ → Type 0) (n : ℕ) (tag' : ℕ → ℕ) (views : List V) (k : ℕ) (u : V)
    → ((i : ℕ) → i < n → Holds held i u → (x : ℕ) → says u i x → (tag' i ≡ x) ⊎ (tag' i ≡ 0))
    → ((j : ℕ) (w : V) → j ≢ k → get_elem? views j ≡ some w → (i : ℕ) → i < n → Holds held i w → (x : ℕ) → says w i x → (tag' i ≡ x) ⊎ (tag' i ≡ 0))
    → Known held says n tag' (set views k u)
known_step {V} held says n tag' views k u own others j w there =
    ⊎_elim
    (λ t. subst (λ (y : V). (i : ℕ) → i < n → Holds held i y → (x : ℕ) → says y i x → (tag' i ≡ x) ⊎ (tag' i ≡ 0)) t.1 own)
    (λ t. others j w t.0 t.1)
    (at_set views k j u w there)

pub known_stays : {V : Type 0} (held : (ℕ → ℕ) → V → ℕ) (says : V → ℕ → ℕ → Type 0) (n : ℕ) (tag tag' : ℕ → ℕ) (views : List V) (k : ℕ) (v u : V) → get_elem? views k ≡ some v
    → Stays n tag tag' → ((f : ℕ → ℕ) → held f u ≡ held f v) → ((i x : ℕ) → says u i x → (tag i ≡ x) ⊎ says v i x)
    → Known held says n tag views → Known held says n tag' (set views k u)
known_stays {V} held says n tag tag' views k v u at stays same told old =
    let still : (i x : ℕ) → i < n → (tag i ≡ x) ⊎ (tag i ≡ 0) → (tag' i ≡ x) ⊎ (tag' i ≡ 0) = λ i x lt. ⊎_elim (λ a. inl (stays i lt ∙ a)) (λ b. inr (stays i lt ∙ b)) in
    known_step held says n tag' views k u
    (λ i lt holds x says_x. still i x lt (⊎_elim (λ a. inl a) (λ before. old k v at i lt (subst (λ (m : ℕ). 0 < m) (same (is_number i)) holds) x before) (told i x says_x)))
    (λ j w ne there i lt holds x says_x. still i x lt (old j w there i lt holds x says_x))

pub known_arm : {V : Type 0} (held : (ℕ → ℕ) → V → ℕ) (elsewhere : (ℕ → ℕ) → ℕ) (says : V → ℕ → ℕ → Type 0) (n : ℕ) (tag tag' : ℕ → ℕ) (views : List V) (k : ℕ) (v u : V) → get_elem? views k ≡ some v
    → (item x : ℕ) → item < n → Sets n tag tag' item x → Holds held item v → ((f : ℕ → ℕ) → held f u ≡ held f v)
    → ((i y : ℕ) → says u i y → ((i ≡ item) × (y ≡ x)) ⊎ ((i ≢ item) × says v i y))
    → Owned held elsewhere n views → Known held says n tag views → Known held says n tag' (set views k u)
known_arm {V} held elsewhere says n tag tag' views k v u at item x lt sets mine same told owned old =
    let still : (i y : ℕ) → i < n → i ≢ item → (tag i ≡ y) ⊎ (tag i ≡ 0) → (tag' i ≡ y) ⊎ (tag' i ≡ 0) = λ i y below_n ne. ⊎_elim (λ a. inl (sets.others i below_n ne ∙ a)) (λ b. inr (sets.others i below_n ne ∙ b)) in
    known_step held says n tag' views k u
    (λ i below_n holds y says_y. ⊎_elim
    (λ t. inl (ap tag' t.0 ∙ sets.here ∙ sym t.1))
    (λ t. still i y below_n t.0 (old k v at i below_n (subst (λ (m : ℕ). 0 < m) (same (is_number i)) holds) y t.1))
    (told i y says_y))
    (λ j w ne there i below_n holds y says_y. ⊎_elim
    (λ is. absurd (owned_once held elsewhere n views k j v w (λ e. ne (sym e)) at there item lt mine owned (subst (λ (m : ℕ). Holds held m w) is holds)))
    (λ other. still i y below_n other (old j w there i below_n holds y says_y))
    (cases_eq i item))

pub known_win : {V : Type 0} (held : (ℕ → ℕ) → V → ℕ) (says : V → ℕ → ℕ → Type 0) (n : ℕ) (tag tag' : ℕ → ℕ) (views : List V) (k : ℕ) (v u : V) → get_elem? views k ≡ some v
    → (item : ℕ) → Sets n tag tag' item 0 → ((f : ℕ → ℕ) → held f u ≡ held f v)
    → ((i y : ℕ) → says u i y → (i ≡ item) ⊎ says v i y)
    → Known held says n tag views → Known held says n tag' (set views k u)
known_win {V} held says n tag tag' views k v u at item sets same told old =
    let still : (i y : ℕ) → i < n → ((tag i ≡ y) ⊎ (tag i ≡ 0)) → (tag' i ≡ y) ⊎ (tag' i ≡ 0) = λ i y below_n before. ⊎_elim
    (λ is. inr (ap tag' is ∙ sets.here))
    (λ ne. ⊎_elim (λ a. inl (sets.others i below_n ne ∙ a)) (λ b. inr (sets.others i below_n ne ∙ b)) before)
    (cases_eq i item) in
    known_step held says n tag' views k u
    (λ i below_n holds y says_y. ⊎_elim
    (λ is. inr (ap tag' is ∙ sets.here))
    (λ before. still i y below_n (old k v at i below_n (subst (λ (m : ℕ). 0 < m) (same (is_number i)) holds) y before))
    (told i y says_y))
    (λ j w ne there i below_n holds y says_y. still i y below_n (old j w there i below_n holds y says_y))

-- an item that is cut off is cut off with what is known of its tag
pub known_split : {V : Type 0} (held : (ℕ → ℕ) → V → ℕ) (says : V → ℕ → ℕ → Type 0) (n : ℕ) (tag : ℕ → ℕ) (views : List V) (k : ℕ) (v left right : V) → get_elem? views k ≡ some v
    → ((i : ℕ) → Holds held i left → Holds held i v × ((x : ℕ) → says left i x → says v i x)) → ((i : ℕ) → Holds held i right → Holds held i v × ((x : ℕ) → says right i x → says v i x))
    → Known held says n tag views → Known held says n tag (set views k left ++ right ∷ [])
known_split {V} held says n tag views k v left right at in_left in_right old j w there =
    ⊎_elim
    (λ before. known_step held says n tag views k left
    (λ i lt holds x says_x. old k v at i lt (in_left i holds).0 x ((in_left i holds).1 x says_x))
    (λ j' w' ne there'. old j' w' there')
    j w before)
    (λ is. subst (λ (y : V). (i : ℕ) → i < n → Holds held i y → (x : ℕ) → says y i x → (tag i ≡ x) ⊎ (tag i ≡ 0)) is (λ i lt holds x says_x. old k v at i lt (in_right i holds).0 x ((in_right i holds).1 x says_x)))
    (at_snoc (set views k left) right w j there)

pub known_join : {V : Type 0} (held : (ℕ → ℕ) → V → ℕ) (says : V → ℕ → ℕ → Type 0) (n : ℕ) (tag : ℕ → ℕ) (views : List V) (k other : ℕ) (v w both spent : V) → get_elem? views k ≡ some v → get_elem? views other ≡ some w
    → ((i x : ℕ) → Holds held i both → says both i x → (Holds held i v × says v i x) ⊎ (Holds held i w × says w i x)) → ((i : ℕ) → ¬ (Holds held i spent))
    → Known held says n tag views → Known held says n tag (set (set views k both) other spent)
known_join {V} held says n tag views k other v w both spent at there from nothing old =
    known_step held says n tag (set views k both) other spent
    (λ i lt holds x says_x. absurd (nothing i holds))
    (λ j y ne in_both. known_step held says n tag views k both
    (λ i lt holds x says_x. ⊎_elim (λ t. old k v at i lt t.0 x t.1) (λ t. old other w there i lt t.0 x t.1) (from i x holds says_x))
    (λ j' y' ne' there'. old j' y' there')
    j y in_both)

-- ---- an item comes to the stepping seat, or goes, and no tag changes

-- The seat holds one more item, of whose tag it says what is so, or nothing.
pub known_gains : {V : Type 0} (held : (ℕ → ℕ) → V → ℕ) (says : V → ℕ → ℕ → Type 0) (n : ℕ) (tag tag' : ℕ → ℕ) (views : List V) (k : ℕ) (v u : V) → get_elem? views k ≡ some v
    → Stays n tag tag' → (item : ℕ) → ((i : ℕ) → i ≢ item → Holds held i u → Holds held i v)
    → ((x : ℕ) → says u item x → (tag item ≡ x) ⊎ (tag item ≡ 0)) → ((i x : ℕ) → i ≢ item → says u i x → says v i x)
    → Known held says n tag views → Known held says n tag' (set views k u)
known_gains {V} held says n tag tag' views k v u at stays item others_held told others_told old =
    let still : (i x : ℕ) → i < n → (tag i ≡ x) ⊎ (tag i ≡ 0) → (tag' i ≡ x) ⊎ (tag' i ≡ 0) = λ i x lt. ⊎_elim (λ a. inl (stays i lt ∙ a)) (λ b. inr (stays i lt ∙ b)) in
    known_step held says n tag' views k u
    (λ i lt holds x says_x. still i x lt (⊎_elim
    (λ is. subst (λ (j : ℕ). (tag j ≡ x) ⊎ (tag j ≡ 0)) (sym is) (told x (subst (λ (j : ℕ). says u j x) is says_x)))
    (λ ne. old k v at i lt (others_held i ne holds) x (others_told i x ne says_x))
    (cases_eq i item)))
    (λ j w ne there i lt holds x says_x. still i x lt (old j w there i lt holds x says_x))

-- The seat holds no item that it didn't hold.
pub known_loses : {V : Type 0} (held : (ℕ → ℕ) → V → ℕ) (says : V → ℕ → ℕ → Type 0) (n : ℕ) (tag tag' : ℕ → ℕ) (views : List V) (k : ℕ) (v u : V) → get_elem? views k ≡ some v
    → Stays n tag tag' → ((i : ℕ) → Holds held i u → Holds held i v × ((x : ℕ) → says u i x → says v i x))
    → Known held says n tag views → Known held says n tag' (set views k u)
known_loses {V} held says n tag tag' views k v u at stays fewer old =
    let still : (i x : ℕ) → i < n → (tag i ≡ x) ⊎ (tag i ≡ 0) → (tag' i ≡ x) ⊎ (tag' i ≡ 0) = λ i x lt. ⊎_elim (λ a. inl (stays i lt ∙ a)) (λ b. inr (stays i lt ∙ b)) in
    known_step held says n tag' views k u
    (λ i lt holds x says_x. still i x lt (old k v at i lt (fewer i holds).0 x ((fewer i holds).1 x says_x)))
    (λ j w ne there i lt holds x says_x. still i x lt (old j w there i lt holds x says_x))
