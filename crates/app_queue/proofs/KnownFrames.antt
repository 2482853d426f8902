-- What steps do to what holders know of their items' words. `good i x` is what it means that a view says x of the item i: that
-- its word is x, or, of a tag, that it is x or 0.
use Rattle.std.proofs.Common.{ℕ, ◌≡◌, ◌≢◌, ◌<◌, ◌⊎◌, inl, inr, ⊎_elim, List, set, sym, ap, ◌∙◌, subst}
use Rattle.std.proofs.lemmas.Bool.{cases_eq}
use mathlib.Core.Option.{some}
use lib.ListN.{get_elem?}
use Rattle.atomic_table.proofs.Lists.{at_set}
use Rattle.unit_model.specs.Sharing.{Owned, Holds}
use Rattle.unit_model.proofs.Sharing.{owned_once}
use Rattle.tracking_word.specs.Words.{Sets, Stays}
use Rattle.tracking_word.proofs.Parts.{known_split, known_join}
use Rattle.tracking_word.proofs.Exact.{exact_split, exact_join}
use Rattle.app_queue.specs.FrameLaws.{TagsKnownStayLaw, TagsKnownOneLaw, TagsKnownSetLaw, TagsKnownWinLaw, WordsKnownStayLaw, WordsKnownOneLaw, WordsKnownSetLaw}
use Rattle.app_queue.specs.SeatLaws.{TagsKnownSplitLaw, TagsKnownJoinLaw, WordsKnownSplitLaw, WordsKnownJoinLaw}
use Rattle.app_queue.proofs.ForEach.{at_queue, second_was}

-- what a view says of the items that it holds is good
abbrev IsGood : {V : Type 0} → ((ℕ → ℕ) → V → ℕ) → (V → ℕ → ℕ → Type 0) → ℕ → (ℕ → ℕ → Type 0) → V → Type 0
IsGood held says n good v = (i : ℕ) → i < n → Holds held i v → (x : ℕ) → says v i x → good i x

abbrev AllGood : {V : Type 0} → ((ℕ → ℕ) → V → ℕ) → (V → ℕ → ℕ → Type 0) → ℕ → (ℕ → ℕ → Type 0) → List V → Type 0
AllGood {V} held says n good views = (k : ℕ) (v : V) → get_elem? views k ≡ some v → IsGood held says n good v

-- the stepping seat's view, and all others
good_step : {V : Type 0} (held : (ℕ → ℕ) → V → ℕ) (says : V → ℕ → ℕ → Type 0) (n : ℕ) (good : ℕ → ℕ → Type 0) (views : List V) (k : ℕ) (u : V) → IsGood held says n good u
    → ((j : ℕ) (w : V) → j ≢ k → get_elem? views j ≡ some w → IsGood held says n good w) → AllGood held says n good (set views k u)
good_step {V} held says n good views k u own others j w there =
    ⊎_elim (λ t. subst (λ (y : V). IsGood held says n good y) t.1 own) (λ t. others j w t.0 t.1) (at_set views k j u w there)

module _ {V : Type 0} (held : (ℕ → ℕ) → V → ℕ) (says : V → ℕ → ℕ → Type 0) (n : ℕ) (good good' : ℕ → ℕ → Type 0) (views : List V) (k : ℕ) (v u : V) (at : get_elem? views k ≡ some v) (old : AllGood held says n good views) where
  good_stays : ((i x : ℕ) → i < n → good i x → good' i x) → ((i : ℕ) → Holds held i u → Holds held i v × ((x : ℕ) → says u i x → says v i x)) → AllGood held says n good' (set views k u)
  good_stays still fewer =
      good_step held says n good' views k u
      (λ i lt holds x told. still i x lt (old k v at i lt (fewer i holds).0 x ((fewer i holds).1 x told)))
      (λ j w ne there i lt holds x told. still i x lt (old j w there i lt holds x told))

  -- of one item the seat says what is good
  good_one : ((i x : ℕ) → i < n → good i x → good' i x) → (one : ℕ) → ((i : ℕ) → i ≢ one → Holds held i u → Holds held i v × ((x : ℕ) → says u i x → says v i x)) → ((x : ℕ) → says u one x → good' one x)
      → AllGood held says n good' (set views k u)
  good_one still one fewer so =
      good_step held says n good' views k u
      (λ i lt holds x told. ⊎_elim
      (λ is. subst (λ (j : ℕ). good' j x) (sym is) (so x (subst (λ (j : ℕ). says u j x) is told)))
      (λ ne. still i x lt (old k v at i lt (fewer i ne holds).0 x ((fewer i ne holds).1 x told)))
      (cases_eq i one))
      (λ j w ne there i lt holds x told. still i x lt (old j w there i lt holds x told))

  -- the word of an item that the seat alone holds is set
  good_set : (elsewhere : (ℕ → ℕ) → ℕ) → Owned held elsewhere n views → (one : ℕ) → one < n → Holds held one v → ((i x : ℕ) → i < n → i ≢ one → good i x → good' i x)
      → ((i : ℕ) → i ≢ one → Holds held i u → Holds held i v × ((x : ℕ) → says u i x → says v i x)) → ((x : ℕ) → says u one x → good' one x) → AllGood held says n good' (set views k u)
  good_set elsewhere owned one below_n mine still fewer so =
      good_step held says n good' views k u
      (λ i lt holds x told. ⊎_elim
      (λ is. subst (λ (j : ℕ). good' j x) (sym is) (so x (subst (λ (j : ℕ). says u j x) is told)))
      (λ ne. still i x lt ne (old k v at i lt (fewer i ne holds).0 x ((fewer i ne holds).1 x told)))
      (cases_eq i one))
      (λ j w ne there i lt holds x told. ⊎_elim
      (λ is. absurd (owned_once held elsewhere n views k j v w (λ e. ne (sym e)) at there one below_n mine owned (subst (λ (m : ℕ). Holds held m w) is holds)))
      (λ other. still i x lt other (old j w there i lt holds x told))
      (cases_eq i one))

-- ---- what it means of a tag, and of a run or a part

abbrev IsOrZero : (ℕ → ℕ) → ℕ → ℕ → Type 0
IsOrZero tag i x = (tag i ≡ x) ⊎ (tag i ≡ 0)

abbrev IsJust : (ℕ → ℕ) → ℕ → ℕ → Type 0
IsJust word i x = word i ≡ x

zero_stays : (n : ℕ) (tag tag' : ℕ → ℕ) → Stays n tag tag' → (i x : ℕ) → i < n → IsOrZero tag i x → IsOrZero tag' i x
zero_stays n tag tag' stays i x lt = ⊎_elim (λ is. inl (stays i lt ∙ is)) (λ none. inr (stays i lt ∙ none))

just_stays : (n : ℕ) (word word' : ℕ → ℕ) → Stays n word word' → (i x : ℕ) → i < n → IsJust word i x → IsJust word' i x
just_stays n word word' stays i x lt is = stays i lt ∙ is

-- ---- the laws

pub tags_known : (V : Type 0) (says : ℕ → V → ℕ → ℕ → Type 0) → TagsKnownStayLaw V says
tags_known V says held shape tag tag' views k v u at stays fewer old q lt =
    good_stays (held q) (says q) (shape.items q) (IsOrZero (tag q)) (IsOrZero (tag' q)) views k v u at (old q lt) (zero_stays (shape.items q) (tag q) (tag' q) (stays q lt)) (fewer q)

pub words_known : (V : Type 0) (says : ℕ → V → ℕ → ℕ → Type 0) → WordsKnownStayLaw V says
words_known V says held shape word word' views k v u at stays fewer old q lt =
    good_stays (held q) (says q) (shape.items q) (IsJust (word q)) (IsJust (word' q)) views k v u at (old q lt) (just_stays (shape.items q) (word q) (word' q) (stays q lt)) (fewer q)

pub tags_known_one : (V : Type 0) (says : ℕ → V → ℕ → ℕ → Type 0) → TagsKnownOneLaw V says
tags_known_one V says held shape tag tag' views k v u at stays q one fewer so old r lt =
    at_queue (λ p. p < shape.queues → AllGood (held p) (says p) (shape.items p) (IsOrZero (tag' p)) (set views k u)) shape.queues q
    (λ here. good_one (held q) (says q) (shape.items q) (IsOrZero (tag q)) (IsOrZero (tag' q)) views k v u at (old q here) (zero_stays (shape.items q) (tag q) (tag' q) (stays q here)) one (λ i ne holds. fewer q i here (inr ne) holds) so)
    (λ p there ne again. good_stays (held p) (says p) (shape.items p) (IsOrZero (tag p)) (IsOrZero (tag' p)) views k v u at (old p there) (zero_stays (shape.items p) (tag p) (tag' p) (stays p there)) (λ i holds. fewer p i there (inl ne) holds))
    r lt lt

pub words_known_one : (V : Type 0) (says : ℕ → V → ℕ → ℕ → Type 0) → WordsKnownOneLaw V says
words_known_one V says held shape word word' views k v u at stays q one fewer so old r lt =
    at_queue (λ p. p < shape.queues → AllGood (held p) (says p) (shape.items p) (IsJust (word' p)) (set views k u)) shape.queues q
    (λ here. good_one (held q) (says q) (shape.items q) (IsJust (word q)) (IsJust (word' q)) views k v u at (old q here) (just_stays (shape.items q) (word q) (word' q) (stays q here)) one (λ i ne holds. fewer q i here (inr ne) holds) so)
    (λ p there ne again. good_stays (held p) (says p) (shape.items p) (IsJust (word p)) (IsJust (word' p)) views k v u at (old p there) (just_stays (shape.items p) (word p) (word' p) (stays p there)) (λ i holds. fewer p i there (inl ne) holds))
    r lt lt

pub tags_known_set : (V : Type 0) (says : ℕ → V → ℕ → ℕ → Type 0) → TagsKnownSetLaw V says
tags_known_set V says held elsewhere shape tag tag' views k v u at q item x q_lt item_lt sets mine owned fewer so old r lt =
    at_queue (λ p. p < shape.queues → AllGood (held p) (says p) (shape.items p) (IsOrZero (tag' p)) (set views k u)) shape.queues q
    (λ here. good_set (held q) (says q) (shape.items q) (IsOrZero (tag q)) (IsOrZero (tag' q)) views k v u at (old q here) (elsewhere q) owned item item_lt mine
    (λ i y below_n ne. ⊎_elim (λ is. inl (sets.here.others i below_n ne ∙ is)) (λ none. inr (sets.here.others i below_n ne ∙ none)))
    (λ i ne holds. fewer q i here (inr ne) holds) (λ y told. inl (sets.here.here ∙ sym (so y told))))
    (λ p there ne again. good_stays (held p) (says p) (shape.items p) (IsOrZero (tag p)) (IsOrZero (tag' p)) views k v u at (old p there) (zero_stays (shape.items p) (tag p) (tag' p) (sets.others p there ne)) (λ i holds. fewer p i there (inl ne) holds))
    r lt lt

pub words_known_set : (V : Type 0) (says : ℕ → V → ℕ → ℕ → Type 0) → WordsKnownSetLaw V says
words_known_set V says held elsewhere shape word word' views k v u at q item x q_lt item_lt sets mine owned fewer so old r lt =
    at_queue (λ p. p < shape.queues → AllGood (held p) (says p) (shape.items p) (IsJust (word' p)) (set views k u)) shape.queues q
    (λ here. good_set (held q) (says q) (shape.items q) (IsJust (word q)) (IsJust (word' q)) views k v u at (old q here) (elsewhere q) owned item item_lt mine
    (λ i y below_n ne is. sets.here.others i below_n ne ∙ is)
    (λ i ne holds. fewer q i here (inr ne) holds) (λ y told. sets.here.here ∙ sym (so y told)))
    (λ p there ne again. good_stays (held p) (says p) (shape.items p) (IsJust (word p)) (IsJust (word' p)) views k v u at (old p there) (just_stays (shape.items p) (word p) (word' p) (sets.others p there ne)) (λ i holds. fewer p i there (inl ne) holds))
    r lt lt

-- the tag of this item alone is 0 then
zero_won : (n : ℕ) (tag tag' : ℕ → ℕ) (item : ℕ) → Sets n tag tag' item 0 → (i x : ℕ) → i < n → IsOrZero tag i x → IsOrZero tag' i x
zero_won n tag tag' item sets i x lt before =
    ⊎_elim
    (λ is. inr (ap tag' is ∙ sets.here))
    (λ ne. ⊎_elim (λ is. inl (sets.others i lt ne ∙ is)) (λ none. inr (sets.others i lt ne ∙ none)) before)
    (cases_eq i item)

pub tags_known_won : (V : Type 0) (says : ℕ → V → ℕ → ℕ → Type 0) → TagsKnownWinLaw V says
tags_known_won V says held shape tag tag' views k v u at q item sets fewer old r lt =
    at_queue (λ p. p < shape.queues → AllGood (held p) (says p) (shape.items p) (IsOrZero (tag' p)) (set views k u)) shape.queues q
    (λ here. good_one (held q) (says q) (shape.items q) (IsOrZero (tag q)) (IsOrZero (tag' q)) views k v u at (old q here) (zero_won (shape.items q) (tag q) (tag' q) item sets.here) item (λ i ne holds. fewer q i here (inr ne) holds) (λ x told. inr sets.here.here))
    (λ p there ne again. good_stays (held p) (says p) (shape.items p) (IsOrZero (tag p)) (IsOrZero (tag' p)) views k v u at (old p there) (zero_stays (shape.items p) (tag p) (tag' p) (sets.others p there ne)) (λ i holds. fewer p i there (inl ne) holds))
    r lt lt

-- ---- seats

pub tags_known_split : (V : Type 0) (says : ℕ → V → ℕ → ℕ → Type 0) → TagsKnownSplitLaw V says
tags_known_split V says held shape tag views k v left right at l r old q lt = known_split (held q) (says q) (shape.items q) (tag q) views k v left right at (l q) (r q) (old q lt)

pub words_known_split : (V : Type 0) (says : ℕ → V → ℕ → ℕ → Type 0) → WordsKnownSplitLaw V says
words_known_split V says held shape word views k v left right at l r old q lt = exact_split (held q) (says q) (shape.items q) (word q) views k v left right at (l q) (r q) (old q lt)

pub tags_known_join : (V : Type 0) (says : ℕ → V → ℕ → ℕ → Type 0) → TagsKnownJoinLaw V says
tags_known_join V says held shape tag views k other v o both spent two from nothing old q lt =
    known_join (held q) (says q) (shape.items q) (tag q) views k other v o both spent two.first (second_was views k v both other o two) (from q) (nothing q) (old q lt)

pub words_known_join : (V : Type 0) (says : ℕ → V → ℕ → ℕ → Type 0) → WordsKnownJoinLaw V says
words_known_join V says held shape word views k other v o both spent two from nothing old q lt =
    exact_join (held q) (says q) (shape.items q) (word q) views k other v o both spent two.first (second_was views k v both other o two) (from q) (nothing q) (old q lt)
