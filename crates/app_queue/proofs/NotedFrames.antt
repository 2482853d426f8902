-- What steps, splits and joins do to what is said of runs and parts that are noted.
use Rattle.std.proofs.Common.{ℕ, ◌≡◌, ◌≢◌, ◌≤◌, ◌<◌, ◌∙◌, ⊎_elim, List, set, sym, ap, subst, arith}
use Rattle.std.proofs.lemmas.Bool.{cases_eq}
use Rattle.std.proofs.lemmas.Bool.Decides.{nat_tests}
use mathlib.Core.Option.{some}
use lib.ListN.{get_elem?}
use Rattle.tracking_word.specs.Words.{is_pair}
use Rattle.unit_model.specs.Weights.{weigh}
use Rattle.unit_model.proofs.Views.{sum_set, sum_at, sum_split, sum_join}
use Rattle.app_queue.specs.FrameLaws.{NotedStayLaw, NotedSetLaw}
use Rattle.app_queue.specs.SeatLaws.{NotedSplitLaw, NotedJoinLaw}
use Rattle.app_queue.proofs.ForEach.{at_queue}

-- a pair weighs 1 by itself
pub is_pair_same : (item x : ℕ) → is_pair item x item x ≡ 1
is_pair_same item x = grind (arith, nat_tests)

-- a word that the step leaves
word_stays : {V : Type 0} (notes : (ℕ → ℕ → ℕ) → V → ℕ) (views : List V) (k : ℕ) (v u : V) → get_elem? views k ≡ some v → ((f : ℕ → ℕ → ℕ) → notes f v ≤ notes f u) → (item x y : ℕ) → y ≡ x
    → (x ≢ 0 → 0 < weigh (notes (is_pair item x)) views) → y ≢ 0 → 0 < weigh (notes (is_pair item y)) (set views k u)
word_stays notes views k v u at more item x y same was some_word =
    let f : ℕ → ℕ → ℕ = is_pair item y in
    let before : 0 < weigh (notes f) views = subst (λ (z : ℕ). 0 < weigh (notes (is_pair item z)) views) (sym same) (was (λ none. some_word (same ∙ none))) in
    omega (arith, before, sum_set (notes f) views k v u at, more f)

pub words_noted : (V : Type 0) → NotedStayLaw V
words_noted V notes shape word word' views k v u at stays more old q lt item below_n =
    word_stays (notes q) views k v u at (more q) item (word q item) (word' q item) (stays q lt item below_n) (old q lt item below_n)

pub words_noted_set : (V : Type 0) → NotedSetLaw V
words_noted_set V notes shape word word' views k v u at q one x sets noted more old r lt item below_n some_word =
    at_queue (λ p. p < shape.queues → item < shape.items p → word' p item ≢ 0 → 0 < weigh (notes p (is_pair item (word' p item))) (set views k u)) shape.queues q
    (λ here i_lt some_one. ⊎_elim
    (λ is.
    let f : ℕ → ℕ → ℕ = is_pair item (word' q item) in
    let is_x : word' q item ≡ x = ap (word' q) is ∙ sets.here.here in
    let mine : 0 < notes q f u = subst (λ (y : ℕ). 0 < notes q (is_pair item y) u) (sym is_x) (subst (λ (i : ℕ). 0 < notes q (is_pair i x) u) (sym is) noted) in
    omega (arith, mine, sum_set (notes q f) views k v u at, sum_at (notes q f) views k v at))
    (λ ne. word_stays (notes q) views k v u at (more q) item (word q item) (word' q item) (sets.here.others item i_lt ne) (old q here item i_lt) some_one)
    (cases_eq item one))
    (λ p there ne again i_lt some_one. word_stays (notes p) views k v u at (more p) item (word p item) (word' p item) (sets.others p there ne item i_lt) (old p there item i_lt) some_one)
    r lt lt below_n some_word

pub words_noted_split : (V : Type 0) → NotedSplitLaw V
words_noted_split V notes shape word views k v left right at parted old q lt item below_n some_word =
    let f : ℕ → ℕ → ℕ = is_pair item (word q item) in
    omega (arith, old q lt item below_n some_word, sum_split (notes q f) views k v left right at (parted q f))

pub words_noted_join : (V : Type 0) → NotedJoinLaw V
words_noted_join V notes shape word views k other v o both spent two united old q lt item below_n some_word =
    let f : ℕ → ℕ → ℕ = is_pair item (word q item) in
    omega (arith, old q lt item below_n some_word, sum_join (notes q f) views k other v o both spent two.first two.second (united q f))
