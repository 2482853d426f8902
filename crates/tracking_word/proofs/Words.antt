-- What one tag that changes does to the weight of them all.
use Rattle.std.proofs.Common.{ℕ, ◌≡◌, ◌≢◌, ◌+◌, ◌<◌, ◌==◌, cond, Bool, refl, ap, ◌∙◌, arith}
use Rattle.std.proofs.lemmas.Bool.{eq-eqb, ne_eqb}
use Rattle.std.proofs.lemmas.Bool.Decides.{nat_tests}
use Rattle.unit_model.specs.Weights.{one_if}
use Rattle.unit_model.proofs.Weights.{below_same, below_change, below_none}
use Rattle.tracking_word.specs.Words.{Sets, Stays, tag_weight, standing, is_pair}

weight_none : (f : ℕ → ℕ → ℕ) (tag : ℕ → ℕ) (i : ℕ) → tag i ≡ 0 → tag_weight f tag i ≡ 0
weight_none f tag i none = ap (λ (b : Bool). cond b 0 (f i (tag i))) (eq-eqb (tag i) 0 none)

weight_is : (f : ℕ → ℕ → ℕ) (tag : ℕ → ℕ) (i x : ℕ) → tag i ≡ x → 0 < x → tag_weight f tag i ≡ f i x
weight_is f tag i x is some = ap (λ (b : Bool). cond b 0 (f i (tag i))) (ne_eqb (tag i) 0 (omega (arith, is, some))) ∙ ap (f i) is

weight_same : (f : ℕ → ℕ → ℕ) (tag tag' : ℕ → ℕ) (i : ℕ) → tag' i ≡ tag i → tag_weight f tag' i ≡ tag_weight f tag i
weight_same f tag tag' i same = ap (λ (t : ℕ). cond (t == 0) 0 (f i t)) same

pub standing_stays : (f : ℕ → ℕ → ℕ) (n : ℕ) (tag tag' : ℕ → ℕ) → Stays n tag tag' → standing f tag' n ≡ standing f tag n
standing_stays f n tag tag' stays = below_same (tag_weight f tag') (tag_weight f tag) n (λ i lt. weight_same f tag tag' i (stays i lt))

pub standing_sets : (f : ℕ → ℕ → ℕ) (n : ℕ) (tag tag' : ℕ → ℕ) (item x : ℕ) → item < n → Sets n tag tag' item x → standing f tag' n + tag_weight f tag item ≡ standing f tag n + tag_weight f tag' item
standing_sets f n tag tag' item x lt sets = below_change (tag_weight f tag) (tag_weight f tag') n item lt (λ i below_n ne. weight_same f tag tag' i (sets.others i below_n ne))

-- an item is armed whose tag was 0
pub standing_armed : (f : ℕ → ℕ → ℕ) (n : ℕ) (tag tag' : ℕ → ℕ) (item x : ℕ) → item < n → Sets n tag tag' item x → tag item ≡ 0 → 0 < x → standing f tag' n ≡ standing f tag n + f item x
standing_armed f n tag tag' item x lt sets none some =
    omega (arith, standing_sets f n tag tag' item x lt sets, weight_none f tag item none, weight_is f tag' item x sets.here some)

-- a tag is taken from the stream to 0
pub standing_settled : (f : ℕ → ℕ → ℕ) (n : ℕ) (tag tag' : ℕ → ℕ) (item x : ℕ) → item < n → Sets n tag tag' item 0 → tag item ≡ x → 0 < x → standing f tag' n + f item x ≡ standing f tag n
standing_settled f n tag tag' item x lt sets is some =
    omega (arith, standing_sets f n tag tag' item 0 lt sets, weight_is f tag item x is some, weight_none f tag' item sets.here)

-- no tag stands
pub standing_none : (f : ℕ → ℕ → ℕ) (n : ℕ) (tag : ℕ → ℕ) → ((i : ℕ) → i < n → tag i ≡ 0) → standing f tag n ≡ 0
standing_none f n tag none = below_none (tag_weight f tag) n (λ i lt. weight_none f tag i (none i lt))

pair_here : (tag : ℕ → ℕ) (item stream : ℕ) → 0 < stream → tag_weight (is_pair item stream) tag item ≡ one_if (tag item == stream)
pair_here tag item stream some = grind (arith, nat_tests)

pair_else : (tag : ℕ → ℕ) (item stream i : ℕ) → i ≢ item → tag_weight (is_pair item stream) tag i ≡ 0
pair_else tag item stream i ne = grind (arith, nat_tests)

-- of one item with one stream, at most one stands
pub standing_pair : (n : ℕ) (tag : ℕ → ℕ) (item stream : ℕ) → item < n → 0 < stream → standing (is_pair item stream) tag n ≡ one_if (tag item == stream)
standing_pair n tag item stream lt some =
    omega (
      arith,
      below_change (λ i. 0) (tag_weight (is_pair item stream) tag) n item lt (λ i below_n ne. pair_else tag item stream i ne),
      below_none (λ i. 0) n (λ i below_n. refl),
      pair_here tag item stream some,
    )
