-- Tags as plain numbers. Each item has a tag: 0, or the stream that the item was armed with.
-- `tag i` is the tag of item i. Only items below n count.
use Rattle.std.specs.Prelude.{ℕ, ◌≡◌, ◌≢◌, ◌<◌, ◌==◌, ◌&&◌, cond}
use Rattle.unit_model.specs.Weights.{below, one_if}

-- the item's tag became x, and no other tag changed
pub record Sets (n : ℕ) (tag tag' : ℕ → ℕ) (item x : ℕ) : Type 0 where
  pub here : tag' item ≡ x
  pub others : (i : ℕ) → i < n → i ≢ item → tag' i ≡ tag i

-- no tag changed
abbrev pub Stays : ℕ → (ℕ → ℕ) → (ℕ → ℕ) → Type 0
Stays n tag tag' = (i : ℕ) → i < n → tag' i ≡ tag i

-- what a tag weighs where an item with a stream weighs f: nothing where it is 0
abbrev pub tag_weight : (ℕ → ℕ → ℕ) → (ℕ → ℕ) → ℕ → ℕ
tag_weight f tag i = cond (tag i == 0) 0 (f i (tag i))

-- what all tags weigh
abbrev pub standing : (ℕ → ℕ → ℕ) → (ℕ → ℕ) → ℕ → ℕ
standing f tag n = below (tag_weight f tag) n

-- the weight of one item with one stream alone
abbrev pub is_pair : ℕ → ℕ → ℕ → ℕ → ℕ
is_pair item stream i x = one_if (i == item && x == stream)
