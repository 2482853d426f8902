-- The rule of a table of tags.
use Rattle.std.specs.Prelude.{ℕ, ◌≡◌, ◌⊎◌, length, slice_index}
use Rattle.atomic_table.specs.Table.{State, Me, Step}
use Rattle.tracking_word.specs.declared.view.TagView.{TagView}
use Rattle.tracking_word.specs.declared.view.TagEvent.TheVariants.{Armed}
use Rattle.unit_model.specs.Sharing.{Owned, Holds}
use Rattle.tracking_word.specs.Parts.{Counted, Known}
use Rattle.tracking_word.specs.Views.{held_by, arms_of, wins_of, says, last_tag, after, settling}

-- word i is the tag of item i
pub record TagsHold {S : Type 0} (n : ℕ) (s : State S TagView) : Type 0 where
  pub wide : length s.words ≡ n
  pub counted : Counted arms_of wins_of n (slice_index s.words) s.views
  pub owned : Owned held_by (λ f. 0) n s.views
  pub known : Known held_by says n (slice_index s.words) s.views

-- ---- what the steps tell

-- the item is armed with what was stored
abbrev pub Arms : {S : Type 0} → Step S → Me S TagView → ℕ → Me S TagView → Type 0
Arms st m stored m' = (m'.1 ≡ m.1) × (m'.0 ≡ after (Armed st.word st.first) m.0)

-- Won or Gone, by what was found. A seat that holds the item finds what it saw last, or 0.
abbrev pub Settles : {S : Type 0} → Step S → Me S TagView → ℕ → Me S TagView → Type 0
Settles st m found m' = (m'.1 ≡ m.1) × (m'.0 ≡ after (settling st.word st.first found) m.0)
    × (Holds held_by st.word m.0 → (found ≡ last_tag st.word m.0.log) ⊎ (found ≡ 0))
