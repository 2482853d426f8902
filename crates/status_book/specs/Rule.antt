-- The rule of a table of counts: each word of an engine is the sum that one view keeps under the engine's number, and a
-- number that was found is at most what its word is.
use Rattle.std.specs.Prelude.{ℕ, ◌≡◌, ◌*◌, ◌<◌, ◌≤◌, List, length, slice_index}
use Rattle.std.specs.List.{All}
use mathlib.Core.Option.{some}
use lib.ListN.{get_elem?}
use Rattle.atomic_table.specs.Table.{State, Me, Step}
use Rattle.unit_model.specs.Sharing.{Owned}
use Rattle.status_book.specs.declared.view.EngineSums.{EngineSums}
use Rattle.status_book.specs.declared.view.Reading.{Reading}
use Rattle.status_book.specs.declared.view.StatusView.{StatusView}
use Rattle.status_book.specs.Views.{held_by, last_reading, after_count, after_reading}
use Rattle.status_book.specs.Words.{kinds, word_of}

-- the words of an engine are its sums
abbrev pub AreSums : (ℕ → ℕ) → EngineSums → Type 0
AreSums word e = (kind : ℕ) → kind < kinds → word (word_of e.engine kind) ≡ slice_index e.sums kind

-- each word has reached what was found there last
abbrev pub HaveReached : (ℕ → ℕ) → List Reading → Type 0
HaveReached word readings = (i : ℕ) → last_reading i readings ≤ word i

abbrev pub IsKnown : (ℕ → ℕ) → StatusView → Type 0
IsKnown word v = All (AreSums word) v.engines × HaveReached word v.readings

-- each of the n engines is in one view, once
pub record StatusHolds {S : Type 0} (n : ℕ) (s : State S StatusView) : Type 0 where
  pub wide : length s.words ≡ 16 * n
  pub owned : Owned held_by (λ f. 0) n s.views
  pub known : (k : ℕ) (v : StatusView) → get_elem? s.views k ≡ some v
      → IsKnown (slice_index s.words) v

-- ---- what the steps tell

-- the sum has grown by what was added
abbrev pub Counts : {S : Type 0} → Step S → Me S StatusView → ℕ → Me S StatusView → Type 0
Counts st m found m' = (m'.1 ≡ m.1) × (m'.0 ≡ after_count st.word st.first m.0)

-- the number is noted, and isn't below what the seat noted there last
abbrev pub Reads : {S : Type 0} → Step S → Me S StatusView → ℕ → Me S StatusView → Type 0
Reads st m found m' = (m'.1 ≡ m.1) × (m'.0 ≡ after_reading st.word found m.0)
    × (last_reading st.word m.0.readings ≤ found)
