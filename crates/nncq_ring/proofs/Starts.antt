-- The table of a ring at first.
use Rattle.std.proofs.Common.{ℕ, zero, suc, ◌+◌, ◌^◌, ◌≡◌, ◌<◌, ◌≤◌, ⊎_elim, inl, List, [], ◌∷◌, length, sym, ap, ◌∙◌, subst, arith}
use mathlib.Core.Option.{some, some-injective, some-ne-none}
use lib.ListN.{get_elem?}
use Rattle.std.specs.List.{range_with_len}
use Rattle.atomic_table.specs.Table.{opening}
use Rattle.unit_model.specs.Weights.{weigh, below}
use Rattle.unit_model.proofs.Weights.{weigh_range, below_same}
use Rattle.nncq_ring.specs.declared.view.RingView.{RingView}
use Rattle.nncq_ring.specs.Words.{Words, line_of}
use Rattle.nncq_ring.specs.Notes.{AllNoted}
use Rattle.nncq_ring.specs.RingWords.{ring_words, Fresh}
use Rattle.nncq_ring.specs.Views.{events_of, whole}
use Rattle.nncq_ring.specs.Rule.{RingHolds}
use Rattle.nncq_ring.proofs.Exchanges.{tail_cases}
use Rattle.nncq_ring.proofs.RingWords.{fresh_starts}

range_held : (f : ℕ → ℕ) (n : ℕ) → weigh f (range_with_len 0 n) ≡ below f n
range_held f n = weigh_range f 0 n ∙ below_same (λ i. f (0 + i)) f n (λ i lt. let same : 0 + i ≡ i = omega arith in ap f same)

only_view : (u : RingView) (k : ℕ) (v : RingView) → get_elem? (u ∷ []) k ≡ some v → u ≡ v
only_view u zero v at = some-injective u v at
only_view u (suc k) v at = absurd (some-ne-none v (sym at))

pub opens : (n start : ℕ) (words : List ℕ) → 0 < n → n ≤ start → start < 2 ^ 62 → length words ≡ n + 48 → Fresh n start 16 words → RingHolds {S = ℕ} (n, start) (opening words [] (whole n))
opens n start words pos turned low wide fresh =
    let w : Words = ring_words 16 words in
    let begins = fresh_starts n start 16 words pos turned fresh in
    let nothing : (f : ℕ × ℕ → ℕ) → weigh f (line_of n w) ≡ 0 = λ f. ap (weigh f) begins.1 in
    record {
      wide = wide;
      part = record { fine = begins.0; noted = λ k v at. subst (λ (u : RingView). AllNoted n w (events_of u)) (only_view (whole n) k v at) tt };
      begun = record { tail = omega (arith, fresh.tail); entries = λ place lt near. inl (fresh.entries place lt near) };
      worn = ⊎_elim (λ is. omega (arith, is, fresh.tail, low)) (λ is. omega (arith, is, fresh.tail, low)) (tail_cases n w);
      owned = λ f. omega (arith, nothing (λ e. f e.1), range_held f n);
      moved = λ g. omega (arith, nothing (λ e. g e.0 e.1));
      emptied = λ f. omega (arith, ap (below f) fresh.head);
    }
