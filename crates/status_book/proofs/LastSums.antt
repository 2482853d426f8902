-- What the last view says of the last words.
use Rattle.std.proofs.Common.{ℕ, zero, suc, ◌≡◌, ◌+◌, ◌<◌, List, [], ◌∷◌, ◌++◌, length, map, get_or, drop, slice_index, slice_index_or, ap, ◌∙◌, arith}
use Rattle.std.specs.List.{All, range_with_len}
use Rattle.std.proofs.lemmas.List.Elements.{All-head, All-tail}
use Rattle.status_book.specs.declared.seat.CountSeat.{CountSeat}
use Rattle.status_book.specs.declared.view.EngineSums.{EngineSums}
use Rattle.status_book.specs.Rule.{AreSums}
use Rattle.status_book.specs.Seats.{counts_of, sums_of}
use Rattle.status_book.specs.Words.{kinds, word_of}

-- seats of neighbouring engines, from this one on
pub sums_at : (word : ℕ → ℕ) (behind : List EngineSums) (from count : ℕ) (seats : List CountSeat) → All (AreSums word) (map counts_of seats ++ behind)
    → map (λ (s : CountSeat). s.engine) seats ≡ range_with_len from count
    → (engine kind : ℕ) → engine < count → kind < kinds → word (word_of (from + engine) kind) ≡ slice_index (slice_index_or (map sums_of seats) engine []) kind
sums_at word behind from zero seats all are engine kind lt kind_lt = absurd (omega arith)
sums_at word behind from (suc count) [] all are engine kind lt kind_lt = absurd (omega (arith, ap length are))
sums_at word behind from (suc count) (s ∷ ss) all are zero kind lt kind_lt =
    let is : s.engine ≡ from = ap (λ (xs : List ℕ). get_or xs 0 0) are in
    let here : from + 0 ≡ s.engine = omega (arith, is) in
    ap (λ (n : ℕ). word (word_of n kind)) here ∙ All-head (AreSums word) (counts_of s) (map counts_of ss ++ behind) all kind kind_lt
sums_at word behind from (suc count) (s ∷ ss) all are (suc engine) kind lt kind_lt =
    let next : from + suc engine ≡ (from + 1) + engine = omega arith in
    ap (λ (n : ℕ). word (word_of n kind)) next
    ∙ sums_at word behind (from + 1) count ss (All-tail (AreSums word) (counts_of s) (map counts_of ss ++ behind) all) (ap (drop 1) are) engine kind (omega arith) kind_lt
