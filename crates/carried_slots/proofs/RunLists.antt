-- Carried slots without those of a run, and with them.
use Rattle.std.proofs.Common.{ℕ, zero, suc, ◌≡◌, ◌≢◌, ◌+◌, ◌<◌, ◌≤◌, ◌⊎◌, ◌++◌, inl, inr, ⊎_elim, List, [], ◌∷◌, length, refl, ap, ◌∙◌, arith}
use Rattle.std.specs.List.{range_with_len}
use Rattle.std.specs.Prelude.{slice_get}
use Rattle.std.proofs.lemmas.Bool.{cases_eq}
use Rattle.unit_model.specs.Weights.{weigh, is_number, times}
use Rattle.unit_model.proofs.Weights.{is_number_same, is_number_other}
use Rattle.carried_slots.specs.Carried.{content, numbers, but, Among}
use Rattle.carried_slots.specs.RunSlots.{run_gone, run_of}
use Rattle.carried_slots.specs.SlotLaws.{RunGone, RunTaken}
use Rattle.carried_slots.proofs.Lookups.{content_here, content_there, none_content, but_weighs, but_other, among_itself, among_but}

-- ---- numbers

-- a number beyond a run is none of it
pub beyond : (first n k i : ℕ) → (k < first) ⊎ (first + n ≤ k) → i < n → k ≢ first + i
beyond first n k i (inl lt) inside e = absurd (omega (arith, lt, e, inside))
beyond first n k i (inr le) inside e = absurd (omega (arith, le, e, inside))

less : (first n k : ℕ) → (k < first) ⊎ (first + suc n ≤ k) → (k < first) ⊎ (first + n ≤ k)
less first n k (inl lt) = inl lt
less first n k (inr le) = inr (omega (arith, le))

-- a run's last number
pub range_last : (f : ℕ → ℕ) (first n : ℕ) → weigh f (range_with_len first (suc n)) ≡ weigh f (range_with_len first n) + f (first + n)
range_last f first zero = let same : first + 0 ≡ first = omega arith in omega (arith, ap f same)
range_last f first (suc n) =
    let same : first + 1 + n ≡ first + suc n = omega arith in
    omega (arith, range_last f (first + 1) n, ap f same)

range_below : (first n k : ℕ) → k < first → times k (range_with_len first n) ≡ 0
range_below first zero k lt = refl
range_below first (suc n) k lt = omega (arith, is_number_other k first (λ e. absurd (omega (arith, e, lt))), range_below (first + 1) n k (omega (arith, lt)))

range_distinct : (first n k : ℕ) → times k (range_with_len first n) ≤ 1
range_distinct first zero k = omega arith
range_distinct first (suc n) k = ⊎_elim
    (λ same. omega (arith, ap (is_number k) same, is_number_same k, range_below (first + 1) n k (omega (arith, same))))
    (λ ne. omega (arith, is_number_other k first ne, range_distinct (first + 1) n k))
    (cases_eq first k)

range_above : (first n k : ℕ) → first + n ≤ k → times k (range_with_len first n) ≡ 0
range_above first zero k le = refl
range_above first (suc n) k le = omega (arith, is_number_other k first (λ e. absurd (omega (arith, e, le))), range_above (first + 1) n k (omega (arith, le)))

-- a number beyond a run isn't counted in it, and one of the run is
pub out_of_range : (first n k : ℕ) → (k < first) ⊎ (first + n ≤ k) → times k (range_with_len first n) ≡ 0
out_of_range first n k (inl lt) = range_below first n k lt
out_of_range first n k (inr le) = range_above first n k le

pub in_range : (first n i : ℕ) → i < n → 1 ≤ times (first + i) (range_with_len first n)
in_range first zero i lt = absurd (omega (arith, lt))
in_range first (suc n) i lt = ⊎_elim
    (λ is. omega (arith, range_last (is_number (first + i)) first n, ap (λ (m : ℕ). is_number (first + m) (first + n)) is, is_number_same (first + n)))
    (λ ne. omega (arith, range_last (is_number (first + i)) first n, in_range first n i (omega (arith, lt, ne))))
    (cases_eq i n)

module _ {S : Type 0} where
  -- ---- without

  gone_among : (first n : ℕ) (c t : List (ℕ × S)) → Among c t → Among c (run_gone first n t)
  gone_among first zero c t all = all
  gone_among first (suc n) c t all = gone_among first n c (but (first + n) t) (among_but c t (first + n) all)

  gone_weighs : (f : ℕ → ℕ) (first n : ℕ) (c : List (ℕ × S)) → ((i : ℕ) → i < n → 0 < times (first + i) (numbers c)) → weigh f (numbers (run_gone first n c)) + weigh f (range_with_len first n) ≡ weigh f (numbers c)
  gone_weighs f first zero c carried = omega arith
  gone_weighs f first (suc n) c carried =
      let last : 0 < times (first + n) (numbers c) = carried n (omega arith) in
      let still : (i : ℕ) → i < n → 0 < times (first + i) (numbers (but (first + n) c)) = λ i lt.
      omega (arith, but_weighs (is_number (first + i)) c (first + n) last, carried i (omega (arith, lt)), is_number_other (first + i) (first + n) (λ e. absurd (omega (arith, e, lt)))) in
      omega (arith, gone_weighs f first n (but (first + n) c) still, but_weighs f c (first + n) last, range_last f first n)

  gone_others : (first n k : ℕ) (c : List (ℕ × S)) → (k < first) ⊎ (first + n ≤ k) → content (run_gone first n c) k ≡ content c k
  gone_others first zero k c out = refl
  gone_others first (suc n) k c out = gone_others first n k (but (first + n) c) (less first n k out) ∙ but_other c (first + n) k (beyond first (suc n) k n out (omega arith))

  pub run_is_gone : (c : List (ℕ × S)) (first n : ℕ) → ((i : ℕ) → i < n → 0 < times (first + i) (numbers c)) → RunGone first n c
  run_is_gone c first n carried = record {
    weighs = λ f. gone_weighs f first n c carried;
    others = λ k out. gone_others first n k c out;
    gone = λ once i lt. none_content (run_gone first n c) (first + i) (omega (arith, gone_weighs (is_number (first + i)) first n c carried, once (first + i), in_range first n i lt));
    among = λ once. gone_among first n c c (among_itself c once);
  }

  -- ---- with

  taken_weighs : (f : ℕ → ℕ) (first : ℕ) (values : List S) (c : List (ℕ × S)) → weigh f (numbers (run_of first values ++ c)) ≡ weigh f (range_with_len first (length values)) + weigh f (numbers c)
  taken_weighs f first [] c = omega arith
  taken_weighs f first (x ∷ xs) c = omega (arith, taken_weighs f (first + 1) xs c)

  taken_here : (first : ℕ) (values : List S) (c : List (ℕ × S)) (i : ℕ) → i < length values → content (run_of first values ++ c) (first + i) ≡ slice_get values i
  taken_here first [] c i lt = absurd (omega (arith, lt))
  taken_here first (x ∷ xs) c zero lt = content_here (first, x) (run_of (first + 1) xs ++ c) (first + 0) (omega arith)
  taken_here first (x ∷ xs) c (suc i) lt =
      let same : first + suc i ≡ first + 1 + i = omega arith in
      content_there (first, x) (run_of (first + 1) xs ++ c) (first + suc i) (λ e. absurd (omega (arith, e)))
      ∙ ap (content (run_of (first + 1) xs ++ c)) same ∙ taken_here (first + 1) xs c i (omega (arith, lt))

  taken_others : (first : ℕ) (values : List S) (c : List (ℕ × S)) (k : ℕ) → (k < first) ⊎ (first + length values ≤ k) → content (run_of first values ++ c) k ≡ content c k
  taken_others first [] c k out = refl
  taken_others first (x ∷ xs) c k out =
      content_there (first, x) (run_of (first + 1) xs ++ c) k (λ e. beyond first (suc (length xs)) k 0 out (omega arith) (omega (arith, e)))
      ∙ taken_others (first + 1) xs c k (further out)
    where
      further : (k < first) ⊎ (first + suc (length xs) ≤ k) → (k < first + 1) ⊎ (first + 1 + length xs ≤ k)
      further (inl lt) = inl (omega (arith, lt))
      further (inr le) = inr (omega (arith, le))

  pub run_numbers : (first : ℕ) (values : List S) → numbers (run_of first values) ≡ range_with_len first (length values)
  run_numbers first [] = refl
  run_numbers first (x ∷ xs) = ap (λ l. first ∷ l) (run_numbers (first + 1) xs)

  pub run_is_taken : (first : ℕ) (values : List S) (c : List (ℕ × S)) → RunTaken first values c
  run_is_taken first values c = record {
    weighs = λ f. taken_weighs f first values c;
    here = λ i lt. taken_here first values c i lt;
    others = λ k out. taken_others first values c k out;
    distinct = λ k. omega (arith, ap (times k) (run_numbers first values), range_distinct first (length values) k);
  }
