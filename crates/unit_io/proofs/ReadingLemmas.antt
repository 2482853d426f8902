-- What a clock over memory shows.
use Rattle.std.proofs.Common.{◌≡◌, ℕ, zero, suc, ◌+◌, ◌-◌, ◌<◌, ◌≤◌, Bool, true, false, cond, List, [], ◌∷◌, ◌++◌, length, take, get_or, fold, refl, sym, ap, ◌∙◌, arith}
use Rattle.std.proofs.lemmas.Bool.{eq-eqb, ne_eqb, lt-ltb, le-ltb}
use Rattle.std.proofs.lemmas.List.{take_more}
use Rattle.std.proofs.lemmas.List.Sums.{fold_push}
use Rattle.unit_io.specs.Readings.{IsClock, Showing, after_showing, ends_in, last_shown, noted, readings_shown, shown_after, shown_next}

lt_or_le : {P : Type 0} (i j : ℕ) → (i < j → P) → (j ≤ i → P) → P
lt_or_le zero zero f g = g (omega arith)
lt_or_le zero (suc j) f g = f (omega arith)
lt_or_le (suc i) zero f g = g (omega arith)
lt_or_le (suc i) (suc j) f g = lt_or_le i j (λ lt. f (omega arith)) (λ le. g (omega arith))

after_lt : (c : Showing) → c.shown < length c.script → shown_after c ≡ c.shown + 1
after_lt c lt = rw (lt-ltb c.shown (length c.script) lt) refl

after_ge : (c : Showing) → length c.script ≤ c.shown → shown_after c ≡ c.shown
after_ge c ge = rw (le-ltb c.shown (length c.script) ge) refl

-- the next place lies in the script, and no earlier than the last one
record IsNext (c : Showing) : Type 0 where
  pub later : c.shown ≤ shown_after c
  pub within : shown_after c ≤ length c.script
  pub some : 0 < shown_after c

is_next : (c : Showing) → IsClock c → IsNext c
is_next c h =
    lt_or_le c.shown (length c.script)
    (λ lt. record { later = omega (arith, after_lt c lt); within = omega (arith, after_lt c lt, lt); some = omega (arith, after_lt c lt) })
    (λ ge. record { later = omega (arith, after_ge c ge); within = omega (arith, after_ge c ge, h.within); some = omega (arith, after_ge c ge, ge, h.some) })

pub told : (c : Showing) → IsClock c → last_shown (after_showing c) ≡ shown_next c
told c h = let next = is_next c h in rw (ne_eqb (shown_after c) 0 (λ e. omega (arith, e, next.some))) refl

pub later : (c : Showing) → IsClock c → last_shown c ≤ shown_next c
later c h =
    let next = is_next c h in
    lt_or_le 0 c.shown
    (λ some. rw (ne_eqb c.shown 0 (λ e. omega (arith, e, some))) (h.rising (c.shown - 1) (shown_after c - 1) 0 (omega (arith, next.later)) (omega (arith, next.within, next.some))))
    (λ none. rw (eq-eqb c.shown 0 (omega (arith, none))) (omega arith))

-- ---- the list of readings

ends_in_pushed : (reading : ℕ) (readings : List ℕ) → ends_in reading (readings ++ reading ∷ []) ≡ true
ends_in_pushed reading [] = eq-eqb reading reading refl
ends_in_pushed reading (r ∷ []) = eq-eqb reading reading refl
ends_in_pushed reading (r ∷ s ∷ rs) = ends_in_pushed reading (s ∷ rs)

ends_in_noted : (reading : ℕ) (readings : List ℕ) → ends_in reading (noted readings reading) ≡ true
ends_in_noted reading readings = by_end (ends_in reading readings) refl
  where
    by_end : (b : Bool) → ends_in reading readings ≡ b → ends_in reading (cond b readings (readings ++ reading ∷ [])) ≡ true
    by_end true is = is
    by_end false is = ends_in_pushed reading readings

noted_again : (reading : ℕ) (readings : List ℕ) → noted (noted readings reading) reading ≡ noted readings reading
noted_again reading readings = ap (λ b. cond b (noted readings reading) (noted readings reading ++ reading ∷ [])) (ends_in_noted reading readings)

-- one reading more
one_more_shown : (script : List ℕ) (n : ℕ) → n < length script → fold noted [] (take (n + 1) script) ≡ noted (fold noted [] (take n script)) (get_or script n 0)
one_more_shown script n lt = ap (fold noted []) (take_more script n 0 lt) ∙ fold_push noted [] (take n script) (get_or script n 0)

pub shown_noted : (c : Showing) → IsClock c → readings_shown (after_showing c) ≡ noted (readings_shown c) (shown_next c)
shown_noted c h =
    lt_or_le c.shown (length c.script)
    (λ lt.
    let place : shown_after c - 1 ≡ c.shown = omega (arith, after_lt c lt) in
    ap (λ n. fold noted [] (take n c.script)) (after_lt c lt) ∙ one_more_shown c.script c.shown lt ∙ ap (λ n. noted (readings_shown c) (get_or c.script n 0)) (sym place))
    (λ ge.
    let last = c.shown - 1 in
    let shown_is : c.shown ≡ last + 1 = omega (arith, ge, h.some) in
    let all : readings_shown c ≡ noted (fold noted [] (take last c.script)) (get_or c.script last 0) =
    ap (λ n. fold noted [] (take n c.script)) shown_is ∙ one_more_shown c.script last (omega (arith, ge, h.some, h.within)) in
    let place : shown_after c - 1 ≡ last = omega (arith, after_ge c ge) in
    ap (λ n. fold noted [] (take n c.script)) (after_ge c ge)
    ∙ all
    ∙ sym (noted_again (get_or c.script last 0) (fold noted [] (take last c.script)))
    ∙ ap (λ rs. noted rs (get_or c.script last 0)) (sym all)
    ∙ ap (λ n. noted (readings_shown c) (get_or c.script n 0)) (sym place))
