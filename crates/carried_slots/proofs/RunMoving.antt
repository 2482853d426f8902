-- The slots of a run, from home and to it.
use Rattle.std.proofs.Common.{ℕ, zero, suc, ◌≡◌, ◌+◌, ◌<◌, ◌≤◌, ◌⊎◌, inl, inr, ⊎_elim, List, [], ◌∷◌, ◌++◌, map, length, refl, sym, ap, ◌∙◌, subst, arith}
use Rattle.std.specs.Prelude.{Option, Some, slice_get}
use Rattle.std.specs.List.{range_with_len}
use Rattle.std.proofs.lemmas.Bool.{cases_lt}
use Rattle.std.proofs.lemmas.Option.{none-some}
use mathlib.Core.Option.{some, some-injective}
use lib.ListN.{get_elem?}
use Rattle.unit_model.specs.Weights.{weigh, is_number, times}
use Rattle.carried_slots.specs.Acts.{AtHome}
use Rattle.carried_slots.specs.Carried.{content, numbers, IsDistinct}
use Rattle.carried_slots.specs.RunLaws.{AreFullAtHome, RightGatheringLaw, HaveValuesAtHome, full_run, RunGathered, RunGiven, AreApart, ApartLaw, RunStaysLaw}
use Rattle.carried_slots.specs.RunSlots.{HasNone, HasValues, run_gone, run_of}
use Rattle.carried_slots.specs.SlotLaws.{Becomes, RunGone, RunTaken}
use Rattle.carried_slots.proofs.Lookups.{some_content}
use Rattle.carried_slots.proofs.Moving.{slots_become, slots_taken}
use Rattle.carried_slots.proofs.RunLists.{in_range, out_of_range, run_is_gone, run_is_taken, run_numbers}

module _ {T : Type 0} where
  -- ---- values at home

  -- one list of what is at home at each place
  gathered : (first n : ℕ) (homes : List (mathlib.Core.Option.Option (Option T))) → AreFullAtHome first n homes
      → (values : List T) × (length values ≡ n) × HaveValuesAtHome first values homes
  gathered first zero homes full = ([], refl, λ i lt. absurd (omega (arith, lt)))
  gathered first (suc n) homes full =
      let head = full 0 (omega arith) in
      let there : (i : ℕ) → first + 1 + i ≡ first + suc i = λ i. omega arith in
      let rest = gathered (first + 1) n homes (λ i lt. let at = full (suc i) (omega (arith, lt)) in (at.0, ap (get_elem? homes) (there i) ∙ at.1)) in
      (head.0 ∷ rest.0, ap suc rest.1, at_each head.0 head.1 rest.0 (λ i lt. ap (get_elem? homes) (sym (there i)) ∙ rest.2 i lt))
    where
      at_each : (x : T) → get_elem? homes (first + 0) ≡ some (some (Some x)) → (xs : List T)
          → ((i : ℕ) → i < length xs → get_elem? homes (first + suc i) ≡ some (some (slice_get xs i))) → HaveValuesAtHome first (x ∷ xs) homes
      at_each x at xs later zero lt = at
      at_each x at xs later (suc i) lt = later i (omega (arith, lt))

  pub values_home : (first : ℕ) (values : List T) (homes : List (mathlib.Core.Option.Option (Option T))) → HaveValuesAtHome first values homes → AtHome homes (full_run first values)
  values_home first [] homes are = tt
  values_home first (x ∷ xs) homes are =
      let here : first + 0 ≡ first = omega arith in
      let there : (i : ℕ) → first + 1 + i ≡ first + suc i = λ i. omega arith in
      (sym (ap (get_elem? homes) here) ∙ are 0 (omega arith), values_home (first + 1) xs homes (λ i lt. ap (get_elem? homes) (there i) ∙ are (suc i) (omega (arith, lt))))

  home_same : {x y : Option T} → mathlib.Core.Option.some (mathlib.Core.Option.some x) ≡ mathlib.Core.Option.some (mathlib.Core.Option.some y) → x ≡ y
  home_same {x} {y} is = some-injective x y (some-injective (some x) (some y) is)

  -- ---- a full run

  as_long : (values : List T) → length (map Some values) ≡ length values
  as_long [] = refl
  as_long (x ∷ xs) = ap suc (as_long xs)

  value_at : (values : List T) (i : ℕ) → i < length values → slice_get (map Some values) i ≡ Some (slice_get values i)
  value_at [] i lt = absurd (omega (arith, lt))
  value_at (x ∷ xs) zero lt = refl
  value_at (x ∷ xs) (suc i) lt = value_at xs i (omega (arith, lt))

  pub full_numbers : (first : ℕ) (values : List T) → numbers (full_run first values) ≡ range_with_len first (length values)
  full_numbers first values = run_numbers first (map Some values) ∙ ap (range_with_len first) (as_long values)

  pub run_gathered : (first n : ℕ) (homes : List (mathlib.Core.Option.Option (Option T))) (c : List (ℕ × Option T)) → AreFullAtHome first n homes → RunGathered first n homes c
  run_gathered first n homes c full =
      let all = gathered first n homes full in
      let values : List T = all.0 in
      let taken : RunTaken first (map Some values) c = run_is_taken first (map Some values) c in
      let home : AtHome homes (full_run first values) = values_home first values homes all.2 in
      let long : length (map Some values) ≡ n = as_long values ∙ all.1 in
      record {
        values = values;
        long = all.1;
        were = all.2;
        home = home;
        taken = slots_taken homes c (full_run first values) taken.distinct home;
        here = λ i lt. taken.here i (omega (arith, lt, as_long values)) ∙ value_at values i lt;
        others = λ k out. taken.others k (subst (λ (m : ℕ). (k < first) ⊎ (first + m ≤ k)) (sym long) out);
        weighs = λ f. taken.weighs f ∙ ap (λ (m : ℕ). weigh f (range_with_len first m) + weigh f (numbers c)) long;
        outside = λ k out. ap (times k) (full_numbers first values ∙ ap (range_with_len first) all.1) ∙ out_of_range first n k out;
      }

  pub right_gathered : (right : ℕ → T → Type 0) → RightGatheringLaw T right
  right_gathered right first n homes c all =
      let run : RunGathered first n homes c = run_gathered first n homes c (λ i lt. let at = all i lt in (at.0, at.1)) in (
        run,
        λ i lt.
            let at = all i (omega (arith, lt, run.long)) in
            (at.0, home_same (sym (run.were i lt) ∙ at.1), at.2),
      )

  -- ---- to home

  pub run_given : (first : ℕ) (values : List T) (homes : List (mathlib.Core.Option.Option (Option T))) (c : List (ℕ × Option T)) → IsDistinct c
      → ((k : ℕ) → 0 < times k (numbers c) → k < length homes) → HasValues first values c → RunGiven first values homes c
  run_given first values homes c once within has =
      let n : ℕ = length values in
      let carried : (i : ℕ) → i < n → 0 < times (first + i) (numbers c) = λ i lt. some_content c (first + i) (slice_get values i) (has i lt) in
      let out : RunGone first n c = run_is_gone c first n carried in
      let fewer : (k : ℕ) → times k (numbers (run_gone first n c)) ≤ 1 = λ k. omega (arith, out.weighs (is_number k), once k) in
      let turned : Becomes homes c (run_gone first n c) = slots_become homes c (run_gone first n c) once fewer (out.among once) within in
      let none_left : (i : ℕ) → i < n → times (first + i) (numbers (run_gone first n c)) ≡ 0 = λ i lt. omega (arith, out.weighs (is_number (first + i)), in_range first n i lt, once (first + i)) in
      record {
        turned = turned;
        home = λ i lt. turned.given (first + i) (slice_get values i) (none_left i lt) (has i lt);
        gone = out.gone once;
        others = λ k beyond. out.others k beyond;
        weighs = out.weighs;
      }

-- ---- several runs

-- from one number to another that isn't below it
gap : (a b : ℕ) → a ≤ b → (d : ℕ) × (a + d ≡ b)
gap zero b le = (b, omega arith)
gap (suc a) zero le = absurd (omega (arith, le))
gap (suc a) (suc b) le = let more = gap a b (omega (arith, le)) in (more.0, omega (arith, more.1))

pub runs_apart : (S : Type 0) → ApartLaw S
runs_apart S first n other m c some_n some_m there none = ⊎_elim (λ lt. inr (behind lt)) (λ le. inl (before le)) (cases_lt other first)
  where
    before : first ≤ other → first + n ≤ other
    before le = ⊎_elim
        (λ inside.
        let up = gap first other le in
        let at = there up.0 (omega (arith, inside, up.1)) in
        let same : other + 0 ≡ first + up.0 = omega (arith, up.1) in
        absurd (none-some at.0 (sym (none 0 some_m) ∙ ap (content c) same ∙ at.1)))
        (λ beyond. beyond)
        (cases_lt other (first + n))

    behind : other < first → other + m ≤ first
    behind lt = ⊎_elim
        (λ inside.
        let up = gap other first (omega (arith, lt)) in
        let at = there 0 some_n in
        let same : other + up.0 ≡ first + 0 = omega (arith, up.1) in
        absurd (none-some at.0 (sym (none up.0 (omega (arith, inside, up.1))) ∙ ap (content c) same ∙ at.1)))
        (λ beyond. beyond)
        (cases_lt first (other + m))

pub run_stays : (T : Type 0) → RunStaysLaw T
run_stays T first n other m c c' apart same i lt = same (first + i) (out apart)
  where
    out : AreApart first n other m → (first + i < other) ⊎ (other + m ≤ first + i)
    out (inl before) = inl (omega (arith, lt, before))
    out (inr behind) = inr (omega (arith, behind))
