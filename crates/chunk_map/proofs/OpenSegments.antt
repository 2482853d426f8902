-- What steps, splits and joins do to the part of a rule that speaks of open segments.
use mathlib.Core.Option.{some}
use lib.ListN.{get_elem?}
use Rattle.std.proofs.Common.{ℕ, suc, ◌≡◌, ◌+◌, ◌*◌, ◌/◌, ◌≤◌, ◌<◌, ⊎_elim, true, List, [], ◌∷◌, ◌++◌, set, ap, subst, arith}
use Rattle.atomic_table.proofs.Lists.{at_set, at_snoc}
use Rattle.unit_model.specs.Weights.{weigh, below, is_number}
use Rattle.unit_model.proofs.Views.{sum_set, sum_split, sum_join}
use Rattle.unit_model.proofs.Weights.{below_is, below_is_not}
use Rattle.chunk_map.specs.Parts.{OpenPart, OpeningsCounted}
use Rattle.chunk_map.specs.Words.{is_free}

pub open_steps : {V : Type 0} (segments : ℕ) (noted : V → ℕ) (opened opened' : ℕ) (word word' : ℕ → ℕ) (views : List V) (k : ℕ) (u : V)
    → opened ≤ opened' → opened' ≤ segments → noted u ≤ opened'
    → ((chunk : ℕ) → chunk < 640 * segments → opened' ≤ chunk / 640 → is_free word chunk ≡ true → is_free word' chunk ≡ true)
    → OpenPart segments noted opened word views → OpenPart segments noted opened' word' (set views k u)
open_steps {V} segments noted opened opened' word word' views k u rises most mine closed old = record {
  least = omega (arith, rises, old.least);
  most = most;
  seen = λ j w there. ⊎_elim
      (λ t. subst (λ (y : V). noted y ≤ opened') t.1 mine)
      (λ t. omega (arith, rises, old.seen j w t.1))
      (at_set views k j u w there);
  closed = λ chunk lt above. closed chunk lt above (old.closed chunk lt (omega (arith, rises, above)));
}

pub open_splits : {V : Type 0} (segments : ℕ) (noted : V → ℕ) (opened : ℕ) (word : ℕ → ℕ) (views : List V) (k : ℕ) (left right : V)
    → noted left ≤ opened → noted right ≤ opened
    → OpenPart segments noted opened word views → OpenPart segments noted opened word (set views k left ++ right ∷ [])
open_splits {V} segments noted opened word views k left right mine theirs old = record {
  least = old.least;
  most = old.most;
  seen = λ j w there. ⊎_elim
      (λ before. (open_steps segments noted opened opened word word views k left (omega arith) old.most mine (λ chunk lt above free. free) old).seen j w before)
      (λ is. subst (λ (y : V). noted y ≤ opened) is theirs)
      (at_snoc (set views k left) right w j there);
  closed = old.closed;
}

-- ---- openings are counted

below_next : (f : ℕ → ℕ) (n : ℕ) → below f (n + 1) ≡ below f n + f n
below_next f n = let same : n + 1 ≡ suc n = omega arith in ap (below f) same

pub counted_stays : {V : Type 0} (openings : (ℕ → ℕ) → V → ℕ) (opened opened' : ℕ) (views : List V) (k : ℕ) (v u : V) → get_elem? views k ≡ some v
    → opened' ≡ opened → ((f : ℕ → ℕ) → openings f u ≡ openings f v) → OpeningsCounted openings opened views → OpeningsCounted openings opened' (set views k u)
counted_stays openings opened opened' views k v u at stays same old f = omega (arith, old f, same f, sum_set (openings f) views k v u at, ap (λ n. below f (n + 1)) stays)

pub counted_opens : {V : Type 0} (openings : (ℕ → ℕ) → V → ℕ) (opened opened' : ℕ) (views : List V) (k : ℕ) (v u : V) → get_elem? views k ≡ some v
    → opened' ≡ opened + 1 → ((f : ℕ → ℕ) → openings f u ≡ f (opened + 1) + openings f v) → OpeningsCounted openings opened views → OpeningsCounted openings opened' (set views k u)
counted_opens openings opened opened' views k v u at rises more old f = omega (arith, old f, more f, sum_set (openings f) views k v u at, ap (λ n. below f (n + 1)) rises, below_next f (opened + 1))

pub counted_splits : {V : Type 0} (openings : (ℕ → ℕ) → V → ℕ) (opened : ℕ) (views : List V) (k : ℕ) (v left right : V) → get_elem? views k ≡ some v
    → ((f : ℕ → ℕ) → openings f left + openings f right ≡ openings f v) → OpeningsCounted openings opened views → OpeningsCounted openings opened (set views k left ++ right ∷ [])
counted_splits openings opened views k v left right at parts old f = omega (arith, old f, sum_split (openings f) views k v left right at (parts f))

pub counted_joins : {V : Type 0} (openings : (ℕ → ℕ) → V → ℕ) (opened : ℕ) (views : List V) (k other : ℕ) (v w both spent : V) → get_elem? views k ≡ some v → get_elem? (set views k both) other ≡ some w
    → ((f : ℕ → ℕ) → openings f both + openings f spent ≡ openings f v + openings f w) → OpeningsCounted openings opened views → OpeningsCounted openings opened (set (set views k both) other spent)
counted_joins openings opened views k other v w both spent at there parts old f = omega (arith, old f, sum_join (openings f) views k other v w both spent at there (parts f))

-- each number from 2 up to that of open segments was opened once, and no other
pub opened_once : {V : Type 0} (openings : (ℕ → ℕ) → V → ℕ) (opened : ℕ) (views : List V) (count : ℕ) → 2 ≤ count → count ≤ opened → OpeningsCounted openings opened views → weigh (openings (is_number count)) views ≡ 1
opened_once openings opened views count from to old = omega (arith, old (is_number count), below_is (opened + 1) count (omega (arith, to)), below_is_not 2 count from)

pub not_opened : {V : Type 0} (openings : (ℕ → ℕ) → V → ℕ) (opened : ℕ) (views : List V) (count : ℕ) → opened < count → OpeningsCounted openings opened views → weigh (openings (is_number count)) views ≡ 0
not_opened openings opened views count above old = omega (arith, old (is_number count), below_is_not (opened + 1) count (omega (arith, above)))
