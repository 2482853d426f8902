-- Facts of which each key is with one view.
use Rattle.std.proofs.Common.{ℕ, suc, ◌≡◌, ◌≤◌, ⊎_elim, List, [], ◌∷◌, set, refl, sym, subst, arith}
use Rattle.std.proofs.lemmas.Bool.{cases_lt}
use mathlib.Core.Option.{some}
use lib.ListN.{get_elem?}
use Rattle.atomic_table.proofs.Lists.{at_set, at_snoc}
use Rattle.unit_model.specs.Weights.{weigh}
use Rattle.unit_model.proofs.Views.{sum_set, sum_two, sum_split, sum_join}
use Rattle.fabric_rule.specs.Keyed.{Keyed, KeyedStep, KeyedSplit, KeyedJoin}

pub keyed_step : (V : Type 0) (has : ℕ → V → ℕ) (fact fact' : ℕ → V → Type 0) → KeyedStep has fact fact'
keyed_step V has fact fact' views id v u here room mine others old = record {
  once = λ key. omega (arith, room key, sum_set (has key) views id v u here);
  each = λ key at y there holds. ⊎_elim
      (λ t. subst (fact' key) t.1 (mine key (subst (λ (z : V). 1 ≤ has key z) (sym t.1) holds)))
      (λ t.
      let away : has key v ≡ 0 = omega (arith, holds, old.once key, sum_two (has key) views at id y v t.0 t.1 here) in
      others key away y holds (old.each key at y t.1 holds))
      (at_set views id at u y there);
}

pub keyed_split : (V : Type 0) (has : ℕ → V → ℕ) (fact : ℕ → V → Type 0) → KeyedSplit has fact
keyed_split V has fact views id v left right here parts one two old = record {
  once = λ key. omega (arith, old.once key, sum_split (has key) views id v left right here (parts key));
  each = λ key at y there holds.
      let at_left : 1 ≤ has key left → fact key left = λ some_left. one key some_left (old.each key id v here (omega (arith, some_left, parts key))) in
      let at_right : 1 ≤ has key right → fact key right = λ some_right. two key some_right (old.each key id v here (omega (arith, some_right, parts key))) in
      ⊎_elim
      (λ t. ⊎_elim (λ x. subst (fact key) x.1 (at_left (subst (λ (z : V). 1 ≤ has key z) (sym x.1) holds))) (λ x. old.each key at y x.1 holds) (at_set views id at left y t))
      (λ is. subst (fact key) is (at_right (subst (λ (z : V). 1 ≤ has key z) (sym is) holds)))
      (at_snoc (set views id left) right y at there);
}

pub keyed_join : (V : Type 0) (has : ℕ → V → ℕ) (fact : ℕ → V → Type 0) → KeyedJoin has fact
keyed_join V has fact views id other v w both spent here also there parts nothing one two old = record {
  once = λ key. omega (arith, old.once key, parts key, nothing key, sum_join (has key) views id other v w both spent here there (omega (arith, parts key, nothing key)));
  each = λ key at y is_y holds.
      let joined : 1 ≤ has key both → fact key both = λ some_both. ⊎_elim (λ mine. one key mine (old.each key id v here mine)) (λ none. two key (omega (arith, some_both, parts key, none)) (old.each key other w also (omega (arith, some_both, parts key, none)))) (cases_lt 0 (has key v)) in
      ⊎_elim
      (λ t. absurd (omega (arith, nothing key, subst (λ (z : V). 1 ≤ has key z) (sym t.1) holds)))
      (λ t. ⊎_elim (λ x. subst (fact key) x.1 (joined (subst (λ (z : V). 1 ≤ has key z) (sym x.1) holds))) (λ x. old.each key at y x.1 holds) (at_set views id at both y t.1))
      (at_set (set views id both) other at spent y is_y);
}

-- of no view that has it the fact could be so: then none has the key
pub each_zero : {V : Type 0} (f : V → ℕ) (views : List V) → ((at : ℕ) (v : V) → get_elem? views at ≡ some v → f v ≡ 0) → weigh f views ≡ 0
each_zero f [] zeros = refl
each_zero f (x ∷ xs) zeros = omega (arith, zeros 0 x refl, each_zero f xs (λ at v there. zeros (suc at) v there))

pub keyed_none : (V : Type 0) (has : ℕ → V → ℕ) (fact : ℕ → V → Type 0) (views : List V) (key : ℕ) → Keyed has fact views → ((v : V) → 1 ≤ has key v → fact key v → ⊥) → weigh (has key) views ≡ 0
keyed_none V has fact views key old never = each_zero (has key) views (λ at v there. ⊎_elim (λ some_has. absurd (never v (omega (arith, some_has)) (old.each key at v there (omega (arith, some_has))))) (λ none. omega (arith, none)) (cases_lt 0 (has key v)))
