use Rattle.std.proofs.Common.{ℕ, inl, inr, sym, subst, arith}
use Rattle.std.proofs.lemmas.Bool.{cases_eq}
use Rattle.unit_model.specs.Sharing.{Holds}
use Rattle.nncq_ring.specs.Seats.{knows}
use Rattle.nncq_ring.specs.Views.{held_by}
use Rattle.nncq_ring.proofs.Holding.{without_holds, holding_holds, holding_same}
use Rattle.nncq_ring.proofs.tests.pass_all.Goals as goal

pub loop-v-init : goal.loop-v-init
loop-v-init c = record {
  own = c.requires.own.0;
  others = c.requires.own.1;
  kept = λ i lt. c.requires.held i (omega (arith, lt, c.requires.order));
  rest = λ i low high. c.requires.held i high;
  come = λ i low high. absurd (omega (arith, low, high));
}

pub loop-v-preserved : goal.loop-v-preserved
loop-v-preserved c =
    let v : ℕ = c.loop-v.v in
    let before = knows c.loop-v.seat in
    let other = knows c.loop-v.other in
    let mine : Holds held_by v before = c.loop-v.invariant.rest v (omega arith) c.loop-v-test.true in
    record {
      own = c.pass.ensures.own.0;
      others = c.pass.ensures.own.1;
      kept = λ i lt. subst (Holds held_by i) (sym c.pass.ensures.left) (without_holds v i before mine (λ same. omega (arith, same, lt, c.loop-v.auto)) (c.loop-v.invariant.kept i lt));
      rest = λ i low high. subst (Holds held_by i) (sym c.pass.ensures.left) (without_holds v i before mine (λ same. omega (arith, same, low)) (c.loop-v.invariant.rest i (omega (arith, low)) high));
      come = λ i low high. subst (Holds held_by i) (sym c.pass.ensures.come)
          (elim (cases_eq i v) [
            | inl same ↦ subst (λ (j : ℕ). Holds held_by j (Rattle.nncq_ring.specs.Views.holding v other)) (sym same) (holding_same v other)
            | inr different ↦ holding_holds v i other (c.loop-v.invariant.come i low (omega (arith, high, different)))
          ]);
    }
