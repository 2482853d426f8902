use Rattle.std.proofs.Common.{ℕ, inl, inr, sym, subst, arith}
use Rattle.std.proofs.lemmas.Bool.{cases_eq}
use Rattle.unit_model.specs.Sharing.{Holds}
use Rattle.nncq_ring.specs.Seats.{knows}
use Rattle.nncq_ring.specs.Views.{held_by, holding}
use Rattle.nncq_ring.proofs.Holding.{without_holds, holding_holds, holding_same}
use Rattle.fabric_bench.proofs.rings.pass_half.Goals as goal

pub loop-number-preserved : goal.loop-number-preserved
loop-number-preserved c =
    let v : ℕ = c.loop-number.number in
    let before = knows c.loop-number.seat in
    let other = knows c.loop-number.other in
    let mine : Holds held_by v before = c.loop-number.invariant.rest v (omega arith) c.loop-number-test.true in
    record {
      own = c.pass.ensures.own.0;
      others = c.pass.ensures.own.1;
      kept = subst (Holds held_by 0) (sym c.pass.ensures.left) (without_holds v 0 before mine (λ same. omega (arith, same, c.loop-number.auto)) c.loop-number.invariant.kept);
      rest = λ i low high. subst (Holds held_by i) (sym c.pass.ensures.left) (without_holds v i before mine (λ same. omega (arith, same, low)) (c.loop-number.invariant.rest i (omega (arith, low)) high));
      come = λ i low high. subst (Holds held_by i) (sym c.pass.ensures.come)
          (elim (cases_eq i v) [
            | inl same ↦ subst (λ (j : ℕ). Holds held_by j (holding v other)) (sym same) (holding_same v other)
            | inr different ↦ holding_holds v i other (c.loop-number.invariant.come i low (omega (arith, high, different)))
          ]);
    }
