use Rattle.std.proofs.Common.{ℕ, ◌≡◌, ◌+◌, ◌-◌, ◌<◌, ◌∙◌, ap, sym, subst, arith, suc}
use Rattle.unit_model.specs.Weights.{is_number}
use Rattle.chunk_map.specs.declared.view.MapEvent.TheVariants.{Released}
use Rattle.chunk_map.specs.Gains.{given_back}
use Rattle.chunk_map.proofs.GainLaws.{still_held}
use Rattle.chunk_map.proofs.search.give_back.Goals as goal

pub loop-left-preserved : goal.loop-left-preserved
loop-left-preserved g c =
    let s = g.T.MapSteps in
    let laws = g.met.T.MapSteps in
    let map = c.args.map.now in
    let v = s.knows c.loop-left.seat in
    let now = c.loop-left.invariant in
    let chunk : ℕ = c.args.first + (c.loop-left.left - 1) in
    let view : s.knows c.free.new.seat ≡ s.after map (Released chunk) v = c.free.ensures.view in
    let one_more : suc (c.loop-left.left - 1) ≡ c.loop-left.left = omega (arith, c.loop-left-test.true) in (
      c.free.ensures.own,
      omega (arith, now.1),
      λ i lt. subst (λ (u : s.View). 0 < s.weighs map (is_number (c.args.first + i)) u) (sym view)
          (still_held s.View (s.after map) (s.weighs map) (laws.frees map) chunk (c.args.first + i) v (λ e. absurd (omega (arith, lt, e))) (now.2 (c.loop-left.left - 1) (omega (arith, c.loop-left-test.true))) (now.2 i (omega (arith, lt)))),
      ap (given_back (s.after map) c.args.first (c.loop-left.left - 1)) view ∙ ap (λ (n : ℕ). given_back (s.after map) c.args.first n v) one_more ∙ now.3,
    )
