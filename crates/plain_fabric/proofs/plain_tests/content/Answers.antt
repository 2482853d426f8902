use Rattle.std.proofs.Common.{◌≡◌, ℕ, List, IfOk, subst, sym, take, arith}
use Rattle.std.proofs.lemmas.List.{take_all, length-take}
use Rattle.plain_fabric.proofs.plain_tests.content.Goals as goal

pub returns-then-posted-le-CONTENT : goal.returns-then-posted-le-CONTENT
returns-then-posted-le-CONTENT c =
    subst (λ (t : List ℕ). IfOk c.copy_of.result (λ content. content ≡ t)) (sym (take_all 10000000 c.args.posted.now (omega (arith, c.if-posted-le-CONTENT.true)))) c.copy_of.ensures

pub slice_bounds-copy_of-end : goal.slice_bounds-copy_of-end
slice_bounds-copy_of-end c = omega (arith, length-take 10000000 c.args.posted.now, c.if-posted-le-CONTENT.false)
