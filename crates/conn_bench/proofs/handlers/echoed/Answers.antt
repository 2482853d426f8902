use Rattle.std.proofs.Common.{◌≡◌, ℕ, List, IfOk, subst, sym, take, arith}
use Rattle.std.proofs.lemmas.List.{take_all, length-take}
use Rattle.conn_bench.proofs.handlers.echoed.Goals as goal

pub returns-then-content-le-CONTENT : goal.returns-then-content-le-CONTENT
returns-then-content-le-CONTENT c =
    subst (λ (t : List ℕ). IfOk c.copy_of.result (λ body. body ≡ t)) (sym (take_all 10000000 c.args.content.now (omega (arith, c.if-content-le-CONTENT.true)))) c.copy_of.ensures

pub slice_bounds-copy_of-end : goal.slice_bounds-copy_of-end
slice_bounds-copy_of-end c = omega (arith, length-take 10000000 c.args.content.now, c.if-content-le-CONTENT.false)
