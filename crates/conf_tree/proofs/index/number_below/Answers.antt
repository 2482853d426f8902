use Rattle.std.proofs.Common.{rules, ◌+◌, ◌-◌, ◌*◌, ◌≤◌, ℕ, Option, arith, drop, get_or, suc, sym, subst, ◌∙◌}
use Rattle.conf_tree.specs.Places.{IsNumberBelow}
use Rattle.conf_tree.proofs.Indices.{digits_grow, digit_more}
use Rattle.conf_tree.proofs.index.number_below.Goals as goal

pub returns-in_err-checked_mul : goal.returns-in_err-checked_mul
returns-in_err-checked_mul c =
    let ds = c.args.digits.now in
    let j = c.loop-digit.digit-index in
    let n = c.loop-digit.number in
    let d = get_or ds j 0 in
    let low : 48 ≤ d = search rules in
    let high : d ≤ 57 = search rules in
    let step = digit_more n ds j c.loop-digit-test.true low high in
    subst (λ (r : Option ℕ). IsNumberBelow ds c.args.len r) (sym c.from_residual.ensures)
    (λ i e. omega (arith, c.in_err-checked_mul.ensures, digits_grow (10 * n + (d - 48)) (drop (suc j) ds) i (sym step ∙ c.loop-digit.invariant ∙ e)))

pub returns-in_err-number : goal.returns-in_err-number
returns-in_err-number c =
    let ds = c.args.digits.now in
    let j = c.loop-digit.digit-index in
    let n = c.loop-digit.number in
    let d = get_or ds j 0 in
    let low : 48 ≤ d = search rules in
    let high : d ≤ 57 = search rules in
    let step = digit_more n ds j c.loop-digit-test.true low high in
    subst (λ (r : Option ℕ). IsNumberBelow ds c.args.len r) (sym c.from_residual-in_err-number.ensures)
    (λ i e. omega (arith, c.in_err-number.ensures, c.in_ok-checked_mul.ensures, digits_grow (10 * n + (d - 48)) (drop (suc j) ds) i (sym step ∙ c.loop-digit.invariant ∙ e)))
