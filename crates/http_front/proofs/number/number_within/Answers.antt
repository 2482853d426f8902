use Rattle.std.proofs.Common.{◌∙◌, ◌<◌, ◌+◌, ◌-◌, ◌*◌, IfNone, ℕ, Option, drop, get_or, length, subst, sym, arith}
use Rattle.std.proofs.lemmas.List.{at_drop_more}
use Rattle.http_front.specs.Framing.{number_from, number_of}
use Rattle.http_front.proofs.Numbers.{number_grows}
use Rattle.http_front.proofs.number.number_within.Goals as goal

pub returns-in_err-checked_mul-clause-above : goal.returns-in_err-checked_mul-clause-above
returns-in_err-checked_mul-clause-above c =
    let ds = c.args.digits.now in
    let i = c.loop-digit.digit-index in
    let n = c.loop-digit.number in
    let d = get_or ds i 0 in
    let rest = drop (i + 1) ds in
    let within : i < length ds = omega arith in
    let step = at_drop_more (number_from n) ds i 0 within in
    subst (λ (r : Option ℕ). IfNone r (c.args.limit < number_of ds)) (sym c.from_residual.ensures)
    (omega (arith, c.in_err-checked_mul.ensures, number_grows (10 * n + (d - 48)) rest, sym step ∙ c.loop-digit.invariant))

pub returns-in_err-number-clause-above : goal.returns-in_err-number-clause-above
returns-in_err-number-clause-above c =
    let ds = c.args.digits.now in
    let i = c.loop-digit.digit-index in
    let n = c.loop-digit.number in
    let d = get_or ds i 0 in
    let rest = drop (i + 1) ds in
    let within : i < length ds = omega arith in
    let step = at_drop_more (number_from n) ds i 0 within in
    subst (λ (r : Option ℕ). IfNone r (c.args.limit < number_of ds)) (sym c.from_residual-in_err-number.ensures)
    (omega (arith, c.in_err-number.ensures, c.in_ok-checked_mul.ensures, c.saturating_sub.ensures, c.from.ensures, number_grows (10 * n + (d - 48)) rest, sym step ∙ c.loop-digit.invariant))
