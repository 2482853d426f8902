use Rattle.std.proofs.Common.{◌≡◌, ◌∙◌, ◌<◌, ◌*◌, ◌+◌, ◌-◌, length, get_or, true, sym, arith}
use Rattle.std.specs.Char.{is_ascii_digit}
use Rattle.unit_types.proofs.NumeralLemmas.{too_high_at}
use Rattle.unit_types.proofs.numeral.decimal.Goals as goal

pub returns-in_err-checked_mul-clause-value : goal.returns-in_err-checked_mul-clause-value
returns-in_err-checked_mul-clause-value c =
    let loop = c.loop-digit in
    let d = get_or c.args.text.now loop.digit-index 0 in
    let within : loop.digit-index < length c.args.text.now = omega arith in
    let is_digit : is_ascii_digit d ≡ true = sym c.if-not-is_ascii_digit.ensures.value in
    let above : c.args.limit < loop.number * 10 + (d - 48) = omega (arith, c.in_err-checked_mul.ensures) in
    c.from_residual.ensures ∙ sym (loop.invariant.same ∙ too_high_at c.args.limit loop.number c.args.text.now loop.digit-index within is_digit above)

pub returns-in_err-number-clause-value : goal.returns-in_err-number-clause-value
returns-in_err-number-clause-value c =
    let loop = c.loop-digit in
    let d = get_or c.args.text.now loop.digit-index 0 in
    let within : loop.digit-index < length c.args.text.now = omega arith in
    let is_digit : is_ascii_digit d ≡ true = sym c.if-not-is_ascii_digit.ensures.value in
    let above : c.args.limit < loop.number * 10 + (d - 48) = omega (arith, c.in_err-number.ensures, c.in_ok-checked_mul.ensures, c.from.ensures) in
    c.from_residual-in_err-number.ensures ∙ sym (loop.invariant.same ∙ too_high_at c.args.limit loop.number c.args.text.now loop.digit-index within is_digit above)

pub returns-then-number-limit-clause-value : goal.returns-then-number-limit-clause-value
returns-then-number-limit-clause-value c =
    let loop = c.loop-digit in
    let d = get_or c.args.text.now loop.digit-index 0 in
    let within : loop.digit-index < length c.args.text.now = omega arith in
    let is_digit : is_ascii_digit d ≡ true = sym c.if-not-is_ascii_digit.ensures.value in
    let above : c.args.limit < loop.number * 10 + (d - 48) = omega (arith, c.in_ok-number.ensures, c.in_ok-checked_mul.ensures, c.from.ensures) in
    sym (loop.invariant.same ∙ too_high_at c.args.limit loop.number c.args.text.now loop.digit-index within is_digit above)
