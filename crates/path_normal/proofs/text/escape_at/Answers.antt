use Rattle.std.proofs.Common.{◌≡◌, ◌≤◌, ◌+◌, ◌*◌, ◌∷◌, length, get_or, drop, ap, ◌∙◌, sym, arith, rules}
use Rattle.std.specs.Char.{digit_value}
use Rattle.path_normal.specs.Pairs.{query_text}
use Rattle.path_normal.proofs.QueryLemmas.{keeps_first, gives_escape}
use Rattle.path_normal.proofs.text.escape_at.Goals as goal

pub returns-in_default-clause-none : goal.returns-in_default-clause-none
returns-in_default-clause-none c = keeps_first _ (λ long percent high low. grind arith)

pub returns-in_default-2-clause-none : goal.returns-in_default-2-clause-none
returns-in_default-2-clause-none c = keeps_first _ (λ long percent high low. grind arith)

pub returns-in_err-high-clause-none : goal.returns-in_err-high-clause-none
returns-in_err-high-clause-none c = rw c.from_residual.ensures (keeps_first _ (λ long percent high low. search rules))

pub returns-in_err-low-clause-none : goal.returns-in_err-low-clause-none
returns-in_err-low-clause-none c = rw c.from_residual-in_err-low.ensures (keeps_first _ (λ long percent high low. search rules))

pub returns-clause-some : goal.returns-clause-some
returns-clause-some c =
    let text = c.args.text.now in
    let value : c.in_ok-high.high * 16 + c.in_ok-low.low ≡ 16 * digit_value (get_or text 1 0) + digit_value (get_or text 2 0) = grind arith in
    let long : 3 ≤ length text = omega arith in
    (long, gives_escape text long (search rules) (search rules) (search rules) ∙ ap (λ n. n ∷ query_text (drop 3 text)) (sym value))
