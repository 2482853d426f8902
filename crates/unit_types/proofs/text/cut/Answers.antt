use Rattle.std.proofs.Common.{rules, tests, ◌≡◌, ◌+◌, position, nat_eq, refl}
use Rattle.std.proofs.lemmas.Iterator.{YieldsList-from_slice}
use Rattle.std.proofs.lemmas.Iterator.Search.{position_from_yields_List}
use Rattle.std.proofs.lemmas.List.{take_rest}
use Rattle.unit_types.proofs.text.cut.Goals as goal

pub returns-in_err-at : goal.returns-in_err-at
returns-in_err-at c =
    let found : c.position.result ≡ position (λ b. nat_eq b c.args.separator) c.args.text.now = position_from_yields_List _ _ _ _ c.position.ensures.ran (YieldsList-from_slice c.args.text.now c.iter.ensures.rest) (λ x b q k. search (rules, tests)) in
    rw (c.from_residual.ensures, ← found, c.in_err-at.was) refl

pub returns : goal.returns
returns c =
    let found : c.position.result ≡ position (λ b. nat_eq b c.args.separator) c.args.text.now = position_from_yields_List _ _ _ _ c.position.ensures.ran (YieldsList-from_slice c.args.text.now c.iter.ensures.rest) (λ x b q k. search (rules, tests)) in
    rw (take_rest c.args.text.now (c.in_ok-at.at + 1), ← found, c.in_ok-at.was) refl
