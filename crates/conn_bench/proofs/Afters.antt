-- A configuration may come where none was met, and again where it was met itself.
use Rattle.std.proofs.Common.{◌≡◌, ◌∙◌, ◌≤◌, sym, subst, arith, Option, None, Some}
use Rattle.conn_machine.specs.Shows.{IsAfter}
use Rattle.conn_machine.specs.States.{Numbered}

pub after_itself : (current : Numbered) → IsAfter (Some current) current
after_itself current m is =
    let same : current ≡ m = cc is in (subst (λ (x : Numbered). x.0 ≤ current.0) same (omega arith), λ e. sym same)

pub after_none : (met : Option Numbered) (current : Numbered) → met ≡ None → IsAfter met current
after_none met current none m is = absurd (cc (sym none ∙ is))
