-- Configurations that may come next.
use Rattle.std.proofs.Common.{◌<◌, ◌≤◌, arith, Option}
use Rattle.conn_machine.specs.Shows.{IsAfter}
use Rattle.conn_machine.specs.States.{Numbered}

-- one of a higher number may
pub after_rises : (met : Option Numbered) (current next : Numbered) → IsAfter met current → current.0 < next.0 → IsAfter met next
after_rises met current next after low m is =
    let at = after m is in let most : m.0 ≤ current.0 = at.0 in (omega (arith, most, low), λ same. absurd (omega (arith, most, low, same)))
