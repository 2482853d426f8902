use Rattle.std.proofs.Common.{◌≡◌, length, reverse}
use Rattle.http_front.specs.Message.{skip_digits}
use Rattle.http_front.proofs.host.without_digits.Given as goal

-- the digits at the end are skipped either way
abbrev pub invariant-loop-rest : goal.invariant-loop-rest
invariant-loop-rest l = skip_digits (reverse l.rest) ≡ skip_digits (reverse l.fn.text)

abbrev pub decreases-loop-rest : goal.decreases-loop-rest
decreases-loop-rest l = length l.rest
