use Rattle.std.proofs.Common.{◌≡◌, drop}
use Rattle.http_front.specs.Framing.{number_from, number_of}
use Rattle.http_front.proofs.number.number_within.Given as goal

-- the digits that are left go on from the number so far
abbrev pub invariant-loop-digit : goal.invariant-loop-digit
invariant-loop-digit l = number_from l.number (drop l.digit-index l.digits) ≡ number_of l.digits
