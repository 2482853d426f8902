use Rattle.std.proofs.Common.{◌≡◌, length}
use Rattle.path_normal.specs.PairsLeft.{cookies_left}
use Rattle.path_normal.proofs.pairs.FieldCookiesIterator.next.Given as goal

abbrev pub invariant-loop-self : goal.invariant-loop-self
invariant-loop-self l = cookies_left l.self ≡ cookies_left l.fn.self

abbrev pub decreases-loop-self : goal.decreases-loop-self
decreases-loop-self l = length l.self.fields.now
